pub mod CodeLaws
pub mod EncodedLaws
pub mod DecodedLaws
pub mod OpcodeLaws
pub mod RoundTrip
pub mod EditionLaws
pub mod MaskLaws
