-- A region and a device are each their two words, which each implementation of an entry shows.
use Rattle.std.specs.Prelude.{refl}
use Rattle.map.specs.Entries.{region, device}
use Rattle.map.specs.declared.Region.{Region}
use Rattle.map.specs.declared.Device.{Device}
use Rattle.block.specs.Entries.{Pairs}

pub region_pairs : Pairs (λ (r : Region). r.start) (λ (r : Region). r.len) region
region_pairs = record { back = λ r. refl; first_of = λ a b. refl; second_of = λ a b. refl }

pub device_pairs : Pairs (λ (d : Device). d.start) (λ (d : Device). d.end) device
device_pairs = record { back = λ d. refl; first_of = λ a b. refl; second_of = λ a b. refl }
