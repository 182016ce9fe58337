-- The classes that tables start from.
--
--   starts_with         x and y start together: they have one colour
--   starting_classes    each node by the lowest that starts with it
use Rattle.std.specs.Prelude.{ℕ, Bool, ◌==◌}
use Rattle.network.specs.Meaning.{Meaning}
use Rattle.equivalence.specs.Regular.{Table}
use Rattle.equivalence.specs.Heads.{lowest}

abbrev pub starts_with : Meaning → Table → ℕ → ℕ → Bool
starts_with m colours x y = colours x == colours y

abbrev pub starting_classes : Meaning → Table → Table
starting_classes m colours x = lowest (starts_with m colours x) x
