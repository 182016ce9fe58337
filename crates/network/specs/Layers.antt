-- Networks made of a network below.
--
--   transposed       every tie goes the other way
--   without_loops    no node may be tied to itself
use Rattle.std.specs.Prelude.{not, ◌&&◌, ◌==◌}
use Rattle.network.specs.Meaning.{Meaning}

-- what stands from i to j stood from j to i
abbrev pub transposed : Meaning → Meaning
transposed m = record m { tie = λ i j. m.tie j i; allowed = λ i j. m.allowed j i }

-- ties that are there stay, from a node to itself too
abbrev pub without_loops : Meaning → Meaning
without_loops m = record m { allowed = λ i j. m.allowed i j && not (i == j) }
