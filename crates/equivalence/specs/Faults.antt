-- The number, the origin and the words of each refusal of the vet.
use Rattle.std.specs.Prelude.{ℕ, List, codes}
use Rattle.equivalence.specs.declared.faults.Fault.{Fault}
use Rattle.equivalence.specs.declared.faults.Fault.TheVariants.{Length}

abbrev pub number : Fault → ℕ
number Length = 10

abbrev pub origin : Fault → List ℕ
origin f = codes "vet"

abbrev pub said : Fault → List ℕ
said Length = codes "not one byte for each node"
