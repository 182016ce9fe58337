-- The number, the origin and the words of each refusal of a session.
use Rattle.std.specs.Prelude.{ℕ, List, codes}
use Rattle.session.specs.declared.faults.Fault.{Fault}
use Rattle.session.specs.declared.faults.Fault.TheVariants.{Node, Role}

abbrev pub number : Fault → ℕ
number Node = 3
number Role = 11

abbrev pub origin : Fault → List ℕ
origin f = codes "session"

abbrev pub said : Fault → List ℕ
said Node = codes "no such node"
said Role = codes "no such role"
