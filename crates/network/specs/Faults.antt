-- The number, the origin and the words of each refusal of a network.
--
--   number    1 to 5
--   origin    the part of the engine that refuses
--   said      the words
use Rattle.std.specs.Prelude.{ℕ, List, codes}
use Rattle.network.specs.declared.faults.Fault.{Fault}
use Rattle.network.specs.declared.faults.Fault.TheVariants.{Size, Memory, Node, Pair, Full}

abbrev pub number : Fault → ℕ
number Size = 1
number Memory = 2
number Node = 3
number Pair = 4
number Full = 5

abbrev pub origin : Fault → List ℕ
origin f = codes "network"

abbrev pub said : Fault → List ℕ
said Size = codes "not 1 to 128 nodes, or a side without nodes"
said Memory = codes "too little memory, or more than 1,024 slots"
said Node = codes "no such node"
said Pair = codes "a pair that is not allowed"
said Full = codes "as many tied pairs as the cap allows"
