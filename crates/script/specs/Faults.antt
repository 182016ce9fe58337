-- The number, the origin and the words of each refusal of a script.
--
--   number        12 to 15, or the number of the fault below
--   origin        the script, or the origin of the fault below
--   said          the words of a reason
--   fault_said    the words of a fault: which record, where it begins, and why
use Rattle.std.specs.Prelude.{ℕ, List, ◌++◌, codes, decimal}
use Rattle.network.specs.Faults as network
use Rattle.session.specs.Faults as session
use Rattle.question.specs.Faults as question
use Rattle.script.specs.declared.faults.Fault.{Fault}
use Rattle.script.specs.declared.faults.Reason.{Reason}
use Rattle.script.specs.declared.faults.Reason.TheVariants.{Mark, Fields, Stage, Length, Network, Session, Question}

abbrev pub number : Reason → ℕ
number Mark = 12
number Fields = 13
number Stage = 14
number Length = 15
number (Network f) = network.number f
number (Session f) = session.number f
number (Question f) = question.number f

abbrev pub origin : Reason → List ℕ
origin Mark = codes "script"
origin Fields = codes "script"
origin Stage = codes "script"
origin Length = codes "script"
origin (Network f) = network.origin f
origin (Session f) = session.origin f
origin (Question f) = question.origin f

abbrev pub said : Reason → List ℕ
said Mark = codes "an unknown mark"
said Fields = codes "fields that are wrong in number or form"
said Stage = codes "a record that does not fit the stage"
said Length = codes "a script of more than 32768 bytes"
said (Network f) = network.said f
said (Session f) = session.said f
said (Question f) = question.said f

abbrev pub fault_said : Fault → List ℕ
fault_said f = codes "record " ++ (decimal f.record ++ (codes ", at byte " ++ (decimal f.offset ++ (codes ": " ++ said f.reason))))
