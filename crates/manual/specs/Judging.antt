-- The vet's answer in a verdict.
use Rattle.std.specs.Prelude.{ℕ, Option, Ok, Err, Result}
use Rattle.equivalence.specs.declared.faults.Fault.{Fault}
use Rattle.manual.specs.declared.words.Verdict.{Verdict}

abbrev pub answer_of : Result Verdict Fault → Result (Option (ℕ × ℕ × ℕ)) Fault
answer_of (Ok v) = Ok v.0
answer_of (Err f) = Err f
