-- What a making asks, and what it gives.
--
--   making_check    accepted, or the first no of: nodes (1), memory (2)
--   made            one thing where the check accepts, and another where it refuses
--   CheckRefuses    what each refusal of a check says
--   CheckAnswers    what the answer of a check says
use Rattle.std.specs.Prelude.{Bool, cond, MatchResult, Ok, Err, Result}
use Rattle.network.specs.declared.faults.Fault.{Fault}
use Rattle.network.specs.declared.faults.Fault.TheVariants.{Size, Memory, Node, Pair, Full}

abbrev pub making_check : Bool → Bool → Result (Unit {0}) Fault
making_check sized fits = cond sized (cond fits (Ok tt) (Err Fault.Memory)) (Err Fault.Size)

abbrev pub made : {A : Type 0} → Result (Unit {0}) Fault → A → A → A
made {A} check accepted refused = elim check as (λ _. A) [ Ok _ ↦ accepted | Err _ ↦ refused ]

-- the nodes are not so many; they are, and the memory does not fit
abbrev pub CheckRefuses : Type 0 → Type 0 → Fault → Type 0
CheckRefuses Sized Fits Size = Sized → ⊥
CheckRefuses Sized Fits Memory = Sized × (Fits → ⊥)
CheckRefuses Sized Fits Node = ⊥
CheckRefuses Sized Fits Pair = ⊥
CheckRefuses Sized Fits Full = ⊥

abbrev pub CheckAnswers : Type 0 → Type 0 → Result (Unit {0}) Fault → Type 0
CheckAnswers Sized Fits answer = MatchResult answer (λ _. Sized × Fits) (CheckRefuses Sized Fits)
