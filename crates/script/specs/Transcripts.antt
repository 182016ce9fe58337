-- What a script prints, and which of its records are refused.
--
--   newline              a byte is a line feed
--   without_empty_last   parts, but for an empty last one
--   records              the lines of a script; the last one may lack its line feed
--   Played               a script as far as it is played
--   blank                before its first record
--   after_outcome        after a record with this outcome
--   play                 after a record more
--   fault_at             a refusal of the next record
--   limit                how many bytes a script may have
--   too_long             the refusal of a script of more
--   played               after the last record
--   transcript           what a script prints
--   refusals             its refusals, in order
use Rattle.std.specs.Prelude.{ℕ, ◌+◌, Bool, cond, ◌==◌, nat_le, List, [], ◌∷◌, ◌++◌, length, fold, Ok, Err}
use Rattle.std.specs.List.{slice_split}
use Rattle.script.specs.Faults.{number}
use Rattle.script.specs.Stages.{Outcome, Phase, outcome}
use Rattle.script.specs.Words.{refusal_line}
use Rattle.script.specs.declared.faults.Fault.{Fault}
use Rattle.script.specs.declared.faults.Reason.{Reason}

abbrev pub newline : ℕ → Bool
newline b = b == 10

abbrev pub without_empty_last : List (List ℕ) → List (List ℕ)
without_empty_last [] = []
without_empty_last (last ∷ []) = cond (length last == 0) [] (last ∷ [])
without_empty_last (part ∷ next ∷ more) = part ∷ without_empty_last (next ∷ more)

abbrev pub records : List ℕ → List (List ℕ)
records script = without_empty_last (slice_split newline script)

pub record Played : Type 0 where
  pub phase : Phase
  -- how many records there were, and where the next one begins
  pub count : ℕ
  pub offset : ℕ
  pub printed : List ℕ
  pub faults : List Fault

abbrev pub blank : Played
blank = record { phase = Phase.Network; count = 0; offset = 0; printed = []; faults = [] }

-- the record number and the offset that a refusal tells
abbrev pub fault_at : Played → Reason → Fault
fault_at p why = record { reason = why; «record» = p.count + 1; offset = p.offset }

-- refused, the phase is as it was, and one line is printed
abbrev pub after_outcome : Played → List ℕ → Outcome → Played
after_outcome p line outcome =
    elim outcome [
      | Ok next ↦
          record {
            phase = next.0;
            count = p.count + 1;
            offset = p.offset + (length line + 1);
            printed = p.printed ++ next.1;
            faults = p.faults;
          }
      | Err why ↦
          record {
            phase = p.phase;
            count = p.count + 1;
            offset = p.offset + (length line + 1);
            printed = p.printed ++ refusal_line (p.count + 1) (number why);
            faults = p.faults ++ fault_at p why ∷ [];
          }
    ]

abbrev pub play : Played → List ℕ → Played
play p line = after_outcome p line (outcome p.phase line)

abbrev pub limit : ℕ
limit = 32768

abbrev pub too_long : Fault
too_long = record { reason = Reason.Length; «record» = 0; offset = 0 }

abbrev pub played : List ℕ → Played
played script = fold play blank (records script)

abbrev pub transcript : List ℕ → List ℕ
transcript script = cond (nat_le (length script) limit) (played script).printed (refusal_line too_long.«record» (number too_long.reason))

abbrev pub refusals : List ℕ → List Fault
refusals script = cond (nat_le (length script) limit) (played script).faults (too_long ∷ [])
