-- When a question can be answered.
--
--   line_check     of line `at`: its code is known (7), and it names only earlier lines (8)
--   lines_check    line by line, from line `at` on; the first refusal
--   answer_start   where the last row starts, or the first no of: 1 to 32 lines (6), each line (7, 8), the area (9)
--   OneTo32        there are 1 to 32 lines
--   EachPasses     every line passes
--   Reached        there are 1 to 32 lines, and those before line k pass
--   Askable        1 to 32 lines, all of which pass, and an area with a byte for each line and column
--   Refuses        what each refusal says
--   ChecksLaw      so it is with every question: an answer where it is askable, and else what the refusal says
use Rattle.std.specs.Prelude.{◌≡◌, ◌<◌, ◌≤◌, ◌⊎◌, false, MatchResult, ℕ, ◌+◌, ◌-◌, ◌*◌, cond, ◌||◌, ◌==◌, nat_lt, List, [], ◌∷◌, length, Some, None, Result, Ok, Err}
use Rattle.question.specs.Lines.{claim, earlier, line_at, Passes}
use Rattle.question.specs.declared.line.Line.{Line}
use Rattle.question.specs.declared.line.Claim.{Claim}
use Rattle.question.specs.declared.faults.Fault.{Fault}
use Rattle.question.specs.declared.faults.Fault.TheVariants.{Lines, Code, Later, Area}

abbrev pub line_check : ℕ → Line → Result (Unit {0}) Fault
line_check at line = elim (claim line) [ Some c ↦ cond (earlier at c) (Ok tt) (Err (Fault.Later at)) | None ↦ Err (Fault.Code at) ]

abbrev pub lines_check : ℕ → List Line → Result (Unit {0}) Fault
lines_check at [] = Ok tt
lines_check at (line ∷ lines) = elim (line_check at line) [ Ok _ ↦ lines_check (at + 1) lines | Err f ↦ Err f ]

-- of rows of this width, in an area of so many bytes
abbrev pub answer_start : List Line → ℕ → ℕ → Result ℕ Fault
answer_start lines width size =
    cond (length lines == 0 || nat_lt 32 (length lines))
    (Err Fault.Lines)
    (elim (lines_check 0 lines) [
      | Ok _ ↦ cond (nat_lt size (length lines * width)) (Err Fault.Area) (Ok (length lines * width - width))
      | Err f ↦ Err f
    ])

pub record OneTo32 (lines : List Line) : Type 0 where
  pub some : 0 < length lines
  pub few : length lines ≤ 32

abbrev pub EachPasses : List Line → Type 0
EachPasses lines = (k : ℕ) → k < length lines → Passes k (line_at lines k)

pub record Reached (lines : List Line) (k : ℕ) : Type 0 where
  pub counted : OneTo32 lines
  pub line : k < length lines
  pub before : (j : ℕ) → j < k → Passes j (line_at lines j)

pub record Askable (lines : List Line) (width size : ℕ) : Type 0 where
  pub counted : OneTo32 lines
  pub each : EachPasses lines
  pub room : length lines * width ≤ size

abbrev pub Refuses : List Line → ℕ → ℕ → Fault → Type 0
Refuses lines width size Lines = (length lines ≡ 0) ⊎ (32 < length lines)
Refuses lines width size (Code k) = Reached lines k × (claim (line_at lines k) ≡ None)
Refuses lines width size (Later k) = Reached lines k × ((c : Claim) × (claim (line_at lines k) ≡ Some c) × (earlier k c ≡ false))
Refuses lines width size Area = OneTo32 lines × EachPasses lines × (size < length lines * width)

abbrev pub ChecksLaw : Type 0
ChecksLaw = (lines : List Line) (width size : ℕ) → MatchResult (answer_start lines width size) (λ start. Askable lines width size × (start + width ≡ length lines * width)) (Refuses lines width size)
