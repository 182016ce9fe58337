-- What a line of a question says.
--
--   claim      what the line claims of a node; none where its code is unknown
--   earlier    every line that the claim names is before line `at`
--   line_at    a line of the question
--   Passes     line `at` is of a known code, and names only lines before it
use Rattle.std.specs.Prelude.{◌≡◌, ℕ, Bool, true, cond, ◌&&◌, ◌==◌, nat_lt, List, slice_index_or, Option, Some, None}
use Rattle.question.specs.declared.line.Line.{Line}
use Rattle.question.specs.declared.line.Claim.{Claim}
use Rattle.question.specs.declared.line.Claim.TheVariants.{Colour, Not, And, Tied}

abbrev pub claim : Line → Option Claim
claim line =
    cond (line.code == 0) (Some (Colour line.byte))
    (cond (line.code == 1) (Some (Not line.k))
    (cond (line.code == 2) (Some (And line.k line.l))
    (cond (line.code == 3) (Some (Tied line.k line.byte)) None)))

abbrev pub earlier : ℕ → Claim → Bool
earlier at (Colour c) = true
earlier at (Not k) = nat_lt k at
earlier at (And k l) = nat_lt k at && nat_lt l at
earlier at (Tied k t) = nat_lt k at

abbrev pub line_at : List Line → ℕ → Line
line_at lines k = slice_index_or lines k (record { code = 0; k = 0; l = 0; byte = 0 })

abbrev pub Passes : ℕ → Line → Type 0
Passes at line = (c : Claim) × (claim line ≡ Some c) × (earlier at c ≡ true)
