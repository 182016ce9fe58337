-- Rows of truth, read off the bytes of an area.
--
--   marked    line k is true at column p
--   Written   the bytes have a row for each line that the claim names
use Rattle.std.specs.Prelude.{ℕ, ◌+◌, ◌*◌, ◌≤◌, Bool, ◌==◌, List, slice_index}
use Rattle.question.specs.declared.line.Claim.{Claim}
use Rattle.question.specs.declared.line.Claim.TheVariants.{Colour, Not, And, Tied}

abbrev pub marked : ℕ → List ℕ → ℕ → ℕ → Bool
marked width bytes k p = slice_index bytes (k * width + p) == 1

abbrev pub Written : ℕ → ℕ → Claim → Type 0
Written width size (Colour c) = Unit
Written width size (Not k) = k * width + width ≤ size
Written width size (And k l) = (k * width + width ≤ size) × (l * width + width ≤ size)
Written width size (Tied k t) = k * width + width ≤ size
