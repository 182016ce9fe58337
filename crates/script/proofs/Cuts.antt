-- The first line of a script, and what stands behind it.
use Rattle.std.proofs.Common.{rules, ◌≡◌, ℕ, Bool, true, false, refl, ◌==◌, [], ◌∷◌, ◌+◌, ◌<◌, ◌≤◌, List, length, length-drop, ap, inl, inr, arith}
use Rattle.std.specs.List.{after_first, before_first, position_or_len}
use Rattle.std.proofs.lemmas.Bool.{cases_lt}
use Rattle.std.proofs.lemmas.List.{length-take-le, take_all}
use Rattle.script.specs.Transcripts.{newline}

pub after_shorter : (bytes : List ℕ) → 0 < length bytes → length (after_first newline bytes) < length bytes
after_shorter bytes some = omega (arith, length-drop (position_or_len newline bytes + 1) bytes)

pub line_within : (bytes : List ℕ) → length (before_first newline bytes) ≤ length bytes
line_within bytes =
    let end = position_or_len newline bytes in
    elim (cases_lt end (length bytes)) [
      | inl within ↦ omega (arith, length-take-le end bytes (omega arith))
      | inr past ↦ omega (arith, ap length (take_all end bytes past))
    ]

-- where bytes stand behind it, a line feed is between
pub cut_length : (bytes : List ℕ) → 0 < length (after_first newline bytes) → length (before_first newline bytes) + 1 + length (after_first newline bytes) ≡ length bytes
cut_length bytes more =
    let end = position_or_len newline bytes in
    let left = length-drop (end + 1) bytes in
    omega (arith, left, more, length-take-le end bytes (omega (arith, left, more)))

-- bytes that are not empty
pub some_left : (bytes : List ℕ) (none : Bool) → none ≡ (length bytes == 0) → none ≡ false → 0 < length bytes
some_left [] none is off = absurd (search rules)
some_left (b ∷ bytes) none is off = omega arith

pub none_left : (bytes : List ℕ) (none : Bool) → none ≡ (length bytes == 0) → none ≡ true → bytes ≡ []
none_left [] none is at_end = refl
none_left (b ∷ bytes) none is at_end = absurd (search rules)
