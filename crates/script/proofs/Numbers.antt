-- Digits, and the number that they write.
use Rattle.std.proofs.Common.{◌≡◌, ℕ, true, List, length, inl, inr, arith}
use Rattle.std.proofs.lemmas.Bool.{cases_lt}
use Rattle.std.proofs.lemmas.List.{get_or_past}
use Rattle.std.specs.Str.{all_ascii_digits, IsUtf8}
use Rattle.std.specs.Str.Parse.{digits_value}
use Rattle.std.proofs.lemmas.Str.{IsUtf8-from_ascii}
use Rattle.std.proofs.lemmas.Str.Parse.{IsNumeralModel, digit_at, numerals_by_value, tells_all_ascii_digits}

pub own : IsNumeralModel (λ ds. all_ascii_digits ds ≡ true) (digits_value 10)
own = numerals_by_value _ tells_all_ascii_digits

pub digits_utf8 : (ds : List ℕ) → all_ascii_digits ds ≡ true → IsUtf8 ds
digits_utf8 ds p =
    IsUtf8-from_ascii ds
    (λ i. elim (cases_lt i (length ds)) [
      | inl l ↦ omega (arith, (digit_at ds i (own.to ds p) l).1)
      | inr past ↦ omega (arith, get_or_past ds i 0 past)
    ])
