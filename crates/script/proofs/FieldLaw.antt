-- A field is read exactly where it is written so.
--
--   Plain     digits, at least one, and no leading zero
--   Closed    the end, or a space
use Rattle.std.proofs.Common.{◌≡◌, ◌⊎◌, ℕ, ◌+◌, ◌<◌, Bool, true, false, cond, ◌&&◌, eqb, ltb, List, [], ◌∷◌, ◌++◌, length, get_or, take, drop, Option, Some, None, sym, refl, ap, ap₂, ◌∙◌, inl, inr, arith, rules}
use Rattle.std.specs.Str.{all_ascii_digits}
use Rattle.std.specs.Str.Parse.{digits_value}
use Rattle.std.specs.Fmt.{decimal}
use Rattle.std.proofs.Math.Seq.{take-append_seam, drop-append_seam}
use Rattle.std.proofs.lemmas.List.{length-append, get_or-append-add, get_or_append_left, get_or-drop, drop_all, take-append-drop}
use Rattle.std.proofs.lemmas.List.Sums.{position_or_len_is, passes_at_first}
use Rattle.std.proofs.lemmas.Str.Parse.{not_in_digits}
use Rattle.std.proofs.lemmas.Bool.{cases_eq, cases_lt}
use Rattle.std.proofs.lemmas.Bool.Decides.{nat_tests}
use Rattle.std.proofs.lemmas.Fmt.{decimal-digits_value, digits_value-decimal, digits_decimal, decimal_nonempty, decimal_digit, first_decimal}
use Rattle.script.specs.Fields.{plain, number, field, field_end, after_field}
use Rattle.script.specs.FieldLaw.{Reads, FieldLaw}
use Rattle.script.proofs.Numbers.{own}

-- a test before an option is passed where the whole gives a number
passed : (b : Bool) (told : Option ℕ) (n : ℕ) → ◌≡◌ {A = Option ℕ} (cond b told None) (Some n) → (b ≡ true) × (told ≡ Some n)
passed true told n e = (refl, e)
passed false told n e = absurd (cc)

record Plain (digits : List ℕ) : Type 0 where
  pub digit : all_ascii_digits digits ≡ true
  pub some : 0 < length digits
  pub lead : get_or digits 0 0 ≡ 48 → length digits ≡ 1

plain_says : (digits : List ℕ) → plain digits ≡ true → Plain digits
plain_says digits e = record { digit = grind (arith, nat_tests); some = grind (arith, nat_tests); lead = λ h. grind (arith, nat_tests) }

plain_said : (digits : List ℕ) → Plain digits → plain digits ≡ true
plain_said digits p =
    elim (cases_eq (get_or digits 0 0) 48) [
      | inl zero_first ↦ let one : length digits ≡ 1 = p.lead zero_first in grind (arith, nat_tests, p.digit, p.some)
      | inr other ↦ grind (arith, nat_tests, p.digit, p.some)
    ]

-- a number is one exactly where its digits are its decimal
number_reads : (digits : List ℕ) (n : ℕ) → number digits ≡ Some n → (n < 65536) × (digits ≡ decimal n)
number_reads digits n e =
    let (good, says) = passed (plain digits && ltb (digits_value 10 digits) 65536) (Some (digits_value 10 digits)) n e in
    let value : digits_value 10 digits ≡ n = cc in
    let digits_plain : plain digits ≡ true = grind (arith, nat_tests) in
    let p = plain_says digits digits_plain in
    let small : digits_value 10 digits < 65536 = grind (arith, nat_tests) in
    let same : decimal (digits_value 10 digits) ≡ digits = decimal-digits_value own digits p.digit p.some p.lead (omega arith) in
    (omega arith, sym same ∙ ap decimal value)

decimal_plain : (n : ℕ) → n < 65536 → Plain (decimal n)
decimal_plain n l =
    record {
      digit = digits_decimal own n (omega arith);
      some = decimal_nonempty n (omega arith);
      lead = λ zero_first. elim (cases_eq n 0) [
        | inl none ↦ rw none (ap length (decimal_digit 0 (omega arith)))
        | inr some ↦ absurd (omega (arith, first_decimal n (omega arith) (omega arith)))
      ];
    }

number_decimal : (n : ℕ) → n < 65536 → number (decimal n) ≡ Some n
number_decimal n l =
    let good = plain_said (decimal n) (decimal_plain n l) in
    let value = digits_value-decimal own n (omega arith) in
    let small : ltb n 65536 ≡ true = grind (arith, nat_tests) in
    rw (good, value, small)

abbrev space : ℕ → Bool
space b = eqb b 32

digits_no_space : (n k : ℕ) → n < 65536 → k < length (decimal n) → space (get_or (decimal n) k 0) ≡ false
digits_no_space n k l h =
    let other = not_in_digits own (decimal n) 32 (digits_decimal own n (omega arith)) (λ range. omega arith) k h in
    grind (arith, nat_tests)

abbrev Closed : List ℕ → Type 0
Closed rest = (rest ≡ []) ⊎ (get_or rest 0 0 ≡ 32)

closed_first : (rest : List ℕ) → Closed rest → 0 < length rest → space (get_or rest 0 0) ≡ true
closed_first rest (inl none) l = absurd (omega (arith, ap length none))
closed_first rest (inr at) l = grind (arith, nat_tests)

-- the digits of a field end where it is closed
field_end_decimal : (n : ℕ) (rest : List ℕ) → n < 65536 → Closed rest → field_end (decimal n ++ rest) ≡ length (decimal n)
field_end_decimal n rest l closed =
    position_or_len_is space (decimal n ++ rest) (length (decimal n)) 0
    (omega (arith, length-append (decimal n) rest))
    (λ k h. rw (get_or_append_left (decimal n) rest 0 k h) (digits_no_space n k l h))
    (λ h. rw (first_behind (decimal n) rest) (closed_first rest closed (omega (arith, h, length-append (decimal n) rest))))
  where
    first_behind : (xs ys : List ℕ) → get_or (xs ++ ys) (length xs) 0 ≡ get_or ys 0 0
    first_behind xs ys = let here : length xs + 0 ≡ length xs = omega arith in rw here at (get_or-append-add xs ys 0 0)

field_end_closed : (bytes : List ℕ) → Closed (drop (field_end bytes) bytes)
field_end_closed bytes =
    elim (cases_lt (field_end bytes) (length bytes)) [
      | inl within ↦ inr (rw (get_or-drop (field_end bytes) bytes 0 0) (stops (field_end bytes) (passes_at_first space bytes 0 within)))
      | inr past ↦ inl (drop_all (field_end bytes) bytes past)
    ]
  where
    stops : (k : ℕ) → space (get_or bytes k 0) ≡ true → get_or bytes (k + 0) 0 ≡ 32
    stops k at = let here : k + 0 ≡ k = omega arith in rw here (grind (arith, nat_tests))

field_behind : (b : ℕ) (bytes : List ℕ) → field (b ∷ bytes) ≡ cond (space b) (number (take (field_end bytes) bytes)) None
field_behind b bytes = let some : ltb 0 (length (b ∷ bytes)) ≡ true = grind (arith, nat_tests) in rw some

field_said : (bytes : List ℕ) (n : ℕ) (rest : List ℕ) → (field bytes ≡ Some n) × (after_field bytes ≡ rest) → Reads bytes n rest
field_said [] n rest (says, leaves) = absurd (search rules)
field_said (b ∷ bytes) n rest (says, leaves) =
    let (spaced, numbered) = passed (space b) (number (take (field_end bytes) bytes)) n (sym (field_behind b bytes) ∙ says) in
    let (small, digits) = number_reads (take (field_end bytes) bytes) n numbered in
    let first : b ≡ 32 = grind (arith, nat_tests) in
    record {
      small = small;
      written = ap₂ (λ b bytes. b ∷ bytes) first (sym (take-append-drop (field_end bytes) bytes) ∙ ap₂ (λ a b. a ++ b) digits leaves);
      closed = rw leaves at (field_end_closed bytes);
    }

field_reads : (bytes : List ℕ) (n : ℕ) (rest : List ℕ) → Reads bytes n rest → (field bytes ≡ Some n) × (after_field bytes ≡ rest)
field_reads bytes n rest reads =
    let ends = field_end_decimal n rest reads.small reads.closed in
    rw (reads.written, field_behind 32 (decimal n ++ rest), ends, take-append_seam (decimal n) rest, drop-append_seam (decimal n) rest)
    (number_decimal n reads.small, refl)

pub field_law : FieldLaw
field_law = record { reads_so = λ bytes n rest. (field_said bytes n rest, field_reads bytes n rest) }
