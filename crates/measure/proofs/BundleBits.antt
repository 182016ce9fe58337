-- The number of a bundle, and the kinds in it.
use Rattle.std.proofs.Common.{◌≡◌, ℕ, ◌+◌, ◌*◌, ◌%◌, ◌<◌, true, ◌&&◌, eqb, ltb, ◌⊎◌, sym, ap, ◌∙◌, ap₂, inl, inr, arith}
use Rattle.std.proofs.lemmas.Bool.{cases_lt, both_ways}
use Rattle.std.proofs.lemmas.Bool.Decides.{nat_tests}
use Rattle.measure.specs.Bits.{bit}
use Rattle.measure.specs.Bundles.{bundle, singleton}
use Rattle.measure.specs.BitsLemmas.{same_bits}
use Rattle.measure.proofs.Bits.{bit_low, bit_zero, bit_power, some_bit}

-- the set of one number has that number alone, and 0 is never in it
pub bit-singleton : (n k : ℕ) → bit (singleton n) k ≡ (ltb 0 k && eqb n k)
bit-singleton n k = grind (arith, nat_tests, bit_zero k, bit_power n k)

low_bits : (n p k : ℕ) → k < 3 → n % 8 ≡ p % 8 → bit n k ≡ bit p k
low_bits n p k kind e = sym (bit_low 3 k n kind) ∙ ap (λ v. bit v k) e ∙ bit_low 3 k p kind

-- bundles of one number have the same kinds
pub bundle_out : (o i p q k : ℕ) → k < 3 → bundle o i ≡ bundle p q → bit o k ≡ bit p k
bundle_out o i p q k kind e = low_bits o p k kind (omega arith)

pub bundle_in : (o i p q k : ℕ) → k < 3 → bundle o i ≡ bundle p q → bit i k ≡ bit q k
bundle_in o i p q k kind e = low_bits i q k kind (omega arith)

same_low : (n p : ℕ) → ((k : ℕ) → k < 3 → bit n k ≡ bit p k) → n % 8 ≡ p % 8
same_low n p e =
    same_bits 3 (n % 8) (p % 8) (omega arith) (omega arith) (λ k kind. bit_low 3 k n kind ∙ e k kind ∙ sym (bit_low 3 k p kind))

-- bundles of the same kinds have one number
pub bundle_same : (o i p q : ℕ) → ((k : ℕ) → k < 3 → bit o k ≡ bit p k) → ((k : ℕ) → k < 3 → bit i k ≡ bit q k) → bundle o i ≡ bundle p q
bundle_same o i p q out into = ap₂ (λ a b. a + 8 * b) (same_low o p out) (same_low i q into)

some_low : (n : ℕ) → 0 < n % 8 → (k : ℕ) × (k < 3) × (bit n k ≡ true)
some_low n pos =
    let found = some_bit 3 (n % 8) (omega arith) pos in
    (found.0, found.1, sym (bit_low 3 found.0 n found.1) ∙ found.2)

-- a bundle whose number is above 0 has a kind
pub bundle_some : (o i : ℕ) → 0 < bundle o i → (k : ℕ) × (k < 3) × ((bit o k ≡ true) ⊎ (bit i k ≡ true))
bundle_some o i pos =
    elim (cases_lt 0 (o % 8)) [
      | inl out ↦ let found = some_low o out in (found.0, found.1, inl found.2)
      | inr empty ↦ let found = some_low i (omega arith) in (found.0, found.1, inr found.2)
    ]

low_pos : (n k : ℕ) → k < 3 → bit n k ≡ true → 0 < n % 8
low_pos n k kind set =
    elim (cases_lt 0 (n % 8)) [
      | inl pos ↦ pos
      | inr empty ↦
          let none : n % 8 ≡ 0 = omega arith in
          absurd (both_ways (bit n k) (low_bits n 0 k kind none ∙ bit_zero k) set)
    ]

-- a bundle with a kind has a number above 0
pub bundle_pos : (o i k : ℕ) → k < 3 → (bit o k ≡ true) ⊎ (bit i k ≡ true) → 0 < bundle o i
bundle_pos o i k kind (inl out) = omega (arith, low_pos o k kind out)
bundle_pos o i k kind (inr into) = omega (arith, low_pos i k kind into)
