-- The bits of zero, of a half, of a power of two and of the low part of a number.
use Rattle.std.specs.Prelude.{◌≡◌, ℕ, zero, suc, ◌+◌, ◌-◌, ◌/◌, ◌%◌, ◌^◌, ◌<◌, true, false, ◌==◌, nat_eq}
use Rattle.std.proofs.Common.{sym, ap, ◌∙◌, inl, inr, pow-suc, arith}
use Rattle.std.proofs.lemmas.Nat.{field_of, mod-pow-add}
use Rattle.std.proofs.lemmas.Nat.Bits.{bit_at_lowest, bit_at-suc, bit_at-zero, bit_at-pow_same, bit_at-pow_other}
use Rattle.std.proofs.lemmas.Bool.{cases_Bool, cases_eq}
use Rattle.std.proofs.lemmas.Bool.Decides.{nat_tests}
use Rattle.measure.specs.Bits.{bit}

pub bit_zero : (k : ℕ) → bit 0 k ≡ false
bit_zero k = ap (λ n. nat_eq n 1) (bit_at-zero k)

-- bit k of the half is bit k + 1
bit_half : (n k : ℕ) → bit (n / 2) k ≡ bit n (suc k)
bit_half n k = ap (λ n. nat_eq n 1) (sym (bit_at-suc n k))

-- a number above 0 has a bit that is set
pub some_bit : (w n : ℕ) → n < 2 ^ w → 0 < n → (k : ℕ) × (k < w) × (bit n k ≡ true)
some_bit zero n h pos = absurd (omega arith)
some_bit (suc w) n h pos =
    elim (cases_Bool (bit n 0)) [
      | inl set ↦ (0, omega arith, set)
      | inr clear ↦
          let even : n % 2 ≡ 0 = grind (arith, nat_tests, bit_at_lowest n) in
          let found = some_bit w (n / 2) (omega (arith, pow-suc 2 w)) (omega arith) in
          (suc found.0, omega (arith, found.1), sym (bit_half n found.0) ∙ found.2)
    ]

-- a power of two has one bit
pub bit_power : (n k : ℕ) → bit (2 ^ n) k ≡ (n == k)
bit_power n k =
    elim (cases_eq k n) [
      | inl same ↦ rw same (grind (arith, nat_tests, bit_at-pow_same n))
      | inr other ↦ grind (arith, nat_tests, bit_at-pow_other n k other)
    ]

-- a bit below w is a bit of the low w bits
pub bit_low : (w k n : ℕ) → k < w → bit (n % 2 ^ w) k ≡ bit n k
bit_low w k n h =
    let j = w - k - 1 in
    let split : w ≡ (j + 1) + k = omega arith in
    let low : (n / 2 ^ k) % 2 ^ (j + 1) % 2 ≡ n / 2 ^ k % 2 = omega (arith, mod-pow-add (n / 2 ^ k) j 1) in
    ap (λ v. nat_eq (n % 2 ^ v / 2 ^ k % 2) 1) split ∙ ap (λ v. nat_eq (v % 2) 1) (field_of n (j + 1) k) ∙ ap (λ v. nat_eq v 1) low
