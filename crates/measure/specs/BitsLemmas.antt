-- Numbers below a power of two are equal by their bits: what the laws of the measures of sets rest on.
use Rattle.std.specs.Prelude.{◌≡◌, ℕ, ◌^◌, ◌<◌, max, ◌||◌, ◌==◌, nat_eq}
use Rattle.std.proofs.Common.{sym, ap, ◌∙◌, arith}
use Rattle.std.proofs.Math.Bool.{or_assoc}
use Rattle.std.specs.Int.Bits.{bit_or}
use Rattle.std.proofs.lemmas.Nat.{or_lt}
use Rattle.std.proofs.lemmas.Nat.Bits.{bit_at-lt, bit_at_or, same_from_bits_below}
use Rattle.std.specs.Int.{bit_at}
use Rattle.std.proofs.lemmas.Bool.Decides.{nat_tests}
use Rattle.measure.specs.Bits.{bit}

one_of : (p q : ℕ) → p < 2 → q < 2 → (max p q == 1) ≡ (p == 1 || q == 1)
one_of p q hp hq = grind (arith, nat_tests)

pub bit-or : (a b k : ℕ) → bit (bit_or a b) k ≡ (bit a k || bit b k)
bit-or a b k = ap (λ n. nat_eq n 1) (bit_at_or a b k) ∙ one_of (bit_at a k) (bit_at b k) (bit_at-lt a k) (bit_at-lt b k)

same_digit : (p q : ℕ) → p < 2 → q < 2 → (p == 1) ≡ (q == 1) → p ≡ q
same_digit p q hp hq e = grind (arith, nat_tests)

pub same_bits : (w a b : ℕ) → a < 2 ^ w → b < 2 ^ w → ((k : ℕ) → k < w → bit a k ≡ bit b k) → a ≡ b
same_bits w a b ha hb e =
    same_from_bits_below w a b ha hb (λ k h. same_digit (bit_at a k) (bit_at b k) (bit_at-lt a k) (bit_at-lt b k) (e k h))

pub or_assoc_below : (w a b c : ℕ) → a < 2 ^ w → b < 2 ^ w → c < 2 ^ w → bit_or (bit_or a b) c ≡ bit_or a (bit_or b c)
or_assoc_below w a b c ha hb hc =
    same_bits w (bit_or (bit_or a b) c) (bit_or a (bit_or b c)) (or_lt w _ c (or_lt w a b ha hb) hc) (or_lt w a _ ha (or_lt w b c hb hc))
    (λ k _.
    bit-or (bit_or a b) c k
    ∙ ap (λ x. x || bit c k) (bit-or a b k)
    ∙ or_assoc (bit a k) (bit b k) (bit c k)
    ∙ sym (bit-or a (bit_or b c) k ∙ ap (λ x. bit a k || x) (bit-or b c k)))
