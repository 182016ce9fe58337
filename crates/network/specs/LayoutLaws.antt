-- The layouts of the matrix and of the two-mode network give each pair that may be tied a byte of its own.
use Rattle.std.proofs.Common.{◌≡◌, ℕ, zero, suc, ◌+◌, ◌-◌, ◌*◌, ◌/◌, ◌%◌, ◌<◌, ◌≤◌, sym, ap, ◌∙◌, cond, add-zero, add-suc, suc-mul, arith}
use Rattle.std.proofs.lemmas.Nat.{div-mul-add, mod-mul-add}
use Rattle.std.proofs.lemmas.Bool.Decides.{nat_tests}
use Rattle.network.specs.Meaning.{sum_below, count_below, inside}
use Rattle.network.specs.Layouts.{LaidOut}
use Rattle.network.specs.Matrices.{matrix_layout}
use Rattle.network.specs.TwoModes.{across, two_mode_layout}

-- every summand is c
sum_below_each : (f : ℕ → ℕ) (c n : ℕ) → ((k : ℕ) → k < n → f k ≡ c) → sum_below f n ≡ n * c
sum_below_each f c zero h = omega arith
sum_below_each f c (suc n) h = rw suc-mul (omega (arith, sum_below_each f c n (λ k l. h k (omega arith)), h n (omega arith)))

-- the first r summands are c, and the s behind them d
sum_below_parts : (f : ℕ → ℕ) (c d r s : ℕ) → ((k : ℕ) → k < r → f k ≡ c) → ((k : ℕ) → r ≤ k → k < r + s → f k ≡ d) → sum_below f (r + s) ≡ r * c + s * d
sum_below_parts f c d r zero first last = rw (add-zero r) (omega (arith, sum_below_each f c r first))
sum_below_parts f c d r (suc s) first last =
    rw (add-suc, suc-mul) (omega (arith, sum_below_parts f c d r s first (λ k from to. last k from (omega arith)), last (r + s) (omega arith) (omega arith)))

-- in rows of w, a place belongs to one row and column
place_below : (w r i j : ℕ) → i < r → j < w → i * w + j < r * w
place_below w r i j hi hj = grind (arith, hi, hj)

place_apart : (w i j x y : ℕ) → j < w → y < w → x * w + y ≡ i * w + j → (x ≡ i) × (y ≡ j)
place_apart w i j x y hj hy at = (
  sym (div-mul-add x w y hy) ∙ ap (λ k. k / w) at ∙ div-mul-add i w j hj,
  sym (mod-mul-add x w y hy) ∙ ap (λ k. k % w) at ∙ mod-mul-add i w j hj,
)

matrix_row : (n i : ℕ) → i < n → count_below (inside n i) n ≡ n
matrix_row n i l = omega (arith, sum_below_each (λ j. cond (inside n i j) 1 0) 1 n (λ j h. grind (arith, nat_tests)))

pub matrix_laid_out : (n : ℕ) → LaidOut (matrix_layout n)
matrix_laid_out n =
    record {
      has = λ i j. grind (arith, nat_tests);
      below = λ i j h. place_below n n i j (grind (arith, nat_tests)) (grind (arith, nat_tests));
      apart = λ i j x y h g. place_apart n i j x y (grind (arith, nat_tests)) (grind (arith, nat_tests));
      counted = sum_below_each (λ i. count_below (inside n i) n) n n (matrix_row n);
    }

-- the columns are counted from side B on
two_mode_row : (a b i : ℕ) → i < a → count_below (across a b i) (a + b) ≡ b
two_mode_row a b i l =
    omega (arith, sum_below_parts (λ j. cond (across a b i j) 1 0) 0 1 a b (λ j h. grind (arith, nat_tests)) (λ j from to. grind (arith, nat_tests)))

two_mode_row_none : (a b i : ℕ) → a ≤ i → count_below (across a b i) (a + b) ≡ 0
two_mode_row_none a b i past = omega (arith, sum_below_each (λ j. cond (across a b i j) 1 0) 0 (a + b) (λ j h. grind (arith, nat_tests)))

pub two_mode_laid_out : (a b : ℕ) → LaidOut (two_mode_layout a b)
two_mode_laid_out a b =
    record {
      has = λ i j. grind (arith, nat_tests);
      below = λ i j h. place_below b a i (j - a) (grind (arith, nat_tests)) (grind (arith, nat_tests));
      apart = λ i j x y h g e. let both = place_apart b i (j - a) x (y - a) (grind (arith, nat_tests)) (grind (arith, nat_tests)) e in (both.0, grind (arith, nat_tests, both.1));
      counted = omega (arith, sum_below_parts (λ i. count_below (across a b i) (a + b)) b 0 a b (λ i l. two_mode_row a b i l) (λ i past l. two_mode_row_none a b i past));
    }
