-- As many slots are taken as pairs are tied.
use Rattle.std.proofs.Common.{◌≡◌, ℕ, ◌+◌, ◌≤◌, Bool, true, cond, not, List, [], ◌∷◌, length, refl, arith}
use Rattle.std.specs.Prelude.{nat_lt}
use Rattle.std.specs.List.{list_any}
use Rattle.std.proofs.lemmas.Bool.Decides.{nat_tests}
use Rattle.std.proofs.lemmas.List.Sums.{sum_by-cons, count_by-le-length}
use Rattle.network.specs.Meaning.{count_below, tied, tied_pairs}
use Rattle.network.specs.Listed.{list_of, slots_answer}
use Rattle.network.specs.Put.{put_answer}
use Rattle.network.specs.Slots.{is_free, holds, taken, tidy}
use Rattle.network.specs.declared.slot.Slot.{Slot}
use Rattle.network.specs.declared.slot.Slot.TheVariants.{Free, Taken}
use Rattle.network.proofs.Counting.{sum_below_none, sum_below_more, count_below_more, count_below_same}

taken-cons : (s : Slot) (slots : List Slot) → taken (s ∷ slots) ≡ cond (is_free s) 0 1 + taken slots
taken-cons Free slots = sum_by-cons (λ s. cond (not (is_free s)) 1 0) Free slots
taken-cons (Taken i j b) slots = sum_by-cons (λ s. cond (not (is_free s)) 1 0) (Taken i j b) slots

taken_le : (slots : List Slot) → taken slots ≤ length slots
taken_le slots = count_by-le-length (λ s. not (is_free s)) slots

-- a taken slot in front of slots that do not tie its pair
module _ (n f g c : ℕ) (slots : List Slot) (t : tidy n (Taken f g c ∷ slots) ≡ true) where
  abbrev old : ℕ → ℕ → Bool
  old x y = tied (list_of n slots) x y

  abbrev new : ℕ → ℕ → Bool
  new x y = tied (list_of n (Taken f g c ∷ slots)) x y

  other : (x y : ℕ) → ((x ≡ f) × (y ≡ g) → ⊥) → old x y ≡ new x y
  other x y ne = grind (arith, nat_tests)

  row : (x : ℕ) → (x ≡ f → ⊥) → count_below (old x) n ≡ count_below (new x) n
  row x ne = count_below_same (old x) (new x) n (λ y _. other x y (λ e. ne e.0))

  own_row : count_below (new f) n ≡ count_below (old f) n + 1
  own_row =
      count_below_more (old f) (new f) n g (grind (arith, nat_tests)) (grind (arith, nat_tests)) (grind (arith, nat_tests))
      (λ y ne. other f y (λ e. ne e.1))

  one_more : tied_pairs (list_of n (Taken f g c ∷ slots)) ≡ tied_pairs (list_of n slots) + 1
  one_more = sum_below_more (λ x. count_below (old x) n) (λ x. count_below (new x) n) n f (grind (arith, nat_tests)) own_row row

pub tied_pairs-list : (n : ℕ) (slots : List Slot) → tidy n slots ≡ true → tied_pairs (list_of n slots) ≡ taken slots
tied_pairs-list n [] t = sum_below_none _ n (λ x _. sum_below_none _ n (λ y _. refl))
tied_pairs-list n (Free ∷ slots) t = omega (arith, tied_pairs-list n slots t, taken-cons Free slots)
tied_pairs-list n (Taken f g c ∷ slots) t =
    omega (arith, one_more n f g c slots t, tied_pairs-list n slots (grind (arith, nat_tests)), taken-cons (Taken f g c) slots)

-- some slot is free exactly where fewer are taken than there are
pub any_free : (slots : List Slot) → list_any is_free slots ≡ nat_lt (taken slots) (length slots)
any_free [] = refl
any_free (Free ∷ slots) = grind (arith, nat_tests, taken-cons Free slots, taken_le slots)
any_free (Taken i j b ∷ slots) = grind (arith, nat_tests, taken-cons (Taken i j b) slots, any_free slots)

-- some slot holds the pair exactly where it is tied
pub any_holds : (n i j : ℕ) (slots : List Slot) → tidy n slots ≡ true → list_any (holds i j) slots ≡ tied (list_of n slots) i j
any_holds n i j [] t = refl
any_holds n i j (Free ∷ slots) t = any_holds n i j slots t
any_holds n i j (Taken f g c ∷ slots) t = grind (arith, nat_tests, any_holds n i j slots)

-- a put is answered by the slots as it is by the ties
pub slots_answers : (n i j b : ℕ) (slots : List Slot) → tidy n slots ≡ true → slots_answer n slots i j b ≡ put_answer (list_of n slots) i j b
slots_answers n i j b slots t = rw (any_holds n i j slots t, any_free slots, tied_pairs-list n slots t) refl
