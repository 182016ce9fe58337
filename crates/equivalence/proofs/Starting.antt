-- The starting classes.
use Rattle.std.proofs.Common.{◌≡◌, ℕ, ◌≤◌, true, sym, refl, ◌∙◌, ◌↔◌, arith}
use Rattle.std.proofs.lemmas.Bool.{eq-eqb, eqb-true}
use Rattle.network.specs.Meaning.{Meaning}
use Rattle.equivalence.specs.Regular.{Table}
use Rattle.equivalence.specs.Heads.{head_of}
use Rattle.equivalence.specs.Starting.{starts_with, starting_classes}
use Rattle.equivalence.proofs.Lowest.{Equivalence, lowest_le, name_tells, name_again}
use Rattle.equivalence.proofs.Heads.{head_is}

module _ (m : Meaning) (colours : Table) where
  pub starting_equivalence : Equivalence (starts_with m colours)
  starting_equivalence =
      record {
        self = λ x. eq-eqb (colours x) (colours x) refl;
        back = λ x y e. eq-eqb (colours y) (colours x) (sym (eqb-true (colours x) (colours y) e));
        through = λ x y z e d. eq-eqb (colours x) (colours z) (eqb-true (colours x) (colours y) e ∙ eqb-true (colours y) (colours z) d);
      }

  pub starting_le : (x : ℕ) → starting_classes m colours x ≤ x
  starting_le x = lowest_le (starts_with m colours x) x

  -- nodes are of one class exactly when they start together
  pub starting_tells : (x y : ℕ) → (starting_classes m colours x ≡ starting_classes m colours y) ↔ (starts_with m colours x y ≡ true)
  starting_tells = name_tells (starts_with m colours) starting_equivalence

  -- nodes of one class have one colour
  pub starting_colours : (x y : ℕ) → starting_classes m colours x ≡ starting_classes m colours y → colours x ≡ colours y
  starting_colours x y e = eqb-true (colours x) (colours y) ((starting_tells x y).0 e)

  pub starting_again : (x : ℕ) → starting_classes m colours (starting_classes m colours x) ≡ starting_classes m colours x
  starting_again = name_again (starts_with m colours) starting_equivalence

  -- a class is numbered by its head
  pub starting_heads : (x : ℕ) → head_of (starting_classes m colours) x ≡ starting_classes m colours x
  starting_heads x =
      head_is (starting_classes m colours) (starting_classes m colours x) x (starting_again x)
      (λ k l e. omega (arith, l, starting_le k, e))
