-- The classes of the nodes, found by searches.
use Rattle.std.proofs.Common.{◌≡◌, ℕ, ◌+◌, ◌<◌, ◌≤◌, true, false, List, [], ◌∷◌, ◌++◌, length, Option, Some, None, MatchOption, unwrap_or, sym, ap, ◌∙◌, inl, inr, arith}
use Rattle.std.proofs.lemmas.Bool.{cases_eq, eq-eqb}
use Rattle.std.proofs.lemmas.List.{get_or_append_left, get_or_push}
use Rattle.network.specs.Meaning.{Meaning}
use Rattle.equivalence.specs.Regular.{Table}
use Rattle.equivalence.specs.Starting.{starts_with, starting_classes}
use Rattle.equivalence.specs.Vetted.{table_of}
use Rattle.equivalence.proofs.Lowest.{lowest_is}
use Rattle.equivalence.proofs.Starting.{starting_again, starting_colours, starting_equivalence, starting_le, starting_tells}
use Rattle.session.specs.Roles.{Headed}
use Rattle.session.specs.States.{ClassesLaw}

module _ (m : Meaning) (colours : Table) (x : ℕ) where
  pub class_found :
      (r : Option ℕ)
      → MatchOption r ((k : ℕ) → 0 ≤ k → k < x → starts_with m colours x k ≡ false) (λ i. (0 ≤ i) × (i < x) × (starts_with m colours x i ≡ true) × ((k : ℕ) → 0 ≤ k → k < i → starts_with m colours x k ≡ false))
      → unwrap_or r x ≡ starting_classes m colours x
  class_found None none =
      let own = (starting_equivalence m colours).self x in
      sym (lowest_is (starts_with m colours x) x x own own (λ k l. none k (omega arith) l))
  class_found (Some i) found = sym (lowest_is (starts_with m colours x) x i ((starting_equivalence m colours).self x) found.2 (λ k l. found.3 k (omega arith) l))

-- a list that has the values of f so far
pub values_more : (f : ℕ → ℕ) (xs : List ℕ) (n v : ℕ) → length xs ≡ n → v ≡ f n → ((k : ℕ) → k < n → table_of xs k ≡ f k) → (k : ℕ) → k < n + 1 → table_of (xs ++ v ∷ []) k ≡ f k
values_more f xs n v long is at k l =
    elim (cases_eq k n) [
      | inl e ↦ get_or_push xs v 0 k (omega (arith, e, long)) ∙ is ∙ ap f (sym e)
      | inr ne ↦ get_or_append_left xs (v ∷ []) 0 k (omega (arith, l, long)) ∙ at k (omega (arith, l))
    ]

-- a list of classes has heads
pub headed_classes : (m : Meaning) (colours : Table) (heads : List ℕ) → length heads ≤ 128 → ((x : ℕ) → x < length heads → table_of heads x ≡ starting_classes m colours x) → Headed heads
headed_classes m colours heads few at =
    record {
      few = few;
      below = λ x l. omega (arith, at x l, starting_le m colours x);
      own = λ x l. ap (table_of heads) (at x l) ∙ at (starting_classes m colours x) (omega (arith, l, starting_le m colours x)) ∙ starting_again m colours x ∙ sym (at x l);
    }

pub classes_law : ClassesLaw
classes_law m colours x y = (starting_colours m colours x y, λ e. (starting_tells m colours x y).1 (eq-eqb (colours x) (colours y) e))
