-- The heads of roles.
use Rattle.std.proofs.Common.{◌≡◌, ℕ, ◌<◌, ◌≤◌, List, length, take, Option, Some, None, MatchOption, unwrap_or, sym, refl, ◌∙◌, ◌↔◌, arith}
use Rattle.std.specs.Prelude.{Decides, ◌≢◌}
use Rattle.std.specs.List.{AllWithin, HoldsAt}
use Rattle.std.proofs.lemmas.List.{get_or-take, length-take-le}
use Rattle.std.proofs.lemmas.Bool.{eq-eqb, eqb-true}
use Rattle.std.proofs.lemmas.Bool.Decides.{nat_tests, Decides-eqb}
use Rattle.equivalence.specs.Regular.{Table, members}
use Rattle.equivalence.specs.Heads.{head_of, is_head}
use Rattle.equivalence.specs.Vetted.{table_of}
use Rattle.equivalence.proofs.Lowest.{Equivalence, lowest_le, lowest_first, lowest_passes, lowest_is, name_same, name_together}

module _ (role : Table) where
  pub role_equivalence : Equivalence (λ x. members role (role x))
  role_equivalence =
      record {
        self = λ x. eq-eqb (role x) (role x) refl;
        back = λ x y e. grind (arith, nat_tests);
        through = λ x y z e f. grind (arith, nat_tests);
      }

  pub head_mate : (x : ℕ) → role (head_of role x) ≡ role x
  head_mate x = eqb-true (role (head_of role x)) (role x) (lowest_passes (members role (role x)) x (eq-eqb (role x) (role x) refl))

  pub head_le : (x : ℕ) → head_of role x ≤ x
  head_le x = lowest_le (members role (role x)) x

  pub head_lowest : (x k : ℕ) → k < head_of role x → role k ≢ role x
  head_lowest x k l e = grind (arith, nat_tests, lowest_first (members role (role x)) x k l)

  -- a node of the role, where no lower one is of it
  pub head_is : (h x : ℕ) → role h ≡ role x → ((k : ℕ) → k < h → role k ≢ role x) → head_of role x ≡ h
  head_is h x mate low =
      lowest_is (members role (role x)) x h (eq-eqb (role x) (role x) refl) (eq-eqb (role h) (role x) mate) (λ k l. grind (arith, nat_tests, low k l))

  -- nodes share a role exactly when they share its head
  pub head_same : (x y : ℕ) → role x ≡ role y → head_of role x ≡ head_of role y
  head_same x y e = name_same (λ k. members role (role k)) role_equivalence x y (eq-eqb (role y) (role x) (sym e))

  pub same_head : (x y : ℕ) → head_of role x ≡ head_of role y → role x ≡ role y
  same_head x y e = sym (eqb-true (role y) (role x) (name_together (λ k. members role (role k)) role_equivalence x y e))

  pub head_tells : (x y : ℕ) → (role x ≡ role y) ↔ (head_of role x ≡ head_of role y)
  head_tells x y = (head_same x y, same_head x y)

  pub head_again : (x : ℕ) → head_of role (head_of role x) ≡ head_of role x
  head_again x = head_same (head_of role x) x (head_mate x)

  pub head_decides : (x : ℕ) → Decides (is_head role x) (head_of role x ≡ x)
  head_decides x = Decides-eqb (head_of role x) x

  -- what a search from node 0 finds
  pub head_found :
      (x : ℕ) (r : Option ℕ)
      → MatchOption r ((k : ℕ) → 0 ≤ k → k < x → role k ≢ role x) (λ i. (0 ≤ i) × (i < x) × (role i ≡ role x) × ((k : ℕ) → 0 ≤ k → k < i → role k ≢ role x))
      → unwrap_or r x ≡ head_of role x
  head_found x None none = sym (head_is x x refl (λ k l. none k (omega arith) l))
  head_found x (Some i) found = sym (head_is i x found.2 (λ k l. found.3 k (omega arith) l))

-- the same of the roles of the nodes before x
pub head_position :
    (table : List ℕ) (x : ℕ) (r : Option ℕ)
    → x ≤ length table
    → MatchOption r (AllWithin (λ v. v ≢ table_of table x) (take x table) 0 (length (take x table))) (λ i. (i < length (take x table)) × HoldsAt (λ v. v ≡ table_of table x) (take x table) i × AllWithin (λ v. v ≢ table_of table x) (take x table) 0 i)
    → unwrap_or r x ≡ head_of (table_of table) x
head_position table x None fits none =
    let within : length (take x table) ≡ x = length-take-le x table fits in
    head_found (table_of table) x None (λ k z h e. none k 0 z (omega (arith, within, h)) (get_or-take x table k 0 h ∙ e))
head_position table x (Some i) fits found =
    let under : i < x = omega (arith, length-take-le x table fits, found.0) in
    head_found (table_of table) x (Some i)
    (omega arith, under, sym (get_or-take x table i 0 under) ∙ found.1 0, λ k z h e. found.2 k 0 z h (get_or-take x table k 0 (omega (arith, h, under)) ∙ e))
