-- Holding each node against its head balances the table.
use Rattle.std.proofs.Common.{◌≡◌, ℕ, ◌<◌, ◌≤◌, Bool, true, false, List, length, Option, Some, None, MatchOption, sym, ap, ◌∙◌, subst, inl, inr, arith}
use Rattle.std.specs.Prelude.{◌≢◌}
use Rattle.std.proofs.lemmas.Bool.{both_ways, cases_lt}
use Rattle.std.proofs.lemmas.Bool.Decides.{nat_tests}
use Rattle.network.specs.Meaning.{Meaning}
use Rattle.measure.specs.Measures.{Operations, Laws}
use Rattle.equivalence.specs.Totals.{total, labelled}
use Rattle.equivalence.specs.Regular.{Table, Balanced, Unequal, members}
use Rattle.equivalence.specs.Heads.{head_of}
use Rattle.equivalence.specs.Vetted.{table_of}
use Rattle.equivalence.proofs.Heads.{head_le, head_mate, head_same}
use Rattle.equivalence.proofs.Gathering.{total_same}

module _ {V : Type 0} (o : Operations V) (laws : Laws o) (m : Meaning) (role : Table) (among : ℕ → Bool) where
  abbrev value : ℕ → V
  value x = total o m x among

  abbrev agrees : ℕ → Bool
  agrees y = o.same (value (head_of role y)) (value y)

  -- nodes of one role have one head, and so one total
  balanced : ((y : ℕ) → 0 ≤ y → y < m.nodes → agrees y ≡ true) → Balanced o m role among
  balanced all x y hx hy e =
      let one : (k : ℕ) → k < m.nodes → value (head_of role k) ≡ value k = λ k l. (laws.sameness _ _).0 (all k (omega arith) l) in
      sym (one x hx) ∙ ap value (head_same role x y e) ∙ one y hy

  -- what a search for the first stray tells
  pub first_stray : (X : ℕ → Type 0) (r : Option ℕ) → MatchOption r ((y : ℕ) → 0 ≤ y → y < m.nodes → agrees y ≡ true) (λ y. (0 ≤ y) × (y < m.nodes) × (agrees y ≡ false) × X y) → MatchOption r (Balanced o m role among) (λ y. (y < m.nodes) × (value (head_of role y) ≢ value y))
  first_stray X None all = balanced all
  first_stray X (Some y) found = (found.1, λ e. both_ways (agrees y) found.2 ((laws.sameness _ _).1 e))

-- the set that the code reads is z's role
module _ {V : Type 0} (o : Operations V) (m : Meaning) (table : List ℕ) (z : ℕ) (fits : length table ≡ m.nodes) where
  abbrev read : ℕ → Bool
  read = labelled table (table_of table z)

  total_role : (x : ℕ) → total o m x read ≡ total o m x (members (table_of table) (table_of table z))
  total_role x = total_same o m x read (members (table_of table) (table_of table z)) (λ y h. grind (arith, nat_tests))

  pub balanced_role : Balanced o m (table_of table) read → Balanced o m (table_of table) (members (table_of table) (table_of table z))
  balanced_role balance x y hx hy e = sym (total_role x) ∙ balance x y hx hy e ∙ total_role y

  -- a node that has not the total of its head
  pub stray_unequal : (y : ℕ) → z < m.nodes → y < m.nodes → total o m (head_of (table_of table) y) read ≢ total o m y read → Unequal o m (table_of table) (head_of (table_of table) y) y z
  stray_unequal y toward node apart =
      let h = head_of (table_of table) y in
      record {
        order = elim (cases_lt h y) [
          | inl under ↦ under
          | inr past ↦
              let same : h ≡ y = omega (arith, past, head_le (table_of table) y) in
              absurd (apart (ap (λ k. total o m k read) same))
        ];
        node = node;
        toward = toward;
        together = head_mate (table_of table) y;
        apart = λ e. apart (total_role h ∙ e ∙ sym (total_role y));
      }

-- one role is one set, whichever of its nodes names it
pub balanced_mate : {V : Type 0} (o : Operations V) (m : Meaning) (role : Table) (h z : ℕ) → role h ≡ role z → Balanced o m role (members role (role h)) → Balanced o m role (members role (role z))
balanced_mate o m role h z e = subst (λ r. Balanced o m role (members role r)) e
