-- The level after as many rounds as there are nodes is the coarsest table.
use Rattle.std.proofs.Common.{◌≡◌, ℕ, zero, suc, ◌<◌, ◌≤◌, ◌⊎◌, Bool, true, eqb, length, sym, refl, ap, ◌∙◌, inl, inr, arith}
use Rattle.std.specs.Prelude.{Decides}
use Rattle.std.proofs.lemmas.Bool.{cases_lt, and_parts, and_from, eq-eqb, eqb-true}
use Rattle.std.proofs.lemmas.Bool.Decides.{Decides-and, Decides-eqb, Decides-like}
use Rattle.network.specs.Meaning.{Meaning}
use Rattle.network.proofs.Counting.{count_below_le}
use Rattle.measure.specs.Measures.{Operations, Laws}
use Rattle.equivalence.specs.Totals.{total}
use Rattle.equivalence.specs.Regular.{Table, Regular, members}
use Rattle.equivalence.specs.Heads.{lowest, head_of, is_head, roles}
use Rattle.equivalence.specs.Vetted.{table_of}
use Rattle.equivalence.specs.Coarsest.{Refines, Covers, Coarsest}
use Rattle.equivalence.specs.Levels.{all_below, named, alike, level, coarsest_table, LevelsCoarsest, CoarsestNamed}
use Rattle.equivalence.proofs.Heads.{head_is, role_equivalence}
use Rattle.equivalence.proofs.Lowest.{Equivalence, lowest_le, name_same, name_together, name_again, named_at, named_length}
use Rattle.equivalence.proofs.Refinement.{covers_same}
use Rattle.equivalence.proofs.Stable.{refines_back, regular_same, coarsest_one, heads_same}
use Rattle.equivalence.proofs.Unions.{balanced_union}

all_below_decides : (p : ℕ → Bool) (n : ℕ) → Decides (all_below p n) ((k : ℕ) → k < n → p k ≡ true)
all_below_decides p zero = (λ _ k l. absurd (omega arith), λ _. refl)
all_below_decides p (suc n) = (
  λ e k l.
      let both = and_parts (all_below p n) (p n) e in
      elim (cases_lt k n) [
        | inl under ↦ (all_below_decides p n).0 both.0 k under
        | inr last ↦ let same : k ≡ n = omega (arith, l, last) in rw same both.1
      ],
  λ all. and_from (all_below p n) (p n) ((all_below_decides p n).1 (λ k l. all k (omega arith))) (all n (omega arith)),
)

-- a list of names as a table
module _ (n : ℕ) (together : ℕ → ℕ → Bool) (laws : Equivalence together) where
  named_same : (x y : ℕ) → x < n → y < n → together x y ≡ true → table_of (named n together) x ≡ table_of (named n together) y
  named_same x y lx ly e = named_at n together x lx ∙ name_same together laws x y e ∙ sym (named_at n together y ly)

  named_together : (x y : ℕ) → x < n → y < n → table_of (named n together) x ≡ table_of (named n together) y → together x y ≡ true
  named_together x y lx ly e = name_together together laws x y (sym (named_at n together x lx) ∙ e ∙ named_at n together y ly)

  -- it numbers each role by its head
  named_heads : (x : ℕ) → x < n → head_of (table_of (named n together)) x ≡ table_of (named n together) x
  named_heads x l =
      let role = table_of (named n together) in
      let le = lowest_le (together x) x in
      let at = named_at n together x l in
      head_is role (role x) x
      (named_at n together (role x) (omega (arith, le, at)) ∙ ap (λ k. lowest (together k) k) at ∙ name_again together laws x ∙ sym at)
      (λ k under e. omega (arith, under, e, named_at n together k (omega (arith, under, le, at)), lowest_le (together k) k))

module _ {V : Type 0} (o : Operations V) (m : Meaning) (classes : Table) where
  level_length : (k : ℕ) → length (level o m classes k) ≡ m.nodes
  level_length zero = named_length m.nodes (λ x. members classes (classes x))
  level_length (suc k) = named_length m.nodes (alike o m (table_of (level o m classes k)))

  pub coarsest_length : length (coarsest_table o m classes) ≡ m.nodes
  coarsest_length = level_length m.nodes

module _ {V : Type 0} (o : Operations V) (laws : Laws o) (m : Meaning) where
  -- nodes of one role with equal totals toward every role
  abbrev Alike : Table → ℕ → ℕ → Type 0
  Alike role x y = (role x ≡ role y) × ((z : ℕ) → z < m.nodes → total o m x (members role (role z)) ≡ total o m y (members role (role z)))

  module _ (role : Table) where
    alike_decides : (x y : ℕ) → Decides (alike o m role x y) (Alike role x y)
    alike_decides x y =
        Decides-like (alike o m role x y)
        (λ said. (sym said.0, λ z l. (laws.sameness _ _).0 (said.1 z l)))
        (λ same. (sym same.0, λ z l. (laws.sameness _ _).1 (same.1 z l)))
        (Decides-and _ _ (Decides-eqb (role y) (role x)) (all_below_decides _ m.nodes))

    alike_equivalence : Equivalence (alike o m role)
    alike_equivalence =
        let are = λ (x y : ℕ) (e : alike o m role x y ≡ true). (alike_decides x y).0 e in
        record {
          self = λ x. (alike_decides x x).1 (refl, λ z l. refl);
          back = λ x y e. (alike_decides y x).1 (sym (are x y e).0, λ z l. sym ((are x y e).1 z l));
          through = λ x y z e d. (alike_decides x z).1 ((are x y e).0 ∙ (are y z d).0, λ k l. (are x y e).1 k l ∙ (are y z d).1 k l);
        }

    -- one round
    abbrev next : Table
    next = table_of (named m.nodes (alike o m role))

    next_alike : (x y : ℕ) → x < m.nodes → y < m.nodes → next x ≡ next y → Alike role x y
    next_alike x y hx hy e = (alike_decides x y).0 (named_together m.nodes (alike o m role) alike_equivalence x y hx hy e)

    alike_next : (x y : ℕ) → x < m.nodes → y < m.nodes → Alike role x y → next x ≡ next y
    alike_next x y hx hy same = named_same m.nodes (alike o m role) alike_equivalence x y hx hy ((alike_decides x y).1 same)

    next_finer : Refines m.nodes next role
    next_finer x y hx hy e = (next_alike x y hx hy e).0

    next_inside : (other : Table) → Regular o m other → Refines m.nodes other role → Refines m.nodes other next
    next_inside other regular inside x y hx hy e =
        alike_next x y hx hy
        (inside x y hx hy e, λ z l. balanced_union o laws m other regular (members role (role z)) (λ a b la lb d. ap (λ r. eqb r (role z)) (inside a b la lb d)) x y hx hy e)

    next_regular : Regular o m role → Regular o m next
    next_regular regular = regular_same o m role next (λ x y hx hy e. alike_next x y hx hy (e, λ z l. regular z l x y hx hy e)) next_finer regular

    -- a round that adds no role shows that the table was regular
    next_stable : roles next m.nodes ≤ roles role m.nodes → Regular o m role
    next_stable few z hz x y hx hy e = (next_alike x y hx hy (refines_back m.nodes next role next_finer few x y hx hy e)).1 z hz

  module _ (classes : Table) where
    abbrev after : ℕ → Table
    after k = table_of (level o m classes k)

    level_covers : (k : ℕ) → Covers o m classes (after k)
    level_covers zero =
        let laws = role_equivalence classes in
        covers_same o m classes (after 0)
        (λ x y hx hy e. sym (eqb-true (classes y) (classes x) (named_together m.nodes (λ z. members classes (classes z)) laws x y hx hy e)))
        (λ x y hx hy e. named_same m.nodes (λ z. members classes (classes z)) laws x y hx hy (eq-eqb (classes y) (classes x) (sym e)))
    level_covers (suc k) =
        record {
          within = λ x y hx hy e. (level_covers k).within x y hx hy (next_finer (after k) x y hx hy e);
          inside = λ other regular within. next_inside (after k) other regular ((level_covers k).inside other regular within);
        }

    -- after k rounds the table is regular, or each has added a role
    level_settles : (k : ℕ) → Regular o m (after k) ⊎ (k ≤ roles (after k) m.nodes)
    level_settles zero = inr (omega arith)
    level_settles (suc k) =
        elim (level_settles k) [
          | inl regular ↦ inl (next_regular (after k) regular)
          | inr many ↦
              elim (cases_lt (roles (after k) m.nodes) (roles (next (after k)) m.nodes)) [
                | inl more ↦ inr (omega arith)
                | inr few ↦ inl (next_regular (after k) (next_stable (after k) few))
              ]
        ]

    level_regular : Regular o m (after m.nodes)
    level_regular =
        elim (level_settles m.nodes) [
          | inl regular ↦ regular
          | inr many ↦ next_stable (after m.nodes) (omega (arith, many, count_below_le (is_head (next (after m.nodes))) m.nodes))
        ]

    level_heads : (k x : ℕ) → x < m.nodes → head_of (after k) x ≡ after k x
    level_heads zero x l = named_heads m.nodes (λ z. members classes (classes z)) (role_equivalence classes) x l
    level_heads (suc k) x l = named_heads m.nodes (alike o m (after k)) (alike_equivalence (after k)) x l

    pub coarsest_level : Coarsest o m classes (table_of (coarsest_table o m classes))
    coarsest_level = record { regular = level_regular; covers = level_covers m.nodes }

    -- it numbers each role by its head
    pub named_head : (x : ℕ) → x < m.nodes → head_of (table_of (coarsest_table o m classes)) x ≡ table_of (coarsest_table o m classes) x
    named_head x l = level_heads m.nodes x l

pub levels_coarsest : {V : Type 0} (o : Operations V) (laws : Laws o) → LevelsCoarsest o
levels_coarsest o laws m classes = coarsest_level o laws m classes

pub coarsest_named : {V : Type 0} (o : Operations V) (laws : Laws o) → CoarsestNamed o
coarsest_named o laws m classes role coarsest x l =
    let one = coarsest_one o m classes role (table_of (coarsest_table o m classes)) coarsest (coarsest_level o laws m classes) in
    heads_same m.nodes role (table_of (coarsest_table o m classes)) one.0 one.1 x l ∙ named_head o laws m classes x l
