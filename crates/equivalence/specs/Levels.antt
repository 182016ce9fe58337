-- The coarsest regular table within the starting classes, computed.
--
--   all_below         each number below n passes
--   alike             x and y share a role, and have the same total toward every role
--   named             each node below n by the lowest node that is together with it
--   level             at first nodes of one class are together, then in each round those alike in the level before
--   coarsest_table    the level after as many rounds as there are nodes
--   LevelsCoarsest    of every network and every starting classes, that is the coarsest table
--   CoarsestNamed     and it has the heads of any coarsest table
use Rattle.std.specs.Prelude.{◌≡◌, ℕ, zero, suc, ◌<◌, Bool, true, ◌&&◌, List, map}
use Rattle.std.specs.List.{range_with_len}
use Rattle.network.specs.Meaning.{Meaning}
use Rattle.measure.specs.Measures.{Operations}
use Rattle.equivalence.specs.Totals.{total}
use Rattle.equivalence.specs.Regular.{Table, members}
use Rattle.equivalence.specs.Heads.{lowest, head_of}
use Rattle.equivalence.specs.Vetted.{table_of}
use Rattle.equivalence.specs.Coarsest.{Coarsest}

abbrev pub all_below : (ℕ → Bool) → ℕ → Bool
all_below p zero = true
all_below p (suc n) = all_below p n && p n

abbrev pub alike : {V : Type 0} → Operations V → Meaning → Table → ℕ → ℕ → Bool
alike o m role x y = members role (role x) y && all_below (λ z. o.same (total o m x (members role (role z))) (total o m y (members role (role z)))) m.nodes

abbrev pub named : ℕ → (ℕ → ℕ → Bool) → List ℕ
named n together = map (λ x. lowest (together x) x) (range_with_len 0 n)

abbrev pub level : {V : Type 0} → Operations V → Meaning → Table → ℕ → List ℕ
level o m classes zero = named m.nodes (λ x. members classes (classes x))
level o m classes (suc k) = named m.nodes (alike o m (table_of (level o m classes k)))

abbrev pub coarsest_table : {V : Type 0} → Operations V → Meaning → Table → List ℕ
coarsest_table o m classes = level o m classes m.nodes

abbrev pub LevelsCoarsest : {V : Type 0} → Operations V → Type 0
LevelsCoarsest o = (m : Meaning) (classes : Table) → Coarsest o m classes (table_of (coarsest_table o m classes))

abbrev pub CoarsestNamed : {V : Type 0} → Operations V → Type 0
CoarsestNamed o =
    (m : Meaning) (classes role : Table)
    → Coarsest o m classes role
    → (x : ℕ)
    → x < m.nodes
    → head_of role x ≡ table_of (coarsest_table o m classes) x
