-- The coarsest regular table within the starting classes, which are a table themselves.
--
--   Refines      nodes of one role of the finer table share a role of the coarser one
--   Covers       within the classes, and every regular table within them refines it
--   Coarsest     regular, and covers the regular tables within the classes
--   FewestLaw    so no regular table within the classes has fewer roles
use Rattle.std.specs.Prelude.{◌≡◌, ℕ, ◌<◌, ◌≤◌}
use Rattle.network.specs.Meaning.{Meaning}
use Rattle.measure.specs.Measures.{Operations}
use Rattle.equivalence.specs.Regular.{Table, Regular}
use Rattle.equivalence.specs.Heads.{roles}

abbrev pub Refines : ℕ → Table → Table → Type 0
Refines n fine coarse = (x y : ℕ) → x < n → y < n → fine x ≡ fine y → coarse x ≡ coarse y

pub record Covers {V : Type 0} (o : Operations V) (m : Meaning) (classes role : Table) : Type 0 where
  pub within : Refines m.nodes role classes
  pub inside : (other : Table) → Regular o m other → Refines m.nodes other classes → Refines m.nodes other role

pub record Coarsest {V : Type 0} (o : Operations V) (m : Meaning) (classes role : Table) : Type 0 where
  pub regular : Regular o m role
  pub covers : Covers o m classes role

abbrev pub FewestLaw : {V : Type 0} → Operations V → Type 0
FewestLaw o =
    (m : Meaning) (classes role other : Table)
    → Coarsest o m classes role
    → Regular o m other
    → Refines m.nodes other classes
    → roles role m.nodes ≤ roles other m.nodes
