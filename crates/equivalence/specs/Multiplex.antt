-- Multiplex regular equivalence, over kinds 0 to 2 and their inverses.
--
--   Bundled                x has a tie of one of these kinds with y, out or in
--   SameBundle             a has with c the kinds that b has with d, out and in, those and only those
--   MultiplexRegular       nodes of one role have the same bundles with nodes of the same roles
--   RegularUnderBundles    that is what regular means under bundles
use Rattle.std.specs.Prelude.{◌≡◌, ℕ, ◌<◌, ◌⊎◌, ◌↔◌}
use Rattle.network.specs.Meaning.{Meaning}
use Rattle.measure.specs.Bundles.{bundles}
use Rattle.equivalence.specs.Regular.{Table, Regular}
use Rattle.equivalence.specs.Classical.{tied_by}

abbrev pub Bundled : Meaning → ℕ → ℕ → Type 0
Bundled m x y = (k : ℕ) × (k < 3) × (tied_by k m x y ⊎ tied_by k m y x)

pub record SameBundle (m : Meaning) (a c b d : ℕ) : Type 0 where
  pub outgoing : (k : ℕ) → k < 3 → tied_by k m a c ↔ tied_by k m b d
  pub incoming : (k : ℕ) → k < 3 → tied_by k m c a ↔ tied_by k m d b

-- a and b share a role, and a has a bundle with c: then b has exactly that bundle with some d of c's role
abbrev pub MultiplexRegular : Meaning → Table → Type 0
MultiplexRegular m role = (a b c : ℕ) → a < m.nodes → b < m.nodes → c < m.nodes → role a ≡ role b → Bundled m a c → (d : ℕ) × (d < m.nodes) × (role d ≡ role c) × SameBundle m a c b d

abbrev pub RegularUnderBundles : Type 0
RegularUnderBundles = (m : Meaning) (role : Table) → Regular bundles m role ↔ MultiplexRegular m role
