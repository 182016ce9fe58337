-- Regular equivalence, by its classical definition.
--
--   RegularEquivalence    of a relation on n nodes: nodes of one role are related to nodes of the same roles
--   tied_by               the relation 'i has a tie of kind k to j'
--   RegularInEach         a table that is a regular equivalence of each of the eight kinds
--   RegularUnderKinds     that is what regular means under kinds
use Rattle.std.specs.Prelude.{◌≡◌, ℕ, ◌<◌, true, ◌↔◌}
use Rattle.network.specs.Meaning.{Meaning}
use Rattle.measure.specs.Bits.{bit}
use Rattle.measure.specs.Kinds.{kinds}
use Rattle.equivalence.specs.Regular.{Table, Regular}

pub record RegularEquivalence (n : ℕ) (R : ℕ → ℕ → Type 0) (role : Table) : Type 0 where
  -- a and b share a role, and a is related to c: then b is related to some d of c's role
  pub outgoing : (a b c : ℕ) → a < n → b < n → c < n → role a ≡ role b → R a c → (d : ℕ) × (d < n) × (role d ≡ role c) × R b d
  -- the same of the nodes that are related to a
  pub incoming : (a b c : ℕ) → a < n → b < n → c < n → role a ≡ role b → R c a → (d : ℕ) × (d < n) × (role d ≡ role c) × R d b

abbrev pub tied_by : ℕ → Meaning → ℕ → ℕ → Type 0
tied_by k m i j = bit (m.tie i j) k ≡ true

abbrev pub RegularInEach : Meaning → Table → Type 0
RegularInEach m role = (k : ℕ) → k < 8 → RegularEquivalence m.nodes (tied_by k m) role

abbrev pub RegularUnderKinds : Type 0
RegularUnderKinds = (m : Meaning) (role : Table) → Regular kinds m role ↔ RegularInEach m role
