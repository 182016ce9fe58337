-- Equitable partitions.
--
--   out_neighbours       how many nodes of a set x has a tie to
--   in_neighbours        how many nodes of a set have a tie to x
--   Equitable            nodes of one role have equally many out-neighbours, and equally many in-neighbours, in each role
--   Counted              a total of tally has those two numbers
--   TrueCounts           so it is on at most 128 nodes: the cap of a count never binds
--   RegularUnderTally    that is what regular means under tally, on at most 128 nodes
use Rattle.std.specs.Prelude.{◌≡◌, ℕ, ◌<◌, ◌≤◌, Bool, ◌&&◌, ◌↔◌}
use Rattle.network.specs.Meaning.{Meaning, tied, count_below, most_nodes}
use Rattle.measure.specs.Tally.{tally}
use Rattle.equivalence.specs.Totals.{total}
use Rattle.equivalence.specs.Regular.{Table, Regular, members}

abbrev pub out_neighbours : Meaning → ℕ → (ℕ → Bool) → ℕ
out_neighbours m x among = count_below (λ y. among y && tied m x y) m.nodes

abbrev pub in_neighbours : Meaning → ℕ → (ℕ → Bool) → ℕ
in_neighbours m x among = count_below (λ y. among y && tied m y x) m.nodes

-- x and y share a role, and z names any role
pub record Equitable (m : Meaning) (role : Table) : Type 0 where
  pub outgoing : (x y z : ℕ) → x < m.nodes → y < m.nodes → z < m.nodes → role x ≡ role y → out_neighbours m x (members role (role z)) ≡ out_neighbours m y (members role (role z))
  pub incoming : (x y z : ℕ) → x < m.nodes → y < m.nodes → z < m.nodes → role x ≡ role y → in_neighbours m x (members role (role z)) ≡ in_neighbours m y (members role (role z))

pub record Counted (m : Meaning) (x : ℕ) (among : ℕ → Bool) : Type 0 where
  pub outgoing : (total tally m x among).out ≡ out_neighbours m x among
  pub incoming : (total tally m x among).into ≡ in_neighbours m x among

abbrev pub TrueCounts : Type 0
TrueCounts = (m : Meaning) (x : ℕ) (among : ℕ → Bool) → m.nodes ≤ most_nodes → Counted m x among

abbrev pub RegularUnderTally : Type 0
RegularUnderTally = (m : Meaning) (role : Table) → m.nodes ≤ most_nodes → Regular tally m role ↔ Equitable m role
