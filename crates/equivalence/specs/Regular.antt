-- When a table is regular.
--
--   Table       the role of each node; its roles are those that it gives to some node, so none is empty
--   members     the set of the nodes of a role
--   Even        the nodes of one role have equal totals toward the set
--   Balanced    two nodes of any one role have equal totals toward the set
--   Regular     two nodes of any one role have equal totals toward every role
--   Unequal     x and y share a role, and have unequal totals toward z's role
use Rattle.std.specs.Prelude.{◌≡◌, ℕ, ◌<◌, Bool, ◌==◌, ◌≢◌}
use Rattle.network.specs.Meaning.{Meaning}
use Rattle.measure.specs.Measures.{Operations}
use Rattle.equivalence.specs.Totals.{total}

abbrev pub Table : Type 0
Table = ℕ → ℕ

abbrev pub members : Table → ℕ → ℕ → Bool
members role r y = role y == r

abbrev pub Even : {V : Type 0} → Operations V → Meaning → Table → ℕ → (ℕ → Bool) → Type 0
Even o m role r among = (x y : ℕ) → x < m.nodes → y < m.nodes → role x ≡ r → role y ≡ r → total o m x among ≡ total o m y among

abbrev pub Balanced : {V : Type 0} → Operations V → Meaning → Table → (ℕ → Bool) → Type 0
Balanced o m role among = (x y : ℕ) → x < m.nodes → y < m.nodes → role x ≡ role y → total o m x among ≡ total o m y among

abbrev pub Regular : {V : Type 0} → Operations V → Meaning → Table → Type 0
Regular o m role = (z : ℕ) → z < m.nodes → Balanced o m role (members role (role z))

pub record Unequal {V : Type 0} (o : Operations V) (m : Meaning) (role : Table) (x y z : ℕ) : Type 0 where
  pub order : x < y
  pub node : y < m.nodes
  pub toward : z < m.nodes
  pub together : role x ≡ role y
  pub apart : total o m x (members role (role z)) ≢ total o m y (members role (role z))
