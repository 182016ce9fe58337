-- The records of roles that a table keeps.
--
--   record_at    the record of a role
--   head_at      the head that the record has
--   Described    the record of a role: its head is its lowest node, so the role is not empty, and its size the number of its nodes
--   Ordered      the first so many roles are numbered in the order of their heads
--   Recorded     roles are numbered from 0 in the order of their heads, each with its record; there are at most 128 nodes, and no more roles than nodes
--   Headed       a list has for each node a head: a node that is not above it, and is its own head
use Rattle.std.specs.Prelude.{◌≡◌, ℕ, ◌<◌, ◌≤◌, List, ◌≢◌, length, slice_index_or}
use Rattle.network.specs.Meaning.{count_below, most_nodes}
use Rattle.equivalence.specs.Regular.{Table, members}
use Rattle.equivalence.specs.Vetted.{table_of}
use Rattle.session.specs.declared.role.Role.{Role}

abbrev pub record_at : List Role → ℕ → Role
record_at roles r = slice_index_or roles r (record { head = 0; size = 0 })

abbrev pub head_at : List Role → ℕ → ℕ
head_at roles r = (record_at roles r).head

pub record Described (nodes : ℕ) (role : Table) (r : ℕ) (told : Role) : Type 0 where
  pub node : told.head < nodes
  pub mate : role told.head ≡ r
  pub lowest : (k : ℕ) → k < told.head → role k ≢ r
  pub size : told.size ≡ count_below (members role r) nodes

abbrev pub Ordered : ℕ → (ℕ → ℕ) → Type 0
Ordered count head = (q r : ℕ) → q < r → r < count → head q < head r

pub record Recorded (role_of : List ℕ) (roles : List Role) : Type 0 where
  pub few : length role_of ≤ most_nodes
  pub packed : length roles ≤ length role_of
  pub ranged : (x : ℕ) → x < length role_of → table_of role_of x < length roles
  pub described : (r : ℕ) → r < length roles → Described (length role_of) (table_of role_of) r (record_at roles r)
  pub ordered : Ordered (length roles) (head_at roles)

pub record Headed (heads : List ℕ) : Type 0 where
  pub few : length heads ≤ most_nodes
  pub below : (x : ℕ) → x < length heads → table_of heads x ≤ x
  pub own : (x : ℕ) → x < length heads → table_of heads (table_of heads x) ≡ table_of heads x
