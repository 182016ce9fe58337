-- The table of role records, read as a table.
--
--   nodes_in     how many nodes it has
--   colour_in    the colour of each node
--   role_in      the role of each node
--   count_in     how many roles it has
--   record_in    the record of a role
--   head_in      the head of a role
--   Starting     the table is at the starting classes, and no role was split
use Rattle.std.specs.Prelude.{◌≡◌, ℕ, ◌<◌, length}
use Rattle.network.specs.Meaning.{Meaning}
use Rattle.equivalence.specs.Regular.{Table}
use Rattle.equivalence.specs.Heads.{head_of}
use Rattle.equivalence.specs.Starting.{starting_classes}
use Rattle.equivalence.specs.Vetted.{table_of}
use Rattle.session.specs.Roles.{head_at, record_at}
use Rattle.session.specs.declared.role.Role.{Role}
use Rattle.session.specs.declared.table.Table.{Table as RoleTable}

abbrev pub nodes_in : RoleTable → ℕ
nodes_in table = length table.role_of.items

abbrev pub colour_in : RoleTable → Table
colour_in table = table_of table.colours

abbrev pub role_in : RoleTable → Table
role_in table = table_of table.role_of.items

abbrev pub count_in : RoleTable → ℕ
count_in table = length table.roles.items

abbrev pub record_in : RoleTable → ℕ → Role
record_in table = record_at table.roles.items

abbrev pub head_in : RoleTable → ℕ → ℕ
head_in table = head_at table.roles.items

-- in the network
pub record Starting (m : Meaning) (table : RoleTable) : Type 0 where
  pub nodes : nodes_in table ≡ m.nodes
  pub heads : (x : ℕ) → x < m.nodes → head_of (role_in table) x ≡ starting_classes m (colour_in table) x
  pub splits : table.splits ≡ 0
