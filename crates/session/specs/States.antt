-- What a session holds, as its calls speak of it.
--
--   State          ties and colours, the role of each node in order, the head of each role, and how many roles were split
--   role           the role of a node
--   role_count     how many roles there are
--   classes        the starting classes
--   ClassesLaw     so nodes are of one class exactly where they are of one colour
--   class_count    how many starting classes there are
--   record_of      the head and the size of a role
--   state_with     the state of ties and a table of role records
--   IsSound        what every state of a session is
--   KeepsHeads     every head of the old state is a head of the new one
use Rattle.std.specs.Prelude.{◌≡◌, ◌↔◌, ℕ, ◌+◌, ◌<◌, ◌≤◌, List, length}
use Rattle.network.specs.Meaning.{Meaning, count_below, most_nodes}
use Rattle.measure.specs.Measures.{Operations}
use Rattle.equivalence.specs.Regular.{Table, members}
use Rattle.equivalence.specs.Heads.{head_of, roles}
use Rattle.equivalence.specs.Starting.{starting_classes}
use Rattle.equivalence.specs.Coarsest.{Covers}
use Rattle.equivalence.specs.Vetted.{table_of}
use Rattle.session.specs.Roles.{Described, Ordered}
use Rattle.session.specs.Tables.{colour_in, head_in}
use Rattle.session.specs.declared.role.Role.{Role}
use Rattle.session.specs.declared.table.Table.{Table as RoleTable}

pub record State : Type 0 where
  pub network : Meaning
  pub colours : Table
  pub table : List ℕ
  pub head : ℕ → ℕ
  pub splits : ℕ

abbrev pub role : State → Table
role s = table_of s.table

abbrev pub role_count : State → ℕ
role_count s = roles (role s) s.network.nodes

abbrev pub classes : State → Table
classes s = starting_classes s.network s.colours

abbrev pub ClassesLaw : Type 0
ClassesLaw =
    (m : Meaning) (colours : Table) (x y : ℕ) → (starting_classes m colours x ≡ starting_classes m colours y) ↔ (colours x ≡ colours y)

abbrev pub class_count : State → ℕ
class_count s = roles (classes s) s.network.nodes

abbrev pub record_of : State → ℕ → Role
record_of s r = record { head = s.head r; size = count_below (members (role s) r) s.network.nodes }

abbrev pub state_with : Meaning → RoleTable → State
state_with m t = record { network = m; colours = colour_in t; table = t.role_of.items; head = head_in t; splits = t.splits }

pub record IsSound {V : Type 0} (o : Operations V) (s : State) : Type 0 where
  pub few : s.network.nodes ≤ most_nodes
  -- the table has an entry for each node
  pub entries : length s.table ≡ s.network.nodes
  -- roles are numbered from 0 in the order of their heads; each has a node, and its head is the lowest
  pub ranged : (x : ℕ) → x < s.network.nodes → role s x < role_count s
  pub described : (r : ℕ) → r < role_count s → Described s.network.nodes (role s) r (record_of s r)
  pub ordered : Ordered (role_count s) s.head
  -- within the starting classes, and every regular table within them refines it
  pub covers : Covers o s.network (classes s) (role s)
  -- splits are roles minus starting classes
  pub counted : s.splits + class_count s ≡ role_count s

abbrev pub KeepsHeads : State → State → Type 0
KeepsHeads old new = (x : ℕ) → x < old.network.nodes → head_of (role old) x ≡ x → head_of (role new) x ≡ x
