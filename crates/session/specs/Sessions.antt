-- What a session starts from, what a colour answers and leaves, and what a session settles into.
--
--   Begun            a state of these ties and colours at their starting classes, with no role split
--   colour_answer    accepted, or 3 where there is no such node
--   colours_after    the colours after a colour, refused or not
--   Edited           the state after a put or a colour: begun anew where it is accepted, as it was where it is refused
--   Ended            the state after a settle: the coarsest table of the same ties and colours, with its splits counted; every head of the old table is a head of it
use Rattle.std.specs.Prelude.{◌≡◌, ℕ, ◌+◌, ◌<◌, cond, ◌&&◌, ◌==◌, nat_lt, Result, Ok, Err, OnOk, OnErr}
use Rattle.network.specs.Meaning.{Meaning}
use Rattle.measure.specs.Measures.{Operations}
use Rattle.equivalence.specs.Regular.{Table}
use Rattle.equivalence.specs.Heads.{head_of}
use Rattle.equivalence.specs.Starting.{starting_classes}
use Rattle.equivalence.specs.Coarsest.{Coarsest}
use Rattle.session.specs.States.{State, KeepsHeads, role, role_count, classes, class_count}
use Rattle.session.specs.declared.faults.Fault.{Fault}

pub record Begun (m : Meaning) (colouring : Table) (s : State) : Type 0 where
  pub network : s.network ≡ m
  pub colours : s.colours ≡ colouring
  pub start : (x : ℕ) → x < m.nodes → head_of (role s) x ≡ starting_classes m colouring x
  pub splits : s.splits ≡ 0

abbrev pub colour_answer : ℕ → ℕ → Result (Unit {0}) Fault
colour_answer n i = cond (nat_lt i n) (Ok tt) (Err Fault.Node)

abbrev pub colours_after : ℕ → Table → ℕ → ℕ → Table
colours_after n colours i c x = cond (nat_lt i n && x == i) c (colours x)

-- m and colouring: what the put or the colour makes of ties and colours
pub record Edited {F : Type 0} (answer : Result (Unit {0}) F) (m : Meaning) (colouring : Table) (old new : State) : Type 0 where
  pub network : new.network ≡ m
  pub colours : new.colours ≡ colouring
  pub accepted : OnOk answer (Begun m colouring new)
  pub refused : OnErr answer (new ≡ old)

pub record Ended {V : Type 0} (o : Operations V) (old new : State) : Type 0 where
  pub network : new.network ≡ old.network
  pub colours : new.colours ≡ old.colours
  pub coarsest : Coarsest o new.network (classes new) (role new)
  pub splits : new.splits + class_count new ≡ role_count new
  pub heads : KeepsHeads old new
