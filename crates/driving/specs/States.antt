-- A session that takes calls, open or settled.
--
--   is_settled   it has settled
--   state_in     its state
--   parts_in     its network and its measure
--   is_put       the call is a put, which alone may alter the network
--   course_in    whether it has settled, and the ties and colours that it has
use Rattle.std.specs.Prelude.{Bool, true, false}
use Rattle.network.specs.declared.interface.Readable as readable
use Rattle.measure.specs.declared.interface.Measure as measure
use Rattle.session.specs.OpenSessions.{state_of, parts_of}
use Rattle.session.specs.SettledSessions.{settled_state, settled_parts}
use Rattle.session.specs.States.{State}
use Rattle.driving.specs.Book.{book_in}
use Rattle.driving.specs.Courses.{Course}
use Rattle.driving.specs.declared.call.Call.{Call}
use Rattle.driving.specs.declared.call.Call.TheVariants as calls
use Rattle.driving.specs.declared.call.Edit.TheVariants.{Put}
use Rattle.driving.specs.declared.state.Session.{Session}
use Rattle.driving.specs.declared.state.Session.TheVariants.{Open, Settled}

module _ {N M V : Type 0} {r : readable.Ghosts N} {g : measure.Ghosts M V} where
  abbrev pub is_settled : Session N M V r g → Bool
  is_settled (Open s) = false
  is_settled (Settled s) = true

  abbrev pub state_in : Session N M V r g → State
  state_in (Open s) = state_of s
  state_in (Settled s) = settled_state s

  abbrev pub parts_in : Session N M V r g → N × M
  parts_in (Open s) = parts_of s
  parts_in (Settled s) = settled_parts s

  abbrev pub course_in : Session N M V r g → Course
  course_in s = record { settled = is_settled s; book = book_in (state_in s) }

abbrev pub is_put : Call → Bool
is_put (calls.Edit (Put i j b)) = true
is_put other = false
