-- What a settled session holds.
--
--   settled_state    its state
--   settled_parts    its network and its measure
use Rattle.network.specs.declared.interface.Readable as readable
use Rattle.measure.specs.declared.interface.Measure as measure
use Rattle.session.specs.States.{State}
use Rattle.session.specs.OpenSessions.{state_of, parts_of}
use Rattle.session.specs.declared.settled.Settled.{Settled}

module _ {N M V : Type 0} {r : readable.Ghosts N} {g : measure.Ghosts M V} where
  abbrev pub settled_state : Settled N M V r g → State
  settled_state s = state_of s.session

  abbrev pub settled_parts : Settled N M V r g → N × M
  settled_parts s = parts_of s.session
