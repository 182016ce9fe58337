-- What an open session holds.
--
--   state_of    its state
--   parts_of    its network and its measure
use Rattle.network.specs.declared.interface.Readable as readable
use Rattle.measure.specs.declared.interface.Measure as measure
use Rattle.session.specs.States.{State, state_with}
use Rattle.session.specs.declared.open.Open.{Open}

module _ {N M V : Type 0} {r : readable.Ghosts N} {g : measure.Ghosts M V} where
  abbrev pub state_of : Open N M V r g → State
  state_of s = state_with (r.meaning s.network) s.table

  abbrev pub parts_of : Open N M V r g → N × M
  parts_of s = (s.network, s.measure)
