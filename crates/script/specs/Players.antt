-- A player of the program, as a script that is played so far.
--
--   played_in    with what is printed
use Rattle.std.specs.Prelude.{ℕ, List}
use Rattle.script.specs.Stages.{phase_of}
use Rattle.script.specs.Transcripts.{Played}
use Rattle.script.specs.declared.player.Player.{Player}

abbrev pub played_in : Player → List ℕ → Played
played_in p printed = record { phase = phase_of p.stage; count = p.count; offset = p.offset; printed = printed; faults = p.faults.items }
