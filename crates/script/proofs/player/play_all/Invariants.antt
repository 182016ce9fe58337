use Rattle.std.proofs.Common.{◌≡◌, ◌+◌, ◌<◌, ◌≤◌, fold, length}
use Rattle.script.specs.Players.{played_in}
use Rattle.script.specs.Transcripts.{play, records}
use Rattle.script.proofs.player.play_all.Given as goal

-- what is left leads to the end of the whole, and each record takes a byte at least
abbrev pub invariant-loop-rest : goal.invariant-loop-rest
invariant-loop-rest l =
    (fold play (played_in l.player l.out.items) (records l.rest) ≡ fold play (played_in l.initial.player l.initial.out.items) (records l.script))
    × (l.player.count + length l.rest ≤ length l.script)
    × (0 < length l.rest → l.player.offset + length l.rest ≤ length l.script)

abbrev pub decreases-loop-rest : goal.decreases-loop-rest
decreases-loop-rest l = length l.rest
