use Rattle.std.proofs.Common.{flat_map, take}
use Rattle.std.specs.Fmt.{HasWritten, IsPlainFormatter}
use Rattle.manual.proofs.ListWords.{next_words}
use Rattle.manual.proofs.words.ThoseDisplay.fmt.Given as goal

-- those between, so far
abbrev pub invariant-loop-number : goal.invariant-loop-number
invariant-loop-number g l =
    IsPlainFormatter l.initial.f → HasWritten g.W.Write.write_str_gives l.initial.f (flat_map next_words (take l.number-index l.middle)) l.f
