use Rattle.std.proofs.Common.{refl}
use Rattle.std.proofs.Output.{has_written_append, has_written_of_eq}
use Rattle.manual.proofs.ListWords.{those_by_parts}
use Rattle.manual.proofs.words.ThoseDisplay.fmt.Goals as goal

pub returns-after-loop-number-clause-writes : goal.returns-after-loop-number-clause-writes
returns-after-loop-number-clause-writes g c plain ok =
    let first = c.in_ok-write-in-len2-up.ensures.writes plain refl in
    let between = c.loop-number.invariant first.plain in
    let last = c.write-in-len2-up-2.ensures.writes between.plain ok in
    has_written_of_eq _ _ _ _ _ (those_by_parts c.args.self.now.0.now c.args.self.now.1.now c.loop-number.number-index c.in-len2-up.len_at_least c.loop-number-test.false)
    (has_written_append _ _ _ _ _ _ first (has_written_append _ _ _ _ _ _ between last))
