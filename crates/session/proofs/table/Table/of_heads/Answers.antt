use Rattle.std.proofs.Common.{◌∙◌, arith}
use Rattle.session.proofs.Counted.{head_known}
use Rattle.session.proofs.table.Table.of_heads.Goals as goal

pub returns-clause-heads : goal.returns-clause-heads
returns-clause-heads c x l =
    let i = c.loop-x.invariant in
    head_known c.loop-x.table x (omega (arith, l, i.0, c.loop-x-test.false)) ∙ i.1 x (omega (arith, l, c.loop-x-test.false))
