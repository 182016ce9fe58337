use Rattle.std.proofs.Common.{ℕ, List, ◌<◌, ◌∙◌, cond, sym, ap, length, arith}
use Rattle.equivalence.specs.Vetted.{table_of}
use Rattle.equivalence.specs.Totals.{flag}
use Rattle.session.proofs.Counted.{head_known}
use Rattle.session.proofs.table.Table.split.Goals as goal

pub returns-clause-heads : goal.returns-clause-heads
returns-clause-heads c x l =
    let i = c.loop-x.invariant in
    let at = c.deref.ensures.0 in
    let under : x < c.loop-x.x = omega (arith, l, c.loop-x-test.false) in
    c.of_heads.ensures.heads x (omega (arith, under, i.0, ap (λ (hs : List ℕ). length hs) at))
    ∙ ap (λ (hs : List ℕ). table_of hs x) at
    ∙ i.1 x under
    ∙ ap (cond (flag c.args.leaves.now x) c.args.fresh) (sym (head_known c.args.self.now x l))
