use Rattle.std.proofs.Common.{◌+◌, ◌∙◌, ap, arith}
use Rattle.equivalence.specs.Starting.{starting_classes}
use Rattle.equivalence.specs.Vetted.{table_of}
use Rattle.std.proofs.lemmas.List.{length_push}
use Rattle.session.proofs.Classes.{values_more, headed_classes}
use Rattle.session.proofs.table.Table.starting.Goals as goal

pub loop-x-preserved : goal.loop-x-preserved
loop-x-preserved g c =
    let i = c.loop-x.invariant in
    rw c.push.ensures.items (
      length_push c.loop-x.heads.items c.starting_head.result ∙ ap (λ k. k + 1) i.0,
      values_more (starting_classes (g.N.Readable.meaning c.args.network.now) (table_of c.args.colours)) c.loop-x.heads.items c.loop-x.x c.starting_head.result i.0 c.starting_head.ensures.class i.1,
    )

pub of_heads-requires : goal.of_heads-requires
of_heads-requires g c =
    let i = c.loop-x.invariant in
    let few = c.nodes-x-end.ensures.few in
    rw c.deref.ensures.0 (headed_classes (g.N.Readable.meaning c.args.network.now) (table_of c.args.colours) c.loop-x.heads.items (omega (arith, i.0, few, c.loop-x.auto.x-end)) (λ x l. i.1 x (omega (arith, l, i.0))))
