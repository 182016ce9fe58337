use Rattle.std.proofs.Common.{rules, ◌≡◌, ◌∙◌, ℕ, refl, arith}
use Rattle.std.specs.List.{fold, range_with_len}
use Rattle.std.proofs.lemmas.Iterator.{YieldsList-from_range}
use Rattle.std.proofs.lemmas.Iterator.Consumers.{fold_from_yields_List}
use Rattle.equivalence.specs.Totals.{labelled}
use Rattle.equivalence.proofs.Gathering.{gather_steps, step}
use Rattle.equivalence.proofs.totals.total_toward.Goals as goal

-- the chain is one pass over the nodes
pub returns : goal.returns
returns g c =
    let o = g.M.Measure.ops in
    let m = g.N.Readable.meaning c.args.network.now in
    let brought = λ (y : ℕ). o.weigh (m.tie c.args.x y) (m.tie y c.args.x) in
    let among = labelled c.args.labels.now c.args.label in
    let n = c.nodes.result in
    let folded : c.fold.result ≡ fold (step o brought among) c.none.result (range_with_len 0 n) =
    fold_from_yields_List _ (step o brought among) _ _ c.fold.ensures.ran
    (YieldsList-from_range 0 n n refl (omega arith))
    (λ a y b q k. search rules)
    in
    rw (c.none.ensures, c.nodes.ensures.value) at folded ∙ gather_steps o g.met.M.Measure.lawful brought among m.nodes
