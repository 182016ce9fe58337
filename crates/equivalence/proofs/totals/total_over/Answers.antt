use Rattle.std.proofs.Common.{rules, ◌≡◌, ◌∙◌, ℕ, List, map, ap}
use Rattle.std.specs.List.{fold}
use Rattle.equivalence.proofs.Gathering.{gather_filter}
use Rattle.equivalence.proofs.totals.total_over.Goals as goal

pub returns-clause-set : goal.returns-clause-set
returns-clause-set g c among is =
    let o = g.M.Measure.ops in
    let m = g.N.Readable.meaning c.args.network.now in
    let brought = λ (y : ℕ). o.weigh (m.tie c.args.x y) (m.tie y c.args.x) in
    let folded : c.fold.result ≡ fold o.join o.none (map brought c.args.nodes.now) = search rules in
    folded ∙ ap (λ (ys : List ℕ). fold o.join o.none (map brought ys)) is ∙ gather_filter o g.met.M.Measure.lawful brought among m.nodes
