use Rattle.std.proofs.Common.{◌≡◌, ℕ, rules, tests}
use Rattle.std.proofs.lemmas.Iterator.{cases_from_all, YieldsList-from_range}
use Rattle.manual.proofs.Below.{decides_below}
use Rattle.manual.proofs.words.isolated.Goals as goal

pub returns : goal.returns
returns g c =
    let m = g.N.Readable.meaning c.args.network.now in
    let untied : ℕ → Type 0 = λ y. (m.tie c.args.x y ≡ 0) × (m.tie y c.args.x ≡ 0) in
    decides_below untied m.nodes _
    (cases_from_all _ _ _ untied (λ y. untied y → ⊥) c.all.ensures.ran
    (YieldsList-from_range 0 m.nodes m.nodes (search rules) (search rules))
    (λ y q k. search (rules, tests))
    (λ y q k. search (rules, tests)))
