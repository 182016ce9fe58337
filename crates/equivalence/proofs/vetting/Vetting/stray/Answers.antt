use Rattle.std.proofs.Common.{◌≡◌, ℕ, Bool, true, false, rules, tests}
use Rattle.std.proofs.lemmas.Iterator.{first_from_Range}
use Rattle.equivalence.specs.Heads.{head_of}
use Rattle.equivalence.specs.Totals.{total, labelled}
use Rattle.equivalence.specs.Vetted.{table_of}
use Rattle.equivalence.proofs.Balance.{first_stray}
use Rattle.equivalence.proofs.vetting.Vetting.stray.Goals as goal

pub returns : goal.returns
returns g c =
    let v = c.args.self.now in
    let o = g.M.Measure.ops in
    let m = g.N.Readable.meaning v.network.now in
    let role = table_of v.table.now in
    let among = labelled v.table.now c.args.role in
    let agrees : ℕ → Bool = λ y. o.same (total o m (head_of role y) among) (total o m y among) in
    let first = first_from_Range _ _ _ c.find.result (λ y. agrees y ≡ false) (λ y. agrees y ≡ true) c.find.ensures.ran (λ y q k. search (rules, tests)) (λ y q k. search (rules, tests)) in
    first_stray o g.met.M.Measure.lawful m role among _ c.find.result (rw v.fits at first)
