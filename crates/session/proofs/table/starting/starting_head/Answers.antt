use Rattle.std.proofs.Common.{◌≡◌, ◌∙◌, true, false, rules, tests}
use Rattle.std.proofs.lemmas.Iterator.{first_from_Range}
use Rattle.equivalence.specs.Starting.{starts_with}
use Rattle.equivalence.specs.Vetted.{table_of}
use Rattle.session.proofs.Classes.{class_found}
use Rattle.session.proofs.table.starting.starting_head.Goals as goal

pub returns-clause-class : goal.returns-clause-class
returns-clause-class g c =
    let m = g.N.Readable.meaning c.args.network.now in
    let colours = table_of c.args.colours.now in
    let x = c.args.x in
    c.unwrap_or.ensures
    ∙ class_found m colours x c.find.result (first_from_Range _ _ _ c.find.result (λ k. starts_with m colours x k ≡ true) (λ k. starts_with m colours x k ≡ false) c.find.ensures.ran (λ y q k. search (rules, tests)) (λ y q k. search (rules, tests)))
