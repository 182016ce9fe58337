use Rattle.std.proofs.Common.{◌≡◌, ◌∙◌, take, rules, tests, arith}
use Rattle.std.specs.Prelude.{◌≢◌}
use Rattle.std.proofs.lemmas.Iterator.{IsFirst-from_position, YieldsList-from_slice}
use Rattle.equivalence.specs.Vetted.{table_of}
use Rattle.equivalence.proofs.Heads.{head_position}
use Rattle.equivalence.proofs.vetting.Vetting.head.Goals as goal

pub returns-clause-head : goal.returns-clause-head
returns-clause-head g c =
    let table = c.args.self.now.table.now in
    let x = c.args.x in
    let role = table_of table x in
    let found = IsFirst-from_position _ _ c.position.result (λ v. v ≡ role) (λ v. v ≢ role) c.position.ensures.ran (YieldsList-from_slice (take x table) (cc)) (λ v q k. search (rules, tests)) (λ v q k. search (rules, tests)) in
    c.unwrap_or.ensures ∙ head_position table x c.position.result (omega (arith, c.requires)) found
