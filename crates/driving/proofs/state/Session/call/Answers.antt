use Rattle.std.proofs.Common.{◌≡◌, rules, refl, ap}
use Rattle.driving.specs.declared.call.Call.{Call}
use Rattle.driving.specs.declared.call.Move.{Move}
use Rattle.driving.specs.declared.call.Reply.{Reply}
use Rattle.driving.specs.declared.call.Write.{Write}
use Rattle.driving.proofs.state.Session.call.Goals as goal

pub returns-in-Open-Move-Step-clause-turn : goal.returns-in-Open-Move-Step-clause-turn
returns-in-Open-Move-Step-clause-turn g c =
    let told = c.step-step.ensures in
    let is : c.args.call ≡ Call.Move Move.Step = search rules in
    rw (is, c.in-Open-Move-Step.is-0) ((told.stable, told.stepped), refl)

pub returns-in-Settled-Write-Ask-clause-turn : goal.returns-in-Settled-Write-Ask-clause-turn
returns-in-Settled-Write-Ask-clause-turn g c =
    let told = c.ask.ensures in
    let is : c.args.call ≡ Call.Write (Write.Ask c.in-Settled-Write-Ask.question) = search rules in
    rw (c.in-Settled-Write-Ask.is-0, is) (ap (λ v. Reply.Ask v) told.start, told.area, refl)
