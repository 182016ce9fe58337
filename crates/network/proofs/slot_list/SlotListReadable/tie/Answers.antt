use Rattle.std.proofs.Common.{sym, ap, ◌∙◌, arith}
use Rattle.std.proofs.lemmas.Bool.Decides.{nat_tests}
use Rattle.network.specs.Slots.{byte_of}
use Rattle.network.proofs.SlotPuts.{read_found, read_none, read_outside}
use Rattle.network.proofs.slot_list.SlotListReadable.tie.Goals as goal
use Rattle.network.proofs.slot_list.SlotListReadable.tie.Goals.{then-i-self-via-then-i-self, then-i-self-via-else-i-self+then-j-self}

pub returns-then-i-self-clause-value : goal.returns-then-i-self-clause-value
returns-then-i-self-clause-value c =
    elim c.then-i-self.branch [
      | then-i-self-via-then-i-self w ↦ read_outside c.args.self.now c.args.i c.args.j (grind (arith, nat_tests))
      | then-i-self-via-else-i-self+then-j-self w ↦ read_outside c.args.self.now c.args.i c.args.j (grind (arith, nat_tests))
    ]

pub returns-in-Some-clause-value : goal.returns-in-Some-clause-value
returns-in-Some-clause-value c =
    let at = sym c.find.ensures ∙ c.in-Some.is in
    c.byte.ensures
    ∙ ap byte_of c.index.ensures
    ∙ read_found c.args.self.now c.args.i c.args.j (omega arith) (omega arith) c.in-Some.k c.index.result.now at

pub returns-in-None-clause-value : goal.returns-in-None-clause-value
returns-in-None-clause-value c = read_none c.args.self.now c.args.i c.args.j (omega arith) (omega arith) (sym c.find.ensures ∙ c.in-None.is)
