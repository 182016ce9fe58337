use Rattle.std.proofs.Common.{sym, ◌∙◌, arith}
use Rattle.network.proofs.SlotPuts.{put_full, put_full_after, put_kept, put_none, put_taken, put_tidy, slots_told}
use Rattle.network.proofs.slot_list.SlotListEditable.put.Goals as goal

pub invariant_of-self : goal.invariant_of-self
invariant_of-self c =
    let l = c.args.self.now in
    let at = sym c.place_for.ensures ∙ c.in-Some.is in
    let tidy = put_tidy l c.args.i c.args.j (omega arith) (omega arith) c.args.b c.in-Some.k at in
    record { few = l.few; tidy = rw c.keeping.ensures tidy }

pub returns-in-Some-clause-answer : goal.returns-in-Some-clause-answer
returns-in-Some-clause-answer c =
    let at = sym c.place_for.ensures ∙ c.in-Some.is in
    sym (put_taken c.args.self.now c.args.i c.args.j (omega arith) (omega arith) c.args.b c.in-Some.k at)

pub returns-in-Some-clause-after : goal.returns-in-Some-clause-after
returns-in-Some-clause-after c =
    let at = sym c.place_for.ensures ∙ c.in-Some.is in
    rw c.keeping.ensures (put_kept c.args.self.now c.args.i c.args.j (omega arith) (omega arith) c.args.b c.in-Some.k at)

pub returns-in-None-clause-answer : goal.returns-in-None-clause-answer
returns-in-None-clause-answer c =
    let at = sym c.place_for.ensures ∙ c.in-None.is in
    sym (put_full c.args.self.now c.args.i c.args.j (omega arith) (omega arith) c.args.b at c.if-b-gt0.true)

pub returns-in-None-clause-after : goal.returns-in-None-clause-after
returns-in-None-clause-after c =
    let at = sym c.place_for.ensures ∙ c.in-None.is in
    put_full_after c.args.self.now c.args.i c.args.j (omega arith) (omega arith) c.args.b at c.if-b-gt0.true

pub returns-else-b-gt0-clause-after : goal.returns-else-b-gt0-clause-after
returns-else-b-gt0-clause-after c =
    let at = sym c.place_for.ensures ∙ c.in-None.is in
    put_none c.args.self.now c.args.i c.args.j (omega arith) (omega arith) c.args.b at (omega arith)

pub returns-in-Some-clause-slots : goal.returns-in-Some-clause-slots
returns-in-Some-clause-slots c =
    let at = sym c.place_for.ensures ∙ c.in-Some.is in
    sym (slots_told c.args.self.now c.args.i c.args.j (omega arith) (omega arith) c.args.b ∙ put_taken c.args.self.now c.args.i c.args.j (omega arith) (omega arith) c.args.b c.in-Some.k at)

pub returns-in-None-clause-slots : goal.returns-in-None-clause-slots
returns-in-None-clause-slots c =
    let at = sym c.place_for.ensures ∙ c.in-None.is in
    sym (slots_told c.args.self.now c.args.i c.args.j (omega arith) (omega arith) c.args.b ∙ put_full c.args.self.now c.args.i c.args.j (omega arith) (omega arith) c.args.b at c.if-b-gt0.true)
