use Rattle.std.proofs.Common.{◌≡◌, ◌∙◌, List, set, length, length-set, ap, arith}
use Rattle.arrayvec.specs.ArrayVec.{with_items}
use Rattle.arrayvec.proofs.ArrayVecLemmas.{items-with_items}
use Rattle.session.specs.Roles.{record_at}
use Rattle.session.specs.declared.role.Role.{Role}
use Rattle.session.proofs.Records.{grown, size_le, joined}
use Rattle.session.proofs.table.Table.join.Goals as goal

pub grow-requires : goal.grow-requires
grow-requires c =
    let m = c.args.self.now in
    omega (arith, ap (λ (xs : List Role). (record_at xs c.args.r).size) c.deref_mut.ensures.value, size_le m.role_of.items m.roles.items m.recorded c.args.r c.requires.known)

pub invariant_of-self : goal.invariant_of-self
invariant_of-self c =
    let m = c.args.self.now in
    let r = c.args.r in
    let lent = c.deref_mut.ensures.value in
    let written : (with_items m.roles (set c.deref_mut.result.now r c.grow.new.self)).items ≡ set m.roles.items r (grown (record_at m.roles.items r)) =
    items-with_items m.roles (set c.deref_mut.result.now r c.grow.new.self) (length-set c.deref_mut.result.now r c.grow.new.self ∙ ap length lent)
    ∙ ap (λ ys. set ys r c.grow.new.self) lent
    ∙ ap (set m.roles.items r) (c.grow.ensures ∙ ap (λ (rs : List Role). grown (record_at rs r)) lent) in
    record { recorded = rw (c.push.ensures.items, written) (joined m.role_of.items m.roles.items m.recorded c.requires.room r c.requires.known) }
