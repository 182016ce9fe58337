use Rattle.std.proofs.Common.{◌∙◌, ◌<◌, below_more, refl, sym, ap, arith}
use Rattle.equivalence.specs.Regular.{Even, members}
use Rattle.session.specs.Tables.{count_in, record_in, role_in}
use Rattle.session.specs.declared.role.Role.{Role}
use Rattle.session.proofs.Splits.{even_single, of_head}
use Rattle.session.proofs.open.Open.split_toward.Goals as goal
use Rattle.session.proofs.open.Open.split_toward.Goals.{then-part-gt1+in_default, else-part-gt1}

pub split_role-requires-clause-part : goal.split_role-requires-clause-part
split_role-requires-clause-part g c =
    let s = c.loop-r.self in
    let known : c.loop-r.r < count_in s.table = omega (arith, c.count-r-end.ensures, c.loop-r-test.true, ap (λ v. count_in v.table) c.loop-r.invariant.0) in
    rw c.role-part.ensures (of_head g.M.Measure.ops g.met.M.Measure.lawful (g.N.Readable.meaning s.network) s.table s.sound.entries c.loop-r.r known)

pub split_role-requires-clause-toward : goal.split_role-requires-clause-toward
split_role-requires-clause-toward g c =
    let s = c.args.self.now in
    rw (c.loop-r.invariant.0, c.role-toward.ensures) (of_head g.M.Measure.ops g.met.M.Measure.lawful (g.N.Readable.meaning s.network) s.table s.sound.entries c.args.c c.requires)

pub loop-r-preserved : goal.loop-r-preserved
loop-r-preserved g c =
    let s = c.args.self.now in
    let m = g.N.Readable.meaning s.network in
    let role = role_in s.table in
    let r = c.loop-r.r in
    let same = c.loop-r.invariant.0 in
    let known : r < count_in s.table = rw (c.count-r-end.ensures) at c.loop-r-test.true in
    let next = below_more (λ k. Even g.M.Measure.ops m role k (members role c.args.c)) r c.loop-r.invariant.1 in
    elim c.if-part-gt1.branch [
      | then-part-gt1+in_default w ↦ (w.self-is ∙ w.split_role.ensures.unaltered w.in_default.is ∙ same, next (rw (same, c.role-part.ensures, c.role-toward.ensures, same, (s.table.recorded.described r known).mate, (s.table.recorded.described c.args.c c.requires).mate) at w.in_default.ensures.search))
      | else-part-gt1 w ↦ (w.self-is ∙ same, next (even_single g.M.Measure.ops g.met.M.Measure.lawful m s.table s.sound.entries r (members role c.args.c) known (omega (arith, w.if-part-gt1.false, ap (λ (v : Role). v.size) c.role-part.ensures, ap (λ v. (record_in v.table r).size) same))))
    ]

pub returns-clause-search : goal.returns-clause-search
returns-clause-search g c =
    let s = c.args.self.now in
    λ x y hx hy e. c.loop-r.invariant.1 (role_in s.table x) (omega (arith, s.sound.entries, s.table.recorded.ranged x (omega (arith, s.sound.entries)), c.count-r-end.ensures, c.loop-r-test.false)) x y hx hy refl (sym e)
