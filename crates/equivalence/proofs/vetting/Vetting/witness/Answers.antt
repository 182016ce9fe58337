use Rattle.std.proofs.Common.{arith, below_more, sym}
use Rattle.equivalence.specs.Regular.{Balanced, members}
use Rattle.equivalence.specs.Heads.{head_of}
use Rattle.equivalence.specs.Vetted.{table_of}
use Rattle.equivalence.proofs.Heads.{head_le, head_mate}
use Rattle.equivalence.proofs.Balance.{balanced_mate, balanced_role, stray_unequal}
use Rattle.equivalence.proofs.vetting.Vetting.witness.Goals as goal
use Rattle.equivalence.proofs.vetting.Vetting.witness.Goals.{then-head-z+in_default, else-head-z}

pub loop-z-preserved : goal.loop-z-preserved
loop-z-preserved g c =
    let v = c.args.self.now in
    let o = g.M.Measure.ops in
    let m = g.N.Readable.meaning v.network.now in
    let role = table_of v.table.now in
    let z = c.loop-z.z in
    let here : Balanced o m role (members role (role z)) =
    elim c.if-head-z.branch [
      | then-head-z+in_default w ↦ balanced_role o m v.table.now z v.fits w.in_default.ensures
      | else-head-z w ↦ balanced_mate o m role (head_of role z) z (head_mate role z) (c.loop-z.invariant (head_of role z) (grind (arith, head_le role z, w.if-head-z.false, c.head.ensures.head)))
    ]
    in
    below_more (λ k. Balanced o m role (members role (role k))) z c.loop-z.invariant here

pub returns-in-Some : goal.returns-in-Some
returns-in-Some g c =
    let v = c.args.self.now in
    let o = g.M.Measure.ops in
    let m = g.N.Readable.meaning v.network.now in
    let shown = stray_unequal o m v.table.now c.loop-z.z v.fits c.in-Some.y (omega (arith, v.fits)) c.in-Some.ensures.0 c.in-Some.ensures.1 in
    rw (sym c.head-in-Some.ensures.head) at shown

pub returns : goal.returns
returns g c z h = c.loop-z.invariant z (omega arith)
