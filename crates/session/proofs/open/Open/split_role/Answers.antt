use Rattle.std.proofs.Common.{◌∙◌, arith}
use Rattle.equivalence.specs.Regular.{members}
use Rattle.equivalence.specs.Totals.{flag}
use Rattle.equivalence.proofs.Gathering.{filtered_below}
use Rattle.session.specs.Tables.{role_in}
use Rattle.session.proofs.Keeping.{numbered, sound_split}
use Rattle.session.proofs.Splits.{none_leaves, heads_stay, in_two}
use Rattle.session.proofs.open.Open.split_role.Goals as goal

pub returns-in-None-clause-search : goal.returns-in-None-clause-search
returns-in-None-clause-search g c =
    let s = c.args.self.now in
    none_leaves g.M.Measure.ops g.met.M.Measure.lawful (g.N.Readable.meaning s.network) s.table s.sound.entries c.args.part c.args.toward c.requires.part c.requires.toward (flag c.leaving-leaving.result) (c.leaving-leaving.ensures _ c.requires.listed) c.in-None.ensures

pub split-requires-clause-stay : goal.split-requires-clause-stay
split-requires-clause-stay g c =
    let s = c.args.self.now in
    heads_stay g.M.Measure.ops g.met.M.Measure.lawful (g.N.Readable.meaning s.network) s.table s.sound.entries c.args.part c.args.toward c.requires.part c.requires.toward (flag c.leaving-leaving.result) (c.leaving-leaving.ensures _ c.requires.listed)

-- there are no more splits than nodes
pub split-requires-clause-few : goal.split-requires-clause-few
split-requires-clause-few g c =
    let s = c.args.self.now in
    omega (arith, s.sound.counted, numbered s.table (g.N.Readable.meaning s.network).nodes s.sound.entries, s.table.recorded.packed, s.table.recorded.few)

pub invariant_of-self : goal.invariant_of-self
invariant_of-self g c =
    let s = c.args.self.now in
    let goes = c.in-Some.ensures in
    record {
      sound = sound_split c.split.new.self g.M.Measure.ops (g.N.Readable.meaning s.network) g.met.M.Measure.lawful s.table c.args.part c.args.toward c.in-Some.fresh (c.split.ensures.nodes ∙ s.sound.entries) s.sound
          (in_two g.M.Measure.ops g.met.M.Measure.lawful (g.N.Readable.meaning s.network) s.table s.sound.entries c.args.part c.args.toward c.requires.part c.requires.toward (flag c.leaving-leaving.result) (c.leaving-leaving.ensures _ c.requires.listed)
          c.in-Some.fresh goes.0 goes.1 goes.2 c.split.new.self c.split.ensures.heads c.split.ensures.colours c.split.ensures.splits);
    }

pub leaving-leaving-requires-clause-nodes : goal.leaving-leaving-requires-clause-nodes
leaving-leaving-requires-clause-nodes g c = rw c.requires.listed (filtered_below (members (role_in c.args.self.now.table) (role_in c.args.self.now.table c.args.toward)) (g.N.Readable.meaning c.args.self.now.network).nodes)

pub returns-in-Some-clause-search : goal.returns-in-Some-clause-search
returns-in-Some-clause-search g c =
    let s = c.args.self.now in
    let goes = c.in-Some.ensures in
    in_two g.M.Measure.ops g.met.M.Measure.lawful (g.N.Readable.meaning s.network) s.table s.sound.entries c.args.part c.args.toward c.requires.part c.requires.toward (flag c.leaving-leaving.result) (c.leaving-leaving.ensures _ c.requires.listed)
    c.in-Some.fresh goes.0 goes.1 goes.2 c.split.new.self c.split.ensures.heads c.split.ensures.colours c.split.ensures.splits
