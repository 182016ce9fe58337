use Rattle.std.proofs.Common.{◌≡◌, ◌∙◌, ◌<◌, ap, refl, length, rules, arith}
use Rattle.equivalence.specs.Vetted.{table_of}
use Rattle.session.specs.Sessions.{colours_after}
use Rattle.session.specs.Tables.{colour_in}
use Rattle.session.proofs.Keeping.{begun, coloured, sound_begun}
use Rattle.session.proofs.open.Open.colour.Goals as goal

pub invariant_of-self : goal.invariant_of-self
invariant_of-self g c = record { sound = sound_begun c.colour.new.self g.M.Measure.ops (g.N.Readable.meaning c.args.self.now.network) c.colour.ensures.start }

pub returns-clause-edited : goal.returns-clause-edited
returns-clause-edited g c =
    let s = c.args.self.now in
    let m = g.N.Readable.meaning s.network in
    let node : c.args.i < m.nodes = omega (arith, c.nodes.ensures, c.if-i-nodes.false, s.sound.entries) in
    let long : length s.table.colours ≡ 128 = search rules in
    let after : colour_in c.colour.new.self ≡ colours_after m.nodes (colour_in s.table) c.args.i c.args.c = ap table_of c.colour.ensures.colours ∙ coloured m.nodes s.table.colours c.args.i c.args.c node (omega (arith, s.sound.few, long)) in
    record {
      network = refl;
      colours = after;
      accepted = begun m c.colour.new.self c.colour.ensures.start (colours_after m.nodes (colour_in s.table) c.args.i c.args.c) after;
      refused = tt;
    }
