use Rattle.std.proofs.Common.{◌≡◌, drop}
use Rattle.manual.specs.Drawing.{drawn_from}
use Rattle.manual.proofs.drawing.tied.Given as goal

-- what is left to draw gives what the whole gives
abbrev pub invariant-loop-i : goal.invariant-loop-i
invariant-loop-i g l = drawn_from (g.N.Readable.meaning l.network) (drop l.i-index l.ties) ≡ drawn_from (g.N.Readable.meaning l.initial.network) l.ties
