use Rattle.std.proofs.Common.{rules}
use Rattle.script.proofs.Drafts.{passes_more}
use Rattle.script.proofs.draft.Draft.add.Goals as goal

pub invariant_of-self : goal.invariant_of-self
invariant_of-self c = record { passes = search (rules, passes_more 0 c.args.self.now.lines.items c.args.line c.args.self.now.passes) }
