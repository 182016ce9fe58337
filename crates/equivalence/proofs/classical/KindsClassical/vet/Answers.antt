use Rattle.measure.specs.Kinds.{kinds}
use Rattle.equivalence.specs.Regular.{Regular}
use Rattle.equivalence.specs.Classical.{RegularInEach}
use Rattle.equivalence.specs.Vetted.{table_of}
use Rattle.equivalence.proofs.Verdicts.{yes_in_words}
use Rattle.equivalence.proofs.RegularEquivalence.{regular_under_kinds}
use Rattle.equivalence.proofs.classical.KindsClassical.vet.Goals as goal

pub returns-clause-classical : goal.returns-clause-classical
returns-clause-classical g c =
    let m = g.N.Readable.meaning c.args.network.now in
    let table = c.args.table.now in
    yes_in_words m table _ (Regular kinds m) (RegularInEach m) (regular_under_kinds m (table_of table)) c.vet.ensures.yes_when

pub returns-clause-theorem : goal.returns-clause-theorem
returns-clause-theorem g c = regular_under_kinds
