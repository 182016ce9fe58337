use Rattle.std.proofs.Common.{◌≤◌, rules}
use Rattle.measure.specs.Tally.{tally}
use Rattle.equivalence.specs.Regular.{Regular}
use Rattle.equivalence.specs.Equitable.{Equitable}
use Rattle.equivalence.specs.Vetted.{table_of}
use Rattle.equivalence.proofs.Verdicts.{yes_in_words}
use Rattle.equivalence.proofs.EquitablePartition.{regular_under_tally, true_counts}
use Rattle.equivalence.proofs.classical.TallyClassical.vet.Goals as goal

pub returns-clause-classical : goal.returns-clause-classical
returns-clause-classical g c =
    let m = g.N.Readable.meaning c.args.network.now in
    let table = c.args.table.now in
    let few : m.nodes ≤ 128 = search rules in
    yes_in_words m table _ (Regular tally m) (Equitable m) (regular_under_tally m (table_of table) few) c.vet.ensures.yes_when

pub returns-clause-theorem : goal.returns-clause-theorem
returns-clause-theorem g c = regular_under_tally

pub returns-clause-counts : goal.returns-clause-counts
returns-clause-counts g c = true_counts
