use Rattle.manual.proofs.EndQuestions.{asks_bundles}
use Rattle.manual.proofs.asking.BundlesAsks.question.Goals as goal

pub returns-clause-means : goal.returns-clause-means
returns-clause-means c = asks_bundles _ c.toward_those_without.ensures.claims
