use Rattle.manual.proofs.EndQuestions.{asks_kinds}
use Rattle.manual.proofs.asking.KindsAsks.question.Goals as goal

pub returns-clause-means : goal.returns-clause-means
returns-clause-means c = asks_kinds _ c.toward_those_without.ensures.claims
