use Rattle.manual.proofs.EndQuestions.{asks_tally}
use Rattle.manual.proofs.asking.TallyAsks.question.Goals as goal

pub returns-clause-means : goal.returns-clause-means
returns-clause-means c = asks_tally _ c.toward_those_without.ensures.claims
