-- What each GO of a script prints.
--
--   Answered    of the network that was named and the measure that was chosen, and of the book fed the edits since: its coarsest table, and the nodes that the question since is true of
--   GoLaw       so it is at each GO that is accepted
use Rattle.std.specs.Prelude.{◌≡◌, ℕ, List, fold, Ok}
use Rattle.network.specs.Meaning.{Meaning}
use Rattle.script.specs.BooksLaw.{Chooses, First, Names, asked, fed}
use Rattle.script.specs.Listed.{ListedBy}
use Rattle.script.specs.Records.{Said, parse}
use Rattle.script.specs.Stages.{Phase, outcome}
use Rattle.script.specs.Transcripts.{blank, play}
use Rattle.script.specs.Works.{Chosen}

-- behind these records, this is printed
pub record Answered (rs : List (List ℕ)) (printed : List ℕ) : Type 0 where
  pub network : Meaning
  pub behind : List (List ℕ)
  pub by : Chosen
  pub since : List (List ℕ)
  pub named : First Names rs network behind
  pub chosen : First Chooses behind by since
  pub listed : ListedBy by (fed network since) (asked since) printed

pub record GoLaw : Type 0 where
  pub answered : (rs : List (List ℕ)) (line : List ℕ) (next : Phase × List ℕ) → parse line ≡ Ok Said.Go → outcome (fold play blank rs).phase line ≡ Ok next → Answered rs next.1
