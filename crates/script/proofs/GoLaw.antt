-- What each GO of a script prints.
use Rattle.std.proofs.Common.{◌≡◌, ℕ, List, [], fold, Ok, subst, rules}
use Rattle.script.specs.BooksLaw.{Story, asked}
use Rattle.script.specs.GoLaw.{Answered, GoLaw}
use Rattle.script.specs.Listed.{ListedBy}
use Rattle.script.specs.Records.{Said}
use Rattle.script.specs.Stages.{Outcome, Phase, does, outcome}
use Rattle.script.specs.Transcripts.{blank, play}
use Rattle.script.specs.Works.{go_by}
use Rattle.script.proofs.BooksLaw.{books_law}
use Rattle.script.proofs.Listed.{go_listed_by}

-- an accepted outcome has what it prints
printed : (p : Phase) (next : Phase × List ℕ) (bytes : List ℕ) → ◌≡◌ {A = Outcome} (Ok (p, bytes)) (Ok next) → bytes ≡ next.1
printed p next bytes e = search rules

at_phase : (rs : List (List ℕ)) (phase : Phase) (next : Phase × List ℕ) → Story rs phase → does phase Said.Go ≡ Ok next → Answered rs next.1
at_phase rs Phase.Network next story e = absurd (search rules)
at_phase rs (Phase.Measure m) next story e = absurd (search rules)
at_phase rs (Phase.Work by book lines) next story e =
    record {
      network = story.network;
      behind = story.behind;
      by = by;
      since = story.since;
      named = story.named;
      chosen = story.chosen;
      listed =
          subst (λ b. ListedBy by b (asked story.since) next.1) story.kept
          (subst (λ ls. ListedBy by book ls next.1) story.question
          (subst (λ bytes. ListedBy by book lines bytes) (printed (Phase.Work by book []) next (go_by by book lines) e) (go_listed_by by book lines)));
    }

pub go_law : GoLaw
go_law = record { answered = λ rs line next says e. at_phase rs (fold play blank rs).phase next (books_law.books rs) (rw (outcome, says) at e) }
