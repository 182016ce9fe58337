-- Which records are accepted, and why the others are refused.
--
--   Answer        accepted, or the reason
--   held          the answer of a part below, with its fault held whole
--   sized         before the work: a network by its number of nodes, and a list by its slots too, and every other record is accepted
--   verdict       at the work: a put, a colour and a question line by a book and the question so far, and every other record is accepted
--   Judged        by the book of the edits since, and the lines that were accepted since the last GO
--   phase_behind  the phase that the records lead to
--   VerdictLaw    so is each record that belongs to its stage
use Rattle.std.specs.Prelude.{◌≡◌, ℕ, ◌+◌, true, false, cond, ◌&&◌, nat_le, nat_lt, List, fold, Result, Ok, Err}
use Rattle.network.specs.Meaning.{Meaning}
use Rattle.network.specs.Put.{put_answer}
use Rattle.network.specs.declared.faults.Fault.TheVariants.{Memory, Size}
use Rattle.question.specs.declared.line.Line.{Line}
use Rattle.session.specs.Sessions.{colour_answer}
use Rattle.driving.specs.Book.{Book}
use Rattle.script.specs.BooksLaw.{Chooses, First, Names, asked, fed}
use Rattle.script.specs.Drafts.{add_answer}
use Rattle.script.specs.Records.{Said, parse}
use Rattle.script.specs.RefusedLaw.{at_work, belongs}
use Rattle.script.specs.Stages.{Phase, answer_in, outcome}
use Rattle.script.specs.Transcripts.{blank, play}
use Rattle.script.specs.Works.{Chosen}
use Rattle.script.specs.declared.faults.Reason.{Reason}

abbrev pub Answer : Type 0
Answer = Result (Unit {0}) Reason

abbrev pub held : {F : Type 0} → (F → Reason) → Result (Unit {0}) F → Answer
held reason answer = elim answer [ Ok _ ↦ Ok tt | Err f ↦ Err (reason f) ]

abbrev pub sized : Said → Answer
sized (Said.Matrix n) = cond (nat_lt 0 n && nat_le n 128) (Ok tt) (Err (Reason.Network Size))
sized (Said.TwoMode a b) = cond (nat_lt 0 a && (nat_lt 0 b && nat_le (a + b) 128)) (Ok tt) (Err (Reason.Network Size))
sized (Said.Slots n s) =
    cond (nat_lt 0 n && nat_le n 128) (cond (nat_lt 0 s && nat_le s 1024) (Ok tt) (Err (Reason.Network Memory))) (Err (Reason.Network Size))
sized other = Ok tt

abbrev pub verdict : Book → List Line → Said → Answer
verdict book lines (Said.Put i j b) = held Reason.Network (put_answer book.network i j b)
verdict book lines (Said.Colour i c) = held Reason.Session (colour_answer book.network.nodes i)
verdict book lines (Said.Question line) = held Reason.Question (add_answer lines line)
verdict book lines other = Ok tt

-- behind these records
pub record Judged (rs : List (List ℕ)) (said : Said) (answer : Answer) : Type 0 where
  pub network : Meaning
  pub behind : List (List ℕ)
  pub by : Chosen
  pub since : List (List ℕ)
  pub named : First Names rs network behind
  pub chosen : First Chooses behind by since
  pub judged : answer ≡ verdict (fed network since) (asked since) said

abbrev pub phase_behind : List (List ℕ) → Phase
phase_behind rs = (fold play blank rs).phase

pub record VerdictLaw : Type 0 where
  pub before : (rs : List (List ℕ)) (line : List ℕ) (said : Said) → parse line ≡ Ok said → belongs said (phase_behind rs) ≡ true → at_work (phase_behind rs) ≡ false → answer_in (outcome (phase_behind rs) line) ≡ sized said
  pub work : (rs : List (List ℕ)) (line : List ℕ) (said : Said) → parse line ≡ Ok said → belongs said (phase_behind rs) ≡ true → at_work (phase_behind rs) ≡ true → Judged rs said (answer_in (outcome (phase_behind rs) line))
