-- The promise: of a settled session, and of a list of calls.
--
-- A reader needs, in this order: what a network means (Meaning) and when a put is refused (Put), of `network`; what a
-- measure is (Measures); totals, regular, heads, starting classes and the coarsest table (Totals, Regular, Heads,
-- Starting, Vetted, Coarsest), of `equivalence`; when a question is answered, what it is true of and where its rows
-- stand (Lines, Checks, Truth, Areas), of `question`; what a session holds, how it begins and ends, and where it
-- answers (States, Sessions, Questions); the book, and what each call does
-- (Book, Courses, Turns), here.
--
--   Promise         a session has the ties and colours of the book and the coarsest table, and its roles answer as the network does
--   At              the exchange at place k of a list
--   AnsweredByBook  each put and colour that is taken is accepted, or refused with its number, as the book of the moment answers it
--   KeepsCall       an exchange that is done still has its call, and is lent the same area
--   RunTo           what the first n calls of a list do, one after another, from the making on
--   Driven          what all of them do, and then a settle
use Rattle.std.specs.Prelude.{◌≡◌, ℕ, ◌+◌, ◌<◌, ◌≤◌, true, false, List, length, slice_get, slice_index, Ok, Some}
use Rattle.network.specs.Meaning.{Meaning}
use Rattle.measure.specs.Measures.{Operations}
use Rattle.equivalence.specs.Coarsest.{Coarsest}
use Rattle.question.specs.declared.line.Line.{Line}
use Rattle.session.specs.States.{State, IsSound, classes, role}
use Rattle.session.specs.Questions.{look_answer, ask_answer, after_look, after_ask, AnswersNodes, AnswersRoles}
use Rattle.session.specs.Sessions.{Begun, Ended}
use Rattle.driving.specs.Book.{Book, book_in}
use Rattle.driving.specs.Courses.{course_before}
use Rattle.driving.specs.Turns.{Turn, edit_reply}
use Rattle.driving.specs.declared.call.Call.{Call}
use Rattle.driving.specs.declared.call.Edit.{Edit}
use Rattle.driving.specs.declared.call.Exchange.{Exchange}

pub record Promise {V : Type 0} (o : Operations V) (book : Book) (s : State) : Type 0 where
  -- ties and colours are the book's
  pub ties : s.network ≡ book.network
  pub colours : s.colours ≡ book.colours
  -- the table is regular and within the starting classes, and every other such table refines it
  pub coarsest : Coarsest o s.network (classes s) (role s)
  -- a question that is answered has, in the last row of ask, at a node's role what it has in the last row of look at the node
  pub answers :
      (lines : List Line) (asked looked : List ℕ) (i j x : ℕ)
      → ask_answer s lines asked ≡ Ok i
      → look_answer s lines looked ≡ Ok j
      → x < s.network.nodes
      → slice_index (after_ask o s lines asked) (i + role s x) ≡ slice_index (after_look o s lines looked) (j + x)
  -- and in each row, that is what its line is true of on the network
  pub looks : (lines : List Line) (area : List ℕ) (j : ℕ) → look_answer s lines area ≡ Ok j → AnswersNodes o s lines j (after_look o s lines area)
  pub asks : (lines : List Line) (area : List ℕ) (i : ℕ) → ask_answer s lines area ≡ Ok i → AnswersRoles o s lines i (after_ask o s lines area)

abbrev pub At : List Exchange → ℕ → Exchange → Type 0
At exchanges k e = slice_get exchanges k ≡ Some e

abbrev pub AnsweredByBook : Meaning → List Exchange → List Exchange → Type 0
AnsweredByBook m given done =
    (k : ℕ) (e d : Exchange) (edit : Edit)
    → At given k e
    → At done k d
    → e.call ≡ Call.Edit edit
    → (course_before m given k).settled ≡ false
    → d.reply ≡ edit_reply (course_before m given k).book edit

pub record KeepsCall (given done : Exchange) : Type 0 where
  pub call : done.call ≡ given.call
  pub area : done.area.ghost_name ≡ given.area.ghost_name

-- given: the exchanges before the calls, done: after the first n of them
pub record RunTo {V : Type 0} (o : Operations V) (m : Meaning) (given done : List Exchange) (n : ℕ) : Type 0 where
  pub one_each : length done ≡ length given
  pub keeps : (k : ℕ) (e d : Exchange) → At given k e → At done k d → KeepsCall e d
  -- the state before call k
  pub state : ℕ → State
  pub begun : Begun m (λ _. 0) (state 0)
  -- call k takes it to the next
  pub turn : (k : ℕ) (e d : Exchange) → k < n → At given k e → At done k d → Turn o (course_before m given k).settled e.call (state k) (state (k + 1)) e.area.now d.reply d.area.now
  -- ties and colours are those of the book of the moment, whatever was refused
  pub book : (k : ℕ) → k ≤ n → book_in (state k) ≡ (course_before m given k).book
  -- and each state is one that a session can be in
  pub sound : (k : ℕ) → k ≤ n → IsSound o (state k)

-- s: the state of the session that is given back
pub record Driven {V : Type 0} (o : Operations V) (m : Meaning) (given done : List Exchange) (s : State) : Type 0 where
  pub run : RunTo o m given done (length given)
  pub sound : IsSound o s
  -- a session that was settled already is the one that is given back, and one that was open is settled
  pub settled : (course_before m given (length given)).settled ≡ true → s ≡ run.state (length given)
  pub ended : (course_before m given (length given)).settled ≡ false → Ended o (run.state (length given)) s
