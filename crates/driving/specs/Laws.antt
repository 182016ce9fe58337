-- What holds in every run, at each of its moments: moment k is before call k.
--
--   restarts     the reply accepts a put or a colour, so that the table is back at the starting classes
--   is_quiet     the reply leaves the table as it is
--   Still        from moment i to moment k every reply is quiet
--   Told         this call is replied to so, and from moment i to it every reply is quiet
--   Rests        from moment i to moment k, no put and no colour is accepted
--   Finds        behind call j the table is the coarsest: it is a settle, or a step that says stable
--   Holds        what holds in a run
--   RunLaws      so it is in every run
use Rattle.std.specs.Borrow.{Bor}
use Rattle.std.specs.Prelude.{◌≡◌, ◌⊎◌, ℕ, ◌+◌, ◌<◌, ◌≤◌, Bool, true, false, not, cond, List, length, slice_index, Ok}
use Rattle.network.specs.Meaning.{Meaning}
use Rattle.measure.specs.Measures.{Operations}
use Rattle.question.specs.Areas.{NodesAnswered}
use Rattle.question.specs.Truth.{answer, each_node}
use Rattle.question.specs.declared.line.Line.{Line}
use Rattle.session.specs.States.{KeepsHeads, role, role_count}
use Rattle.session.specs.declared.step.Step.TheVariants.{Stable, Split}
use Rattle.driving.specs.Courses.{course_before}
use Rattle.driving.specs.Promise.{AnsweredByBook, At, Promise, RunTo}
use Rattle.driving.specs.Turns.{told}
use Rattle.driving.specs.declared.call.Call.{Call}
use Rattle.driving.specs.declared.call.Exchange.{Exchange}
use Rattle.driving.specs.declared.call.Move.{Move}
use Rattle.driving.specs.declared.call.Reply.{Reply}
use Rattle.driving.specs.declared.call.Reply.TheVariants as replies
use Rattle.driving.specs.declared.call.Tell.{Tell}
use Rattle.driving.specs.declared.call.Write.{Write}

abbrev pub restarts : Reply → Bool
restarts (replies.Put (Ok _)) = true
restarts (replies.Colour (Ok _)) = true
restarts other = false

abbrev pub is_quiet : Reply → Bool
is_quiet (replies.Step (Split part toward fresh)) = false
is_quiet replies.Settled = false
is_quiet other = not (restarts other)

module _ (given done : List Exchange) where
  abbrev pub Still : ℕ → ℕ → Type 0
  Still i k = (i ≤ k) × ((j : ℕ) (d : Exchange) → i ≤ j → j < k → At done j d → is_quiet d.reply ≡ true)

  abbrev pub Told : ℕ → Call → Reply → Type 0
  Told i call reply = (k : ℕ) × (e : Exchange) × (d : Exchange) × Still i k × At given k e × At done k d × (e.call ≡ call) × (d.reply ≡ reply)

  abbrev pub Rests : ℕ → ℕ → Type 0
  Rests i k = (i ≤ k) × ((j : ℕ) (d : Exchange) → i ≤ j → j < k → At done j d → restarts d.reply ≡ false)

  abbrev pub Finds : ℕ → Type 0
  Finds j = (e : Exchange) × (d : Exchange) × At given j e × At done j d × ((e.call ≡ Call.Move Move.Settle) ⊎ (d.reply ≡ Reply.Step Stable))

module _ {V : Type 0} (o : Operations V) where
  pub record Holds (m : Meaning) (given done : List Exchange) (run : RunTo o m given done (length given)) : Type 0 where
    -- a settled session keeps the promise
    pub settled : (k : ℕ) → k ≤ length given → (course_before m given k).settled ≡ true → Promise o (course_before m given k).book (run.state k)
    -- so does any session from a settle or a step that says stable on, until a put or a colour is accepted
    pub found : (j k : ℕ) → k ≤ length given → Finds given done j → Rests given done (j + 1) k → Promise o (course_before m given k).book (run.state k)
    -- a put and a colour that are taken are answered as the book answers them
    pub edits : AnsweredByBook m given done
    -- what is told until the table is altered is told of one table
    pub tells : (i : ℕ) (tell : Tell) (r : Reply) → i ≤ length given → Told given done i (Call.Tell tell) r → r ≡ told (run.state i) tell
    -- each head stays a head until a put or a colour is accepted
    pub heads : (i k : ℕ) → k ≤ length given → Rests given done i k → KeepsHeads (run.state i) (run.state k)
    -- each row that a look leaves has for each node what its line is true of on the network of the book
    pub looks : (k : ℕ) (e d : Exchange) (q : Bor (List Line)) (start : ℕ)
        → At given k e → At done k d → e.call ≡ Call.Write (Write.Look q) → d.reply ≡ Reply.Look (Ok start)
        → let book = (course_before m given k).book in NodesAnswered o book.network book.colours q.now (λ x. x) book.network.nodes start d.area.now
    -- and each row that an ask leaves has that for a node at the node's role
    pub asks : (k : ℕ) (e d : Exchange) (q : Bor (List Line)) (start : ℕ)
        → At given k e → At done k d → e.call ≡ Call.Write (Write.Ask q) → d.reply ≡ Reply.Ask (Ok start)
        → let book = (course_before m given k).book in NodesAnswered o book.network book.colours q.now (role (run.state k)) (role_count (run.state k)) start d.area.now
    -- so at the role that a node is told to have, the last row has the answer for the node
    pub answers : (i k : ℕ) (e d : Exchange) (q : Bor (List Line)) (start x r : ℕ)
        → Still given done i k → At given k e → At done k d → e.call ≡ Call.Write (Write.Ask q) → d.reply ≡ Reply.Ask (Ok start)
        → Told given done i (Call.Tell (Tell.RoleOf x)) (Reply.RoleOf (Ok r))
        → let book = (course_before m given k).book in slice_index d.area.now (start + r) ≡ cond (answer o book.network book.colours each_node q.now x) 1 0

  abbrev pub RunLaws : Type 0
  RunLaws = (m : Meaning) (given done : List Exchange) (run : RunTo o m given done (length given)) → Holds m given done run
