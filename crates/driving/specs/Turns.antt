-- What a call does, by its kind: what it replies, what its area then holds, and what it makes of the session's state.
--
--   edit_reply   what an edit replies, by the book
--   Edits        an edit, from state s to state t
--   Moves        a call that moves the session on
--   wrote        what a call that writes replies, and what the area then holds
--   told         what a call that tells replies
--   Does         what a call does that is taken
--   Turn         the same of any call; one that is not taken leaves area and state as they are
use Rattle.std.specs.Prelude.{◌≡◌, ◌↔◌, ℕ, Bool, List, MatchBool}
use Rattle.network.specs.Put.{put_answer, put_after}
use Rattle.measure.specs.Measures.{Operations}
use Rattle.equivalence.specs.Regular.{Regular}
use Rattle.session.specs.Questions.{look_answer, ask_answer, after_look, after_ask}
use Rattle.session.specs.Sessions.{Edited, Ended, colour_answer, colours_after}
use Rattle.session.specs.States.{State, role, role_count}
use Rattle.session.specs.Steps.{Stepped}
use Rattle.session.specs.Tellings.{role_answer, record_answer}
use Rattle.session.specs.declared.step.Step as step
use Rattle.driving.specs.Book.{Book, book_in}
use Rattle.driving.specs.Courses.{takes}
use Rattle.driving.specs.declared.call.Call.{Call}
use Rattle.driving.specs.declared.call.Call.TheVariants as calls
use Rattle.driving.specs.declared.call.Edit.{Edit}
use Rattle.driving.specs.declared.call.Edit.TheVariants.{Put, Colour}
use Rattle.driving.specs.declared.call.Move.{Move}
use Rattle.driving.specs.declared.call.Move.TheVariants.{Step, Settle, Reopen}
use Rattle.driving.specs.declared.call.Write.{Write}
use Rattle.driving.specs.declared.call.Write.TheVariants.{Look, Ask}
use Rattle.driving.specs.declared.call.Tell.{Tell}
use Rattle.driving.specs.declared.call.Tell.TheVariants.{Roles, Splits, RoleOf, Role}
use Rattle.driving.specs.declared.call.Reply.{Reply}
use Rattle.driving.specs.declared.call.Reply.TheVariants as replies

abbrev pub edit_reply : Book → Edit → Reply
edit_reply book (Put i j b) = Reply.Put (put_answer book.network i j b)
edit_reply book (Colour i c) = Reply.Colour (colour_answer book.network.nodes i)

abbrev pub Edits : Edit → State → State → Reply → Type 0
Edits (Put i j b) s t reply =
    (reply ≡ edit_reply (book_in s) (Put i j b)) × Edited (put_answer s.network i j b) (put_after s.network i j b) s.colours s t
Edits (Colour i c) s t reply =
    (reply ≡ edit_reply (book_in s) (Colour i c)) × Edited (colour_answer s.network.nodes i) s.network (colours_after s.network.nodes s.colours i c) s t

abbrev pub told : State → Tell → Reply
told s Roles = Reply.Roles (role_count s)
told s Splits = Reply.Splits s.splits
told s (RoleOf x) = Reply.RoleOf (role_answer s x)
told s (Role r) = Reply.Role (record_answer s r)

module _ {V : Type 0} (o : Operations V) where
  abbrev pub Moves : Move → State → State → Reply → Type 0
  Moves Step s t (replies.Step did) = ((did ≡ step.Step.Stable) ↔ Regular o s.network (role s)) × Stepped o s t did
  Moves Step s t other = ⊥
  Moves Settle s t reply = (reply ≡ Reply.Settled) × Ended o s t
  Moves Reopen s t reply = (reply ≡ Reply.Reopened) × (t ≡ s)

  abbrev pub wrote : State → Write → List ℕ → Reply × List ℕ
  wrote s (Look q) area = (Reply.Look (look_answer s q.now area), after_look o s q.now area)
  wrote s (Ask q) area = (Reply.Ask (ask_answer s q.now area), after_ask o s q.now area)

  abbrev pub Does : Call → State → State → List ℕ → Reply → List ℕ → Type 0
  Does (calls.Edit e) s t area reply after = Edits e s t reply × (after ≡ area)
  Does (calls.Move m) s t area reply after = Moves m s t reply × (after ≡ area)
  Does (calls.Write w) s t area reply after = (reply ≡ (wrote s w area).0) × (after ≡ (wrote s w area).1) × (t ≡ s)
  Does (calls.Tell q) s t area reply after = (reply ≡ told s q) × (after ≡ area) × (t ≡ s)

  abbrev pub Turn : Bool → Call → State → State → List ℕ → Reply → List ℕ → Type 0
  Turn settled call s t area reply after =
      MatchBool (takes settled call) (Does call s t area reply after) ((reply ≡ Reply.NotTaken) × (after ≡ area) × (t ≡ s))
