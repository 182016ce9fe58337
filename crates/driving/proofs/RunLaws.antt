-- What holds in every run.
use Rattle.std.specs.Borrow.{Bor}
use Rattle.std.proofs.Common.{rules, ◌≡◌, ℕ, ◌+◌, ◌<◌, ◌≤◌, Bool, true, false, cond, ltb, List, length, slice_index, Result, Ok, Err, refl, sym, ap, subst, ◌∙◌, arith}
use Rattle.std.proofs.lemmas.Bool.Decides.{nat_tests}
use Rattle.std.proofs.lemmas.Option.{slice_get_within}
use Rattle.network.specs.Meaning.{Meaning}
use Rattle.measure.specs.Measures.{Operations, Laws}
use Rattle.question.specs.Areas.{NodesAnswered}
use Rattle.question.specs.declared.line.Line.{Line}
use Rattle.session.specs.Questions.{AnswersNodes, AnswersRoles, ask_answer, look_answer}
use Rattle.session.specs.States.{State, role, role_count}
use Rattle.session.specs.Tellings.{role_answer}
use Rattle.session.specs.declared.faults.Fault.{Fault}
use Rattle.session.proofs.Asked.{look_answers, ask_answers}
use Rattle.driving.specs.Book.{Book, book_in}
use Rattle.driving.specs.Courses.{Course, course_before}
use Rattle.driving.specs.Laws.{Told, Holds, RunLaws}
use Rattle.driving.specs.Promise.{At, RunTo}
use Rattle.driving.specs.Turns.{Edits, Turn, edit_reply, told}
use Rattle.driving.specs.declared.call.Call.{Call}
use Rattle.driving.specs.declared.call.Edit.{Edit}
use Rattle.driving.specs.declared.call.Edit.TheVariants.{Put, Colour}
use Rattle.driving.specs.declared.call.Exchange.{Exchange}
use Rattle.driving.specs.declared.call.Reply.{Reply}
use Rattle.driving.specs.declared.call.Tell.{Tell}
use Rattle.driving.specs.declared.call.Write.{Write}
use Rattle.driving.proofs.Moments.{turn_at, settled_best, found_best, still_same, rests_heads}
use Rattle.driving.proofs.Promised.{promised}

-- of a reply that is a number or a refusal
pub accepted_in : {X F : Type 0} (b : Bool) (v w : X) (f : F) → ◌≡◌ {A = Result X F} (Ok w) (cond b (Ok v) (Err f)) → (b ≡ true) × (w ≡ v)
accepted_in true v w f e = (refl, search rules)
accepted_in false v w f e = absurd (search rules)

edit_told : (c : Edit) (s t : State) (r : Reply) → Edits c s t r → r ≡ edit_reply (book_in s) c
edit_told (Put i j b) s t r did = did.0
edit_told (Colour i c) s t r did = did.0

module _ {V : Type 0} (o : Operations V) (q : Bor (List Line)) (s t : State) (area : List ℕ) (r : Reply) (after : List ℕ) (start : ℕ) where
  -- an ask that starts somewhere was taken, and its question passed
  ask_passed : (b : Bool) → r ≡ Reply.Ask (Ok start) → Turn o b (Call.Write (Write.Ask q)) s t area r after → (b ≡ true) × (ask_answer s q.now area ≡ Ok start)
  ask_passed true e turn = (refl, let is : ◌≡◌ {A = Reply} (Reply.Ask (ask_answer s q.now area)) (Reply.Ask (Ok start)) = sym turn.0 ∙ e in search rules)
  ask_passed false e turn = let is : ◌≡◌ {A = Reply} Reply.NotTaken (Reply.Ask (Ok start)) = sym turn.0 ∙ e in absurd (search rules)

module _ {V : Type 0} (o : Operations V) (laws : Laws o) (m : Meaning) (given done : List Exchange) (run : RunTo o m given done (length given)) where
  abbrev then : ℕ → State
  then = run.state

  abbrev course : ℕ → Course
  course = course_before m given

  turn_of : (k : ℕ) (e d : Exchange) (call : Call) → At given k e → At done k d → e.call ≡ call → Turn o (course k).settled call (then k) (then (k + 1)) e.area.now d.reply d.area.now
  turn_of k e d call here there is = subst (λ c. Turn o (course k).settled c (then k) (then (k + 1)) e.area.now d.reply d.area.now) is (turn_at o m given done run k e d here there)

  told_by : (i : ℕ) (tell : Tell) (r : Reply) → i ≤ length given → Told given done i (Call.Tell tell) r → r ≡ told (then i) tell
  told_by i tell r within (k, e, d, still, here, there, is, replied) =
      let l : k ≤ length given = omega (arith, slice_get_within given k e here) in
      sym replied ∙ (turn_of k e d (Call.Tell tell) here there is).0 ∙ ap (λ s. told s tell) (still_same o m given done run i k l still)

  look_rows : (k : ℕ) (e d : Exchange) (q : Bor (List Line)) (start : ℕ) → At given k e → At done k d → e.call ≡ Call.Write (Write.Look q) → d.reply ≡ Reply.Look (Ok start) → NodesAnswered o (course k).book.network (course k).book.colours q.now (λ x. x) (course k).book.network.nodes start d.area.now
  look_rows k e d q start here there looks replied =
      let l : k ≤ length given = omega (arith, slice_get_within given k e here) in
      let turn = turn_of k e d (Call.Write (Write.Look q)) here there looks in
      let is : ◌≡◌ {A = Reply} (Reply.Look (look_answer (then k) q.now e.area.now)) (Reply.Look (Ok start)) = sym turn.0 ∙ replied in
      subst (λ (b : Book). NodesAnswered o b.network b.colours q.now (λ x. x) b.network.nodes start d.area.now) (run.book k l)
      (subst (AnswersNodes o (then k) q.now start) (sym turn.1) (look_answers o (then k) q.now e.area.now start (search rules)))

  ask_rows : (k : ℕ) (e d : Exchange) (q : Bor (List Line)) (start : ℕ) → At given k e → At done k d → e.call ≡ Call.Write (Write.Ask q) → d.reply ≡ Reply.Ask (Ok start) → NodesAnswered o (course k).book.network (course k).book.colours q.now (role (then k)) (role_count (then k)) start d.area.now
  ask_rows k e d q start here there asks replied =
      let l : k ≤ length given = omega (arith, slice_get_within given k e here) in
      let (settled, passes) = ask_passed o q (then k) (then (k + 1)) e.area.now d.reply d.area.now start (course k).settled replied (turn_of k e d (Call.Write (Write.Ask q)) here there asks) in
      let turn = subst (λ b. Turn o b (Call.Write (Write.Ask q)) (then k) (then (k + 1)) e.area.now d.reply d.area.now) settled (turn_of k e d (Call.Write (Write.Ask q)) here there asks) in
      subst (λ (b : Book). NodesAnswered o b.network b.colours q.now (role (then k)) (role_count (then k)) start d.area.now) (run.book k l)
      (subst (AnswersRoles o (then k) q.now start) (sym turn.1)
      (ask_answers o (then k) q.now e.area.now start laws (run.sound k l) (settled_best o m given done run k l settled).regular passes))

  holds : Holds o m given done run
  holds =
      record {
        settled = λ k l e. promised o laws (then k) (run.sound k l) (settled_best o m given done run k l e) (course k).book (run.book k l);
        found = λ j k l finds rests. promised o laws (then k) (run.sound k l) (found_best o m given done run j k l finds rests) (course k).book (run.book k l);
        edits = λ k e d edit here there is taken.
            let l : k ≤ length given = omega (arith, slice_get_within given k e here) in
            let turn = subst (λ b. Turn o b (Call.Edit edit) (then k) (then (k + 1)) e.area.now d.reply d.area.now) taken (turn_of k e d (Call.Edit edit) here there is) in
            edit_told edit (then k) (then (k + 1)) d.reply turn.0 ∙ ap (λ b. edit_reply b edit) (run.book k l);
        tells = told_by;
        heads = rests_heads o m given done run laws;
        looks = look_rows;
        asks = ask_rows;
        answers = λ i k e d q start x r still here there asks replied of_node.
            let l : k ≤ length given = omega (arith, slice_get_within given k e here) in
            let same = still_same o m given done run i k l still in
            let is : ◌≡◌ {A = Reply} (Reply.RoleOf (Ok r)) (Reply.RoleOf (role_answer (then i) x)) = told_by i (Tell.RoleOf x) (Reply.RoleOf (Ok r)) (omega (arith, l, still.0)) of_node in
            let (known, here_is) = accepted_in (ltb x (then i).network.nodes) (role (then i) x) r Fault.Node (search rules) in
            let node : x < (then i).network.nodes = grind (arith, nat_tests) in
            let inside : x < (course k).book.network.nodes = subst (λ (b : Book). x < b.network.nodes) (run.book k l) (subst (λ s. x < s.network.nodes) (sym same) node) in
            ap (λ p. slice_index d.area.now (start + p)) (here_is ∙ ap (λ s. role s x) (sym same)) ∙ (ask_rows k e d q start here there asks replied).last x inside;
      }

pub run_laws : {V : Type 0} (o : Operations V) → Laws o → RunLaws o
run_laws o laws = holds o laws
