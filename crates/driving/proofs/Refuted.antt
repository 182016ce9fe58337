-- Runs that there are not: what they would tell is a lie.
use Rattle.std.specs.Borrow.{Bor}
use Rattle.std.proofs.Common.{◌∙◌, ◌≡◌, ℕ, ◌+◌, ◌*◌, ◌-◌, ◌<◌, ◌≤◌, true, false, ltb, List, [], ◌∷◌, length, slice_index, Ok, refl, ap, arith, rules, inl, inr}
use Rattle.std.proofs.lemmas.Bool.{cases_lt}
use Rattle.std.proofs.lemmas.Bool.Decides.{nat_tests}
use Rattle.network.specs.Meaning.{Meaning}
use Rattle.network.proofs.Counting.{count_below_le}
use Rattle.measure.specs.Measures.{Operations, Laws}
use Rattle.equivalence.specs.Heads.{is_head}
use Rattle.question.specs.Checks.{answer_start}
use Rattle.question.specs.declared.line.Line.{Line}
use Rattle.session.specs.States.{State, IsSound, record_of, role, role_count}
use Rattle.session.specs.Tellings.{role_answer, record_answer}
use Rattle.session.specs.declared.faults.Fault.{Fault}
use Rattle.session.specs.declared.role.Role as role_record
use Rattle.driving.specs.Book.{Book}
use Rattle.driving.specs.Promise.{At, RunTo}
use Rattle.driving.specs.declared.call.Call.{Call}
use Rattle.driving.specs.declared.call.Edit.{Edit}
use Rattle.driving.specs.declared.call.Move.{Move}
use Rattle.driving.specs.declared.call.Tell.{Tell}
use Rattle.driving.specs.declared.call.Write.{Write}
use Rattle.driving.specs.declared.call.Exchange.{Exchange}
use Rattle.driving.specs.declared.call.Reply.{Reply}
use Rattle.driving.proofs.Running.{at_some}
use Rattle.driving.proofs.RunLaws.{accepted_in, run_laws}

-- there are no more roles than nodes
roles_few : (s : State) → role_count s ≤ s.network.nodes
roles_few s = count_below_le (is_head (role s)) s.network.nodes

-- node 0 is of role 0
role_of_node_0 : {V : Type 0} {o : Operations V} (s : State) → IsSound o s → 0 < s.network.nodes → role s 0 ≡ 0
role_of_node_0 s sound some =
    let known = sound.ranged 0 some in
    elim (cases_lt 0 (role s 0)) [
      | inl above ↦ absurd ((sound.described (role s 0) known).lowest 0 (omega (arith, sound.ordered 0 (role s 0) above known)) refl)
      | inr past ↦ omega (arith, past)
    ]

told_role : (s : State) (x r : ℕ) → ◌≡◌ {A = Reply} (Reply.RoleOf (Ok r)) (Reply.RoleOf (role_answer s x)) → (x < s.network.nodes) × (r ≡ role s x)
told_role s x r is =
    let (known, same) = accepted_in (ltb x s.network.nodes) (role s x) r Fault.Node (search rules) in
    (grind (arith, nat_tests), same)

told_record : (s : State) (r : ℕ) (v : role_record.Role) → ◌≡◌ {A = Reply} (Reply.Role (Ok v)) (Reply.Role (record_answer s r)) → (r < role_count s) × (v ≡ record_of s r)
told_record s r v is =
    let (known, same) = accepted_in (ltb r (role_count s)) (record_of s r) v Fault.Role (search rules) in
    (grind (arith, nat_tests), same)

module _ {V : Type 0} (o : Operations V) (laws : Laws o) (m : Meaning) where
  -- on a network of one node, node 0 is not told role 1
  pub role_1_of_one_node : m.nodes ≡ 1 → (e d : Exchange) → e.call ≡ Call.Tell (Tell.RoleOf 0) → d.reply ≡ Reply.RoleOf (Ok 1) → RunTo o m (e ∷ []) (d ∷ []) 1 → ⊥
  role_1_of_one_node one e d asks told run =
      let s = run.state 0 in
      let is = (run_laws o laws m (e ∷ []) (d ∷ []) run).tells 0 (Tell.RoleOf 0) (Reply.RoleOf (Ok 1)) (omega arith) (0, e, d, (omega arith, λ j x a b. absurd (omega (arith, a, b))), refl, refl, asks, told) in
      let (node, here) = told_role s 0 1 is in
      let same : s.network.nodes ≡ m.nodes = ap (λ (m : Meaning). m.nodes) run.begun.network in
      omega (arith, here, (run.sound 0 (omega arith)).ranged 0 node, roles_few s, same, one)

  -- once node 0 has colour 7 and the session has settled, an ask for colour 7 does not leave 0 everywhere
  module _ (q : Bor (List Line)) (a b c d asked : Exchange) (done : List Exchange) where
    abbrev question : Bor (List Line)
    question = record q { now = record { code = 0; k = 0; l = 0; byte = 7 } ∷ [] }

    abbrev given : List Exchange
    given = record a { call = Call.Edit (Edit.Colour 0 7) } ∷ record b { call = Call.Move Move.Settle } ∷ record c { call = Call.Write (Write.Ask question) } ∷ record d { call = Call.Move Move.Reopen } ∷ []

    pub ask_misses_a_colour : 0 < m.nodes → m.nodes ≤ length c.area.now → At done 2 asked → ((p : ℕ) → slice_index asked.area.now p ≡ 0) → RunTo o m given done 4 → ⊥
    ask_misses_a_colour some room there zeros run =
        let s = run.state 2 in
        let width = role_count s in
        let same : s.network.nodes ≡ m.nodes = ap (λ (b : Book). b.network.nodes) (run.book 2 (omega arith)) in
        let fits : ltb (length c.area.now) (1 * width) ≡ false = grind (arith, nat_tests, roles_few s, same) in
        let passes : answer_start question.now width (length c.area.now) ≡ Ok (1 * width - width) = rw fits refl in
        let replied = (run.turn 2 (record c { call = Call.Write (Write.Ask question) }) asked (omega arith) refl there).0 ∙ ap (λ r. Reply.Ask r) passes in
        let law = (run_laws o laws m given done run).asks 2 (record c { call = Call.Write (Write.Ask question) }) asked question (1 * width - width) refl there refl replied in
        let first_node : ltb 0 m.nodes ≡ true = grind (arith, nat_tests) in
        let byte = rw first_node at (law.last 0 some) in
        omega (arith, byte, zeros (1 * width - width + role s 0))

  -- once node 0 has colour 7, role 0 is not told to have another head than node 0
  module _ (a b told : Exchange) (done : List Exchange) (v : role_record.Role) where
    abbrev coloured : List Exchange
    coloured = record a { call = Call.Edit (Edit.Colour 0 7) } ∷ record b { call = Call.Tell (Tell.Role 0) } ∷ []

    pub role_0_of_another_head : 0 < m.nodes → At done 1 told → told.reply ≡ Reply.Role (Ok v) → 0 < v.head → RunTo o m coloured done 2 → ⊥
    role_0_of_another_head some there tells other run =
        let s = run.state 1 in
        let (first_done, here) = at_some done 0 (omega (arith, run.one_each)) in
        let turn = run.turn 0 (record a { call = Call.Edit (Edit.Colour 0 7) }) first_done (omega arith) refl here in
        let same : (run.state 0).network.nodes ≡ m.nodes = ap (λ (m : Meaning). m.nodes) run.begun.network in
        let first_node : ltb 0 (run.state 0).network.nodes ≡ true = grind (arith, nat_tests, same) in
        let begun = (rw first_node at turn.0.1).accepted in
        let next : s.network.nodes ≡ m.nodes = ap (λ (m : Meaning). m.nodes) begun.network ∙ same in
        let is = (run_laws o laws m coloured done run).tells 1 (Tell.Role 0) (Reply.Role (Ok v)) (omega arith) (1, record b { call = Call.Tell (Tell.Role 0) }, told, (omega arith, λ j x c d. absurd (omega (arith, c, d))), refl, there, refl, tells) in
        let sound = run.sound 1 (omega arith) in
        let (known, here_is) = told_record s 0 v is in
        (sound.described 0 known).lowest 0 (omega (arith, other, ap (λ (w : role_record.Role). w.head) here_is)) (role_of_node_0 s sound (omega (arith, next)))
