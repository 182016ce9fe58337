use Rattle.std.proofs.Common.{◌≡◌, ℕ, Bool, true, false, cond, refl, slice_index, ◌+◌, ◌≤◌, ◌<◌, ◌∙◌, append-nil, sym, ap, subst, arith}
use Rattle.std.specs.Prelude.{◌≢◌}
use Rattle.std.specs.Result.{IsOk}
use Rattle.std.proofs.lemmas.Bool.Decides.{nat_tests}
use Rattle.network.proofs.Counting.{count_below_le}
use Rattle.driving.specs.Book.{book_in}
use Rattle.equivalence.specs.Heads.{is_head}
use Rattle.session.specs.SettledSessions.{settled_state}
use Rattle.session.specs.States.{role, role_count}
use Rattle.script.specs.Listings.{is_true}
use Rattle.script.specs.Words.{true_line}
use Rattle.script.proofs.Asking.{never_refused}
use Rattle.script.proofs.Printing.{printed_more, printed_same, true_lines_none}
use Rattle.script.proofs.listing.print_answer.Goals as goal
use Rattle.script.proofs.listing.print_answer.Goals.{then-answer-eq1+in_ok-print_true, else-answer-eq1}

pub returns-then-is_empty : goal.returns-then-is_empty
returns-then-is_empty g c =
    let book = book_in (settled_state c.args.settled.now) in
    let none = true_lines_none g.M.Measure.ops book c.args.question.now (grind arith) in
    rw none (sym (append-nil c.args.out.now.items))

pub unwrap-start-requires : goal.unwrap-start-requires
unwrap-start-requires g c =
    let s = c.args.settled.now in
    let state = settled_state s in
    let narrow : role_count state ≤ 128 = omega (arith, s.session.sound.few, count_below_le (is_head (role state)) state.network.nodes) in
    subst IsOk (sym c.ask.ensures.start)
    (never_refused c.args.question.now (role_count state) 4096 (grind arith) c.requires.few c.requires.passes narrow (omega arith))

bit_true : (b : Bool) → ◌≡◌ {A = ℕ} (cond b 1 0) 1 → b ≡ true
bit_true true e = refl
bit_true false e = absurd (omega arith)

bit_false : (b : Bool) → ◌≢◌ {A = ℕ} (cond b 1 0) 1 → b ≡ false
bit_false true off = absurd (off refl)
bit_false false off = refl

pub loop-x-preserved : goal.loop-x-preserved
loop-x-preserved g c =
    let o = g.M.Measure.ops in
    let state = settled_state c.args.settled.now in
    let x = c.loop-x.x in
    let says = is_true o (book_in state) c.args.question.now in
    let nodes = c.nodes-x-end.ensures.value ∙ ap (λ n. (g.N.Readable.meaning n).nodes) c.network.ensures in
    let within : x < state.network.nodes = omega (arith, c.loop-x-test.true, nodes) in
    let byte : slice_index c.ask.new.area (c.unwrap-start.result + role state x) ≡ cond (says x) 1 0 =
    (rw c.unwrap-start.ensures at c.ask.ensures.agrees).last x within in
    let role_is : c.unwrap-role.result ≡ role state x = grind (arith, nat_tests, within, c.role_of.ensures.answer, c.unwrap-role.ensures) in
    let so_far = c.loop-x.invariant in
    elim c.if-answer-eq1.branch [
      | then-answer-eq1+in_ok-print_true w ↦
          ap (λ v. v.items) w.out-is ∙ w.in_ok-print_true.ensures
          ∙ printed_more says true_line x _ _ so_far (bit_true (says x) (sym byte ∙ rw role_is at w.if-answer-eq1.true))
      | else-answer-eq1 w ↦
          ap (λ v. v.items) w.out-is
          ∙ printed_same says true_line x _ _ so_far (bit_false (says x) (λ e. w.if-answer-eq1.false (rw role_is (byte ∙ e))))
    ]
