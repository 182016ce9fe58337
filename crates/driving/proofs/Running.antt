-- A run goes on by one call.
use Rattle.std.proofs.Common.{◌≡◌, ℕ, zero, suc, ◌+◌, ◌<◌, ◌≤◌, true, false, cond, ltb, Ok, List, [], ◌∷◌, length, get_or, set, Some, refl, sym, ap, subst, inl, inr, ◌∙◌, get_or-set_same, get_or-set_other, length-set, arith}
use Rattle.std.proofs.lemmas.Bool.{cases_eq, cases_lt}
use Rattle.std.proofs.lemmas.Bool.Decides.{nat_tests}
use Rattle.std.proofs.lemmas.List.{get_or-map, length-map}
use Rattle.std.proofs.lemmas.List.Sums.{fold_more}
use Rattle.std.proofs.lemmas.Option.{slice_get_within, slice_get-get_or, get_or_from_slice_get}
use Rattle.network.specs.Meaning.{Meaning}
use Rattle.measure.specs.Measures.{Operations}
use Rattle.session.specs.Sessions.{Begun}
use Rattle.session.specs.States.{State, IsSound}
use Rattle.driving.specs.Book.{book_in}
use Rattle.driving.specs.Courses.{Course, calls_of, course_after, course_before}
use Rattle.driving.specs.Promise.{At, KeepsCall, RunTo}
use Rattle.driving.specs.Turns.{Turn}
use Rattle.driving.specs.declared.call.Call.{Call}
use Rattle.driving.specs.declared.call.Exchange.{Exchange}
use Rattle.driving.specs.declared.call.Reply.{Reply}
use Rattle.driving.specs.declared.call.Edit.{Edit}
use Rattle.driving.proofs.Turning.{book_same, booked}

-- the element at a place within the list
pub at_within : (es : List Exchange) (d : Exchange) (k : ℕ) → k < length es → At es k (get_or es k d)
at_within es d k l = slice_get-get_or es k d l

pub at_some : (es : List Exchange) (k : ℕ) → k < length es → (e : Exchange) × At es k e
at_some [] k l = absurd (omega arith)
at_some (e ∷ es) zero l = (e, refl)
at_some (e ∷ es) (suc k) l = at_some es k (omega arith)

pub at_same : (es : List Exchange) (k : ℕ) (d e : Exchange) → At es k d → At es k e → d ≡ e
at_same es k d e here there = sym (get_or_from_slice_get es k d d here) ∙ get_or_from_slice_get es k e d there

-- an exchange is written at place k
module _ (es : List Exchange) (k : ℕ) (d : Exchange) (within : k < length es) where
  pub at_written : (x : Exchange) → At (set es k d) k x → x ≡ d
  at_written x here = sym (get_or_from_slice_get (set es k d) k x d here) ∙ get_or-set_same es k d d within

  pub at_other : (j : ℕ) (x : Exchange) → (j ≡ k → ⊥) → At (set es k d) j x → At es j x
  at_other j x ne here =
      let l : j < length es = omega (arith, slice_get_within (set es k d) j x here, length-set es k d) in
      at_within es x j l ∙ ap (λ (e : Exchange). Some e) (sym (get_or-set_other es k j d x ne) ∙ get_or_from_slice_get (set es k d) j x x here)

-- what calls alone tell of the session, one call later
pub course_next : (m : Meaning) (given : List Exchange) (k : ℕ) (e : Exchange) → At given k e → course_before m given (k + 1) ≡ course_after (course_before m given k) e.call
course_next m given k e here =
    let l = slice_get_within given k e here in
    fold_more course_after _ (calls_of given) k e.call (omega (arith, length-map given (λ (x : Exchange). x.call)))
    ∙ ap (course_after (course_before m given k)) (get_or-map (λ (x : Exchange). x.call) given k e e.call l ∙ ap (λ (x : Exchange). x.call) (get_or_from_slice_get given k e e here))

-- what the check takes for an exchange off the list
abbrev pub none : Exchange
none = record { call = Call.Edit (Edit.Put 0 0 0); area = record { ref_ptr = (0, 0); ghost_name = 0; now = [] }; reply = Reply.Put (Ok tt) }

-- before any call
pub run_begun : {V : Type 0} (o : Operations V) (m : Meaning) (given : List Exchange) (s : State) → Begun m (λ _. 0) s → IsSound o s → (run : RunTo o m given given 0) × (run.state 0 ≡ s)
run_begun o m given s begun sound = (
  record {
    one_each = refl;
    keeps = λ k e d here there. let same = at_same given k d e there here in record { call = ap (λ (x : Exchange). x.call) same; area = ap (λ (x : Exchange). x.area.ghost_name) same };
    state = λ _. s;
    begun = begun;
    turn = λ k e d l here there. absurd (omega (arith, l));
    book = λ k l. let is : k ≡ 0 = omega (arith, l) in rw is (book_same begun.network begun.colours);
    sound = λ k l. sound;
  },
  refl,
)

module _ {V : Type 0} (o : Operations V) (m : Meaning) (given done : List Exchange) (k : ℕ) (run : RunTo o m given done k) (within : k < length given) (e d : Exchange) (here : At given k e) (next : State) where
  -- the states so far, and the next one
  abbrev states : ℕ → State
  states j = cond (ltb k j) next (run.state j)

  so_far : (j : ℕ) → j ≤ k → states j ≡ run.state j
  so_far j l = let t : ltb k j ≡ false = grind (arith, nat_tests) in rw t refl

  state_last : states (k + 1) ≡ next
  state_last = let t : ltb k (k + 1) ≡ true = grind (arith, nat_tests) in rw t refl

  next_book : Turn o (course_before m given k).settled e.call (run.state k) next e.area.now d.reply d.area.now → book_in next ≡ (course_before m given (k + 1)).book
  next_book turn =
      let course = course_before m given k in
      booked o (run.state k) next e.area.now d.reply d.area.now course.settled e.call turn
      ∙ ap (λ b. (course_after (record { settled = course.settled; book = b }) e.call).book) (run.book k (omega arith))
      ∙ sym (ap (λ (c : Course). c.book) (course_next m given k e here))

  pub run_next : KeepsCall e d → Turn o (course_before m given k).settled e.call (run.state k) next e.area.now d.reply d.area.now → IsSound o next → (more : RunTo o m given (set done k d) (k + 1)) × (more.state (k + 1) ≡ next)
  run_next keeps turn sound =
      let inside : k < length done = omega (arith, run.one_each) in (
        record {
          one_each = length-set done k d ∙ run.one_each;
          keeps = λ j f c at at_done.
              elim (cases_eq j k) [
                | inl same ↦ subst (λ x. KeepsCall x c) (at_same given k e f here (rw same at at)) (subst (KeepsCall e) (sym (at_written done k d inside c (rw same at at_done))) keeps)
                | inr other ↦ run.keeps j f c at (at_other done k d inside j c other at_done)
              ];
          state = states;
          begun = rw (so_far 0 (omega arith)) run.begun;
          turn = λ j f c l at at_done.
              elim (cases_eq j k) [
                | inl same ↦
                    let f_is = at_same given k e f here (rw same at at) in
                    let c_is = at_written done k d inside c (rw same at at_done) in
                    rw (same, so_far k (omega arith), state_last, sym f_is, c_is) turn
                | inr other ↦
                    let under : j < k = omega (arith, l, other) in
                    rw (so_far j (omega (arith, under)), so_far (j + 1) (omega (arith, under))) (run.turn j f c under at (at_other done k d inside j c other at_done))
              ];
          book = λ j l.
              elim (cases_lt j (k + 1)) [
                | inl old ↦ rw (so_far j (omega (arith, old))) (run.book j (omega (arith, old)))
                | inr new ↦ let is : j ≡ k + 1 = omega (arith, l, new) in rw (is, state_last) (next_book turn)
              ];
          sound = λ j l.
              elim (cases_lt j (k + 1)) [
                | inl old ↦ rw (so_far j (omega (arith, old))) (run.sound j (omega (arith, old)))
                | inr new ↦ let is : j ≡ k + 1 = omega (arith, l, new) in rw (is, state_last) sound
              ];
        },
        state_last,
      )
