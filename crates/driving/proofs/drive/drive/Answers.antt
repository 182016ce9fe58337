use Rattle.std.proofs.Common.{◌≡◌, ◌∙◌, ℕ, ◌<◌, false, length, get_or, subst, sym, ap, refl, inl, inr, get_or-set_other, arith}
use Rattle.std.proofs.lemmas.Bool.{cases_Bool}
use Rattle.std.proofs.lemmas.List.{length-map, take_all}
use Rattle.equivalence.proofs.Levels.{coarsest_named, levels_coarsest}
use Rattle.equivalence.proofs.Refinement.{fewest}
use Rattle.equivalence.proofs.Splitting.{split_law}
use Rattle.session.specs.SettledSessions.{settled_state}
use Rattle.driving.specs.Book.{Book, book_in}
use Rattle.driving.specs.Courses.{Course, calls_of, course_after, course_before, course_of, last_book}
use Rattle.driving.specs.declared.call.Exchange.{Exchange}
use Rattle.driving.specs.Promise.{RunTo}
use Rattle.driving.specs.States.{course_in, is_settled, state_in}
use Rattle.driving.specs.Turns.{Turn}
use Rattle.driving.proofs.Promised.{promised}
use Rattle.driving.proofs.RunLaws.{run_laws}
use Rattle.driving.proofs.Running.{none, at_within, course_next, run_begun, run_next}
use Rattle.driving.proofs.Turning.{Best, book_same}
use Rattle.driving.proofs.drive.drive.Given.{Over}
use Rattle.driving.proofs.drive.drive.Goals as goal

pub loop-exchange-init : goal.loop-exchange-init
loop-exchange-init g c =
    (ap (λ p. p.1) c.new.ensures.parts, ap (λ (b : Book). record { settled = false; book = b }) (book_same c.new.ensures.begun.network c.new.ensures.begun.colours), run_begun g.M.Measure.ops (g.N.Readable.meaning c.args.network) c.args.exchanges.now _ c.new.ensures.begun c.new.result.sound, λ j past. refl)

pub loop-exchange-preserved : goal.loop-exchange-preserved
loop-exchange-preserved g c =
    let o = g.M.Measure.ops in
    let m = g.N.Readable.meaning c.args.network in
    let given = c.args.exchanges.now in
    let xs = c.loop-exchange.exchanges in
    let k = c.loop-exchange.exchange-index in
    let i = c.loop-exchange.invariant in
    let (run, now) = i.2 in
    let e = get_or given k none in
    let x = get_or xs k none in
    let d : Exchange = record { call = x.call; area = record { ref_ptr = x.area.ref_ptr; ghost_name = x.area.ghost_name; now = c.call.new.area }; reply = c.call.result.1 } in
    let within : k < length given = omega (arith, c.loop-exchange-test.true, run.one_each) in
    let was : x ≡ e = i.3 k (omega arith) in
    let here = at_within given none k within in
    let next = state_in c.call.result.0 in
    let settled_is : is_settled c.loop-exchange.session ≡ (course_before m given k).settled = ap (λ (t : Course). t.settled) i.1 in
    let turn : Turn o (course_before m given k).settled e.call (run.state k) next e.area.now d.reply d.area.now =
    rw (was, settled_is, sym now) at c.call.ensures.turn
    in (
      c.call.ensures.measure ∙ i.0,
      c.call.ensures.course
          ∙ ap (λ t. course_after t x.call) i.1
          ∙ ap (λ (y : Exchange). course_after (course_before m given k) y.call) was
          ∙ sym (course_next m given k e here),
      run_next o m given xs k run within e d here next (record { call = ap (λ (y : Exchange). y.call) was; area = ap (λ (y : Exchange). y.area.ghost_name) was }) turn c.call.ensures.sound,
      λ j past. get_or-set_other xs k j d none (λ n. omega (arith, past, n)) ∙ i.3 j (omega (arith, past)),
    )

-- all calls are given
at_end : (g : Over) (c : goal.After-settle g) → c.loop-exchange.exchange-index ≡ length c.args.exchanges.now
at_end g c = omega (arith, c.loop-exchange-test.false, c.loop-exchange.auto, c.loop-exchange.invariant.2.0.one_each)

-- and this is their run
run : (g : Over) (c : goal.After-settle g) → (run : RunTo g.M.Measure.ops (g.N.Readable.meaning c.args.network) c.args.exchanges.now c.loop-exchange.exchanges (length c.args.exchanges.now)) × (run.state (length c.args.exchanges.now) ≡ state_in c.loop-exchange.session) × (course_in c.loop-exchange.session ≡ course_before (g.N.Readable.meaning c.args.network) c.args.exchanges.now (length c.args.exchanges.now))
run g c =
    let m = g.N.Readable.meaning c.args.network in
    let given = c.args.exchanges.now in
    let i = c.loop-exchange.invariant in
    let P : ℕ → Type 0 = λ k. (run : RunTo g.M.Measure.ops m given c.loop-exchange.exchanges k) × (run.state k ≡ state_in c.loop-exchange.session) × (course_in c.loop-exchange.session ≡ course_before m given k) in
    subst P (at_end g c) (i.2.0, i.2.1, i.1)

pub returns-clause-edits : goal.returns-clause-edits
returns-clause-edits g c =
    let (run, now, course) = run g c in
    (run_laws g.M.Measure.ops g.met.M.Measure.lawful (g.N.Readable.meaning c.args.network) c.args.exchanges.now c.loop-exchange.exchanges run).edits

pub returns-clause-driven : goal.returns-clause-driven
returns-clause-driven g c =
    let (run, now, course) = run g c in
    let settled = ap (λ (t : Course). t.settled) course in
    record {
      run = run;
      sound = c.settle.result.session.sound;
      settled = λ e. c.settle.ensures.settled (settled ∙ e) ∙ sym now;
      ended = λ e. rw now (c.settle.ensures.ended (settled ∙ e));
    }

-- the book after the calls is the session's own
last : (g : Over) (c : goal.After-settle g) → book_in (settled_state c.settle.result) ≡ last_book (g.N.Readable.meaning c.args.network) c.args.exchanges.now
last g c =
    let m = g.N.Readable.meaning c.args.network in
    let given = c.args.exchanges.now in
    let (run, now, course) = run g c in
    let own : book_in (settled_state c.settle.result) ≡ book_in (state_in c.loop-exchange.session) =
    elim (cases_Bool (is_settled c.loop-exchange.session)) [
      | inl e ↦ ap book_in (c.settle.ensures.settled e)
      | inr e ↦ let ended = c.settle.ensures.ended e in book_same ended.network ended.colours
    ]
    in
    own ∙ ap (λ (t : Course). t.book) course
    ∙ ap (λ calls. (course_of m calls).book) (take_all (length given) (calls_of given) (omega (arith, length-map given (λ (e : Exchange). e.call))))

best : (g : Over) (c : goal.After-settle g) → Best g.M.Measure.ops (settled_state c.settle.result)
best g c =
    let s = c.settle.result in
    let state = settled_state s in
    record { regular = s.regular; covers = s.session.sound.covers }

pub returns-clause-promise : goal.returns-clause-promise
returns-clause-promise g c = promised g.M.Measure.ops g.met.M.Measure.lawful (settled_state c.settle.result) c.settle.result.session.sound (best g c) _ (last g c)

pub returns-clause-measure : goal.returns-clause-measure
returns-clause-measure g c = ap (λ p. p.1) c.settle.ensures.parts ∙ c.loop-exchange.invariant.0

pub returns-clause-splits : goal.returns-clause-splits
returns-clause-splits g c = split_law g.M.Measure.ops g.met.M.Measure.lawful

pub returns-clause-levels : goal.returns-clause-levels
returns-clause-levels g c = levels_coarsest g.M.Measure.ops g.met.M.Measure.lawful

pub returns-clause-named : goal.returns-clause-named
returns-clause-named g c = coarsest_named g.M.Measure.ops g.met.M.Measure.lawful

pub returns-clause-fewest : goal.returns-clause-fewest
returns-clause-fewest g c = fewest g.M.Measure.ops

pub returns-clause-laws : goal.returns-clause-laws
returns-clause-laws g c = run_laws g.M.Measure.ops g.met.M.Measure.lawful
