-- What is so at each moment of a run.
use Rattle.std.proofs.Common.{rules, ◌≡◌, ℕ, zero, suc, ◌+◌, ◌<◌, ◌≤◌, true, List, length, refl, sym, ap, subst, inl, inr, ◌∙◌, arith}
use Rattle.std.proofs.lemmas.Bool.{cases_lt}
use Rattle.std.proofs.lemmas.Option.{slice_get_within}
use Rattle.network.specs.Meaning.{Meaning}
use Rattle.measure.specs.Measures.{Operations, Laws}
use Rattle.equivalence.specs.Heads.{head_of}
use Rattle.session.specs.States.{KeepsHeads, role}
use Rattle.driving.specs.Courses.{Course, course_after, course_before}
use Rattle.driving.specs.Laws.{Still, Rests, Finds}
use Rattle.driving.specs.Promise.{At, RunTo}
use Rattle.driving.specs.Turns.{Turn}
use Rattle.driving.specs.declared.call.Exchange.{Exchange}
use Rattle.driving.proofs.Running.{at_some, course_next}
use Rattle.driving.proofs.Turning as turning
use Rattle.driving.proofs.Turning.{Best}

module _ {V : Type 0} (o : Operations V) (m : Meaning) (given done : List Exchange) (run : RunTo o m given done (length given)) where
  abbrev course : ℕ → Course
  course = course_before m given

  pub turn_at : (k : ℕ) (e d : Exchange) → At given k e → At done k d → Turn o (course k).settled e.call (run.state k) (run.state (k + 1)) e.area.now d.reply d.area.now
  turn_at k e d here there = run.turn k e d (slice_get_within given k e here) here there

  -- from moment i to moment k
  along : (P : ℕ → Type 0) (i : ℕ) → P i → (k : ℕ) → i ≤ k → k ≤ length given → ((j : ℕ) (e d : Exchange) → i ≤ j → j < k → At given j e → At done j d → P j → P (j + 1)) → P k
  along P i start zero l within step = let is : i ≡ 0 = omega arith in subst P is start
  along P i start (suc k) l within step =
      elim (cases_lt i (suc k)) [
        | inl under ↦
            let (e, here) = at_some given k (omega arith) in
            let (d, there) = at_some done k (omega (arith, run.one_each)) in
            let next : k + 1 ≡ suc k = omega arith in
            subst P next (step k e d (omega (arith, under)) (omega arith) here there (along P i start k (omega (arith, under)) (omega arith) (λ j f c a b. step j f c a (omega (arith, b)))))
        | inr past ↦ let is : i ≡ suc k = omega (arith, past) in subst P is start
      ]

  -- a settled session has the coarsest table
  pub settled_best : (k : ℕ) → k ≤ length given → (course k).settled ≡ true → Best o (run.state k)
  settled_best k within =
      along (λ j. (course j).settled ≡ true → Best o (run.state j)) 0 (λ e. absurd (search rules)) k (omega arith) within
      (λ j e d a b here there was settled.
      turning.settled_best o (run.state j) (run.state (j + 1)) e.area.now d.reply d.area.now (course j).settled e.call (turn_at j e d here there) was
      (ap (λ b. (course_after (record { settled = (course j).settled; book = b }) e.call).settled) (run.book j (omega (arith, b, within)))
      ∙ sym (ap (λ (c : Course). c.settled) (course_next m given j e here))
      ∙ settled))

  -- while replies are quiet, the state stays
  pub still_same : (i k : ℕ) → k ≤ length given → Still given done i k → run.state k ≡ run.state i
  still_same i k within (l, quiets) =
      along (λ j. run.state j ≡ run.state i) i refl k l within
      (λ j e d a b here there was.
      turning.quiet o (run.state j) (run.state (j + 1)) e.area.now d.reply d.area.now (course j).settled e.call (turn_at j e d here there) (quiets j d a b there) ∙ was)

  -- once the coarsest table is found, it stays until a put or a colour is accepted
  pub found_best : (j k : ℕ) → k ≤ length given → Finds given done j → Rests given done (j + 1) k → Best o (run.state k)
  found_best j k within (e, d, here, there, found) (l, rests) =
      along (λ i. Best o (run.state i)) (j + 1)
      (turning.found_best o (run.state j) (run.state (j + 1)) e.area.now d.reply d.area.now (course j).settled e.call (turn_at j e d here there) (run.sound j (omega (arith, l, within))) (settled_best j (omega (arith, l, within))) found)
      k l within
      (λ i f c a b at at_done was.
      turning.rests_best o (run.state i) (run.state (i + 1)) f.area.now c.reply c.area.now (course i).settled f.call (turn_at i f c at at_done) (rests i c a b at_done) was)

  -- and so do heads
  pub rests_heads : Laws o → (i k : ℕ) → k ≤ length given → Rests given done i k → KeepsHeads (run.state i) (run.state k)
  rests_heads laws i k within (l, rests) x node head =
      (along (λ j. (x < (run.state j).network.nodes) × (head_of (role (run.state j)) x ≡ x)) i (node, head) k l within
      (λ j e d a b here there was.
      let turn = turn_at j e d here there in
      let rest = rests j d a b there in (
        omega (arith, turning.same_nodes o (run.state j) (run.state (j + 1)) e.area.now d.reply d.area.now (course j).settled e.call turn, was.0),
        turning.rests_heads o (run.state j) (run.state (j + 1)) e.area.now d.reply d.area.now laws (course j).settled e.call turn rest x was.0 was.1,
      ))).1
