-- The totals of tally are true counts: with at most 128 nodes the cap never binds.
use Rattle.std.proofs.Common.{◌≡◌, ℕ, zero, suc, ◌≤◌, Bool, true, false, cond, ◌&&◌, ltb, ◌∙◌, arith}
use Rattle.network.specs.Meaning.{Meaning, count_below}
use Rattle.network.proofs.Counting.{count_below_le}
use Rattle.measure.specs.Tally.{tally, one_if_tied, capped_sum}
use Rattle.measure.specs.declared.tally.counts.Counts.{Counts}
use Rattle.equivalence.specs.Totals.{gather, share, total}

-- one count of a value, of the ties that go out or of those that come in, and the byte that it counts
pub record Count (count : Counts → ℕ) (pick : ℕ → ℕ → ℕ) : Type 0 where
  pub of_none : count tally.none ≡ 0
  pub of_weigh : (o i : ℕ) → count (tally.weigh o i) ≡ one_if_tied (pick o i)
  pub of_join : (a b : Counts) → count (tally.join a b) ≡ capped_sum (count a) (count b)

module _ (count : Counts → ℕ) (pick : ℕ → ℕ → ℕ) (is : Count count pick) where
  -- values that count one or nothing add up to a true count
  gather_count : (f : ℕ → Counts) (p : ℕ → Bool) → ((y : ℕ) → count (f y) ≡ cond (p y) 1 0) → (n : ℕ) → n ≤ 128 → count (gather tally f n) ≡ count_below p n
  gather_count f p each zero few = is.of_none
  gather_count f p each (suc n) few =
      is.of_join (gather tally f n) (f n)
      ∙ let below = gather_count f p each n (omega arith) in
      let all = count_below_le p (suc n) in
      omega (arith, each n)

  chosen_count : (inner : Bool) (o i : ℕ) → count (cond inner (tally.weigh o i) tally.none) ≡ cond (inner && ltb 0 (pick o i)) 1 0
  chosen_count true o i = is.of_weigh o i
  chosen_count false o i = is.of_none

  pub total_count : (m : Meaning) (x : ℕ) (among : ℕ → Bool) → m.nodes ≤ 128 → count (total tally m x among) ≡ count_below (λ y. among y && ltb 0 (pick (m.tie x y) (m.tie y x))) m.nodes
  total_count m x among few =
      gather_count (share tally m x among) (λ y. among y && ltb 0 (pick (m.tie x y) (m.tie y x))) (λ y. chosen_count (among y) (m.tie x y) (m.tie y x)) m.nodes few
