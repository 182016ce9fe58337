-- The measure tally: how many ties go out, and how many come in.
--
--   one_if_tied    1 for a byte above 0, else 0
--   capped_sum     two counts together, at most 128
--   tally_weigh    the ties of one pair
--   tally_join     the counts of two values together
--   tally          counts of ties
use Rattle.std.specs.Prelude.{ℕ, ◌+◌, ◌-◌, ◌≤◌, min, cond, ◌&&◌, ◌==◌, nat_lt}
use Rattle.std.proofs.Common.{arith}
use Rattle.std.proofs.lemmas.Bool.{cond_both}
use Rattle.measure.specs.Measures.{Operations}
use Rattle.measure.specs.declared.tally.counts.Counts.{Counts}

abbrev pub one_if_tied : ℕ → ℕ
one_if_tied b = cond (nat_lt 0 b) 1 0

abbrev pub capped_sum : ℕ → ℕ → ℕ
capped_sum a b = min (a + b) 128

abbrev pub tally_weigh : ℕ → ℕ → Counts
tally_weigh o i =
    record {
      out = one_if_tied o;
      into = one_if_tied i;
      out_few = cond_both (nat_lt 0 o) 1 0 (λ k. k ≤ 128) (λ _. omega arith) (λ _. omega arith);
      into_few = cond_both (nat_lt 0 i) 1 0 (λ k. k ≤ 128) (λ _. omega arith) (λ _. omega arith);
    }

abbrev pub tally_join : Counts → Counts → Counts
tally_join a b = record { out = capped_sum a.out b.out; into = capped_sum a.into b.into; out_few = omega arith; into_few = omega arith }

abbrev pub tally : Operations Counts
tally =
    record {
      none = record { out = 0; into = 0; out_few = omega arith; into_few = omega arith };
      weigh = tally_weigh;
      join = tally_join;
      same = λ a b. (a.out == b.out) && (a.into == b.into);
      holds = λ v t. cond (nat_lt t 128) (nat_lt t v.out) (nat_lt (t - 128) v.into);
    }
