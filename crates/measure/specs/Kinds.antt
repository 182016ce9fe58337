-- The measure kinds: which kinds of tie go out, and which come in.
--
--   kinds_weigh    the kinds of one pair
--   kinds_join     the kinds of two values together
--   kinds          sets of kinds
use Rattle.std.specs.Prelude.{ℕ, ◌-◌, ◌%◌, false, cond, ◌&&◌, ◌==◌, bit_or, nat_lt}
use Rattle.std.proofs.lemmas.Nat.{or_lt}
use Rattle.std.proofs.Common.{arith}
use Rattle.measure.specs.Measures.{Operations}
use Rattle.measure.specs.Bits.{bit}
use Rattle.measure.specs.declared.kinds.sets.KindSets.{KindSets}

-- the low eight bits of each
abbrev pub kinds_weigh : ℕ → ℕ → KindSets
kinds_weigh o i = record { out = o % 256; into = i % 256; out_byte = omega arith; into_byte = omega arith }

abbrev pub kinds_join : KindSets → KindSets → KindSets
kinds_join a b =
    record {
      out = bit_or a.out b.out;
      into = bit_or a.into b.into;
      out_byte = or_lt 8 a.out b.out a.out_byte b.out_byte;
      into_byte = or_lt 8 a.into b.into a.into_byte b.into_byte;
    }

abbrev pub kinds : Operations KindSets
kinds =
    record {
      none = record { out = 0; into = 0; out_byte = omega arith; into_byte = omega arith };
      weigh = kinds_weigh;
      join = kinds_join;
      same = λ a b. (a.out == b.out) && (a.into == b.into);
      holds = λ v t. cond (nat_lt t 8) (bit v.out t) (cond (nat_lt t 16) (bit v.into (t - 8)) false);
    }
