-- The measure bundles: which combinations of kinds 0 to 2, out and in together, there are with a single node.
--
--   bundle           the number of the combination, 0 where there is none of these kinds
--   singleton        the set of one such number, or the empty set for 0
--   bundles_weigh    the combination of one pair
--   bundles_join     the combinations of two values together
--   bundles          sets of such numbers
use Rattle.std.specs.Prelude.{ℕ, ◌+◌, ◌*◌, ◌%◌, ◌^◌, ◌<◌, cond, ◌&&◌, ◌==◌, bit_or, nat_lt}
use Rattle.std.proofs.lemmas.Nat.{or_lt}
use Rattle.std.proofs.Common.{lit<, arith}
use Rattle.std.proofs.Math.Pow.{pow-lt}
use Rattle.std.proofs.lemmas.Bool.{cond_both}
use Rattle.measure.specs.Measures.{Operations}
use Rattle.measure.specs.Bits.{bit}
use Rattle.measure.specs.declared.bundles.set.BundleSet.{BundleSet}

-- bits 0 to 2 are the kinds that go out, bits 3 to 5 those that come in
abbrev pub bundle : ℕ → ℕ → ℕ
bundle o i = o % 8 + 8 * (i % 8)

abbrev pub singleton : ℕ → ℕ
singleton n = cond (n == 0) 0 (2 ^ n)

abbrev pub bundles_weigh : ℕ → ℕ → BundleSet
bundles_weigh o i =
    record {
      members = singleton (bundle o i);
      wide = cond_both (bundle o i == 0) 0 (2 ^ bundle o i) (λ s. s < 2 ^ 64) (λ _. lit< tt) (λ _. pow-lt {j = 64} (omega arith));
    }

abbrev pub bundles_join : BundleSet → BundleSet → BundleSet
bundles_join a b = record { members = bit_or a.members b.members; wide = or_lt 64 a.members b.members a.wide b.wide }

abbrev pub bundles : Operations BundleSet
bundles =
    record {
      none = record { members = 0; wide = lit< tt };
      weigh = bundles_weigh;
      join = bundles_join;
      same = λ a b. (a.members == b.members);
      holds = λ v t. nat_lt t 64 && bit v.members t;
    }
