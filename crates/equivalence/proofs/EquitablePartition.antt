-- A table is regular under tally where it is an equitable partition.
use Rattle.std.proofs.Common.{ℕ, ◌≤◌, sym, refl, ap, ◌∙◌}
use Rattle.network.specs.Meaning.{Meaning}
use Rattle.measure.specs.Tally.{tally}
use Rattle.measure.specs.TallyLaws.{counts_same}
use Rattle.equivalence.specs.Regular.{Table, Regular, members}
use Rattle.equivalence.specs.Equitable.{Equitable, Counted, TrueCounts, RegularUnderTally}
use Rattle.equivalence.proofs.CountTotals.{Count, total_count}

out_count : Count (λ v. v.out) (λ o i. o)
out_count = record { of_none = refl; of_weigh = λ o i. refl; of_join = λ a b. refl }

in_count : Count (λ v. v.into) (λ o i. i)
in_count = record { of_none = refl; of_weigh = λ o i. refl; of_join = λ a b. refl }

pub true_counts : TrueCounts
true_counts m x among few =
    record { outgoing = total_count _ _ out_count m x among few; incoming = total_count _ _ in_count m x among few }

module _ (m : Meaning) (role : Table) (few : m.nodes ≤ 128) where
  counted : (x z : ℕ) → Counted m x (members role (role z))
  counted x z = true_counts m x (members role (role z)) few

  equitable_from_regular : Regular tally m role → Equitable m role
  equitable_from_regular regular =
      record {
        outgoing = λ x y z hx hy hz e. sym (counted x z).outgoing ∙ ap (λ v. v.out) (regular z hz x y hx hy e) ∙ (counted y z).outgoing;
        incoming = λ x y z hx hy hz e. sym (counted x z).incoming ∙ ap (λ v. v.into) (regular z hz x y hx hy e) ∙ (counted y z).incoming;
      }

  regular_from_equitable : Equitable m role → Regular tally m role
  regular_from_equitable fair z hz x y hx hy e =
      counts_same _ _
      ((counted x z).outgoing ∙ fair.outgoing x y z hx hy hz e ∙ sym (counted y z).outgoing)
      ((counted x z).incoming ∙ fair.incoming x y z hx hy hz e ∙ sym (counted y z).incoming)

pub regular_under_tally : RegularUnderTally
regular_under_tally m role few = (equitable_from_regular m role few, regular_from_equitable m role few)
