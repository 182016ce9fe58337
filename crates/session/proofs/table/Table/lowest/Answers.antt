use Rattle.std.proofs.Common.{rules, tests, ◌≡◌, ℕ, true, false}
use Rattle.std.proofs.lemmas.Iterator.{first_from_Range}
use Rattle.equivalence.specs.Totals.{flag}
use Rattle.session.proofs.Searches.{first_below}
use Rattle.session.proofs.table.Table.lowest.Goals as goal

pub returns : goal.returns
returns c =
    let goes : ℕ → Type 0 = λ k. flag c.args.leaves.now k ≡ true in
    let stays : ℕ → Type 0 = λ k. flag c.args.leaves.now k ≡ false in
    first_below c.find.result _ goes stays _ (λ x l yes before. (l, yes, before))
    (rw c.len.ensures.value at (first_from_Range _ _ _ c.find.result goes stays c.find.ensures.ran (λ y q k. search (rules, tests)) (λ y q k. search (rules, tests))))
