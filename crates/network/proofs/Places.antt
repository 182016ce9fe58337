-- Networks that keep a byte for each pair that may be tied.
use Rattle.std.proofs.Common.{◌≡◌, ℕ, ◌<◌, ◌≤◌, true, cond, ◌&&◌, eqb, List, length, get_or, set, Some, Ok, sym, ap, ◌∙◌, arith, rules, get_or-set_other, get_or-set_same}
use mathlib.Core.Path.{fun_ext}
use Rattle.std.proofs.lemmas.List.{places}
use Rattle.std.proofs.lemmas.Bool.Decides.{nat_tests}
use Rattle.network.specs.Meaning.{tied}
use Rattle.network.specs.Put.{put_answer, put_after}
use Rattle.network.specs.Layouts.{Layout, LaidOut, place_in, grid_of, with_ties, cleared, written}
use Rattle.network.proofs.Room.{room_within}
use Rattle.network.proofs.Puts.{put_accepts, put_accepted, by_answer}

-- a byte below the cleared ones is 0
cleared_below : (k : ℕ) (bytes : List ℕ) (p : ℕ) → p < k → get_or (cleared k bytes) p 0 ≡ 0
cleared_below k bytes p h = search (rules, places)

module _ (l : Layout) (o : LaidOut l) where
  cleared_tie : (bytes : List ℕ) (x y : ℕ) → (grid_of l (cleared l.pairs bytes)).tie x y ≡ 0
  cleared_tie bytes x y = grind (arith, cleared_below l.pairs bytes (l.place x y), o.below x y)

  pub grid_of-cleared : (memory bytes : List ℕ) → bytes ≡ cleared l.pairs memory → grid_of l bytes ≡ with_ties l (λ _ _. 0)
  grid_of-cleared memory bytes e = ap (grid_of l) e ∙ ap (with_ties l) (fun_ext λ x. fun_ext λ y. cleared_tie memory x y)

  tied_within : (bytes : List ℕ) (i j : ℕ) → tied (grid_of l bytes) i j ≡ true → l.has i j ≡ true
  tied_within bytes i j t = grind (arith, nat_tests)

  module _ (bytes : List ℕ) (i j b p : ℕ) (at : place_in l i j ≡ Some p) where
    has : l.has i j ≡ true
    has = grind (arith, nat_tests)

    nodes : (i < l.nodes) × (j < l.nodes)
    nodes = (grind (arith, nat_tests, o.has i j, has), grind (arith, nat_tests, o.has i j, has))

    here : l.place i j ≡ p
    here = grind (arith, nat_tests)

    -- there is room for every pair that has a byte, so `Full` never comes
    pub grid_put_answer : put_answer (grid_of l bytes) i j b ≡ Ok tt
    grid_put_answer =
        put_accepts (grid_of l bytes) i j b nodes.0 nodes.1 (grind (arith, nat_tests, o.has i j))
        (room_within (grid_of l bytes) l.has (tied_within bytes) i j b nodes.0 nodes.1 has (omega (arith, o.counted)))

    pub grid_written : set bytes p b ≡ written l bytes i j b
    grid_written = rw (← here) (sym (by_answer (set bytes (l.place i j) b) bytes _ grid_put_answer))

    set_tie : l.pairs ≤ length bytes → (x y : ℕ) → (grid_of l (set bytes p b)).tie x y ≡ cond (eqb x i && eqb y j) b ((grid_of l bytes).tie x y)
    set_tie fits x y =
        let below : p < length bytes = omega (arith, o.below i j has, here) in
        grind (
          arith,
          nat_tests,
          get_or-set_same bytes p b 0 below,
          get_or-set_other bytes p (l.place x y) b 0,
          o.apart i j x y has,
        )

    pub grid_of-set : l.pairs ≤ length bytes → grid_of l (set bytes p b) ≡ put_after (grid_of l bytes) i j b
    grid_of-set fits = ap (with_ties l) (fun_ext λ x. fun_ext λ y. set_tie fits x y) ∙ sym (put_accepted (grid_of l bytes) i j b grid_put_answer)
