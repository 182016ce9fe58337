-- A drawing that is not refused ties the pairs of its list, and no other.
use Rattle.std.proofs.Common.{◌≡◌, ℕ, Bool, true, false, cond, ◌&&◌, ◌||◌, eqb, List, [], ◌∷◌, Ok, Err, Result, sym, refl, ap, ◌∙◌}
use Rattle.network.specs.Meaning.{Meaning}
use Rattle.network.specs.Put.{put_answer, put_after}
use Rattle.network.specs.declared.faults.Fault.{Fault}
use Rattle.network.proofs.Puts.{put_accepted}
use Rattle.manual.specs.Drawing.{drawn_from, among, Drawn}

either_one : (a b : Bool) (v : ℕ) → cond b 1 (cond a 1 v) ≡ cond (b || a) 1 v
either_one a true v = refl
either_one a false v = refl

abbrev then : Meaning → ℕ → ℕ → List (ℕ × ℕ) → Result (Unit {0}) Fault → Result Meaning Fault
then m i j ts r = elim r [ Ok _ ↦ drawn_from (put_after m i j 1) ts | Err f ↦ Err f ]

-- the next pair, and then what the rest ties
step : (m end : Meaning) (i j : ℕ) (ts : List (ℕ × ℕ)) (x y : ℕ) (r : Result (Unit {0}) Fault) → put_answer m i j 1 ≡ r → then m i j ts r ≡ Ok end → ((b : Meaning) → drawn_from b ts ≡ Ok end → end.tie x y ≡ cond (among ts x y) 1 (b.tie x y)) → end.tie x y ≡ cond (among ts x y || (eqb x i && eqb y j)) 1 (m.tie x y)
step m end i j ts x y (Ok _) e d rest =
    rest (put_after m i j 1) d
    ∙ ap (λ b. cond (among ts x y) 1 (b.tie x y)) (put_accepted m i j 1 e)
    ∙ either_one (eqb x i && eqb y j) (among ts x y) (m.tie x y)
step m end i j ts x y (Err f) e d rest = cc

drawn_ties : (m end : Meaning) (ties : List (ℕ × ℕ)) (x y : ℕ) → drawn_from m ties ≡ Ok end → end.tie x y ≡ cond (among ties x y) 1 (m.tie x y)
drawn_ties m end [] x y d = let same : m ≡ end = cc in ap (λ b. b.tie x y) (sym same)
drawn_ties m end (t ∷ ts) x y d = step m end t.0 t.1 ts x y (put_answer m t.0 t.1 1) refl d (λ b e. drawn_ties b end ts x y e)

pub drawn_law : Drawn
drawn_law blank none ties m d x y = drawn_ties blank m ties x y d ∙ ap (λ v. cond (among ties x y) 1 v) (none x y)
