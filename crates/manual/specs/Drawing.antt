-- A network as a page draws it.
--
--   drawn_from       the network after a put of byte 1 for each pair, in order, or the first refusal
--   drawn_on         the same where the check passes, or its refusal
--   drawing          a matrix of n nodes over memory of so many bytes, drawn on
--   drawing_sides    a two-mode network of a and b nodes, drawn on
--   among            the pair is one of the list
--   Drawn            a drawing on a network without ties that is not refused ties the pairs of the list, and no other
--   Isolated         x has no tie, out or in
use Rattle.std.specs.Prelude.{◌≡◌, ℕ, ◌<◌, Bool, false, cond, ◌&&◌, ◌||◌, List, [], ◌∷◌, Ok, Err, Result, ◌==◌}
use Rattle.network.specs.Meaning.{Meaning}
use Rattle.network.specs.Matrices.{matrix_check, untied}
use Rattle.network.specs.TwoModes.{two_mode_check, untied_sides}
use Rattle.network.specs.Put.{put_answer, put_after}
use Rattle.network.specs.declared.faults.Fault.{Fault}

abbrev pub drawn_from : Meaning → List (ℕ × ℕ) → Result Meaning Fault
drawn_from m [] = Ok m
drawn_from m (t ∷ ts) = elim (put_answer m t.0 t.1 1) [ Ok _ ↦ drawn_from (put_after m t.0 t.1 1) ts | Err f ↦ Err f ]

abbrev pub drawn_on : Result (Unit {0}) Fault → Meaning → List (ℕ × ℕ) → Result Meaning Fault
drawn_on check blank ties = elim check [ Ok _ ↦ drawn_from blank ties | Err f ↦ Err f ]

abbrev pub drawing : ℕ → ℕ → List (ℕ × ℕ) → Result Meaning Fault
drawing n size ties = drawn_on (matrix_check n size) (untied n) ties

abbrev pub drawing_sides : ℕ → ℕ → ℕ → List (ℕ × ℕ) → Result Meaning Fault
drawing_sides a b size ties = drawn_on (two_mode_check a b size) (untied_sides a b) ties

abbrev pub among : List (ℕ × ℕ) → ℕ → ℕ → Bool
among [] x y = false
among (t ∷ ts) x y = among ts x y || (x == t.0 && y == t.1)

abbrev pub Drawn : Type 0
Drawn = (blank : Meaning) → ((x y : ℕ) → blank.tie x y ≡ 0) → (ties : List (ℕ × ℕ)) (m : Meaning) → drawn_from blank ties ≡ Ok m → (x y : ℕ) → m.tie x y ≡ cond (among ties x y) 1 0

abbrev pub Isolated : Meaning → ℕ → Type 0
Isolated m x = (y : ℕ) → y < m.nodes → (m.tie x y ≡ 0) × (m.tie y x ≡ 0)
