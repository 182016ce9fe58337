-- What a put answers and leaves.
--
--   room          the byte is 0, or the pair is tied, or fewer pairs are tied than the cap
--   put_answer    accepted, or the first no of: nodes (3), pair (4), room (5)
--   with_tie      byte (i, j) is b, and every other as before
--   put_after     the network after a put, refused or not
use Rattle.std.specs.Prelude.{ℕ, Bool, cond, ◌&&◌, ◌||◌, Ok, Err, Result, ◌==◌, nat_lt}
use Rattle.network.specs.Meaning.{Meaning, inside, tied, tied_pairs}
use Rattle.network.specs.declared.faults.Fault.{Fault}

abbrev pub room : Meaning → ℕ → ℕ → ℕ → Bool
room m i j b = b == 0 || (tied m i j || nat_lt (tied_pairs m) m.capacity)

abbrev pub put_answer : Meaning → ℕ → ℕ → ℕ → Result (Unit {0}) Fault
put_answer m i j b =
    cond (inside m.nodes i j)
    (cond (m.allowed i j) (cond (room m i j b) (Ok tt) (Err Fault.Full)) (Err Fault.Pair))
    (Err Fault.Node)

abbrev pub with_tie : Meaning → ℕ → ℕ → ℕ → Meaning
with_tie m i j b = record m { tie = λ x y. cond (x == i && y == j) b (m.tie x y) }

abbrev pub put_after : Meaning → ℕ → ℕ → ℕ → Meaning
put_after m i j b = elim (put_answer m i j b) [ Ok _ ↦ with_tie m i j b | Err _ ↦ m ]
