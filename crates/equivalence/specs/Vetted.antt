-- What the vet answers.
--
--   table_of      the table that a list of bytes is: equal bytes are one role
--   YesExactly    r says yes exactly when the table has one byte for each node, and is as P says
--   Vetted        r is an answer of the vet
use Rattle.std.specs.Prelude.{◌≡◌, ℕ, ◌↔◌, List, length, Some, None, Ok, Err, Option, Result, ◌≢◌, slice_index}
use Rattle.network.specs.Meaning.{Meaning}
use Rattle.measure.specs.Measures.{Operations}
use Rattle.equivalence.specs.Regular.{Table, Regular, Unequal}
use Rattle.equivalence.specs.declared.faults.Fault.{Fault}

abbrev pub table_of : List ℕ → Table
table_of table x = slice_index table x

abbrev pub YesExactly : Meaning → List ℕ → Result (Option (ℕ × ℕ × ℕ)) Fault → (Table → Type 0) → Type 0
YesExactly m table r P = (r ≡ Ok None) ↔ ((length table ≡ m.nodes) × P (table_of table))

pub record Vetted {V : Type 0} (o : Operations V) (m : Meaning) (table : List ℕ) (r : Result (Option (ℕ × ℕ × ℕ)) Fault) : Type 0 where
  -- 10 exactly when the table has not one byte for each node
  pub refused : (r ≡ Err Fault.Length) ↔ (length table ≢ m.nodes)
  -- yes exactly when it has, and is regular
  pub yes_when : YesExactly m table r (Regular o m)
  -- otherwise three nodes that show why not
  pub no_shows : (x y z : ℕ) → r ≡ Ok (Some (x, y, z)) → Unequal o m (table_of table) x y z
