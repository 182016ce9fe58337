-- The vet's yes, in other words for regular.
use Rattle.std.proofs.Common.{ℕ, ◌↔◌, List, Option, Result}
use Rattle.network.specs.Meaning.{Meaning}
use Rattle.equivalence.specs.Regular.{Table}
use Rattle.equivalence.specs.Vetted.{YesExactly, table_of}
use Rattle.equivalence.specs.declared.faults.Fault.{Fault}

pub yes_in_words : (m : Meaning) (table : List ℕ) (r : Result (Option (ℕ × ℕ × ℕ)) Fault) (P Q : Table → Type 0) → P (table_of table) ↔ Q (table_of table) → YesExactly m table r P → YesExactly m table r Q
yes_in_words m table r P Q same said =
    (λ e. let h = said.0 e in (h.0, same.0 h.1), λ h. said.1 (h.0, same.1 h.1))
