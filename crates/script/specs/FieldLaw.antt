-- What a field is.
--
--   Reads       the bytes are a space, then n as it is written in decimal, then the end or a space: at the rest
--   FieldLaw    a field says n, with the rest behind it, exactly where it reads so
use Rattle.std.specs.Prelude.{◌≡◌, ◌<◌, ◌⊎◌, ◌↔◌, ℕ, List, [], ◌∷◌, ◌++◌, Some, slice_index, decimal}
use Rattle.script.specs.Fields.{field, after_field}

pub record Reads (bytes : List ℕ) (n : ℕ) (rest : List ℕ) : Type 0 where
  pub small : n < 65536
  pub written : bytes ≡ 32 ∷ (decimal n ++ rest)
  pub closed : (rest ≡ []) ⊎ (slice_index rest 0 ≡ 32)

pub record FieldLaw : Type 0 where
  pub reads_so : (bytes : List ℕ) (n : ℕ) (rest : List ℕ) → (field bytes ≡ Some n) × (after_field bytes ≡ rest) ↔ Reads bytes n rest
