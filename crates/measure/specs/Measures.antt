-- What a measure is.
--
--   Operations    no ties, one pair's ties, two values together, sameness, tests
--   Laws          what every measure keeps
use Rattle.std.specs.Prelude.{◌≡◌, ℕ, Bool, Decides}

pub record Operations (V : Type 0) : Type 0 where
  pub none : V
  -- of the byte that goes out and the byte that comes in
  pub weigh : ℕ → ℕ → V
  pub join : V → V → V
  pub same : V → V → Bool
  -- holds v t: test t holds of v
  pub holds : V → ℕ → Bool

pub record Laws {V : Type 0} (m : Operations V) : Type 0 where
  pub comm : (a b : V) → m.join a b ≡ m.join b a
  pub assoc : (a b c : V) → m.join (m.join a b) c ≡ m.join a (m.join b c)
  pub neutral : (a : V) → m.join a m.none ≡ a
  pub nothing : m.weigh 0 0 ≡ m.none
  pub sameness : (a b : V) → Decides (m.same a b) (a ≡ b)
