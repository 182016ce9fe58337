-- A network that keeps the byte of each pair at a place of a memory.
--
--   Layout      nodes and pairs of a network, and where their bytes stand
--   place_in    the place of a pair's byte, if it has one
--   with_ties   the network with these ties
--   grid_of     the network whose bytes these are
--   cleared     the first bytes set to 0
--   written     the bytes after a put
--   LaidOut     each pair of nodes that may be tied has a byte of its own
use Rattle.std.specs.Prelude.{◌≡◌, ℕ, ◌<◌, Bool, true, cond, ◌&&◌, List, ◌++◌, drop, replicate, Option, Some, None, Ok, Err, slice_index, slice_set}
use Rattle.network.specs.Meaning.{Meaning, count_below, inside, sum_below}
use Rattle.network.specs.Put.{put_answer}

pub record Layout : Type 0 where
  pub nodes : ℕ
  -- the pairs that may be tied
  pub allowed : ℕ → ℕ → Bool
  -- how many pairs have a byte
  pub pairs : ℕ
  -- the pairs that have a byte
  pub has : ℕ → ℕ → Bool
  pub place : ℕ → ℕ → ℕ

abbrev pub place_in : Layout → ℕ → ℕ → Option ℕ
place_in l i j = cond (l.has i j) (Some (l.place i j)) None

-- all pairs that have a byte may be tied at a time
abbrev pub with_ties : Layout → (ℕ → ℕ → ℕ) → Meaning
with_ties l tie = record { nodes = l.nodes; tie = tie; allowed = l.allowed; capacity = l.pairs }

-- the byte of each pair that has one, and 0 elsewhere
abbrev pub grid_of : Layout → List ℕ → Meaning
grid_of l bytes = with_ties l (λ i j. cond (l.has i j) (slice_index bytes (l.place i j)) 0)

-- the first k bytes are 0, the others as before
abbrev pub cleared : ℕ → List ℕ → List ℕ
cleared k bytes = replicate k 0 ++ drop k bytes

-- one byte differs where the put is accepted, none where it is refused
abbrev pub written : Layout → List ℕ → ℕ → ℕ → ℕ → List ℕ
written l bytes i j b = elim (put_answer (grid_of l bytes) i j b) [ Ok _ ↦ slice_set bytes (l.place i j) b | Err _ ↦ bytes ]

pub record LaidOut (l : Layout) : Type 0 where
  -- the pairs of nodes that may be tied, and no other, have a byte
  pub has : (i j : ℕ) → l.has i j ≡ (inside l.nodes i j && l.allowed i j)
  -- among the first of them
  pub below : (i j : ℕ) → l.has i j ≡ true → l.place i j < l.pairs
  -- no two share one
  pub apart : (i j x y : ℕ) → l.has i j ≡ true → l.has x y ≡ true → l.place x y ≡ l.place i j → (x ≡ i) × (y ≡ j)
  -- so many pairs have a byte
  pub counted : sum_below (λ i. count_below (l.has i) l.nodes) l.nodes ≡ l.pairs
