-- What each answer of a put says. No two of these are so at once: each is answered exactly where it is so.
--
--   Nodes       i and j are nodes
--   Accepts     they are, the pair is allowed, and there is room
--   Refuses     what each refusal says; a put never refuses with 1 or 2
--   PutsLaw     so it is with every network, pair and byte
use Rattle.std.specs.Prelude.{◌≡◌, ℕ, ◌<◌, ◌≤◌, ◌⊎◌, true, false, MatchResult}
use Rattle.network.specs.Meaning.{Meaning, tied_pairs}
use Rattle.network.specs.Put.{put_answer}
use Rattle.network.specs.declared.faults.Fault.{Fault}
use Rattle.network.specs.declared.faults.Fault.TheVariants.{Size, Memory, Node, Pair, Full}

abbrev pub Nodes : Meaning → ℕ → ℕ → Type 0
Nodes m i j = (i < m.nodes) × (j < m.nodes)

pub record Accepts (m : Meaning) (i j b : ℕ) : Type 0 where
  pub nodes : Nodes m i j
  pub allowed : m.allowed i j ≡ true
  pub room : (b ≡ 0) ⊎ ((0 < m.tie i j) ⊎ (tied_pairs m < m.capacity))

abbrev pub Refuses : Meaning → ℕ → ℕ → ℕ → Fault → Type 0
Refuses m i j b Size = ⊥
Refuses m i j b Memory = ⊥
Refuses m i j b Node = (m.nodes ≤ i) ⊎ (m.nodes ≤ j)
Refuses m i j b Pair = Nodes m i j × (m.allowed i j ≡ false)
Refuses m i j b Full =
    Nodes m i j × (m.allowed i j ≡ true) × (0 < b) × (m.tie i j ≡ 0) × (m.capacity ≤ tied_pairs m)

abbrev pub PutsLaw : Type 0
PutsLaw = (m : Meaning) (i j b : ℕ) → MatchResult (put_answer m i j b) (λ _. Accepts m i j b) (Refuses m i j b)
