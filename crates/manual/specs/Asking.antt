-- What the page asks, and what a settled session answers.
--
--   Means            where every colour is 0, the question is true of the nodes that are sought, and of no other
--   toward_claims    the claims of a question: who holds test t toward the nodes that do not hold test s
--   TiedToAnEnd      x is tied to a node that is tied to none
--   bundle_with      the number of what x has with y: 1 is a tie of kind 0 out alone, 9 one each way
--   TiedOneWay       x is tied one way to a node with no mutual tie
--   any              every node
--   TiedToTwoEnds    x is tied to two nodes or more that are tied to none
--   ones             the columns of a row whose bytes are 1, in order
--   Answered         the nodes that a question is true of, and the roles of just these nodes
use Rattle.std.specs.Prelude.{◌≡◌, ℕ, ◌<◌, ◌≤◌, Bool, true, ◌==◌, ◌↔◌, List, [], ◌∷◌, length, filter, slice_index, Option, Some, Decides, Contains}
use Rattle.std.specs.List.{range_with_len}
use Rattle.network.specs.Meaning.{Meaning}
use Rattle.measure.specs.Measures.{Operations}
use Rattle.measure.specs.Bundles.{bundle}
use Rattle.equivalence.specs.Classical.{tied_by}
use Rattle.equivalence.specs.Equitable.{out_neighbours}
use Rattle.equivalence.specs.Regular.{Table}
use Rattle.question.specs.Truth.{answer, each_node}
use Rattle.question.specs.declared.line.Line.{Line}
use Rattle.question.specs.declared.line.Claim.{Claim}
use Rattle.session.specs.States.{State, role, role_count}
use Rattle.manual.specs.declared.asking.Answer.{Answer}

abbrev pub Means : {V : Type 0} → Operations V → (Meaning → ℕ → Type 0) → List Line → Type 0
Means o sought lines = (m : Meaning) (colours : Table) → m.nodes ≤ 128 → ((y : ℕ) → colours y ≡ 0) → (x : ℕ) → x < m.nodes → Decides (answer o m colours each_node lines x) (sought m x)

abbrev pub toward_claims : ℕ → ℕ → List (Option Claim)
toward_claims s t = Some (Claim.Colour 0) ∷ Some (Claim.Tied 0 s) ∷ Some (Claim.Not 1) ∷ Some (Claim.Tied 2 t) ∷ []

abbrev pub TiedToAnEnd : Meaning → ℕ → Type 0
TiedToAnEnd m x = (y : ℕ) × (y < m.nodes) × tied_by 0 m x y × ((z : ℕ) → z < m.nodes → ¬ tied_by 0 m y z)

abbrev pub bundle_with : Meaning → ℕ → ℕ → ℕ
bundle_with m x y = bundle (m.tie x y) (m.tie y x)

abbrev pub TiedOneWay : Meaning → ℕ → Type 0
TiedOneWay m x = (y : ℕ) × (y < m.nodes) × (bundle_with m x y ≡ 1) × ((z : ℕ) → z < m.nodes → ¬ (bundle_with m y z ≡ 9))

abbrev pub any : ℕ → Bool
any y = true

abbrev pub TiedToTwoEnds : Meaning → ℕ → Type 0
TiedToTwoEnds m x = 2 ≤ out_neighbours m x (λ y. out_neighbours m y any == 0)

abbrev pub ones : List ℕ → List ℕ
ones row = filter (λ p. slice_index row p == 1) (range_with_len 0 (length row))

pub record Answered (s : State) (says : ℕ → Bool) (a : Answer) : Type 0 where
  pub nodes : a.nodes.items ≡ filter says (range_with_len 0 s.network.nodes)
  -- the roles whose head is one of them
  pub roles : a.roles.items ≡ filter (λ r. says (s.head r)) (range_with_len 0 (role_count s))
  -- a role is named exactly where each of its nodes is
  pub agree : (x : ℕ) → x < s.network.nodes → Contains a.roles.items (role s x) ↔ Contains a.nodes.items x
