-- What a question is true of.
--
--   Columns        what a row has columns for: the node that stands for a column, and the column of a node
--   row            the row of a line, as far as there are rows; false off them
--   claimed        a claim at a column, where `truth k p` says whether line k is true at column p
--   line_row       the row of a line, likewise
--   rows           the rows of all lines, one after another
--   answer         what the last line is true of
--   each_node      a column for each node, which stands for itself
--   each_role      a column for each role, and its head stands for it
--   AsClaimed      each line is true exactly as it claims, by the truth of the lines that it names
--   TruthLaw       where every line names only earlier ones, the rows are so, and no other truth of the lines is
--   Quotient       the roles of a regular table within the colours, with a node of each for its head
--   RolesAnswer    a line is true of a node exactly where it is true of the node's role in the quotient
--
-- AsClaimed, where every line passes, is the definition of a line's truth by recursion on the lines that it names: TruthLaw says that it has the rows as its one solution.
-- Look's rows are `rows` at each node, and ask's are `rows` at each role: there a line that is named is read as all nodes of its true roles.
use Rattle.std.specs.Prelude.{◌≡◌, ℕ, ◌-◌, ◌<◌, Bool, false, not, ◌&&◌, ◌==◌, List, [], ◌∷◌, ◌++◌, length, slice_index_or, fold, Some, None}
use Rattle.network.specs.Meaning.{Meaning}
use Rattle.measure.specs.Measures.{Operations}
use Rattle.equivalence.specs.Totals.{total}
use Rattle.equivalence.specs.Regular.{Table, Regular}
use Rattle.equivalence.specs.Coarsest.{Refines}
use Rattle.question.specs.Lines.{claim, line_at}
use Rattle.question.specs.Checks.{EachPasses}
use Rattle.question.specs.declared.line.Line.{Line}
use Rattle.question.specs.declared.line.Claim.{Claim}
use Rattle.question.specs.declared.line.Claim.TheVariants.{Colour, Not, And, Tied}

pub record Columns : Type 0 where
  pub node : ℕ → ℕ
  pub column : ℕ → ℕ

abbrev pub row : List (ℕ → Bool) → ℕ → ℕ → Bool
row rows k = slice_index_or rows k (λ _. false)

module _ {V : Type 0} (o : Operations V) (m : Meaning) (colours : Table) (at : Columns) where
  abbrev pub claimed : (ℕ → ℕ → Bool) → Claim → ℕ → Bool
  claimed truth (Colour c) p = colours (at.node p) == c
  claimed truth (Not k) p = not (truth k p)
  claimed truth (And k l) p = truth k p && truth l p
  claimed truth (Tied k t) p = o.holds (total o m (at.node p) (λ y. truth k (at.column y))) t

  -- a line of an unknown code, which no question that is answered has, is true of nothing
  abbrev pub line_row : (ℕ → ℕ → Bool) → Line → ℕ → Bool
  line_row truth line p = elim (claim line) [ Some c ↦ claimed truth c p | None ↦ false ]

  abbrev pub rows : List Line → List (ℕ → Bool)
  rows lines = fold (λ before line. before ++ line_row (row before) line ∷ []) [] lines

  abbrev pub answer : List Line → ℕ → Bool
  answer lines = row (rows lines) (length lines - 1)

  abbrev pub AsClaimed : List Line → (ℕ → ℕ → Bool) → Type 0
  AsClaimed lines truth = (k : ℕ) (c : Claim) → k < length lines → claim (line_at lines k) ≡ Some c → (p : ℕ) → truth k p ≡ claimed truth c p

abbrev pub each_node : Columns
each_node = record { node = λ p. p; column = λ y. y }

abbrev pub each_role : Table → (ℕ → ℕ) → Columns
each_role role head = record { node = head; column = role }

pub record TruthLaw {V : Type 0} (o : Operations V) : Type 0 where
  pub solved : (m : Meaning) (colours : Table) (at : Columns) (lines : List Line) → EachPasses lines → AsClaimed o m colours at lines (row (rows o m colours at lines))
  pub only : (m : Meaning) (colours : Table) (at : Columns) (lines : List Line) (truth : ℕ → ℕ → Bool) → EachPasses lines → AsClaimed o m colours at lines truth → (k p : ℕ) → k < length lines → truth k p ≡ row (rows o m colours at lines) k p

pub record Quotient {V : Type 0} (o : Operations V) (m : Meaning) (colours role : Table) (head : ℕ → ℕ) : Type 0 where
  pub regular : Regular o m role
  pub within : Refines m.nodes role colours
  pub heads : (x : ℕ) → x < m.nodes → (head (role x) < m.nodes) × (role (head (role x)) ≡ role x)

abbrev pub RolesAnswer : {V : Type 0} → Operations V → Type 0
RolesAnswer o = (m : Meaning) (colours role : Table) (head : ℕ → ℕ) → Quotient o m colours role head → (lines : List Line) (k x : ℕ) → x < m.nodes → row (rows o m colours (each_role role head) lines) k (role x) ≡ row (rows o m colours each_node lines) k x
