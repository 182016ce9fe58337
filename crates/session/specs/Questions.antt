-- What look and ask answer, and what the area then holds.
--
--   look_answer      where the last row of look starts, or the refusal
--   ask_answer       where the last row of ask starts, or the refusal
--   after_look       the area after look
--   after_ask        the area after ask
--   AnswersNodes     the rows of look have the network's answer for each node
--   AnswersRoles     the rows of ask have for each node's role the network's answer for the node
use Rattle.std.specs.Prelude.{ℕ, List, length, Result}
use Rattle.measure.specs.Measures.{Operations}
use Rattle.question.specs.Checks.{answer_start}
use Rattle.question.specs.Areas.{looked, asked, NodesAnswered}
use Rattle.question.specs.declared.line.Line.{Line}
use Rattle.question.specs.declared.faults.Fault.{Fault}
use Rattle.session.specs.States.{State, role, role_count}

abbrev pub look_answer : State → List Line → List ℕ → Result ℕ Fault
look_answer s lines area = answer_start lines s.network.nodes (length area)

abbrev pub ask_answer : State → List Line → List ℕ → Result ℕ Fault
ask_answer s lines area = answer_start lines (role_count s) (length area)

module _ {V : Type 0} (o : Operations V) (s : State) (lines : List Line) where
  abbrev pub after_look : List ℕ → List ℕ
  after_look area = looked o s.network s.colours lines area

  abbrev pub after_ask : List ℕ → List ℕ
  after_ask area = asked o s.network s.colours (role s) s.head lines area

  abbrev pub AnswersNodes : ℕ → List ℕ → Type 0
  AnswersNodes start area = NodesAnswered o s.network s.colours lines (λ x. x) s.network.nodes start area

  abbrev pub AnswersRoles : ℕ → List ℕ → Type 0
  AnswersRoles start area = NodesAnswered o s.network s.colours lines (role s) (role_count s) start area
