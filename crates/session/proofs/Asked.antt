-- What the rows of an area say, after look and after ask.
use Rattle.std.proofs.Common.{◌≡◌, ℕ, suc, ◌+◌, ◌-◌, ◌*◌, ◌<◌, Bool, cond, List, ◌++◌, length, get_or, flat_map, slice_index, Result, Ok, Err, IfOk, refl, ap, sym, ◌∙◌, add-one, suc-mul, arith}
use Rattle.std.proofs.Math.Nat.{mul-le-mul_right}
use Rattle.std.proofs.lemmas.List.{get_or_append_left}
use Rattle.network.specs.Meaning.{Meaning}
use Rattle.measure.specs.Measures.{Operations, Laws}
use Rattle.equivalence.specs.Regular.{Table, Regular}
use Rattle.question.specs.Checks.{answer_start}
use Rattle.question.specs.Truth.{Columns, row, rows, each_node, each_role, Quotient}
use Rattle.question.specs.Areas.{row_bytes, area_after, NodesAnswered}
use Rattle.question.specs.declared.line.Line.{Line}
use Rattle.question.specs.declared.faults.Fault.{Fault}
use Rattle.question.proofs.Passing.{accepted}
use Rattle.question.proofs.Rowing as rowing
use Rattle.question.proofs.Agreement.{roles_answer, within_colours}
use Rattle.session.specs.Questions.{ask_answer, look_answer, after_ask, after_look, AnswersNodes, AnswersRoles}
use Rattle.session.specs.States.{State, IsSound, role, role_count}
use Rattle.session.proofs.Rows.{read_row, length_rows}

one_less : (n : ℕ) → 0 < n → suc (n - 1) ≡ n
one_less n some = omega arith

-- a byte of the row of line k
row_byte : (width : ℕ) (truths : List (ℕ → Bool)) (rest : List ℕ) (k p : ℕ) → k < length truths → p < width → get_or (flat_map (row_bytes width) truths ++ rest) (k * width + p) 0 ≡ cond (row truths k p) 1 0
row_byte width truths rest k p line l =
    let within : k * width + width < length truths * width + 1 = omega (arith, suc-mul k width, mul-le-mul_right {m = k + 1} {n = length truths} width (omega (arith, line)), ap (λ j. j * width) (sym (add-one k))) in
    get_or_append_left (flat_map (row_bytes width) truths) rest 0 (k * width + p) (omega (arith, length_rows width truths, within))
    ∙ read_row width truths k p line l

-- of a question that is answered in this area
module _ (lines : List Line) (width : ℕ) (area : List ℕ) (start : ℕ) (passes : answer_start lines width (length area) ≡ Ok start) where
  last_start : start ≡ (length lines - 1) * width
  last_start =
      let (some, at_last) = accepted lines width (length area) start passes in
      omega (arith, some, at_last, suc-mul (length lines - 1) width, ap (λ k. k * width) (one_less (length lines) some))

module _ {V : Type 0} (o : Operations V) (m : Meaning) (colours : Table) (lines : List Line) where
  abbrev truths : Columns → List (ℕ → Bool)
  truths at = rows o m colours at lines

  -- rows by columns, where they say at the column of each node what the network's rows say of the node
  nodes_answered :
      (at : Columns) (width start : ℕ) (area : List ℕ)
      → answer_start lines width (length area) ≡ Ok start
      → ((x : ℕ) → x < m.nodes → at.column x < width)
      → ((k x : ℕ) → x < m.nodes → row (truths at) k (at.column x) ≡ row (truths each_node) k x)
      → NodesAnswered o m colours lines at.column width start (area_after (answer_start lines width (length area)) width (truths at) area)
  nodes_answered at width start area passes ranged agree =
      let (some, at_last) = accepted lines width (length area) start passes in
      let byte : (k x : ℕ) → k < length lines → x < m.nodes → slice_index (area_after (answer_start lines width (length area)) width (truths at) area) (k * width + at.column x) ≡ cond (row (truths each_node) k x) 1 0 =
      λ k x line node. rw passes
      (row_byte width (truths at) _ k (at.column x) (omega (arith, line, rowing.length_rows o m colours at lines)) (ranged x node)
      ∙ ap {B = ℕ} (λ b. cond b 1 0) (agree k x node))
      in
      record {
        each = byte;
        last = λ x node. rw (last_start lines width area start passes) (byte (length lines - 1) x (omega (arith, some)) node);
      }

-- the heads of a settled table stand for its roles
module _ {V : Type 0} (o : Operations V) (s : State) where
  quotient : IsSound o s → Regular o s.network (role s) → Quotient o s.network s.colours (role s) s.head
  quotient sound regular =
      record {
        regular = regular;
        within = within_colours s.network.nodes s.network s.colours (role s) sound.covers.within;
        heads = λ x l. let head = sound.described (role s x) (sound.ranged x l) in (head.node, head.mate);
      }

module _ {V : Type 0} (o : Operations V) (s : State) (lines : List Line) (area : List ℕ) (start : ℕ) where
  pub look_answers : look_answer s lines area ≡ Ok start → AnswersNodes o s lines start (after_look o s lines area)
  look_answers passes = nodes_answered o s.network s.colours lines each_node s.network.nodes start area passes (λ x l. l) (λ k x l. refl)

  pub ask_answers : Laws o → IsSound o s → Regular o s.network (role s) → ask_answer s lines area ≡ Ok start → AnswersRoles o s lines start (after_ask o s lines area)
  ask_answers laws sound regular passes =
      nodes_answered o s.network s.colours lines (each_role (role s) s.head) (role_count s) start area passes sound.ranged
      (roles_answer o laws s.network s.colours (role s) s.head (quotient o s sound regular) lines)

-- the same of what ask gives back
pub ask_agrees :
    {V : Type 0} (o : Operations V) (laws : Laws o) (s : State) (sound : IsSound o s) (regular : Regular o s.network (role s)) (lines : List Line) (area new : List ℕ) (r : Result ℕ Fault)
    → r ≡ ask_answer s lines area
    → new ≡ after_ask o s lines area
    → IfOk r (λ start. AnswersRoles o s lines start new)
ask_agrees o laws s sound regular lines area new (Err f) is after = tt
ask_agrees o laws s sound regular lines area new (Ok start) is after = rw after (ask_answers o s lines area start laws sound regular (sym is))

-- and of what look gives back
pub look_agrees :
    {V : Type 0} (o : Operations V) (s : State) (lines : List Line) (area new : List ℕ) (r : Result ℕ Fault)
    → r ≡ look_answer s lines area
    → new ≡ after_look o s lines area
    → IfOk r (λ start. AnswersNodes o s lines start new)
look_agrees o s lines area new (Err f) is after = tt
look_agrees o s lines area new (Ok start) is after = rw after (look_answers o s lines area start (sym is))
