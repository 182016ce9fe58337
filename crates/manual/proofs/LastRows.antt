-- Whom the last rows name, after ask and after look.
use Rattle.std.proofs.Common.{◌≡◌, ℕ, ◌+◌, ◌-◌, ◌*◌, ◌<◌, ◌≤◌, Bool, true, false, cond, eqb, List, length, take, drop, filter, slice_index, Ok, MatchResult, refl, sym, ap, ◌∙◌, arith}
use Rattle.std.specs.List.{range_with_len}
use Rattle.std.specs.Result.{IsOk}
use Rattle.std.proofs.lemmas.Bool.Decides.{nat_tests}
use Rattle.std.proofs.lemmas.List.{get_or-take, get_or-drop, length-take-le, length-drop}
use Rattle.measure.specs.Measures.{Operations}
use Rattle.question.specs.Checks.{answer_start, lines_check, Askable, Refuses}
use Rattle.question.specs.Truth.{answer, each_node}
use Rattle.question.specs.declared.line.Line.{Line}
use Rattle.question.specs.declared.faults.Fault.{Fault}
use Rattle.question.proofs.ChecksLaw.{checks_law}
use Rattle.session.specs.Questions.{AnswersRoles, look_answer, after_look}
use Rattle.session.specs.States.{State, IsSound, role, role_count}
use Rattle.session.proofs.Asked.{look_answers}
use Rattle.manual.specs.Asking.{ones, Answered}
use Rattle.manual.specs.declared.asking.Answer.{Answer}
use Rattle.manual.proofs.Passing.{passing_same, contains_passing}

is_one : (b : Bool) → eqb (cond b 1 0) 1 ≡ b
is_one true = refl
is_one false = refl

same_bit : (a b : Bool) → ◌≡◌ {A = ℕ} (cond a 1 0) (cond b 1 0) → a ≡ b
same_bit a b e = sym (is_one a) ∙ ap (λ k. eqb k 1) e ∙ is_one b

-- the last row lies in the area
room : (lines : List Line) (width size start : ℕ) → answer_start lines width size ≡ Ok start → start + width ≤ size
room lines width size start e =
    let law : MatchResult {T = ℕ} {E = Fault} (Ok start) (λ start. Askable lines width size × (start + width ≡ length lines * width)) (Refuses lines width size) = rw e at (checks_law lines width size) in
    omega (arith, law.0.room, law.1)

-- four lines that pass are never refused, where the area has room for them at 128 columns
pub four_start : (lines : List Line) (width : ℕ) → length lines ≡ 4 → lines_check 0 lines ≡ Ok tt → width ≤ 128 → IsOk (answer_start lines width 512)
four_start lines width four passes narrow = rw (four, passes) (grind (arith, nat_tests, narrow))

ones_row :
    (lines : List Line) (area : List ℕ) (n width start : ℕ) (p : ℕ → Bool)
    → width ≡ n
    → answer_start lines n (length area) ≡ Ok start
    → ((k : ℕ) → k < n → slice_index area (start + k) ≡ cond (p k) 1 0)
    → ones (take (start + width - start) (drop start area)) ≡ filter p (range_with_len 0 n)
ones_row lines area n width start p is starts says =
    let fits = room lines n (length area) start starts in
    let count : start + width - start ≡ n = omega (arith, is) in
    let rest = drop start area in
    let long : length (take n rest) ≡ n = length-take-le n rest (omega (arith, length-drop start area, fits)) in
    rw (count, long)
    (passing_same _ p n (λ k l. ap (λ b. eqb b 1) (get_or-take n rest k 0 l ∙ get_or-drop start area k 0 ∙ says k l) ∙ is_one (p k)))

module _ {V : Type 0} (o : Operations V) (s : State) (sound : IsSound o s) (lines : List Line) where
  abbrev says : ℕ → Bool
  says = answer o s.network s.colours each_node lines

  module _ (area : List ℕ) (start : ℕ) (asked : AnswersRoles o s lines start area) where
    -- a role's byte is the answer of its head
    head_byte : (r : ℕ) → r < role_count s → slice_index area (start + r) ≡ cond (says (s.head r)) 1 0
    head_byte r l =
        let told = sound.described r l in
        rw told.mate at (asked.last (s.head r) told.node)

    -- and so of each of its nodes
    head_says : (x : ℕ) → x < s.network.nodes → says (s.head (role s x)) ≡ says x
    head_says x l =
        let told = sound.described (role s x) (sound.ranged x l) in
        same_bit _ _ (sym (asked.last (s.head (role s x)) told.node) ∙ ap (λ r. slice_index area (start + r)) told.mate ∙ asked.last x l)

    named : (a : Answer) → a.nodes.items ≡ filter says (range_with_len 0 s.network.nodes) → a.roles.items ≡ filter (λ r. says (s.head r)) (range_with_len 0 (role_count s)) → Answered s says a
    named a nodes roles_are =
        record {
          nodes = nodes;
          roles = roles_are;
          agree = λ x l.
              let by_role = contains_passing (λ r. says (s.head r)) (role_count s) (role s x) in
              let by_node = contains_passing says s.network.nodes x in
              rw (nodes, roles_are) (
                λ has. by_node.1 (l, sym (head_says x l) ∙ (by_role.0 has).1),
                λ has. by_role.1 (sound.ranged x l, head_says x l ∙ (by_node.0 has).1),
              );
        }

  -- the rows of an area after ask, and of that area after look
  pub answered :
      (area : List ℕ) (size start width : ℕ)
      → length area ≡ size
      → answer_start lines (role_count s) size ≡ Ok start
      → width ≡ role_count s
      → AnswersRoles o s lines start area
      → (after : List ℕ) (next n : ℕ)
      → look_answer s lines area ≡ Ok next
      → length after ≡ length area
      → n ≡ s.network.nodes
      → after ≡ after_look o s lines area
      → (a : Answer)
      → a.roles.items ≡ ones (take (start + width - start) (drop start area))
      → a.nodes.items ≡ ones (take (next + n - next) (drop next after))
      → Answered s says a
  answered area size start width room_for starts wide asked after next n starts_next long all is a roles_are nodes_are =
      named area start asked a
      (nodes_are
      ∙ ones_row lines after s.network.nodes n next says all
      (ap (answer_start lines s.network.nodes) long ∙ starts_next)
      (λ k l. ap (λ bytes. slice_index bytes (next + k)) is ∙ (look_answers o s lines area next starts_next).last k l))
      (roles_are ∙ ones_row lines area (role_count s) width start _ wide (ap (answer_start lines (role_count s)) room_for ∙ starts) (head_byte area start asked))
