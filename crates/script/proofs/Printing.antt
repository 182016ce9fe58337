-- What is printed node by node.
use Rattle.std.proofs.Common.{◌≡◌, ℕ, suc, zero, Bool, true, false, cond, List, [], ◌∷◌, ◌++◌, length, ◌+◌, add-one, append_assoc, append-nil, sym, ap, ◌∙◌, refl, arith}
use Rattle.measure.specs.Measures.{Operations}
use Rattle.question.specs.declared.line.Line.{Line}
use Rattle.driving.specs.Book.{Book}
use Rattle.script.specs.Listings.{each_below, true_lines}

-- what a line is printed of, or not
abbrev pub lines_of : (ℕ → Bool) → (ℕ → List ℕ) → ℕ → List ℕ
lines_of says line x = cond (says x) (line x) []

module _ (says : ℕ → Bool) (line : ℕ → List ℕ) (x : ℕ) (initial out : List ℕ) (so_far : out ≡ initial ++ each_below (lines_of says line) x) where
  pub printed_more : says x ≡ true → out ++ line x ≡ initial ++ each_below (lines_of says line) (x + 1)
  printed_more says_so = rw (add-one x, so_far, says_so) (append_assoc initial (each_below (lines_of says line) x) (line x))

  pub printed_same : says x ≡ false → out ≡ initial ++ each_below (lines_of says line) (x + 1)
  printed_same denies = rw (add-one x, denies) (so_far ∙ ap (λ v. initial ++ v) (sym (append-nil (each_below (lines_of says line) x))))

nothing_printed : (n : ℕ) → each_below (λ x. []) n ≡ []
nothing_printed zero = refl
nothing_printed (suc n) = rw (nothing_printed n) refl

-- a question without lines is true of no node
pub true_lines_none : {V : Type 0} (o : Operations V) (book : Book) (lines : List Line) → length lines ≡ 0 → true_lines o book lines ≡ []
unfolding true_lines
true_lines_none o book [] e = nothing_printed book.network.nodes
true_lines_none o book (line ∷ lines) e = absurd (omega arith)
