-- Rows of truth, written as bytes and read again.
use Rattle.std.proofs.Common.{◌≡◌, ℕ, zero, suc, ◌+◌, ◌*◌, ◌<◌, ◌≤◌, Bool, true, false, cond, eqb, List, [], ◌∷◌, ◌++◌, length, get_or, set, replicate, inl, inr, take, drop, filter, flat_map, Some, None, sym, refl, ap, ◌∙◌, add-one, suc-mul, arith}
use mir.Val.{bool_byte}
use Rattle.std.specs.List.{All, range_with_len}
use Rattle.std.proofs.Math.Nat.{mul-le-mul_right}
use Rattle.std.proofs.lemmas.Bool.{cases_eq}
use Rattle.std.proofs.lemmas.Bool.Decides.{nat_tests}
use Rattle.std.proofs.lemmas.Grind.{get_or-set_at}
use Rattle.std.proofs.lemmas.List.{length-append, length-replicate, get_or-replicate, get_or-set_other, get_or_append_left, get_or-append-add, take_at, drop_at, drop-drop, append-nil, append_assoc}
use Rattle.std.proofs.lemmas.List.Concat.{flat_map-append}
use Rattle.std.proofs.lemmas.List.Elements.{All-filter}
use Rattle.std.proofs.lemmas.List.FromFn.{length-range_with_len, get_or-range_with_len, fill_by_all, length-map-range_with_len, get_or-map-range_with_len}
use Rattle.network.specs.Meaning.{Meaning}
use Rattle.measure.specs.Measures.{Operations}
use Rattle.equivalence.specs.Regular.{Table}
use Rattle.question.proofs.Rowing.{claimed_same}
use Rattle.question.specs.Lines.{claim, earlier, Passes}
use Rattle.question.specs.Truth.{Columns, row, claimed, line_row}
use Rattle.question.specs.Areas.{row_bytes}
use Rattle.question.specs.declared.line.Line.{Line}
use Rattle.question.specs.declared.line.Claim.{Claim}
use Rattle.question.specs.declared.line.Claim.TheVariants.{Colour, Not, And, Tied}
use Rattle.session.specs.Marks.{marked, Written}

-- the nodes of a set are nodes
pub listed_below : (among : ℕ → Bool) (n : ℕ) (nodes : List ℕ) → nodes ≡ filter among (range_with_len 0 n) → All (λ y. y < n) nodes
listed_below among n nodes is =
    rw is (All-filter among (λ y. y < n) (range_with_len 0 n) (λ k d l. omega (arith, l, length-range_with_len 0 n, get_or-range_with_len 0 n k d (omega (arith, l, length-range_with_len 0 n)))))

pub row_filled : (width : ℕ) (true_at : ℕ → Bool) (bytes : List ℕ) → length bytes ≡ width → ((p : ℕ) → p < width → get_or bytes p 0 ≡ cond (true_at p) 1 0) → bytes ≡ row_bytes width true_at
row_filled width true_at bytes long at = fill_by_all _ bytes width 0 long at

-- the bytes below p are written
abbrev pub Filled : List ℕ → ℕ → (ℕ → Bool) → Type 0
Filled bytes p true_at = (q : ℕ) → q < p → get_or bytes q 0 ≡ cond (true_at q) 1 0

pub byte_of_test : (b : Bool) → bool_byte b ≡ cond b 1 0
byte_of_test true = refl
byte_of_test false = refl

-- a byte more
pub filled_more : (bytes : List ℕ) (p b : ℕ) (true_at : ℕ → Bool) → p < length bytes → Filled bytes p true_at → b ≡ cond (true_at p) 1 0 → Filled (set bytes p b) (p + 1) true_at
filled_more bytes p b true_at l filled is q under =
    elim (cases_eq q p) [
      | inl here ↦ get_or-set_at bytes p q b 0 here l ∙ is ∙ ap {B = ℕ} (λ k. cond (true_at k) 1 0) (sym here)
      | inr off ↦ get_or-set_other bytes p q b 0 off ∙ filled q (omega (arith, under, off))
    ]

pub row_same : (width : ℕ) (r s : ℕ → Bool) → ((p : ℕ) → p < width → r p ≡ s p) → row_bytes width r ≡ row_bytes width s
row_same width r s same =
    row_filled width s (row_bytes width r) (length-map-range_with_len _ 0 width) (λ p l. get_or-map-range_with_len _ 0 width p p 0 l (omega arith) ∙ ap {B = ℕ} (λ b. cond b 1 0) (same p l))

module _ (width : ℕ) where
  pub row_byte_is : (r : ℕ → Bool) (p : ℕ) → p < width → get_or (row_bytes width r) p 0 ≡ cond (r p) 1 0
  row_byte_is r p l = get_or-map-range_with_len _ 0 width p p 0 l (omega arith)

  length_row : (r : ℕ → Bool) → length (row_bytes width r) ≡ width
  length_row r = length-map-range_with_len _ 0 width

  pub length_rows : (rows : List (ℕ → Bool)) → length (flat_map (row_bytes width) rows) ≡ length rows * width
  length_rows [] = omega arith
  length_rows (r ∷ rows) = length-append (row_bytes width r) (flat_map (row_bytes width) rows) ∙ rw suc-mul (omega (arith, length_row r, length_rows rows))

  pub read_row : (rows : List (ℕ → Bool)) (k p : ℕ) → k < length rows → p < width → get_or (flat_map (row_bytes width) rows) (k * width + p) 0 ≡ cond (row rows k p) 1 0
  read_row [] k p lk lp = absurd (omega arith)
  read_row (r ∷ rows) zero p lk lp =
      let at : 0 * width + p ≡ p = omega arith in
      ap (λ i. get_or (row_bytes width r ++ flat_map (row_bytes width) rows) i 0) at
      ∙ get_or_append_left (row_bytes width r) (flat_map (row_bytes width) rows) 0 p (omega (arith, length_row r))
      ∙ row_byte_is r p lp
  read_row (r ∷ rows) (suc k) p lk lp =
      let at : suc k * width + p ≡ length (row_bytes width r) + (k * width + p) = rw suc-mul (omega (arith, length_row r)) in
      ap (λ i. get_or (row_bytes width r ++ flat_map (row_bytes width) rows) i 0) at
      ∙ get_or-append-add (row_bytes width r) (flat_map (row_bytes width) rows) (k * width + p) 0
      ∙ read_row rows k p (omega arith) lp

  bit_is : (b : Bool) → eqb (cond b 1 0) 1 ≡ b
  bit_is true = refl
  bit_is false = refl

  -- what is written of a row is read
  pub marked_row : (rows : List (ℕ → Bool)) (k p : ℕ) → k < length rows → p < width → marked width (flat_map (row_bytes width) rows) k p ≡ row rows k p
  marked_row rows k p lk lp = ap (λ v. eqb v 1) (read_row rows k p lk lp) ∙ bit_is (row rows k p)

  under : (k at : ℕ) → k < at → k * width + width ≤ at * width
  under k at l = omega (arith, rw suc-mul at (mul-le-mul_right {m = suc k} {n = at} width (omega arith)))

  -- a claim that names only earlier lines reads rows that are written
  pub written : (at : ℕ) (c : Claim) → earlier at c ≡ true → Written width (at * width) c
  written at (Colour c) e = tt
  written at (Not k) e = under k at (grind (arith, nat_tests))
  written at (And k l) e = (under k at (grind (arith, nat_tests)), under l at (grind (arith, nat_tests)))
  written at (Tied k t) e = under k at (grind (arith, nat_tests))

  module _ (before : List (ℕ → Bool)) (k : ℕ) (count : length before ≡ k) (area old : List ℕ) (held : area ≡ flat_map (row_bytes width) before ++ drop (k * width) old) where
    long : length (flat_map (row_bytes width) before) ≡ k * width
    long = length_rows before ∙ ap (λ n. n * width) count

    -- the rows so far are what stands before row k
    pub rows_front : (front : List ℕ) → front ≡ take (k * width) area → front ≡ flat_map (row_bytes width) before
    rows_front front is = is ∙ ap (take (k * width)) held ∙ take_at (flat_map (row_bytes width) before) (drop (k * width) old) (k * width) long

    -- a row is written behind them, over what the area held there
    pub row_written :
        (r : ℕ → Bool) (front back here : List ℕ)
        → front ≡ flat_map (row_bytes width) before
        → back ≡ drop (k * width) area
        → here ≡ row_bytes width r
        → front ++ (here ++ drop width back) ≡ flat_map (row_bytes width) (before ++ r ∷ []) ++ drop ((k + 1) * width) old
    row_written r front back here front_is back_is here_is =
        let rows = flat_map (row_bytes width) before in
        let behind : drop width (drop (k * width) old) ≡ drop ((k + 1) * width) old = drop-drop width (k * width) old ∙ ap (λ i. drop i old) (rw (add-one k, suc-mul) (omega arith)) in
        rw (front_is, back_is, here_is, held, drop_at rows (drop (k * width) old) (k * width) long, behind, flat_map-append (row_bytes width) before (r ∷ []), append-nil (row_bytes width r))
        (sym (append_assoc rows (row_bytes width r) (drop ((k + 1) * width) old)))

module _ {V : Type 0} (o : Operations V) (m : Meaning) (colours : Table) (at : Columns) (truth : ℕ → ℕ → Bool) (line : Line) where
  line_claim : (c : Claim) → claim line ≡ Some c → (p : ℕ) → line_row o m colours at truth line p ≡ claimed o m colours at truth c p
  line_claim c says p = ap {B = Bool} (λ t. elim t [ Some b ↦ claimed o m colours at truth b p | None ↦ false ]) says

  -- a line of an unknown code is true of nothing
  pub row_none : (width : ℕ) → claim line ≡ None → replicate width 0 ≡ row_bytes width (line_row o m colours at truth line)
  row_none width says =
      row_filled width _ (replicate width 0) (length-replicate width 0)
      (λ p l. get_or-replicate width p 0 0 l ∙ ap {B = ℕ} (λ c. cond (elim c [ Some b ↦ claimed o m colours at truth b p | None ↦ false ]) 1 0) (sym says))

  -- the row of a line, once it is filled as the line claims
  pub row_claimed : (width : ℕ) (bytes : List ℕ) (c : Claim) → length bytes ≡ width → claim line ≡ Some c → Filled bytes width (claimed o m colours at truth c) → bytes ≡ row_bytes width (line_row o m colours at truth line)
  row_claimed width bytes c long says filled = row_filled width _ bytes long (λ p l. filled p l ∙ ap {B = ℕ} (λ b. cond b 1 0) (sym (line_claim c says p)))

module _ {V : Type 0} (o : Operations V) (m : Meaning) (colours : Table) (at : Columns) (width : ℕ) (known : (y : ℕ) → y < m.nodes → at.column y < width) (before : List (ℕ → Bool)) where
  -- the row of a line that passes, by the bytes of the rows before it
  pub line_read : (bytes : List ℕ) (line : Line) → bytes ≡ flat_map (row_bytes width) before → Passes (length before) line → row_bytes width (line_row o m colours at (marked width bytes) line) ≡ row_bytes width (line_row o m colours at (row before) line)
  line_read bytes line is (c, says, after) =
      let read : ℕ → ℕ → Bool = marked width (flat_map (row_bytes width) before) in
      rw is
      (row_same width _ _ (λ p l.
      line_claim o m colours at read line c says p
      ∙ claimed_same o m colours at read (row before) (length before) p (λ j h. marked_row width before j p h l) (λ j y h node. marked_row width before j (at.column y) h (known y node)) c after
      ∙ sym (line_claim o m colours at (row before) line c says p)))
