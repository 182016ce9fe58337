-- Where the record that is refused stands.
--
--   Stands    behind these records the script goes on with this one
--   From      the refusal is of one of these records, in a script as far as it is played
use Rattle.std.proofs.Common.{◌≡◌, ◌≢◌, ◌⊎◌, ℕ, ◌+◌, ◌-◌, ◌<◌, suc, false, List, [], ◌∷◌, ◌++◌, length, get_or, take, drop, Ok, Err, refl, sym, ap, subst, ◌∙◌, inl, inr, arith}
use Rattle.std.specs.List.{All, fold, sum_by, slice_split, before_first, after_first, position_or_len}
use Rattle.std.proofs.Math.Seq.{take-append-add, drop-append-add, get_or-append_seam}
use Rattle.std.proofs.lemmas.Bool.{cases_eq, cases_lt}
use Rattle.std.proofs.lemmas.Bool.Decides.{nat_tests}
use Rattle.std.proofs.lemmas.List.{drop_all, get_or-append-add, get_or-take, length-append, length-take-le}
use Rattle.std.proofs.lemmas.List.Elements.{All-nil, All-cons, All-append, All-same, All-weaker}
use Rattle.std.proofs.lemmas.List.Splits.{slice_split_none}
use Rattle.std.proofs.lemmas.List.Sums.{fails_before_first, passes_at_first, split_at_first, sum_by-cons}
use Rattle.script.specs.PlacesLaw.{Placed, PlacesLaw}
use Rattle.script.specs.SequenceLaw.{afresh}
use Rattle.script.specs.Stages.{Outcome, outcome}
use Rattle.script.specs.Transcripts.{Played, blank, fault_at, newline, play, records, refusals, after_outcome}
use Rattle.script.specs.declared.faults.Fault.{Fault}
use Rattle.script.proofs.SequenceLaw.{refusals_within}
use Rattle.script.proofs.Sequences.{count_after, faults_on, offset_after, records_before, records_first, width}

record Stands (script : List ℕ) (before : List (List ℕ)) (line : List ℕ) : Type 0 where
  pub behind : length (records (take (sum_by width before) script)) ≡ length before
  pub begins : (sum_by width before ≡ 0) ⊎ (get_or script (sum_by width before - 1) 0 ≡ 10)
  pub first : before_first newline (drop (sum_by width before) script) ≡ line

-- places in what stands behind a line feed
take_behind : (x rest : List ℕ) (n w : ℕ) → n ≡ length x + suc w → take n (x ++ 10 ∷ rest) ≡ x ++ 10 ∷ take w rest
take_behind x rest n w is = rw is (take-append-add x (10 ∷ rest) (suc w))

drop_behind : (x rest : List ℕ) (n w : ℕ) → n ≡ length x + suc w → drop n (x ++ 10 ∷ rest) ≡ drop w rest
drop_behind x rest n w is = rw is (drop-append-add x (10 ∷ rest) (suc w))

at_behind : (x rest : List ℕ) (n w : ℕ) → n ≡ length x + suc w → get_or (x ++ 10 ∷ rest) n 0 ≡ get_or rest w 0
at_behind x rest n w is = rw is (get_or-append-add x (10 ∷ rest) (suc w) 0)

at_feed : (x rest : List ℕ) (n : ℕ) → n ≡ length x → get_or (x ++ 10 ∷ rest) n 0 ≡ 10
at_feed x rest n is = rw is (get_or-append_seam x 10 rest 0)

stands_behind : (x rest : List ℕ) → All (λ b. newline b ≡ false) x → (before : List (List ℕ)) (line : List ℕ) → Stands rest before line → Stands (x ++ 10 ∷ rest) (x ∷ before) line
stands_behind x rest plain before line stands =
    let w = sum_by width before in
    let n = sum_by width (x ∷ before) in
    let wide : n ≡ length x + suc w = omega (arith, sum_by-cons width x before) in
    let one : slice_split newline x ≡ x ∷ [] = slice_split_none newline x plain in
    let parts : records (x ++ 10 ∷ take w rest) ≡ x ∷ records (take w rest) = records_before x (take w rest) ∙ ap (λ parts. parts ++ records (take w rest)) one in
    let counted : length (records (x ++ 10 ∷ take w rest)) ≡ length (x ∷ before) = omega (arith, ap length parts, stands.behind) in
    record {
      behind = ap (λ bytes. length (records bytes)) (take_behind x rest n w wide) ∙ counted;
      begins = inr (begins w n wide (cases_eq w 0) stands.begins);
      first = ap (before_first newline) (drop_behind x rest n w wide) ∙ stands.first;
    }
  where
    begins : (w n : ℕ) → n ≡ length x + suc w → (w ≡ 0) ⊎ (w ≢ 0) → (w ≡ 0) ⊎ (get_or rest (w - 1) 0 ≡ 10) → get_or (x ++ 10 ∷ rest) (n - 1) 0 ≡ 10
    begins w n wide (inl none) at = at_feed x rest (n - 1) (omega arith)
    begins w n wide (inr some) (inl none) = absurd (some none)
    begins w n wide (inr some) (inr at) = at_behind x rest (n - 1) (w - 1) (omega arith) ∙ at

some_bytes : (script : List ℕ) (before : List (List ℕ)) (line : List ℕ) (rest : List (List ℕ)) → records script ≡ before ++ line ∷ rest → 0 < length script
some_bytes [] before line rest is = let none : 0 ≡ length (before ++ line ∷ rest) = ap length is in absurd (omega (arith, length-append before (line ∷ rest)))
some_bytes (b ∷ script) before line rest is = omega arith

plain_first : (script : List ℕ) → position_or_len newline script < length script → All (λ b. newline b ≡ false) (before_first newline script)
plain_first script within k d l =
    let inside : k < position_or_len newline script = omega (arith, length-take-le (position_or_len newline script) script (omega arith)) in
    rw (get_or-take (position_or_len newline script) script k d inside) (fails_before_first newline script k d inside)

cut_first : (script : List ℕ) → position_or_len newline script < length script → script ≡ before_first newline script ++ 10 ∷ after_first newline script
cut_first script within =
    let feed = passes_at_first newline script 0 within in
    let is : get_or script (position_or_len newline script) 0 ≡ 10 = grind (arith, nat_tests) in
    split_at_first newline script 0 within ∙ ap (λ b. before_first newline script ++ b ∷ after_first newline script) is

stands_at : (before : List (List ℕ)) (line : List ℕ) (rest : List (List ℕ)) (script : List ℕ) → records script ≡ before ++ line ∷ rest → Stands script before line
stands_at [] line rest script is =
    let parts : before_first newline script ∷ records (after_first newline script) ≡ line ∷ rest = sym (records_first script (some_bytes script [] line rest is)) ∙ is in
    record { behind = refl; begins = inl refl; first = cc }
stands_at (x ∷ before) line rest script is =
    let parts : before_first newline script ∷ records (after_first newline script) ≡ x ∷ (before ++ line ∷ rest) = sym (records_first script (some_bytes script (x ∷ before) line rest is)) ∙ is in
    let first : before_first newline script ≡ x = cc in
    let later : records (after_first newline script) ≡ before ++ line ∷ rest = cc in
    elim (cases_lt (position_or_len newline script) (length script)) [
      | inl within ↦
          let stands = stands_behind (before_first newline script) (after_first newline script) (plain_first script within) before line (stands_at before line rest (after_first newline script) later) in
          subst (λ text. Stands text (x ∷ before) line) (sym (cut_first script within)) (subst (λ part. Stands (before_first newline script ++ 10 ∷ after_first newline script) (part ∷ before) line) first stands)
      | inr past ↦
          let none : after_first newline script ≡ [] = drop_all (position_or_len newline script + 1) script (omega arith) in
          absurd (omega (arith, ap length none, some_bytes (after_first newline script) before line rest later))
    ]

record From (p : Played) (rs : List (List ℕ)) (f : Fault) : Type 0 where
  pub before : List (List ℕ)
  pub line : List ℕ
  pub rest : List (List ℕ)
  pub is : rs ≡ before ++ line ∷ rest
  pub number : f.«record» ≡ p.count + length before + 1
  pub place : f.offset ≡ p.offset + sum_by width before

module _ (p : Played) (line : List ℕ) (rs : List (List ℕ)) where
  from_now : p.faults ≡ [] → (did : Outcome) → All (From p (line ∷ rs)) (after_outcome p line did).faults
  from_now none (Ok next) = All-same (From p (line ∷ rs)) p.faults [] none (All-nil (From p (line ∷ rs)))
  from_now none (Err why) =
      let Here : Fault → Type 0 = From p (line ∷ rs) in
      let here : Here (fault_at p why) = record { before = []; line = line; rest = rs; is = refl; number = omega arith; place = omega arith } in
      All-append Here p.faults (fault_at p why ∷ [])
      (All-same Here p.faults [] none (All-nil Here))
      (All-cons Here (fault_at p why) [] here (All-nil Here))

  from_later : (f : Fault) → From (afresh (play p line)) rs f → From p (line ∷ rs) f
  from_later f from =
      record {
        before = line ∷ from.before;
        line = from.line;
        rest = from.rest;
        is = ap (λ rs. line ∷ rs) from.is;
        number = omega (arith, from.number, count_after p line);
        place = omega (arith, from.place, offset_after p line, sum_by-cons width line from.before);
      }

all_from : (p : Played) (rs : List (List ℕ)) → p.faults ≡ [] → All (From p rs) (fold play p rs).faults
all_from p [] none = All-same (From p []) p.faults [] none (All-nil (From p []))
all_from p (line ∷ rs) none =
    let q = play p line in
    let more = (fold play (afresh q) rs).faults in
    All-same (From p (line ∷ rs)) (fold play q rs).faults (q.faults ++ more) (faults_on q rs)
    (All-append (From p (line ∷ rs)) q.faults more
    (from_now p line rs none (outcome p.phase line))
    (All-weaker (From (afresh q) rs) (From p (line ∷ rs)) (from_later p line rs) more (all_from (afresh q) rs refl)))

placed : (script : List ℕ) (f : Fault) → From blank (records script) f → Placed script f
placed script f from =
    let stands = stands_at from.before from.line from.rest script from.is in
    let place : f.offset ≡ sum_by width from.before = omega (arith, from.place) in
    let number : f.«record» ≡ length from.before + 1 = omega (arith, from.number) in
    record {
      from_one = omega arith;
      to_last = omega (arith, ap length from.is, length-append from.before (from.line ∷ from.rest));
      begins = subst (λ at. (at ≡ 0) ⊎ (get_or script (at - 1) 0 ≡ 10)) (sym place) stands.begins;
      behind = subst (λ at. length (records (take at script)) + 1 ≡ f.«record») (sym place) (omega (arith, stands.behind));
      stands =
          subst (λ at. before_first newline (drop at script) ≡ get_or (records script) (f.«record» - 1) []) (sym place)
          (stands.first ∙ sym (at_record from.before from.line from.rest (f.«record» - 1) (records script) from.is (omega arith)));
    }
  where
    at_record : (before : List (List ℕ)) (line : List ℕ) (rest : List (List ℕ)) (k : ℕ) (rs : List (List ℕ)) → rs ≡ before ++ line ∷ rest → k ≡ length before → get_or rs k [] ≡ line
    at_record before line rest k rs is at = rw (is, at) (get_or-append_seam before line rest [])

pub places_law : PlacesLaw
places_law =
    record {
      each = λ script within.
          All-same (Placed script) (refusals script) (fold play blank (records script)).faults (refusals_within script within)
          (All-weaker (From blank (records script)) (Placed script) (placed script) (fold play blank (records script)).faults (all_from blank (records script) refl));
    }
