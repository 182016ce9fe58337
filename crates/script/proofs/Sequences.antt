-- Scripts in sequence.
--
--   after_outcome    a script after a record of this outcome
--   ahead            the same with this printed and refused before it
--   width            how many bytes a record takes, with its line feed
use Rattle.std.proofs.Common.{◌≡◌, ℕ, ◌+◌, ◌<◌, Bool, true, false, eqb, List, [], ◌∷◌, ◌++◌, length, Ok, Err, refl, ap, ◌∙◌, inl, inr, append_assoc, arith}
use Rattle.std.specs.List.{fold, sum_by, slice_split, onto_first, before_first, after_first, position_or_len}
use Rattle.std.proofs.lemmas.Bool.{cases_lt}
use Rattle.std.proofs.lemmas.Bool.Decides.{nat_tests}
use Rattle.std.proofs.lemmas.List.{append-nil, drop_all, take_all, length-append}
use Rattle.std.proofs.lemmas.List.Sums.{fails_before_first, sum_by-cons}
use Rattle.std.proofs.lemmas.List.Splits.{length-slice_split, slice_split_first, slice_split_none}
use Rattle.script.specs.SequenceLaw.{afresh}
use Rattle.script.specs.Stages.{Outcome, outcome}
use Rattle.script.specs.Transcripts.{Played, newline, play, records, without_empty_last, after_outcome}
use Rattle.script.specs.declared.faults.Fault.{Fault}

without_empty_last_part : (part : List ℕ) (parts : List (List ℕ)) → 0 < length parts → without_empty_last (part ∷ parts) ≡ part ∷ without_empty_last parts
without_empty_last_part part [] some = absurd (omega arith)
without_empty_last_part part (next ∷ more) some = refl

-- a part before another is a record
records_part : (part bytes : List ℕ) → without_empty_last (part ∷ slice_split newline bytes) ≡ part ∷ records bytes
records_part part bytes = without_empty_last_part part (slice_split newline bytes) (omega (arith, length-slice_split newline bytes))

without_empty_last_last : (last : List ℕ) → 0 < length last → without_empty_last (last ∷ []) ≡ last ∷ []
without_empty_last_last last some = let long : eqb (length last) 0 ≡ false = grind (arith, nat_tests) in rw long

pub records_none : records [] ≡ []
records_none = refl

pub records_first : (xs : List ℕ) → 0 < length xs → records xs ≡ before_first newline xs ∷ records (after_first newline xs)
records_first xs some =
    elim (cases_lt (position_or_len newline xs) (length xs)) [
      | inl within ↦ ap without_empty_last (slice_split_first newline xs 0 within) ∙ records_part (before_first newline xs) (after_first newline xs)
      | inr past ↦
          let all : before_first newline xs ≡ xs = take_all (position_or_len newline xs) xs past in
          let none : after_first newline xs ≡ [] = drop_all (position_or_len newline xs + 1) xs (omega arith) in
          let one : slice_split newline xs ≡ xs ∷ [] = slice_split_none newline xs (λ k d l. fails_before_first newline xs k d (omega arith)) in
          rw (all, none) (ap without_empty_last one ∙ without_empty_last_last xs some)
    ]

onto_first-append : (x : ℕ) (parts more : List (List ℕ)) → 0 < length parts → onto_first x (parts ++ more) ≡ onto_first x parts ++ more
onto_first-append x [] more some = absurd (omega arith)
onto_first-append x (part ∷ parts) more some = refl

split_cut : (a b : List ℕ) → slice_split newline (a ++ 10 ∷ b) ≡ slice_split newline a ++ slice_split newline b
split_cut [] b = refl
split_cut (x ∷ a) b = by_test (split_cut a b) (newline x) refl
  where
    by_test : slice_split newline (a ++ 10 ∷ b) ≡ slice_split newline a ++ slice_split newline b → (feed : Bool) → newline x ≡ feed → slice_split newline (x ∷ (a ++ 10 ∷ b)) ≡ slice_split newline (x ∷ a) ++ slice_split newline b
    by_test later true is = rw is (ap (λ parts. [] ∷ parts) later)
    by_test later false is = rw is (ap (onto_first x) later ∙ onto_first-append x (slice_split newline a) (slice_split newline b) (omega (arith, length-slice_split newline a)))

without_empty_last-append : (parts more : List (List ℕ)) → 0 < length more → without_empty_last (parts ++ more) ≡ parts ++ without_empty_last more
without_empty_last-append [] more some = refl
without_empty_last-append (part ∷ parts) more some =
    without_empty_last_part part (parts ++ more) (omega (arith, length-append parts more)) ∙ ap (λ parts. part ∷ parts) (without_empty_last-append parts more some)

-- what stands before a line feed is so many records
pub records_before : (a b : List ℕ) → records (a ++ 10 ∷ b) ≡ slice_split newline a ++ records b
records_before a b = ap without_empty_last (split_cut a b) ∙ without_empty_last-append (slice_split newline a) (slice_split newline b) (omega (arith, length-slice_split newline b))

pub records_ended : (a : List ℕ) → records (a ++ 10 ∷ []) ≡ slice_split newline a
records_ended a = records_before a [] ∙ append-nil (slice_split newline a)

pub records_cut : (a b : List ℕ) → records (a ++ 10 ∷ b) ≡ records (a ++ 10 ∷ []) ++ records b
records_cut a b = rw (records_ended a) (records_before a b)

module _ (printed : List ℕ) (faults : List Fault) where
  abbrev ahead : Played → Played
  ahead p = record { phase = p.phase; count = p.count; offset = p.offset; printed = printed ++ p.printed; faults = faults ++ p.faults }

  after_ahead : (p : Played) (line : List ℕ) (did : Outcome) → after_outcome (ahead p) line did ≡ ahead (after_outcome p line did)
  after_ahead p line (Ok next) = simp append_assoc
  after_ahead p line (Err why) = simp append_assoc

  fold_ahead : (p : Played) (rs : List (List ℕ)) → fold play (ahead p) rs ≡ ahead (fold play p rs)
  fold_ahead p [] = refl
  fold_ahead p (line ∷ rs) = ap (λ q. fold play q rs) (after_ahead p line (outcome p.phase line)) ∙ fold_ahead (play p line) rs

ahead_afresh : (p : Played) → p ≡ ahead p.printed p.faults (afresh p)
ahead_afresh p = simp append-nil

played_on : (p : Played) (rs : List (List ℕ)) → fold play p rs ≡ ahead p.printed p.faults (fold play (afresh p) rs)
played_on p rs = ap (λ q. fold play q rs) (ahead_afresh p) ∙ fold_ahead p.printed p.faults (afresh p) rs

pub printed_on : (p : Played) (rs : List (List ℕ)) → (fold play p rs).printed ≡ p.printed ++ (fold play (afresh p) rs).printed
printed_on p rs = ap (λ (q : Played). q.printed) (played_on p rs)

pub faults_on : (p : Played) (rs : List (List ℕ)) → (fold play p rs).faults ≡ p.faults ++ (fold play (afresh p) rs).faults
faults_on p rs = ap (λ (q : Played). q.faults) (played_on p rs)

pub phase_on : (p : Played) (rs : List (List ℕ)) → (fold play p rs).phase ≡ (fold play (afresh p) rs).phase
phase_on p rs = ap (λ (q : Played). q.phase) (played_on p rs)

pub count_on : (p : Played) (rs : List (List ℕ)) → (fold play p rs).count ≡ (fold play (afresh p) rs).count
count_on p rs = ap (λ (q : Played). q.count) (played_on p rs)

pub offset_on : (p : Played) (rs : List (List ℕ)) → (fold play p rs).offset ≡ (fold play (afresh p) rs).offset
offset_on p rs = ap (λ (q : Played). q.offset) (played_on p rs)

pub count_after : (p : Played) (line : List ℕ) → (play p line).count ≡ p.count + 1
count_after p line = by_outcome (outcome p.phase line)
  where
    by_outcome : (did : Outcome) → (after_outcome p line did).count ≡ p.count + 1
    by_outcome (Ok next) = refl
    by_outcome (Err why) = refl

pub offset_after : (p : Played) (line : List ℕ) → (play p line).offset ≡ p.offset + (length line + 1)
offset_after p line = by_outcome (outcome p.phase line)
  where
    by_outcome : (did : Outcome) → (after_outcome p line did).offset ≡ p.offset + (length line + 1)
    by_outcome (Ok next) = refl
    by_outcome (Err why) = refl

abbrev pub width : List ℕ → ℕ
width line = length line + 1

pub count_of : (p : Played) (rs : List (List ℕ)) → (fold play p rs).count ≡ p.count + length rs
count_of p [] = omega arith
count_of p (line ∷ rs) = omega (arith, count_of (play p line) rs, count_after p line)

pub offset_of : (p : Played) (rs : List (List ℕ)) → (fold play p rs).offset ≡ p.offset + sum_by width rs
offset_of p [] = omega arith
offset_of p (line ∷ rs) = omega (arith, offset_of (play p line) rs, offset_after p line, sum_by-cons width line rs)

width-onto_first : (x : ℕ) (parts : List (List ℕ)) → 0 < length parts → sum_by width (onto_first x parts) ≡ sum_by width parts + 1
width-onto_first x [] some = absurd (omega arith)
width-onto_first x (part ∷ parts) some = omega (arith, sum_by-cons width part parts, sum_by-cons width (x ∷ part) parts)

pub width-split : (a : List ℕ) → sum_by width (slice_split newline a) ≡ length a + 1
width-split [] = refl
width-split (x ∷ a) = by_test (width-split a) (newline x) refl
  where
    by_test : sum_by width (slice_split newline a) ≡ length a + 1 → (feed : Bool) → newline x ≡ feed → sum_by width (slice_split newline (x ∷ a)) ≡ length (x ∷ a) + 1
    by_test later true is = rw is (omega (arith, sum_by-cons width [] (slice_split newline a)))
    by_test later false is = rw is (omega (arith, width-onto_first x (slice_split newline a) (omega (arith, length-slice_split newline a))))
