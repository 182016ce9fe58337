-- Which lines of a transcript are remarks.
use Rattle.std.proofs.Common.{◌≡◌, ℕ, Bool, true, false, cond, leb, List, [], ◌∷◌, ◌++◌, length, drop, Option, Some, None, Result, Ok, Err, refl, sym, ap, subst, ◌∙◌, append_assoc, arith}
use Rattle.std.specs.List.{filter, fold}
use Rattle.std.proofs.lemmas.Bool.Decides.{nat_tests}
use Rattle.std.proofs.lemmas.List.{append-nil}
use Rattle.std.proofs.lemmas.List.Elements.{filter-append}
use Rattle.question.specs.Lines.{claim}
use Rattle.question.specs.declared.line.Claim.{Claim}
use Rattle.question.specs.declared.line.Claim.TheVariants.{Colour, Not, And, Tied}
use Rattle.script.specs.RecordLaw.{claim_written, written}
use Rattle.script.specs.Records.{Said, parse}
use Rattle.script.specs.RemarksLaw.{is_remark, RemarksLaw}
use Rattle.script.specs.Stages.{Phase, Outcome, outcome}
use Rattle.script.specs.Transcripts.{Played, blank, limit, play, played, records}
use Rattle.script.specs.declared.faults.Reason.{Reason}
use Rattle.script.proofs.Picking.{EachPlain, Picks, Spares, all_picked, copied, left, picks_more, picks_none, plain_records}
use Rattle.script.proofs.RecordLaw.{parse_marked, record_law}
use Rattle.script.proofs.RefusedLaw.{acted}

spares : Spares is_remark
spares = record { settled = λ rest. refl; node = λ rest. refl; answer = λ rest. refl }

claim_copied : (told : Option Claim) → filter is_remark ((elim told [ Some c ↦ claim_written c | None ↦ [] ]) ∷ []) ≡ []
claim_copied (Some (Colour c)) = refl
claim_copied (Some (Not k)) = refl
claim_copied (Some (And k l)) = refl
claim_copied (Some (Tied k t)) = refl
claim_copied None = refl

written_copied : (said : Said) → filter is_remark (written said ∷ []) ≡ filter is_remark (copied (Ok said))
written_copied (Said.Matrix n) = refl
written_copied (Said.TwoMode a b) = refl
written_copied (Said.Slots n s) = refl
written_copied Said.Kinds = refl
written_copied Said.Bundles = refl
written_copied Said.Tally = refl
written_copied (Said.Put i j b) = refl
written_copied (Said.Colour i c) = refl
written_copied (Said.Question line) = claim_copied (claim line)
written_copied Said.Go = refl
written_copied (Said.Remark text) = refl

remark_read : (line : List ℕ) → is_remark line ≡ true → parse line ≡ Ok (Said.Remark (drop 2 line))
remark_read [] e = absurd (cc)
remark_read (a ∷ []) e = absurd (grind (arith, nat_tests))
remark_read (a ∷ b ∷ bytes) e =
    let first : a ≡ 82 = grind (arith, nat_tests) in
    let second : b ≡ 77 = grind (arith, nat_tests) in
    rw (first, second) (parse_marked 82 77 bytes)

-- a line that cannot be read is no remark
line_copied : (line : List ℕ) (told : Result Said Reason) → parse line ≡ told → filter is_remark (line ∷ []) ≡ filter is_remark (copied told)
line_copied line (Ok said) is = ap (λ text. filter is_remark (text ∷ [])) ((record_law.says_so line said).0 is).0 ∙ written_copied said
line_copied line (Err why) is = by_test (is_remark line) refl
  where
    by_test : (remark : Bool) → is_remark line ≡ remark → cond remark (line ∷ []) [] ≡ []
    by_test true so = let reads = remark_read line so in absurd (cc)
    by_test false so = refl

-- a remark is never refused
refused_copied : (phase : Phase) (told : Result Said Reason) (why : Reason) → acted phase told ≡ Err why → copied told ≡ []
refused_copied phase (Ok (Said.Matrix n)) why is = refl
refused_copied phase (Ok (Said.TwoMode a b)) why is = refl
refused_copied phase (Ok (Said.Slots n s)) why is = refl
refused_copied phase (Ok Said.Kinds) why is = refl
refused_copied phase (Ok Said.Bundles) why is = refl
refused_copied phase (Ok Said.Tally) why is = refl
refused_copied phase (Ok (Said.Put i j b)) why is = refl
refused_copied phase (Ok (Said.Colour i c)) why is = refl
refused_copied phase (Ok (Said.Question line)) why is = refl
refused_copied phase (Ok Said.Go) why is = refl
refused_copied phase (Ok (Said.Remark text)) why is = absurd (cc)
refused_copied phase (Err other) why is = refl

line_left : (p : Played) (line : List ℕ) (did : Outcome) → outcome p.phase line ≡ did → filter is_remark (left p (parse line) did) ≡ filter is_remark (line ∷ [])
line_left p line (Ok next) is = sym (line_copied line (parse line) refl)
line_left p line (Err why) is = sym (line_copied line (parse line) refl ∙ ap (filter is_remark) (refused_copied p.phase (parse line) why is))

told : (p : Played) (rs before : List (List ℕ)) → EachPlain rs → Picks is_remark p.printed before → Picks is_remark (fold play p rs).printed (before ++ filter is_remark rs)
told p [] before plain so_far = subst (Picks is_remark p.printed) (sym (append-nil before)) so_far
told p (line ∷ rs) before (first, plain) so_far =
    let one : filter is_remark (left p (parse line) (outcome p.phase line)) ≡ filter is_remark (line ∷ []) = line_left p line (outcome p.phase line) refl in
    let lines : (before ++ filter is_remark (left p (parse line) (outcome p.phase line))) ++ filter is_remark rs ≡ before ++ filter is_remark (line ∷ rs) =
    ap (λ more. (before ++ more) ++ filter is_remark rs) one ∙ append_assoc before (filter is_remark (line ∷ [])) (filter is_remark rs) ∙ ap (λ more. before ++ more) (sym (filter-append is_remark (line ∷ []) rs)) in
    subst (Picks is_remark (fold play (play p line) rs).printed) lines
    (told (play p line) rs (before ++ filter is_remark (left p (parse line) (outcome p.phase line))) plain (picks_more is_remark spares p line before first so_far))

pub remarks_law : RemarksLaw
remarks_law =
    record {
      each = λ script short.
          let fits : leb (length script) limit ≡ true = grind (arith, nat_tests) in
          rw fits
          (all_picked is_remark (played script).printed (filter is_remark (records script)) (told blank (records script) [] (plain_records script) (picks_none is_remark)));
    }
