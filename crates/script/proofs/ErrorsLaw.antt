-- Which lines of a transcript are refusals.
--
--   Told          the lines ER that are printed so far are those of the refusals so far
use Rattle.std.proofs.Common.{◌≡◌, ℕ, Bool, true, false, cond, leb, List, [], ◌∷◌, ◌++◌, length, map, Result, Ok, Err, refl, sym, ap, subst, ◌∙◌}
use Rattle.std.specs.List.{filter, fold}
use Rattle.std.proofs.lemmas.List.{append-nil, map-append}
use Rattle.script.specs.ErrorsLaw.{is_error, error_text, ErrorsLaw}
use Rattle.script.specs.Faults.{number}
use Rattle.script.specs.Records.{Said, parse}
use Rattle.script.specs.Stages.{Outcome, outcome}
use Rattle.script.specs.Transcripts.{Played, blank, fault_at, limit, play, played, records, too_long, after_outcome}
use Rattle.script.specs.Words.{refusal_line}
use Rattle.script.specs.declared.faults.Reason.{Reason}
use Rattle.script.proofs.Picking.{EachPlain, Picks, Spares, all_picked, copied, left, picks_more, picks_none, picks_refusal, plain_records}

spares : Spares is_error
spares = record { settled = λ rest. refl; node = λ rest. refl; answer = λ rest. refl }

copy_quiet : (told : Result Said Reason) → filter is_error (copied told) ≡ []
copy_quiet (Ok (Said.Matrix n)) = refl
copy_quiet (Ok (Said.TwoMode a b)) = refl
copy_quiet (Ok (Said.Slots n s)) = refl
copy_quiet (Ok Said.Kinds) = refl
copy_quiet (Ok Said.Bundles) = refl
copy_quiet (Ok Said.Tally) = refl
copy_quiet (Ok (Said.Put i j b)) = refl
copy_quiet (Ok (Said.Colour i c)) = refl
copy_quiet (Ok (Said.Question line)) = refl
copy_quiet (Ok Said.Go) = refl
copy_quiet (Ok (Said.Remark text)) = refl
copy_quiet (Err why) = refl

refused : (p : Played) (line : List ℕ) (told : Result Said Reason) (did : Outcome) → map error_text p.faults ++ filter is_error (left p told did) ≡ map error_text (after_outcome p line did).faults
refused p line told (Ok next) = ap (λ more. map error_text p.faults ++ more) (copy_quiet told) ∙ append-nil (map error_text p.faults)
refused p line told (Err why) = sym (map-append error_text p.faults (fault_at p why ∷ []))

abbrev Told : Played → Type 0
Told p = Picks is_error p.printed (map error_text p.faults)

told : (p : Played) (rs : List (List ℕ)) → EachPlain rs → Told p → Told (fold play p rs)
told p [] plain so_far = so_far
told p (line ∷ rs) (first, plain) so_far =
    told (play p line) rs plain
    (subst (Picks is_error (play p line).printed) (refused p line (parse line) (outcome p.phase line)) (picks_more is_error spares p line (map error_text p.faults) first so_far))

errors_of : (script : List ℕ) (fits : Bool) → filter is_error (records (cond fits (played script).printed (refusal_line too_long.«record» (number too_long.reason)))) ≡ map error_text (cond fits (played script).faults (too_long ∷ []))
errors_of script true = all_picked is_error (played script).printed (map error_text (played script).faults) (told blank (records script) (plain_records script) (picks_none is_error))
errors_of script false = all_picked is_error (refusal_line too_long.«record» (number too_long.reason)) (error_text too_long ∷ []) (picks_refusal is_error too_long)

pub errors_law : ErrorsLaw
errors_law = record { each = λ script. errors_of script (leb (length script) limit) }
