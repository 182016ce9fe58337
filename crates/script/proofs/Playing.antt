-- A record that is played.
use Rattle.std.proofs.Common.{◌≡◌, ℕ, ◌+◌, List, [], ◌∷◌, ◌++◌, length, Ok, Err, append-nil, sym, ap, ◌∙◌, rules}
use Rattle.script.specs.Faults.{number}
use Rattle.script.specs.Stages.{Outcome, Phase, answer_in, next_phase, printed_in}
use Rattle.script.specs.Transcripts.{Played, fault_at, after_outcome}
use Rattle.script.specs.Words.{refusal_line}
use Rattle.script.specs.declared.faults.Fault.{Fault}
use Rattle.script.specs.declared.faults.Reason.{Reason}

module _ (p : Played) (line : List ℕ) where
  abbrev next : Phase → List ℕ → List Fault → Played
  next phase printed faults = record { phase = phase; count = p.count + 1; offset = p.offset + (length line + 1); printed = printed; faults = faults }

  pub outcome_accepted :
      (o : Outcome) (phase : Phase) (printed : List ℕ) (faults : List Fault)
      → answer_in o ≡ Ok tt
      → phase ≡ next_phase p.phase o
      → printed ≡ p.printed ++ printed_in o
      → faults ≡ p.faults
      → next phase printed faults ≡ after_outcome p line o
  outcome_accepted (Ok after) phase printed faults accepted to told still = λ i. next (to i) (told i) (still i)
  outcome_accepted (Err why) phase printed faults accepted to told still = absurd (search rules)

  pub outcome_refused :
      (o : Outcome) (why : Reason) (phase : Phase) (printed : List ℕ) (faults : List Fault)
      → answer_in o ≡ Err why
      → phase ≡ next_phase p.phase o
      → printed ≡ (p.printed ++ printed_in o) ++ refusal_line (p.count + 1) (number why)
      → faults ≡ p.faults ++ fault_at p why ∷ []
      → next phase printed faults ≡ after_outcome p line o
  outcome_refused (Ok after) why phase printed faults refused to told more = absurd (search rules)
  outcome_refused (Err why) reason phase printed faults refused to told more =
      let same : why ≡ reason = search rules in
      let nothing : printed ≡ p.printed ++ refusal_line (p.count + 1) (number why) = told ∙ ap (λ v. v ++ refusal_line (p.count + 1) (number reason)) (append-nil p.printed) ∙ ap (λ r. p.printed ++ refusal_line (p.count + 1) (number r)) (sym same) in
      λ i. next (to i) (nothing i) ((more ∙ ap (λ r. p.faults ++ fault_at p r ∷ []) (sym same)) i)
