-- What a refusal leaves, and what is refused for its stage or its form.
--
--   Refused       the record prints its one line, and leaves all that was named, put, coloured and asked as it was
--   Accepted      the record is not told as refused, and the phase and what is printed are as its outcome says
--   RefusedLaw    each record of a script is refused or accepted so
--   at_network    nothing is named yet
--   at_measure    a network is named, and no measure
--   at_work       a network and a measure are named
--   belongs       what may be said at this phase
--   StageLaw      14 is the refusal of what does not belong to the phase, and of nothing else
--   OrderLaw      12 and 13 are the refusals of what cannot be read, at every phase
use Rattle.std.specs.Prelude.{◌≡◌, ◌⊎◌, ◌↔◌, ℕ, ◌+◌, Bool, true, false, List, [], ◌∷◌, ◌++◌, length, Err, MatchResult}
use Rattle.script.specs.Faults.{number}
use Rattle.script.specs.Records.{Said, parse}
use Rattle.script.specs.Stages.{Phase, does, outcome}
use Rattle.script.specs.Transcripts.{Played, play, fault_at}
use Rattle.script.specs.Words.{refusal_line}
use Rattle.script.specs.declared.faults.Reason.{Reason}

pub record Refused (p : Played) (line : List ℕ) (why : Reason) : Type 0 where
  pub phase : (play p line).phase ≡ p.phase
  pub printed : (play p line).printed ≡ p.printed ++ refusal_line (p.count + 1) (number why)
  pub faults : (play p line).faults ≡ p.faults ++ fault_at p why ∷ []
  pub count : (play p line).count ≡ p.count + 1
  pub offset : (play p line).offset ≡ p.offset + (length line + 1)

pub record Accepted (p : Played) (line : List ℕ) (next : Phase × List ℕ) : Type 0 where
  pub phase : (play p line).phase ≡ next.0
  pub printed : (play p line).printed ≡ p.printed ++ next.1
  pub faults : (play p line).faults ≡ p.faults
  pub count : (play p line).count ≡ p.count + 1
  pub offset : (play p line).offset ≡ p.offset + (length line + 1)

pub record RefusedLaw : Type 0 where
  pub each : (p : Played) (line : List ℕ) → MatchResult (outcome p.phase line) (Accepted p line) (Refused p line)

abbrev pub at_network : Phase → Bool
at_network Phase.Network = true
at_network (Phase.Measure m) = false
at_network (Phase.Work by book lines) = false

abbrev pub at_measure : Phase → Bool
at_measure Phase.Network = false
at_measure (Phase.Measure m) = true
at_measure (Phase.Work by book lines) = false

abbrev pub at_work : Phase → Bool
at_work Phase.Network = false
at_work (Phase.Measure m) = false
at_work (Phase.Work by book lines) = true

abbrev pub belongs : Said → Phase → Bool
belongs (Said.Matrix n) = at_network
belongs (Said.TwoMode a b) = at_network
belongs (Said.Slots n s) = at_network
belongs Said.Kinds = at_measure
belongs Said.Bundles = at_measure
belongs Said.Tally = at_measure
belongs (Said.Put i j b) = at_work
belongs (Said.Colour i c) = at_work
belongs (Said.Question line) = at_work
belongs Said.Go = at_work
belongs (Said.Remark text) = λ phase. true

pub record StageLaw : Type 0 where
  pub out_of_place : (phase : Phase) (said : Said) → does phase said ≡ Err Reason.Stage ↔ (belongs said phase ≡ false)

pub record OrderLaw : Type 0 where
  pub unread : (phase : Phase) (line : List ℕ) (why : Reason) → parse line ≡ Err why ↔ (outcome phase line ≡ Err why) × ((why ≡ Reason.Mark) ⊎ (why ≡ Reason.Fields))
