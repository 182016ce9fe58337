-- How a record is written.
--
--   spaced           numbers in decimal, each behind a space
--   line_of          the line that makes a claim; what its code has not is 0
--   claim_written    the record of a line that makes a claim
--   written          the record that says this: its mark, and then its numbers or the bytes of a remark
--   ClaimInBounds    lines are named by numbers below 65,536, and bytes are below 256
--   InBounds         numbers are below 65,536, bytes are below 256, and a line is one that makes a claim
--   RecordLaw        a record says this exactly where it is written so
use Rattle.std.specs.Prelude.{◌≡◌, ◌<◌, ◌↔◌, ℕ, List, [], ◌∷◌, ◌++◌, Some, None, Ok, codes, decimal}
use Rattle.question.specs.Lines.{claim}
use Rattle.question.specs.declared.line.Line.{Line}
use Rattle.question.specs.declared.line.Claim.{Claim}
use Rattle.question.specs.declared.line.Claim.TheVariants.{Colour, Not, And, Tied}
use Rattle.script.specs.Records.{Said, parse}

abbrev pub spaced : List ℕ → List ℕ
spaced [] = []
spaced (n ∷ numbers) = 32 ∷ (decimal n ++ spaced numbers)

abbrev pub line_of : Claim → Line
line_of (Colour c) = record { code = 0; k = 0; l = 0; byte = c }
line_of (Not k) = record { code = 1; k = k; l = 0; byte = 0 }
line_of (And k l) = record { code = 2; k = k; l = l; byte = 0 }
line_of (Tied k t) = record { code = 3; k = k; l = 0; byte = t }

abbrev pub claim_written : Claim → List ℕ
claim_written (Colour c) = codes "QC" ++ spaced (c ∷ [])
claim_written (Not k) = codes "QN" ++ spaced (k ∷ [])
claim_written (And k l) = codes "QA" ++ spaced (k ∷ l ∷ [])
claim_written (Tied k t) = codes "QT" ++ spaced (k ∷ t ∷ [])

-- a line that makes no claim has no record
abbrev pub written : Said → List ℕ
written (Said.Matrix n) = codes "NM" ++ spaced (n ∷ [])
written (Said.TwoMode a b) = codes "NT" ++ spaced (a ∷ b ∷ [])
written (Said.Slots n s) = codes "NL" ++ spaced (n ∷ s ∷ [])
written Said.Kinds = codes "MK"
written Said.Bundles = codes "MB"
written Said.Tally = codes "MT"
written (Said.Put i j b) = codes "PU" ++ spaced (i ∷ j ∷ b ∷ [])
written (Said.Colour i c) = codes "CO" ++ spaced (i ∷ c ∷ [])
written (Said.Question line) = elim (claim line) [ Some c ↦ claim_written c | None ↦ [] ]
written Said.Go = codes "GO"
written (Said.Remark text) = codes "RM" ++ text

abbrev pub ClaimInBounds : Claim → Type 0
ClaimInBounds (Colour c) = c < 256
ClaimInBounds (Not k) = k < 65536
ClaimInBounds (And k l) = (k < 65536) × (l < 65536)
ClaimInBounds (Tied k t) = (k < 65536) × (t < 256)

abbrev pub InBounds : Said → Type 0
InBounds (Said.Matrix n) = n < 65536
InBounds (Said.TwoMode a b) = (a < 65536) × (b < 65536)
InBounds (Said.Slots n s) = (n < 65536) × (s < 65536)
InBounds Said.Kinds = Unit {0}
InBounds Said.Bundles = Unit {0}
InBounds Said.Tally = Unit {0}
InBounds (Said.Put i j b) = (i < 65536) × (j < 65536) × (b < 256)
InBounds (Said.Colour i c) = (i < 65536) × (c < 256)
InBounds (Said.Question line) = (c : Claim) × (line ≡ line_of c) × ClaimInBounds c
InBounds Said.Go = Unit {0}
InBounds (Said.Remark text) = Unit {0}

pub record RecordLaw : Type 0 where
  pub says_so : (text : List ℕ) (said : Said) → parse text ≡ Ok said ↔ (text ≡ written said) × InBounds said
