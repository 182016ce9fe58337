-- Networks that a script names.
--
--   meant             what a network means whose kind the script chose
--   meant_in          the same, where it is made
--   enough            bytes enough for any network that keeps bytes
--   matrix_named      a matrix of n nodes without ties, or its refusal
--   two_mode_named    sides of a and b nodes without ties, or their refusal
--   list_named        a list of n nodes and s slots without ties, or its refusal
use Rattle.std.specs.Prelude.{ℕ, Result, Ok, Err}
use Rattle.network.specs.Grids as grids
use Rattle.network.specs.Listed.{list_check, untied_slots}
use Rattle.network.specs.Matrices.{matrix_check, untied}
use Rattle.network.specs.Meaning.{Meaning}
use Rattle.network.specs.SlotLists as lists
use Rattle.network.specs.TwoModes.{two_mode_check, untied_sides}
use Rattle.network.specs.declared.faults.Fault.{Fault}
use Rattle.script.specs.declared.any_network.AnyNetwork.{AnyNetwork}
use Rattle.script.specs.declared.any_network.AnyNetwork.TheVariants.{OneMode, TwoMode, Slots}

abbrev pub meant : AnyNetwork → Meaning
meant (OneMode g) = grids.ties_of g
meant (TwoMode g) = grids.ties_of g
meant (Slots l) = lists.ties_of l

abbrev pub meant_in : Result AnyNetwork Fault → Result Meaning Fault
meant_in (Ok network) = Ok (meant network)
meant_in (Err f) = Err f

-- 128 × 128
abbrev pub enough : ℕ
enough = 16384

abbrev pub matrix_named : ℕ → ℕ → Result Meaning Fault
matrix_named n bytes = elim (matrix_check n bytes) [ Ok _ ↦ Ok (untied n) | Err f ↦ Err f ]

abbrev pub two_mode_named : ℕ → ℕ → ℕ → Result Meaning Fault
two_mode_named a b bytes = elim (two_mode_check a b bytes) [ Ok _ ↦ Ok (untied_sides a b) | Err f ↦ Err f ]

abbrev pub list_named : ℕ → ℕ → Result Meaning Fault
list_named n s = elim (list_check n s) [ Ok _ ↦ Ok (untied_slots n s) | Err f ↦ Err f ]
