-- What each answer of a making's check says.
use Rattle.std.proofs.Common.{◌≡◌, Bool, true, false, arith, refl}
use Rattle.std.proofs.lemmas.Bool.Decides.{nat_tests}
use Rattle.network.specs.Listed.{ListCheckLaw}
use Rattle.network.specs.Makings.{CheckAnswers, making_check}
use Rattle.network.specs.Matrices.{MatrixCheckLaw}
use Rattle.network.specs.TwoModes.{TwoModeCheckLaw}

-- a test passes where this is so, and fails where it is not
record Tells (test : Bool) (So : Type 0) : Type 0 where
  passes : test ≡ true → So
  fails : test ≡ false → So → ⊥

answers : (sized fits : Bool) {Sized Fits : Type 0} → Tells sized Sized → Tells fits Fits → CheckAnswers Sized Fits (making_check sized fits)
answers true true s f = (s.passes refl, f.passes refl)
answers true false s f = (s.passes refl, f.fails refl)
answers false fits s f = s.fails refl

pub matrix_check_law : MatrixCheckLaw
matrix_check_law n bytes =
    answers _ _
    (record { passes = λ e. (grind (arith, nat_tests), grind (arith, nat_tests)); fails = λ e so. grind (arith, nat_tests) })
    (record { passes = λ e. grind (arith, nat_tests); fails = λ e so. grind (arith, nat_tests) })

pub two_mode_check_law : TwoModeCheckLaw
two_mode_check_law a b bytes =
    answers _ _
    (record { passes = λ e. (grind (arith, nat_tests), grind (arith, nat_tests), grind (arith, nat_tests)); fails = λ e so. grind (arith, nat_tests) })
    (record { passes = λ e. grind (arith, nat_tests); fails = λ e so. grind (arith, nat_tests) })

pub list_check_law : ListCheckLaw
list_check_law n slots =
    answers _ _
    (record { passes = λ e. (grind (arith, nat_tests), grind (arith, nat_tests)); fails = λ e so. grind (arith, nat_tests) })
    (record { passes = λ e. (grind (arith, nat_tests), grind (arith, nat_tests)); fails = λ e so. grind (arith, nat_tests) })
