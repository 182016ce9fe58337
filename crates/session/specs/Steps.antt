-- What a step does.
--
--   InTwo      the role of one head is split in two toward that of another, and the count of splits is one more
--   Stepped    stable, and nothing is altered; or one role is split in two
use Rattle.std.specs.Prelude.{◌≡◌, ℕ, ◌+◌}
use Rattle.measure.specs.Measures.{Operations}
use Rattle.equivalence.specs.Splitting as splitting
use Rattle.session.specs.States.{State, role}
use Rattle.session.specs.declared.step.Step.{Step}
use Rattle.session.specs.declared.step.Step.TheVariants.{Stable, Split}

pub record InTwo {V : Type 0} (o : Operations V) (old new : State) (part toward fresh : ℕ) : Type 0 where
  pub network : new.network ≡ old.network
  pub colours : new.colours ≡ old.colours
  pub split : splitting.Split o old.network (role old) (role new) part toward fresh
  pub count : new.splits ≡ old.splits + 1

abbrev pub Stepped : {V : Type 0} → Operations V → State → State → Step → Type 0
Stepped o old new Stable = new ≡ old
Stepped o old new (Split part toward fresh) = InTwo o old new part toward fresh
