-- What a settled session tells is of the coarsest table of its book.
use Rattle.std.proofs.Common.{◌≡◌, ℕ, ◌<◌, sym, ◌∙◌, arith}
use Rattle.equivalence.specs.Heads.{head_of}
use Rattle.equivalence.specs.Levels.{coarsest_table}
use Rattle.equivalence.specs.Regular.{Regular}
use Rattle.equivalence.specs.Vetted.{table_of}
use Rattle.equivalence.proofs.Heads.{head_is}
use Rattle.equivalence.proofs.Levels.{coarsest_level, coarsest_named}
use Rattle.equivalence.proofs.Stable.{coarsest_one}
use Rattle.measure.specs.Measures.{Laws, Operations}
use Rattle.session.specs.States.{IsSound, State, classes, role, role_count}
use Rattle.driving.specs.Book.{book_in}
use Rattle.driving.proofs.Turning.{Best}
use Rattle.script.specs.Listings.{heads, role_total, split_total}

module _ {V : Type 0} (o : Operations V) (laws : Laws o) (s : State) (sound : IsSound o s) (regular : Regular o s.network (role s)) where
  best : Best o s
  best = record { regular = regular; covers = sound.covers }

  pub roles_told : role_count s ≡ role_total o (book_in s)
  roles_told =
      (coarsest_one o s.network (classes s) (role s) (table_of (coarsest_table o s.network (classes s))) best (coarsest_level o laws s.network (classes s))).2

  pub splits_told : s.splits ≡ split_total o (book_in s)
  splits_told = omega (arith, sound.counted, roles_told)

  -- the head that the record of its role has
  head_recorded : (x : ℕ) → x < s.network.nodes → head_of (role s) x ≡ s.head (role s x)
  head_recorded x node =
      let told = sound.described (role s x) (sound.ranged x node) in
      head_is (role s) (s.head (role s x)) x told.mate told.lowest

  pub head_told : (x : ℕ) → x < s.network.nodes → s.head (role s x) ≡ heads o (book_in s) x
  head_told x node = sym (head_recorded x node) ∙ coarsest_named o laws s.network (classes s) (role s) best x node
