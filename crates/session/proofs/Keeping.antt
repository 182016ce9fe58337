-- What the table of an open session keeps.
use Rattle.std.proofs.Common.{◌≡◌, ℕ, ◌+◌, ◌<◌, ◌≤◌, refl, length, set, List, replicate, inl, inr, ap, ◌∙◌, arith}
use Rattle.std.proofs.lemmas.Bool.{cases_lt}
use Rattle.std.proofs.lemmas.Bool.Decides.{nat_tests}
use Rattle.std.proofs.lemmas.Grind.{common_steps}
use Rattle.std.proofs.lemmas.List.{get_or-replicate, get_or_past}
use Rattle.network.specs.Meaning.{Meaning, count_below}
use Rattle.measure.specs.Measures.{Operations, Laws}
use Rattle.equivalence.specs.Regular.{Table, members}
use Rattle.equivalence.specs.Heads.{roles}
use Rattle.equivalence.specs.Starting.{starting_classes}
use Rattle.equivalence.specs.Coarsest.{Covers}
use Rattle.equivalence.specs.Vetted.{table_of}
use Rattle.equivalence.proofs.Refinement.{covers_started, started_roles}
use Rattle.equivalence.proofs.Splitting.{covers_split, split_law}
use Rattle.session.specs.Sessions.{Begun, colours_after}
use Rattle.session.specs.States.{IsSound, State, class_count, classes, record_of, role_count, state_with}
use Rattle.session.specs.Steps.{InTwo}
use Rattle.session.specs.Tables.{Starting, colour_in, count_in, head_in, nodes_in, record_in, role_in}
use Rattle.session.specs.declared.table.Table.{Table as RoleTable}
use Rattle.session.proofs.Counted.{counted}

module _ (t : RoleTable) (n : ℕ) (fits : nodes_in t ≡ n) where
  -- as many records as roles
  pub numbered : count_in t ≡ roles (role_in t) n
  numbered = counted t ∙ ap (roles (role_in t)) fits

module _ (t : RoleTable) {V : Type 0} (o : Operations V) (m : Meaning) where
  abbrev state : State
  state = state_with m t

  -- what an open session keeps of its table
  module _ (fits : nodes_in t ≡ m.nodes) where
    pub sound : Covers o m (classes state) (role_in t) → t.splits + class_count state ≡ role_count state → IsSound o state
    sound covers tallied =
        record {
          few = omega (arith, fits, t.recorded.few);
          entries = fits;
          ranged = λ x l. omega (arith, numbered t m.nodes fits, t.recorded.ranged x (omega (arith, fits)));
          described = λ r l.
              let told = t.recorded.described r (omega (arith, numbered t m.nodes fits)) in
              record { node = omega (arith, fits, told.node); mate = told.mate; lowest = told.lowest; size = refl };
          ordered = rw (numbered t m.nodes fits) at t.recorded.ordered;
          covers = covers;
          counted = tallied;
        }

    -- the record that is kept of a role
    pub recorded : (r : ℕ) → r < count_in t → record_in t r ≡ record_of state r
    recorded r l =
        let size : (record_in t r).size ≡ count_below (members (role_in t) r) m.nodes = rw fits at (t.recorded.described r l).size in
        ap (λ (k : ℕ). record { head = head_in t r; size = k }) size

  -- at the starting classes
  pub sound_begun : Starting m t → IsSound o state
  sound_begun start =
      sound start.nodes (covers_started o m (colour_in t) (role_in t) start.heads)
      (omega (arith, start.splits, started_roles o m (colour_in t) (role_in t) start.heads))

  -- after a split of a table that kept it
  pub sound_split : (laws : Laws o) (old : RoleTable) (part toward fresh : ℕ) → nodes_in t ≡ m.nodes → IsSound o (state_with m old) → InTwo o (state_with m old) state part toward fresh → IsSound o state
  sound_split laws old part toward fresh fits was two =
      let same : class_count state ≡ class_count (state_with m old) = ap (λ (cs : Table). roles (starting_classes m cs) m.nodes) two.colours in
      sound fits
      (rw two.colours (covers_split o laws m (role_in old) (role_in t) part toward fresh two.split (classes (state_with m old)) was.covers))
      (omega (arith, same, was.counted, two.count, (split_law o laws m (role_in old) (role_in t) part toward fresh two.split).more))

-- a session that begins
pub begun : (m : Meaning) (t : RoleTable) → Starting m t → (colours : Table) → colour_in t ≡ colours → Begun m colours (state_with m t)
begun m t start colours is =
    record {
      network = refl;
      colours = is;
      start = λ x l. rw is at (start.heads x l);
      splits = start.splits;
    }

pub uncoloured : (x : ℕ) → table_of (replicate 128 0) x ≡ 0
uncoloured x =
    elim (cases_lt x 128) [
      | inl l ↦ get_or-replicate 128 x 0 0 l
      | inr past ↦ get_or_past (replicate 128 0) x 0 past
    ]

coloured_at : (n : ℕ) (colours : List ℕ) (i c x : ℕ) → i < n → n ≤ length colours → table_of (set colours i c) x ≡ colours_after n (table_of colours) i c x
coloured_at n colours i c x node long = grind (arith, nat_tests, common_steps)

-- the colours when node i has colour c
pub coloured : (n : ℕ) (colours : List ℕ) (i c : ℕ) → i < n → n ≤ length colours → table_of (set colours i c) ≡ colours_after n (table_of colours) i c
coloured n colours i c node long = λ p x. coloured_at n colours i c x node long p
