-- Small networks have the tables that are known.
use Rattle.std.proofs.Common.{◌≡◌, ◌+◌, ℕ, map, zero, suc, List, length, [], ◌∷◌, refl, sym, ap, arith}
use Rattle.std.specs.Prelude.{Option, Some, None, Result, Ok, Err, All}
use Rattle.std.proofs.lemmas.List.Elements.{All-nil, All-cons}
use Rattle.network.specs.Meaning.{Meaning}
use Rattle.measure.specs.Measures.{Operations, Laws}
use Rattle.measure.specs.Kinds.{kinds}
use Rattle.measure.specs.KindLaws.{kinds_laws}
use Rattle.measure.specs.Bundles.{bundles}
use Rattle.measure.specs.BundleLaws.{bundles_laws}
use Rattle.measure.specs.Tally.{tally}
use Rattle.measure.specs.TallyLaws.{tally_laws}
use Rattle.equivalence.specs.Heads.{roles as role_count}
use Rattle.equivalence.specs.Regular.{Unequal}
use Rattle.equivalence.specs.Vetted.{table_of, Vetted}
use Rattle.equivalence.specs.declared.faults.Fault.{Fault}
use Rattle.equivalence.specs.Levels.{coarsest_table}
use Rattle.equivalence.proofs.Levels.{coarsest_length, coarsest_level, named_head}
use Rattle.driving.specs.Book.{opened}
use Rattle.driving.specs.Known.{classes, drawn, replies, started, Entry, Known, KnownUnder, Shows}
use Rattle.driving.specs.KnownNetworks.{known_networks, two_colours, own_tie, short_chain, long_chain, one_tie, teams, teams_by_tally, cycles, cycles_by_bundles, cycles_by_tally, two_sides, one_slot}

infixr 20 ◌also◌
-- the vet neither refuses such a table nor says yes, and has no other three to show
module _
    {V : Type 0}
    (o : Operations V)
    (m : Meaning)
    (table : List ℕ)
    (witness : ℕ × ℕ × ℕ)
    (one_each : length table ≡ m.nodes)
    (shown : Unequal o m (table_of table) witness.0 witness.1 witness.2)
    (only : (x y z : ℕ) → Unequal o m (table_of table) x y z → (x, y, z) ≡ witness) where
  vet_answers : (r : Result (Option (ℕ × ℕ × ℕ)) Fault) → Vetted o m table r → r ≡ Ok (Some witness)
  vet_answers (Err Fault.Length) vetted = absurd (vetted.refused.0 refl one_each)
  vet_answers (Ok None) vetted = absurd (shown.apart ((vetted.yes_when.0 refl).1 witness.2 shown.toward witness.0 witness.1 (omega arith) shown.node shown.together))
  vet_answers (Ok (Some (x, y, z))) vetted = ap (λ w. Ok (Some w)) (only x y z (vetted.no_shows x y z refl))

  shows : Shows o m (table, witness)
  shows = record { one_each = one_each; shown = shown; only = only; answer = vet_answers }

-- what there is to compute of an entry
module _ {V : Type 0} (o : Operations V) (laws : Laws o) (known : Entry) where
  abbrev m : Meaning
  m = (drawn known).network

  known_under : replies (opened (started known.start)) known.edits ≡ map (λ edit. edit.1) known.edits → coarsest_table o m (classes known) ≡ known.table → role_count (table_of known.table) m.nodes ≡ known.roles → known.splits + role_count (classes known) m.nodes ≡ known.roles → All (Shows o m) known.irregular → KnownUnder o known
  known_under answered table count splits irregular =
      record {
        answered = answered;
        one_each = rw (sym table) (coarsest_length o m (classes known));
        coarsest = rw (sym table) (coarsest_level o laws m (classes known));
        heads = rw (sym table) (named_head o laws m (classes known));
        count = count;
        splits = splits;
        irregular = irregular;
      }

-- nodes 1 and 2 alone share a role, and neither has a tie with it
one_tie_only : (x y z : ℕ) → Unequal kinds (drawn one_tie).network (table_of (0 ∷ 1 ∷ 1 ∷ [])) x y z → ◌≡◌ {A = ℕ × ℕ × ℕ} (x, y, z) (1, 2, 0)
one_tie_only zero (suc zero) z u = absurd (omega arith)
one_tie_only zero (suc (suc zero)) z u = absurd (omega arith)
one_tie_only (suc zero) (suc (suc zero)) zero u = refl
one_tie_only (suc zero) (suc (suc zero)) (suc zero) u = absurd (u.apart refl)
one_tie_only (suc zero) (suc (suc zero)) (suc (suc zero)) u = absurd (u.apart refl)
one_tie_only x y z u = absurd (omega arith)

-- node 1 has a tie from node 0, and node 2 has none
one_tie_shows : All (Shows kinds (drawn one_tie).network) one_tie.irregular
one_tie_shows =
    All-cons (Shows kinds (drawn one_tie).network) (0 ∷ 1 ∷ 1 ∷ [], (1, 2, 0)) []
    (shows kinds (drawn one_tie).network (0 ∷ 1 ∷ 1 ∷ []) (1, 2, 0) refl (record { order = omega arith; node = omega arith; toward = omega arith; together = refl; apart = λ e. grind (arith, ap (λ v. v.into) e) }) one_tie_only)
    (All-nil _)

abbrev Each : List Entry → Type 0
Each [] = Unit {0}
Each (known ∷ more) = Known known × Each more

each_known : (networks : List Entry) → Each networks → All Known networks
each_known [] each = All-nil Known
each_known (known ∷ more) each = All-cons Known known more each.0 (each_known more each.1)

◌also◌ : {P Q : Type 0} → P → Q → P × Q
◌also◌ p q = (p, q)

-- each equation by computing both of its sides
pub all_known : All Known known_networks
all_known =
    each_known known_networks
    (known_under kinds kinds_laws two_colours refl refl refl refl (All-nil _)
    also known_under kinds kinds_laws own_tie refl refl refl refl (All-nil _)
    also known_under kinds kinds_laws short_chain refl refl refl refl (All-nil _)
    also known_under kinds kinds_laws long_chain refl refl refl refl (All-nil _)
    also known_under kinds kinds_laws one_tie refl refl refl refl one_tie_shows
    also known_under kinds kinds_laws teams refl refl refl refl (All-nil _)
    also known_under tally tally_laws teams_by_tally refl refl refl refl (All-nil _)
    also known_under kinds kinds_laws cycles refl refl refl refl (All-nil _)
    also known_under bundles bundles_laws cycles_by_bundles refl refl refl refl (All-nil _)
    also known_under tally tally_laws cycles_by_tally refl refl refl refl (All-nil _)
    also known_under kinds kinds_laws two_sides refl refl refl refl (All-nil _)
    also known_under kinds kinds_laws one_slot refl refl refl refl (All-nil _)
    also tt)
