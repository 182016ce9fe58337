use Rattle.std.proofs.Common.{◌≡◌, true, nat_le, fold, sym, ap, ◌∙◌, length, arith}
use Rattle.std.proofs.lemmas.Bool.Decides.{nat_tests}
use Rattle.script.specs.Players.{played_in}
use Rattle.script.specs.Transcripts.{Played, blank, limit, play, records}
use Rattle.script.proofs.Cuts.{after_shorter, cut_length, none_left, some_left}
use Rattle.script.proofs.Sequences.{count_after, faults_on, offset_after, printed_on, records_first}
use Rattle.script.proofs.player.play_all.Goals as goal

pub loop-rest-preserved : goal.loop-rest-preserved
loop-rest-preserved c =
    let rest = c.loop-rest.rest.now in
    let i = c.loop-rest.invariant in
    let p : Played = played_in c.loop-rest.player c.loop-rest.out.items in
    let some = some_left rest c.is_empty.result c.is_empty.ensures c.loop-rest-test.true in
    let line = ap length c.cut.ensures.line in
    let after = ap length c.cut.ensures.after in
    let played = c.in_ok-player.ensures in
    let count = ap (λ (q : Played). q.count) played ∙ count_after p c.cut.result.0.now in
    let offset = ap (λ (q : Played). q.offset) played ∙ offset_after p c.cut.result.0.now in (
      rw played
          (rw (c.cut.ensures.line, c.cut.ensures.after) (ap (λ rs. fold play p rs) (sym (records_first rest some)) ∙ i.0)),
      omega (arith, i.1, count, after, after_shorter rest some),
      λ more. omega (arith, i.2 some, offset, line, after, cut_length rest (omega (arith, more, after))),
    )

-- what is played at the end, over what was printed before
at_end : (c : goal.Joined-player) → played_in c.loop-rest.player c.loop-rest.out.items ≡ fold play (record blank { printed = c.args.out.now.items }) (records c.args.script.now)
at_end c =
    let p : Played = played_in c.loop-rest.player c.loop-rest.out.items in
    let none = none_left c.loop-rest.rest.now c.is_empty.result c.is_empty.ensures c.loop-rest-test.false in
    ap (λ bytes. fold play p (records bytes)) (sym none) ∙ c.loop-rest.invariant.0
    ∙ ap (λ faults. fold play (record blank { printed = c.args.out.now.items; faults = faults }) (records c.args.script.now)) c.new.ensures.items

pub returns-clause-printed : goal.returns-clause-printed
returns-clause-printed c =
    let script = c.args.script.now in
    let short : nat_le (length script) limit ≡ true = grind (arith, nat_tests, c.if-script-gt-LIMIT.false) in
    rw short (ap (λ (q : Played). q.printed) (at_end c) ∙ printed_on (record blank { printed = c.args.out.now.items }) (records script))

pub returns-clause-refusals : goal.returns-clause-refusals
returns-clause-refusals c =
    let script = c.args.script.now in
    let short : nat_le (length script) limit ≡ true = grind (arith, nat_tests, c.if-script-gt-LIMIT.false) in
    rw short (ap (λ (q : Played). q.faults) (at_end c) ∙ faults_on (record blank { printed = c.args.out.now.items }) (records script))
