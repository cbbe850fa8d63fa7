use Rattle.std.proofs.Common.{List, sym, subst, take}
use Rattle.std.proofs.lemmas.List.{take_more}
use Rattle.held_span.specs.inner.Tallies.{IsTally}
use Rattle.held_span.specs.declared.hold.Hold.{Hold}
use Rattle.held_span.proofs.tally.HoldTally.of_holds.Goals as goal

pub loop-hold-init : goal.loop-hold-init
loop-hold-init c = record { tally = c.new-tally.ensures.tally c.args.rows.now; small = c.new-tally.ensures.small }

pub loop-hold-preserved : goal.loop-hold-preserved
loop-hold-preserved c =
    let none : Hold = record { entry = 0; task = 0; holder = 0; freed_by = 0; time = 0 } in record {
      tally = subst (λ (holds : List Hold). IsTally c.args.rows.now holds c.note.new.self)
          (sym (take_more c.args.holds.now c.loop-hold.hold-index none c.loop-hold-test.true))
          (c.in_ok-note.ensures.tally (take c.loop-hold.hold-index c.args.holds.now) c.loop-hold.invariant.tally);
      small = c.in_ok-note.ensures.small c.loop-hold.hold-index c.loop-hold.invariant.small;
    }
