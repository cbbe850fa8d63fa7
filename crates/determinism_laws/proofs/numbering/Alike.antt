-- Segments over cells that have the values that they read.
use Rattle.std.proofs.Common.{◌≡◌, ℕ, ℤ, Bool, List, refl, sym, ap, ◌∙◌}
use Rattle.twe_base.specs.declared.place.Place.{Place}
use Rattle.effect_sets.specs.declared.effects.Summary.{Summary}
use Rattle.twe_program.specs.Program.{Program}
use Rattle.seg_meaning.specs.declared.frame.Frame.{Frame}
use Rattle.seg_meaning.specs.declared.stop.Stop.{Stop}
use Rattle.seg_meaning.specs.declared.stop.Stop.TheVariants.{Make, Waits, Joins, Done, Fault}
use Rattle.seg_meaning.specs.Access.{Agrees, after}
use Rattle.seg_meaning.specs.Segment.{Stopped, segment}
use Rattle.seg_meaning.proofs.Determined.{segment_determined}
use Rattle.machine_state.specs.segment_laws.Ready.{IsReady}
use Rattle.determinism_laws.specs.numbering.Renumbering.{Numbering, SameButNumbers, stop_renumbered, stopped_renumbered}
use Rattle.determinism_laws.specs.numbering.SameAccesses.{DoesTheSame}
use Rattle.determinism_laws.proofs.numbering.Renumbered.{same_segment}

pub does_the_same : (p : Program) (to : Numbering) (frame other : Frame) (cells others : List ℤ) → IsReady p frame → SameButNumbers to frame other
    → Agrees others (segment p other cells).accesses → DoesTheSame p to frame other cells others
does_the_same p to frame other cells others ready same agrees =
    let was = segment p other cells in
    let over : segment p other others ≡ record was { cells = after others was.accesses } = segment_determined p other cells others agrees in
    let is : stopped_renumbered to (segment p frame others) ≡ record was { cells = after others was.accesses } = sym (same_segment p to frame other others ready same) ∙ over in
    record {
      accesses = ap (λ (x : Stopped). x.accesses) is;
      leaves = ap (λ (x : Stopped). x.cells) is;
      frames = sym (ap (λ (x : Stopped). x.frame) is);
      stops = ap (λ (x : Stopped). x.stop) is;
    }

-- which stops are renumbered to these
pub done_before : (to : Numbering) (stop : Stop) (value : ℤ) → stop_renumbered to stop ≡ Done value → stop ≡ Done value
done_before to (Make child args effects spawned future place) value e = absurd (cc)
done_before to (Waits on) value e = absurd (cc)
done_before to (Joins on) value e = absurd (cc)
done_before to (Done other) value e = e
done_before to (Fault kind place) value e = absurd (cc)

pub join_before : (to : Numbering) (stop : Stop) (on : ℕ) → stop_renumbered to stop ≡ Joins on → (child : ℕ) × (stop ≡ Joins child) × (to child ≡ on)
join_before to (Make child args effects spawned future place) on e = absurd (cc)
join_before to (Waits other) on e = absurd (cc)
join_before to (Joins other) on e = let same : to other ≡ on = cc in (other, refl, same)
join_before to (Done value) on e = absurd (cc)
join_before to (Fault kind place) on e = absurd (cc)

pub make_before : (to : Numbering) (stop : Stop) (child : Frame) (args : List ℤ) (effects : Summary) (spawned : Bool) (future : ℕ) (place : Place)
    → stop_renumbered to stop ≡ Make child args effects spawned future place → stop ≡ Make child args effects spawned future place
make_before to (Make other values sets by into at) child args effects spawned future place e = e
make_before to (Waits on) child args effects spawned future place e = absurd (cc)
make_before to (Joins on) child args effects spawned future place e = absurd (cc)
make_before to (Done value) child args effects spawned future place e = absurd (cc)
make_before to (Fault kind here) child args effects spawned future place e = absurd (cc)
