-- A segment that is carried out over the floor: it may make its accesses, and after it its entry may be drawn.
use Rattle.std.proofs.Common.{◌≡◌, ℕ, List, [], ◌∷◌, Option, None, sym, ap, subst, ◌∙◌}
use Rattle.twe_program.specs.Program.{Program}
use Rattle.twe_program.specs.WellFormed.{IsWellFormed}
use Rattle.seg_meaning.specs.declared.frame.Frame.{Frame}
use Rattle.seg_meaning.specs.declared.stop.Stop.{Stop}
use Rattle.seg_meaning.specs.Access.{Access, Reads, Writes, Prints, Follows, MayAll, after}
use Rattle.seg_meaning.specs.Segment.{CarriesOut, MayCarryOut, segment}
use Rattle.floor_laws.specs.declared.rule.view.DoneFact.{DoneFact}
use Rattle.floor_laws.specs.declared.rule.view.HeldTurn.{HeldTurn}
use Rattle.floor_laws.specs.declared.rule.view.OpenSegment.{OpenSegment}
use Rattle.floor_laws.specs.rule.Fitting.{MayRunFrom}
use Rattle.floor_laws.specs.rule.Touches.{accesses_of, touches_of}
use Rattle.floor_laws.proofs.rule.Puts.{none_some}
use Rattle.floor_laws.specs.table.FloorOf.{turn_in}
use Rattle.floor_laws.specs.table.Tells.{Seat}
use Rattle.floor_laws.specs.table.nodes.FloorSeats.{floor_seat, tasks_out}
use Rattle.task_floor.specs.declared.in_hand.CellInHand.TheVariants.{Nothing}
use Rattle.task_floor.specs.Stands.{TreeStand, floor_stand}
use Rattle.task_floor.specs.inner.InHand.{GoesOver, SegFollows, SegView, Shows, TouchesAlone, seg_ways}
use Rattle.task_floor.specs.steps.Segments.{HasRunSegment, MayRunSegment, latest_task}
use Rattle.task_floor.proofs.steps.Carrying.{may_carry}
use Rattle.task_floor.proofs.steps.Touching.{latest_is, stand_ways}
use Rattle.task_floor.proofs.InHand.{alone_itself, alone_then}

-- Before the segment.

may_all : (p : Program) (seg : SegView) (accesses : List Access) → MayAll (stand_ways p) (floor_stand seg.stand) accesses → MayAll (seg_ways p) seg accesses
may_all p seg [] may = tt
may_all p seg (Reads cell value ∷ earlier) may = (may.0, may_all p seg earlier may.1)
may_all p seg (Writes cell value ∷ earlier) may = (may.0, may_all p seg earlier may.1)
may_all p seg (Prints value ∷ earlier) may = may_all p seg earlier may

-- the segment of a stand that has no cell in hand
abbrev pub bare : TreeStand → SegView
bare stand = record { stand = stand; hand = Nothing }

pub may_carry_here : (p : Program) → IsWellFormed p → (stand : TreeStand) (t : ℕ) (turn : HeldTurn) (ready : Frame) → MayRunSegment (floor_seat stand.me) t turn ready → MayCarryOut p (seg_ways p) ready (bare stand)
may_carry_here p well stand t turn ready may cells = may_all p (bare stand) (segment p ready cells).accesses (may_carry p well (floor_stand stand) t turn ready may cells)

-- After it.

-- the touches and the cell in hand stand for the accesses that were made
shows_all : (p : Program) (old : SegView) (accesses : List Access) (new : SegView) → Shows p old [] → Follows (SegFollows p) old accesses new → Shows p new accesses
shows_all p old [] new shows same = subst (λ (seg : SegView). Shows p seg []) (sym same) shows
shows_all p old (Reads cell value ∷ earlier) new shows follows = follows.2.shows earlier (shows_all p old earlier follows.0 shows follows.1)
shows_all p old (Writes cell value ∷ earlier) new shows follows = follows.2.shows earlier (shows_all p old earlier follows.0 shows follows.1)
shows_all p old (Prints value ∷ earlier) new shows follows =
    let so_far = shows_all p old earlier new shows follows in
    record { agree = so_far.agree; same = so_far.same }

alone_all : (p : Program) (old : SegView) (accesses : List Access) (new : SegView) → Follows (SegFollows p) old accesses new → TouchesAlone old.stand new.stand
alone_all p old [] new same = subst (λ (seg : SegView). TouchesAlone old.stand seg.stand) (sym same) (alone_itself old.stand)
alone_all p old (Reads cell value ∷ earlier) new follows = alone_then old.stand follows.0.stand new.stand (alone_all p old earlier follows.0 follows.1) follows.2.alone
alone_all p old (Writes cell value ∷ earlier) new follows = alone_then old.stand follows.0.stand new.stand (alone_all p old earlier follows.0 follows.1) follows.2.alone
alone_all p old (Prints value ∷ earlier) new follows = alone_all p old earlier new follows

-- a stand whose segment is not open has touched nothing
shows_none : (p : Program) (stand : TreeStand) → stand.me.0.floor.segment ≡ None → Shows p (bare stand) []
shows_none p stand closed = record {
  agree = λ cells size agrees. tt;
  same = λ cells size agrees. ap (λ (o : Option OpenSegment). after cells (accesses_of (touches_of o))) (sym closed);
}

-- of the stand the open segment alone has changed
pub carried_alone : (p q : Program) (old : TreeStand) (left : SegView) (new : TreeStand) (ready frame : Frame) (stop : Stop) → CarriesOut p (SegFollows q) ready (bare old) stop frame left → GoesOver q left (bare new)
    → TouchesAlone old new
carried_alone p q old left new ready frame stop carried goes = alone_then old left.stand new (alone_all q (bare old) carried.accesses left carried.follows) goes.alone

module _ (p : Program) (old : TreeStand) (left : SegView) (new : TreeStand) (ready frame : Frame) (stop : Stop) (carried : CarriesOut p (SegFollows p) ready (bare old) stop frame left)
    (goes : GoesOver p left (bare new)) where
  alone : TouchesAlone old new
  alone = carried_alone p p old left new ready frame stop carried goes

  pub has_run : (t : ℕ) (turn : HeldTurn) → MayRunSegment (floor_seat old.me) t turn ready → HasRunSegment p (floor_seat old.me) (floor_seat new.me) t turn frame stop
  has_run t turn may =
      let kept = alone.seat in
      let latest : latest_task (tasks_out old.me.1) ≡ t = latest_is (floor_seat old.me) t may.latest in
      let shown = goes.shows carried.accesses (shows_all p (bare old) carried.accesses left (shows_none p old may.closed) carried.follows) in
      record {
        draw = record {
          has = ap (λ (m : Seat). turn_in m.0.turns t) kept ∙ may.has;
          ready = ready;
          may = subst (λ (facts : List DoneFact). MayRunFrom turn facts ready) (ap (λ (m : Seat). m.0.done) (sym kept)) may.may;
          running = may.running;
          own = λ s is. alone.own (λ o was. absurd (none_some (sym may.closed ∙ was))) s is ∙ latest;
          accesses = carried.accesses;
          touches = record { agree = shown.agree; same = shown.same };
          means = carried.means;
        };
        kept = kept;
      }
