-- A segment leads along a control path of what is left of the body to the operation at which it stops.
use Rattle.std.proofs.Common.{◌≡◌, ◌+◌, ℕ, ℤ, Bool, true, false, List, [], ◌∷◌, Option, refl, subst, None, Some}
use Rattle.std.specs.Prelude.{pos, slice_get}
use Rattle.twe_base.specs.declared.place.Place.{Place}
use Rattle.effect_sets.specs.declared.effects.Summary.{Summary}
use Rattle.twe_program.specs.Program.{Program}
use Rattle.twe_program.specs.Statement.{Statements, no_more}
use Rattle.cover_flow.specs.ControlPath.{Path}
use Rattle.seg_meaning.specs.declared.frame.OpenBody.{OpenBody}
use Rattle.seg_meaning.specs.declared.frame.Frame.{Frame}
use Rattle.seg_meaning.specs.declared.frame.Next.{Next}
use Rattle.seg_meaning.specs.declared.frame.Next.TheVariants.{Go, Get, Join, Closing, Ended}
use Rattle.seg_meaning.specs.declared.frame.Position.{Position}
use Rattle.seg_meaning.specs.declared.operation.Operation.TheVariants as operations
use Rattle.seg_meaning.specs.declared.stop.Stop.{Stop}
use Rattle.seg_meaning.specs.declared.stop.Stop.TheVariants as ends
use Rattle.seg_meaning.specs.Entry.{entry_frame}
use Rattle.seg_meaning.specs.Giving.{body_with, given, given_by}
use Rattle.seg_meaning.specs.Meaning.{body_of}
use Rattle.seg_meaning.specs.Segment.{Stopped, closing, closing_stop, flow_of, segment, stopped_by, store_at}
use Rattle.seg_meaning.specs.Store.{Flow, goes, returns, fails, stops}
use Rattle.machine_state.specs.segment_laws.Left.{body_left, left_in, left_of}
use Rattle.machine_state.specs.segment_laws.Operations.{ComesToMake, ComesToWait}
use Rattle.machine_state.proofs.segment_laws.Quiet.{leads_nowhere}
use Rattle.machine_state.proofs.segment_laws.Leading.{FlowLeads}
use Rattle.machine_state.proofs.segment_laws.LeftLeading.{body_leads}

module _ (p : Program) (frame : Frame) where
  -- what is left once an operation was come to
  abbrev then_left : List Position → Statements
  then_left positions = left_in (body_of (slice_get p.tasks frame.decl)) positions

  flow_leads : (body : Option OpenBody) (cells : List ℤ) → FlowLeads (body_left p frame.decl body) no_more then_left (flow_of p frame body cells)
  flow_leads None cells = leads_nowhere no_more
  flow_leads (Some body) cells = body_leads p (frame.fuel + 1) (body_of (slice_get p.tasks frame.decl)) body.open_blocks (store_at frame body.vars cells)

  -- a make and a wait are come to
  abbrev StopFrom : Frame → Path → Stop → Type 0
  StopFrom after path (ends.Make child args effects spawned future place) = ComesToMake p frame after path child args effects spawned future place
  StopFrom after path (ends.Waits on) = Unit {0}
  StopFrom after path (ends.Joins on) = Unit {0}
  StopFrom after path (ends.Done value) = Unit {0}
  StopFrom after path (ends.Fault kind place) = Unit {0}

  abbrev NextFrom : Frame → Path → Next → Type 0
  NextFrom after path Go = Unit {0}
  NextFrom after path (Get on into) = ComesToWait p frame after path false on into
  NextFrom after path (Join on into) = ComesToWait p frame after path true on into
  NextFrom after path (Closing on) = Unit {0}
  NextFrom after path Ended = Unit {0}

  record Follows (path : Path) (stopped : Stopped) : Type 0 where
    stop : StopFrom stopped.frame path stopped.stop
    next : NextFrom stopped.frame path stopped.frame.next

  closing_stop_follows : (after : Frame) (path : Path) (out : List ℕ) (value : ℤ) → StopFrom after path (closing_stop out value)
  closing_stop_follows after path [] value = tt
  closing_stop_follows after path (child ∷ others) value = tt

  closing_next_follows : (after : Frame) (path : Path) (out : List ℕ) → NextFrom after path (closing out)
  closing_next_follows after path [] = tt
  closing_next_follows after path (child ∷ others) = tt

  stopped_follows : (path : Path) (f : Flow) → FlowLeads (left_of p frame) no_more then_left f → Follows path (stopped_by p frame f)
  stopped_follows path (goes s) h = record {
    stop = closing_stop_follows (stopped_by p frame (goes s)).frame path frame.out.items (pos 0);
    next = closing_next_follows (stopped_by p frame (goes s)).frame path frame.out.items;
  }
  stopped_follows path (returns value s) h = record {
    stop = closing_stop_follows (stopped_by p frame (returns value s)).frame path frame.out.items value;
    next = closing_next_follows (stopped_by p frame (returns value s)).frame path frame.out.items;
  }
  stopped_follows path (fails kind place s) h = record { stop = tt; next = tt }
  stopped_follows path (stops (operations.Make future task values spawned place) positions s) h =
      let passes = h.4 path in
      record {
        stop = record { point = h.0; task = task; given = h.1; future_place = h.2; later = passes.0; passes = passes.1; child_is = refl; effects_are = refl; values = h.3 };
        next = tt;
      }
  stopped_follows path (stops (operations.Wait future true into) positions s) h =
      let passes = h.2 path in
      record { stop = tt; next = record { point = h.0; future = future; place = h.1; later = passes.0; passes = passes.1; on_is = refl } }
  stopped_follows path (stops (operations.Wait future false into) positions s) h =
      let passes = h.2 path in
      record { stop = tt; next = record { point = h.0; future = future; place = h.1; later = passes.0; passes = passes.1; on_is = refl } }

  follows : (cells : List ℤ) (path : Path) → Follows path (segment p frame cells)
  follows cells path = stopped_follows path (flow_of p frame frame.body cells) (flow_leads frame.body cells)

  pub makes_follow : (cells : List ℤ) (path : Path) (child : Frame) (args : List ℤ) (effects : Summary) (spawned : Bool) (future : ℕ) (place : Place)
      → (segment p frame cells).stop ≡ ends.Make child args effects spawned future place
      → ComesToMake p frame (segment p frame cells).frame path child args effects spawned future place
  makes_follow cells path child args effects spawned future place e = subst (StopFrom (segment p frame cells).frame path) e (follows cells path).stop

  pub gets_follow : (cells : List ℤ) (path : Path) (on : ℕ) (into : Option ℕ) → (segment p frame cells).frame.next ≡ Get on into
      → ComesToWait p frame (segment p frame cells).frame path false on into
  gets_follow cells path on into e = subst (NextFrom (segment p frame cells).frame path) e (follows cells path).next

  pub joins_follow : (cells : List ℤ) (path : Path) (on : ℕ) (into : Option ℕ) → (segment p frame cells).frame.next ≡ Join on into
      → ComesToWait p frame (segment p frame cells).frame path true on into
  joins_follow cells path on into e = subst (NextFrom (segment p frame cells).frame path) e (follows cells path).next

-- before the first segment the whole body is left
pub entry_left : (p : Program) (task : ℕ) (args : List ℤ) → left_of p (entry_frame p task args) ≡ body_of (slice_get p.tasks task)
entry_left p task args = refl

-- the taking of a value leaves what was left
body_with_left : (p : Program) (decl : ℕ) (into : Option ℕ) (value : ℤ) (body : Option OpenBody) → body_left p decl (body_with into value body) ≡ body_left p decl body
body_with_left p decl into value None = refl
body_with_left p decl into value (Some body) = refl

given_by_left : (p : Program) (next : Next) (frame : Frame) (value : ℤ) → left_of p (given_by next frame value) ≡ left_of p frame
given_by_left p Go frame value = refl
given_by_left p (Get on into) frame value = body_with_left p frame.decl into value frame.body
given_by_left p (Join on into) frame value = body_with_left p frame.decl into value frame.body
given_by_left p (Closing on) frame value = refl
given_by_left p Ended frame value = refl

pub given_left : (p : Program) (frame : Frame) (value : ℤ) → left_of p (given frame value) ≡ left_of p frame
given_left p frame value = given_by_left p frame.next frame value
