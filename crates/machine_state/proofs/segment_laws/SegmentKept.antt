-- What a segment leaves as it is.
use Rattle.std.proofs.Common.{◌≡◌, ◌+◌, ℕ, ℤ, Bool, true, false, List, [], ◌∷◌, length, Option, inl, inr, refl, arith, None, Some}
use Rattle.std.specs.Prelude.{pos, slice_get}
use Rattle.twe_base.specs.declared.place.Place.{Place}
use Rattle.effect_sets.specs.declared.effects.Summary.{Summary}
use Rattle.twe_program.specs.Program.{Program}
use Rattle.seg_meaning.specs.declared.frame.OpenBody.{OpenBody}
use Rattle.seg_meaning.specs.declared.frame.Frame.{Frame}
use Rattle.seg_meaning.specs.declared.frame.Next.TheVariants.{Get, Join}
use Rattle.seg_meaning.specs.declared.operation.Operation.{Operation}
use Rattle.seg_meaning.specs.declared.operation.Operation.TheVariants as operations
use Rattle.seg_meaning.specs.declared.stop.Stop.TheVariants as ends
use Rattle.seg_meaning.specs.Entry.{effects_at, entry_frame}
use Rattle.seg_meaning.specs.Meaning.{body_of, done_within}
use Rattle.seg_meaning.specs.Segment.{closing, closing_stop, flow_of, operation_next, operation_stop, segment, stopped_by, store_at}
use Rattle.seg_meaning.specs.Store.{Flow, goes, returns, fails, stops}
use Rattle.seg_meaning.proofs.Rooms.{flow_has_room}
use Rattle.machine_state.specs.segment_laws.Keeps.{NextAfter, SegmentKeeps, StopBefore}
use Rattle.machine_state.proofs.segment_laws.Keeping.{FlowKept, resumed_kept, within_kept}

-- at the end of the body
end_next : (out : List ℕ) (value : ℤ) (after : Frame) → after.next ≡ closing out → after.body ≡ None → after.out.items ≡ out → after.value ≡ value → NextAfter (closing_stop out value) after
end_next [] value after n c o v = (n, c, o, v)
end_next (child ∷ others) value after n c o v = inr (record { next = n; body = c; others = others; out = o })

end_stop : (out : List ℕ) (value : ℤ) → StopBefore (closing out) (closing_stop out value)
end_stop [] value = tt
end_stop (child ∷ others) value = refl

no_get : (out : List ℕ) (on : ℕ) (into : Option ℕ) → closing out ≡ Get on into → ⊥
no_get [] on into e = absurd (cc)
no_get (child ∷ others) on into e = absurd (cc)

no_join : (out : List ℕ) (on : ℕ) (into : Option ℕ) → closing out ≡ Join on into → ⊥
no_join [] on into e = absurd (cc)
no_join (child ∷ others) on into e = absurd (cc)

no_make : (out : List ℕ) (value : ℤ) (child : Frame) (args : List ℤ) (effects : Summary) (spawned : Bool) (future : ℕ) (place : Place)
    → closing_stop out value ≡ ends.Make child args effects spawned future place → ⊥
no_make [] value child args effects spawned future place e = absurd (cc)
no_make (first ∷ others) value child args effects spawned future place e = absurd (cc)

-- at a task operation
operation_next_is : (p : Program) (frame : Frame) (operation : Operation) (after : Frame) → after.next ≡ operation_next frame operation → NextAfter (operation_stop p frame operation) after
operation_next_is p frame (operations.Make future task args spawned place) after n = n
operation_next_is p frame (operations.Wait future true into) after n = inl (into, n)
operation_next_is p frame (operations.Wait future false into) after n = (into, n)

operation_stop_is : (p : Program) (frame : Frame) (operation : Operation) → StopBefore (operation_next frame operation) (operation_stop p frame operation)
operation_stop_is p frame (operations.Make future task args spawned place) = (entry_frame p task args, args, effects_at p task args, spawned, future, place, refl)
operation_stop_is p frame (operations.Wait future true into) = refl
operation_stop_is p frame (operations.Wait future false into) = refl

module _ (p : Program) (frame : Frame) (cells : List ℤ) where
  abbrev Kept : Flow → Type 0
  Kept f = FlowKept p (length cells) frame.fuel f

  stopped_keeps : (f : Flow) → Kept f → SegmentKeeps frame cells (stopped_by p frame f)
  stopped_keeps (goes s) h = record {
    task = refl;
    decl = refl;
    futures = refl;
    out = refl;
    room = flow_has_room p frame (goes s);
    cells = h.0;
    fuel = h.1;
    made = λ child args effects spawned future place e. absurd (no_make frame.out.items (pos 0) child args effects spawned future place e);
    got = λ on into e. absurd (no_get frame.out.items on into e);
    joined = λ on into e. absurd (no_join frame.out.items on into e);
    next = end_next frame.out.items (pos 0) (stopped_by p frame (goes s)).frame refl refl refl refl;
    stop = end_stop frame.out.items (pos 0);
  }
  stopped_keeps (returns v s) h = record {
    task = refl;
    decl = refl;
    futures = refl;
    out = refl;
    room = flow_has_room p frame (returns v s);
    cells = h.0;
    fuel = h.1;
    made = λ child args effects spawned future place e. absurd (no_make frame.out.items v child args effects spawned future place e);
    got = λ on into e. absurd (no_get frame.out.items on into e);
    joined = λ on into e. absurd (no_join frame.out.items on into e);
    next = end_next frame.out.items v (stopped_by p frame (returns v s)).frame refl refl refl refl;
    stop = end_stop frame.out.items v;
  }
  stopped_keeps (fails kind place s) h = record {
    task = refl;
    decl = refl;
    futures = refl;
    out = refl;
    room = flow_has_room p frame (fails kind place s);
    cells = h.0;
    fuel = h.1;
    made = λ child args effects spawned future at e. absurd (cc);
    got = λ on into e. absurd (cc);
    joined = λ on into e. absurd (cc);
    next = (refl, refl);
    stop = tt;
  }
  stopped_keeps (stops operation positions s) h = record {
    task = refl;
    decl = refl;
    futures = refl;
    out = refl;
    room = flow_has_room p frame (stops operation positions s);
    cells = h.0;
    fuel = omega (arith, h.1);
    made = λ child args effects spawned future place e. h.1;
    got = λ on into e. h.1;
    joined = λ on into e. h.1;
    next = operation_next_is p frame operation (stopped_by p frame (stops operation positions s)).frame refl;
    stop = operation_stop_is p frame operation;
  }

  flow_kept : (body : Option OpenBody) → Kept (flow_of p frame body cells)
  flow_kept None = (refl, omega arith)
  flow_kept (Some body) =
      let n = frame.fuel + 1 in
      resumed_kept p (length cells) frame.fuel (done_within p n) (within_kept p (length cells) frame.fuel n) body.open_blocks (body_of (slice_get p.tasks frame.decl))
      (store_at frame body.vars cells) (refl, omega arith)

  pub segment_keeps : SegmentKeeps frame cells (segment p frame cells)
  segment_keeps = stopped_keeps (flow_of p frame frame.body cells) (flow_kept frame.body)
