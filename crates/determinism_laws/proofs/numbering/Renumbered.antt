-- The segment of a renumbered frame is the renumbered segment.
use Rattle.std.proofs.Common.{◌≡◌, ℕ, zero, suc, ℤ, Bool, true, false, IsTrue, List, [], ◌∷◌, Option, None, Some, refl, ap, ◌∙◌}
use Rattle.std.specs.Prelude.{pos, map, option_map, slice_get}
use Rattle.twe_program.specs.Program.{Program}
use Rattle.seg_meaning.specs.declared.frame.OpenBody.{OpenBody}
use Rattle.seg_meaning.specs.declared.frame.Frame.{Frame}
use Rattle.seg_meaning.specs.declared.frame.Next.{Next}
use Rattle.seg_meaning.specs.declared.frame.Position.{Position}
use Rattle.seg_meaning.specs.declared.operation.Operation.TheVariants as operations
use Rattle.seg_meaning.specs.declared.stop.Stop.{Stop}
use Rattle.seg_meaning.specs.Segment.{Stopped, at_end, closing, closing_stop, flow_of, open_body, segment, stopped_by, task_of, waiting, waiting_stop, with_store}
use Rattle.seg_meaning.specs.Store.{Store, Flow, goes, returns, fails, stops}
use Rattle.machine_state.specs.segment_laws.Ready.{IsReady, is_future_set, stands_for_one}
use Rattle.determinism_laws.specs.numbering.Renumbering.{Numbering, SameButNumbers, frame_renumbered, futures_renumbered, next_renumbered, stop_renumbered, stopped_renumbered}
use Rattle.determinism_laws.proofs.numbering.WaitsStand.{WaitStands, wait_stands}

module _ (to : Numbering) where
  got_mapped : (futures : List (Option ℕ)) (future : ℕ) → slice_get (futures_renumbered to futures) future ≡ option_map (option_map to) (slice_get futures future)
  got_mapped [] future = refl
  got_mapped (x ∷ xs) zero = refl
  got_mapped (x ∷ xs) (suc future) = got_mapped xs future

  task_by : (o : Option (Option ℕ)) → IsTrue (stands_for_one o) → task_of (option_map (option_map to) o) ≡ to (task_of o)
  task_by None stands = absurd (cc)
  task_by (Some None) stands = absurd (cc)
  task_by (Some (Some task)) stands = refl

  -- the only place at which a segment reads a number
  task_renumbered : (futures : List (Option ℕ)) (future : ℕ) → IsTrue (is_future_set futures future)
      → task_of (slice_get (futures_renumbered to futures) future) ≡ to (task_of (slice_get futures future))
  task_renumbered futures future stands = ap task_of (got_mapped futures future) ∙ task_by (slice_get futures future) stands

  closing_renumbered : (out : List ℕ) → closing (map to out) ≡ next_renumbered to (closing out)
  closing_renumbered [] = refl
  closing_renumbered (child ∷ others) = refl

  closing_stop_renumbered : (out : List ℕ) (value : ℤ) → closing_stop (map to out) value ≡ stop_renumbered to (closing_stop out value)
  closing_stop_renumbered [] value = refl
  closing_stop_renumbered (child ∷ others) value = refl

  waiting_renumbered : (join : Bool) (on : ℕ) (into : Option ℕ) → waiting join (to on) into ≡ next_renumbered to (waiting join on into)
  waiting_renumbered true on into = refl
  waiting_renumbered false on into = refl

  waiting_stop_renumbered : (join : Bool) (on : ℕ) → waiting_stop join (to on) ≡ stop_renumbered to (waiting_stop join on)
  waiting_stop_renumbered true on = refl
  waiting_stop_renumbered false on = refl

  module _ (p : Program) (frame : Frame) where
    -- what is left once the next operation and the stop are those
    abbrev left_with : (frame : Frame) (s : Store) → Next → Stop → Stopped
    left_with after s next stop = record { frame = record after { next = next }; cells = s.cells; accesses = s.accesses; stop = stop }

    at_end_renumbered : (value : ℤ) (s : Store) → at_end (frame_renumbered to frame) value s ≡ stopped_renumbered to (at_end frame value s)
    at_end_renumbered value s =
        let after = record (with_store (frame_renumbered to frame) None s) { value = value } in
        ap (λ (n : Next). left_with after s n (closing_stop (map to frame.out.items) value)) (closing_renumbered frame.out.items)
        ∙ ap (left_with after s (next_renumbered to (closing frame.out.items))) (closing_stop_renumbered frame.out.items value)

    at_wait_renumbered : (future : ℕ) (join : Bool) (into : Option ℕ) (positions : List Position) (s : Store) → IsTrue (is_future_set frame.futures future)
        → stopped_by p (frame_renumbered to frame) (stops (operations.Wait future join into) positions s)
        ≡ stopped_renumbered to (stopped_by p frame (stops (operations.Wait future join into) positions s))
    at_wait_renumbered future join into positions s stands =
        let after = with_store (frame_renumbered to frame) (Some (open_body positions s)) s in
        let on = task_of (slice_get frame.futures future) in
        ap (λ (t : ℕ). left_with after s (waiting join t into) (waiting_stop join t)) (task_renumbered frame.futures future stands)
        ∙ ap (λ (n : Next). left_with after s n (waiting_stop join (to on))) (waiting_renumbered join on into)
        ∙ ap (left_with after s (next_renumbered to (waiting join on into))) (waiting_stop_renumbered join on)

    flow_renumbered : (f : Flow) → WaitStands frame.futures f → stopped_by p (frame_renumbered to frame) f ≡ stopped_renumbered to (stopped_by p frame f)
    flow_renumbered (goes s) stands = at_end_renumbered (pos 0) s
    flow_renumbered (returns value s) stands = at_end_renumbered value s
    flow_renumbered (fails kind place s) stands = refl
    flow_renumbered (stops (operations.Make future task args spawned place) positions s) stands = refl
    flow_renumbered (stops (operations.Wait future join into) positions s) stands = at_wait_renumbered future join into positions s stands

    -- the flow sees no number
    same_flow : (body : Option OpenBody) (cells : List ℤ) → flow_of p (frame_renumbered to frame) body cells ≡ flow_of p frame body cells
    same_flow None cells = refl
    same_flow (Some body) cells = refl

    pub segment_renumbered : (cells : List ℤ) → IsReady p frame → segment p (frame_renumbered to frame) cells ≡ stopped_renumbered to (segment p frame cells)
    segment_renumbered cells ready =
        ap (stopped_by p (frame_renumbered to frame)) (same_flow frame.body cells)
        ∙ flow_renumbered (flow_of p frame frame.body cells) (wait_stands p frame ready cells)

pub same_segment : (p : Program) (to : Numbering) (frame other : Frame) (cells : List ℤ) → IsReady p frame → SameButNumbers to frame other
    → segment p other cells ≡ stopped_renumbered to (segment p frame cells)
same_segment p to frame other cells ready same = ap (λ (f : Frame). segment p f cells) same ∙ segment_renumbered to p frame cells ready
