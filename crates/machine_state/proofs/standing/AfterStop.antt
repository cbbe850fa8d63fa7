-- The row of a task after a segment: that it goes on, is done, or has met a fault.
use Rattle.std.proofs.Common.{◌≡◌, ◌≢◌, ℕ, ℤ, List, [], refl, ◌∙◌, subst}
use Rattle.twe_base.specs.Limits.{Bounds}
use Rattle.twe_program.specs.Program.{Program}
use Rattle.seg_meaning.specs.declared.frame.Frame.{Frame}
use Rattle.seg_meaning.specs.declared.frame.Next.TheVariants.{Ended}
use Rattle.machine_state.specs.segment_laws.Keeps.{IsClosing}
use Rattle.machine_state.specs.segment_laws.Ready.{IsReady}
use Rattle.machine_state.proofs.segment_laws.BeingReady.{ready_same}
use Rattle.machine_state.specs.declared.state.TaskRow.{TaskRow}
use Rattle.machine_state.specs.declared.state.TaskStatus.TheVariants.{Enabled}
use Rattle.machine_state.specs.Moves.{frame_without_prints, going_row, done_row, faulted_row, stopped_frame}
use Rattle.machine_state.proofs.standing.Standing.{FrameStands, IsOver, RowStands}

module _ (p : Program) (lim : Bounds) (rows : List TaskRow) (t : ℕ) where
  -- what was printed may be taken out
  emptied_closing : (frame : Frame) (on : ℕ) → IsClosing frame on → IsClosing (frame_without_prints frame) on
  emptied_closing frame on closing = record { next = closing.next; body = closing.body; others = closing.others; out = closing.out }

  emptied_stands : (frame : Frame) → FrameStands p lim rows t frame → FrameStands p lim rows t (frame_without_prints frame)
  emptied_stands frame stands = record {
    number = stands.number;
    fuel = stands.fuel;
    futures = stands.futures;
    apart = stands.apart;
    once = stands.once;
    getting = stands.getting;
    joining = stands.joining;
    closing = λ on is. emptied_closing frame on (stands.closing on is);
    awaited_child = stands.awaited_child;
    ended = stands.ended;
  }

  -- the frame of a task that has met a fault at a make
  pub stopped_stands : (frame : Frame) → FrameStands p lim rows t frame → FrameStands p lim rows t (stopped_frame frame)
  stopped_stands frame stands = record {
    number = stands.number;
    fuel = stands.fuel;
    futures = stands.futures;
    apart = stands.apart;
    once = stands.once;
    getting = λ on into is. absurd (cc (is));
    joining = λ on into is. absurd (cc (is));
    closing = λ on is. absurd (cc (is));
    awaited_child = λ on is. absurd (cc (is));
    ended = λ is. refl;
  }

  module _ (row : TaskRow) (was : RowStands p lim rows t row) (enabled : row.status ≡ Enabled) (frame : Frame) (stands : FrameStands p lim rows t frame)
      (ready : IsReady p frame) (decl : frame.decl ≡ row.frame.decl) where
    ready_emptied : IsReady p (frame_without_prints frame)
    ready_emptied = ready_same p frame (frame_without_prints frame) refl refl refl ready

    not_over : ¬ IsOver row.status
    not_over over = subst IsOver enabled over

    pub going_stands : frame.next ≢ Ended → RowStands p lim rows t (going_row row frame)
    going_stands on = record {
      frame = emptied_stands frame stands;
      ready = ready_emptied;
      decl = decl ∙ was.decl;
      out = refl;
      prints = refl;
      count = was.count;
      effects = was.effects;
      parent = was.parent;
      made = λ is. absurd (cc (is, enabled));
      over = λ over. absurd (not_over over);
      ended = λ is. absurd (on is);
      done = λ is. absurd (cc (is, enabled));
      joined = λ is. absurd (cc (was.joined is, enabled));
    }

    pub done_stands : (value : ℤ) → frame.next ≡ Ended → frame.out.items ≡ [] → RowStands p lim rows t (done_row row frame value)
    done_stands value is none = record {
      frame = emptied_stands frame stands;
      ready = ready_emptied;
      decl = decl ∙ was.decl;
      out = refl;
      prints = refl;
      count = was.count;
      effects = was.effects;
      parent = was.parent;
      made = λ made. absurd (cc (made));
      over = λ over. is;
      ended = λ ended. tt;
      done = λ done. none;
      joined = λ joined. refl;
    }

    pub faulted_stands : frame.next ≡ Ended → RowStands p lim rows t (faulted_row row frame)
    faulted_stands is = record {
      frame = emptied_stands frame stands;
      ready = ready_emptied;
      decl = decl ∙ was.decl;
      out = refl;
      prints = refl;
      count = was.count;
      effects = was.effects;
      parent = was.parent;
      made = λ made. absurd (cc (made));
      over = λ over. is;
      ended = λ ended. tt;
      done = λ done. absurd (cc (done));
      joined = λ joined. absurd (cc (was.joined joined, enabled));
    }
