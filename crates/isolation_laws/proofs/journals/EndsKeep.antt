-- A segment that ends without making a task keeps the invariant.
use Rattle.std.proofs.Common.{◌≡◌, ℕ, ℤ, List, Option, None, Some, refl}
use Rattle.twe_base.specs.declared.place.Place.{Place}
use Rattle.twe_base.specs.declared.fault.FaultKind.{FaultKind}
use Rattle.twe_program.specs.Program.{Program}
use Rattle.seg_meaning.specs.declared.frame.Frame.{Frame}
use Rattle.isolation_laws.specs.soundness.RunsWith.{RunsWith}
use Rattle.wait_graph.specs.Link.{with_done}
use Rattle.wait_graph.specs.Waiting.{IsDone, SpawnedBy, WaitsForNobody}
use Rattle.machine_state.specs.declared.state.State.{State}
use Rattle.machine_state.specs.declared.state.TaskRow.{TaskRow}
use Rattle.machine_state.specs.declared.state.TaskStatus.TheVariants.{Done, Enabled, Faulted}
use Rattle.machine_state.specs.Moves.{state_after_asking, done_row, frame_without_prints, state_after_fault, faulted_row, state_after_finish, going_row, state_after_storing, state_after_join, stopped_frame}
use Rattle.machine_state.specs.Rows.{IsRow, LinksAgree, row_awaited}
use Rattle.isolation_laws.proofs.rows.RowsLater.{Became, Continues}
use Rattle.isolation_laws.proofs.frames.Frames.{OnPath}
use Rattle.isolation_laws.proofs.rows.FramePutBack.{continues_home, isolated_finished, isolated_home}
use Rattle.isolation_laws.proofs.journals.PutBackKeeps.{kept_home}
use Rattle.isolation_laws.proofs.rows.JoinedChild.{DoneAreChildless}
use Rattle.isolation_laws.proofs.journals.Invariant.{Kept}

-- the printed numbers do not matter for arguments and paths
pub runs_emptied : (p : Program) (args : List ℤ) (frame : Frame) → RunsWith p args frame → RunsWith p args (frame_without_prints frame)
runs_emptied p args frame runs = record { count = runs.count; params = runs.params; next = runs.next }

pub on_path_emptied : (p : Program) (rows : List TaskRow) (frame : Frame) → OnPath p rows frame → OnPath p rows (frame_without_prints frame)
on_path_emptied p rows frame on_path = record { path = on_path.path; reached = on_path.reached; children = on_path.children }

pub runs_stopped : (p : Program) (args : List ℤ) (frame : Frame) → RunsWith p args frame → RunsWith p args (stopped_frame frame)
runs_stopped p args frame runs = record { count = runs.count; params = tt; next = tt }

pub going_became : (row : TaskRow) (frame : Frame) → Became row (going_row row frame)
going_became row frame = record { decl = refl; args = refl; effects = refl; parent = refl; unjoined = λ h. h }

done_became : (row : TaskRow) (frame : Frame) (value : ℤ) → Became row (done_row row frame value)
done_became row frame value = record { decl = refl; args = refl; effects = refl; parent = refl; unjoined = λ h. h }

faulted_became : (row : TaskRow) (frame : Frame) → Became row (faulted_row row frame)
faulted_became row frame = record { decl = refl; args = refl; effects = refl; parent = refl; unjoined = λ h. h }

module _ (p : Program) (st : State) (kept : Kept p st) (agree : LinksAgree st) (childless : DoneAreChildless st.links) (o : Option ℕ)
    (done : (child : ℕ) → o ≡ Some child → IsDone st.links child) (t : ℕ) (row : TaskRow) (is_t : IsRow st t row) (nobody : WaitsForNobody st.links t)
    (frame : Frame) (runs : RunsWith p row.args frame) where
  -- the task goes on
  pub kept_going : ((new : State) → Continues st new → ¬ (frame.body ≡ None) → OnPath p new.tasks frame) → Kept p (state_after_storing (state_after_join st o) t frame (going_row row frame))
  kept_going path =
      let new = going_row row frame in
      let became = going_became row frame in
      kept_home p st kept o t row is_t frame new became (runs_emptied p row.args frame runs)
      (λ some. on_path_emptied p _ frame (path (state_after_storing (state_after_join st o) t frame new) (continues_home st o t row is_t frame new became) some))
      (isolated_home st o t row is_t agree childless done nobody frame new became (λ e. e) kept.isolated)

  -- it has met a fault
  pub kept_faulted : frame.body ≡ None → (kind : FaultKind) (place : Place) → Kept p (state_after_fault (state_after_join st o) t row frame kind place)
  kept_faulted none kind place =
      let new = faulted_row row frame in
      let became = faulted_became row frame in
      let k = kept_home p st kept o t row is_t frame new became (runs_emptied p row.args frame runs) (λ some. absurd (some none))
      (isolated_home st o t row is_t agree childless done nobody frame new became (λ (e : Faulted ≡ Enabled). absurd (cc)) kept.isolated) in
      record { runs = k.runs; within = k.within; siblings = k.siblings; paths = k.paths; isolated = k.isolated }

  -- it would make one task too many
  pub kept_limited : (kind : FaultKind) (place : Place) → Kept p (state_after_fault (state_after_asking (state_after_join st o)) t row (stopped_frame frame) kind place)
  kept_limited kind place =
      let stopped = stopped_frame frame in
      let new = faulted_row row stopped in
      let became = faulted_became row stopped in
      let k = kept_home p st kept o t row is_t stopped new became (runs_emptied p row.args stopped (runs_stopped p row.args frame runs)) (λ some. absurd (some refl))
      (isolated_home st o t row is_t agree childless done nobody stopped new became (λ (e : Faulted ≡ Enabled). absurd (cc)) kept.isolated) in
      record { runs = k.runs; within = k.within; siblings = k.siblings; paths = k.paths; isolated = k.isolated }

  -- it is done
  pub kept_finished : (value : ℤ) → frame.body ≡ None → row_awaited frame.next ≡ None
      → ((x : ℕ) → ¬ SpawnedBy (with_done (state_after_storing (state_after_join st o) t frame (done_row row frame value)).links t) x t)
      → Kept p (state_after_finish (state_after_join st o) t row frame value)
  kept_finished value none no_wait alone =
      let new = done_row row frame value in
      let became = done_became row frame value in
      let k = kept_home p st kept o t row is_t frame new became (runs_emptied p row.args frame runs) (λ some. absurd (some none))
      (isolated_home st o t row is_t agree childless done nobody frame new became (λ (e : Done ≡ Enabled). absurd (cc)) kept.isolated) in
      record {
        runs = k.runs;
        within = k.within;
        siblings = k.siblings;
        paths = k.paths;
        isolated = isolated_finished st o t row is_t agree childless done nobody frame new became refl no_wait alone kept.isolated;
      }
