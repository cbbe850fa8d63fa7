-- Executions, put together from their segments.
use Rattle.std.proofs.Common.{◌≡◌, ◌+◌, ◌<◌, ◌≤◌, ℕ, suc, ℤ, Bool, true, List, length, refl, sym, ap, ◌∙◌, subst, arith}
use Rattle.std.specs.Prelude.{if◌then◌else◌}
use Rattle.std.proofs.lemmas.Bool.{lt-ltb}
use Rattle.twe_base.specs.declared.place.Place.{Place}
use Rattle.effect_sets.specs.declared.effects.Summary.{Summary}
use Rattle.twe_base.specs.Limits.{Bounds}
use Rattle.twe_base.specs.declared.fault.FaultKind.TheVariants.{TaskLimit}
use Rattle.twe_program.specs.Program.{Program}
use Rattle.seg_meaning.specs.declared.frame.Frame.{Frame}
use Rattle.seg_meaning.specs.declared.stop.Stop.{Stop}
use Rattle.seg_meaning.specs.declared.stop.Stop.TheVariants.{Make, Joins, Done}
use Rattle.seg_meaning.specs.Giving.{given}
use Rattle.seg_meaning.specs.Segment.{segment}
use Rattle.machine_state.specs.Moves.{making_frame}
use Rattle.determinism_laws.specs.declared.elision.progress.Progress.{Progress}
use Rattle.determinism_laws.specs.elision.Building.{RunsTo, next_frame, next_progress}
use Rattle.determinism_laws.specs.elision.Elision.{Ending, after_stop, elided, ends, fails, first_frame, frame_at_start, is_child, kept_value, most_segments, progress_at_start, run_within, strays, then_go_on, with_task, with_value}
use Rattle.determinism_laws.proofs.elision.Within.{IsOver, most_is_enough, one_more, run_ends, same_within}

-- within a larger bound
still : (p : Program) (lim : Bounds) (n m : ℕ) (frame : Frame) (s : Progress) (value : ℤ) (after : Progress) → n ≤ m → run_within p lim n frame s ≡ ends value after
    → run_within p lim m frame s ≡ ends value after
still p lim n m frame s value after le is = same_within p lim n m frame s le (subst IsOver (sym is) tt) ∙ is

module _ (p : Program) (lim : Bounds) (frame : Frame) (s : Progress) where
  -- one segment, and what follows its stop
  first_then : (n : ℕ) (stop : Stop) (e : Ending) → (segment p frame s.cells).stop ≡ stop
      → after_stop (run_within p lim n) lim (next_frame p frame s) stop (next_progress p frame s) ≡ e → run_within p lim (suc n) frame s ≡ e
  first_then n stop e is follows =
      one_more p lim n frame s ∙ ap (λ (x : Stop). after_stop (run_within p lim n) lim (next_frame p frame s) x (next_progress p frame s)) is ∙ follows

  pub ends_at_done : (value : ℤ) → (segment p frame s.cells).stop ≡ Done value → RunsTo p lim frame s value (with_value (next_frame p frame s) value (next_progress p frame s))
  ends_at_done value is = (1, first_then 0 (Done value) (ends value (with_value (next_frame p frame s) value (next_progress p frame s))) is refl)

  pub goes_on_at_join : (after : Progress) (on : ℕ) (value : ℤ) → (segment p frame s.cells).stop ≡ Joins on → is_child on (next_frame p frame s) ≡ true
      → RunsTo p lim (given (next_frame p frame s) (kept_value (next_progress p frame s) on)) (next_progress p frame s) value after
      → RunsTo p lim frame s value after
  goes_on_at_join after on value is child runs =
      let rest = run_within p lim runs.0 in
      let t = next_progress p frame s in (
        suc runs.0,
        first_then runs.0 (Joins on) (ends value after) is
            (ap (λ (b : Bool). if b then rest (given (next_frame p frame s) (kept_value t on)) t else strays) child ∙ runs.1),
      )

  pub goes_on_at_spawn : (child : Frame) (between after : Progress) (args : List ℤ) (effects : Summary) (future : ℕ) (place : Place) (returned value : ℤ)
      → (segment p frame s.cells).stop ≡ Make child args effects true future place → length s.values < lim.tasks
      → RunsTo p lim (first_frame lim (length s.values) child) (with_task (next_progress p frame s)) returned between
      → RunsTo p lim (making_frame future true (length s.values) (next_frame p frame s)) between value after
      → RunsTo p lim frame s value after
  goes_on_at_spawn child between after args effects future place returned value is fits first later =
      let n = first.0 + later.0 in
      let rest = run_within p lim n in
      let number = length s.values in
      let t = next_progress p frame s in
      let maker = making_frame future true number (next_frame p frame s) in
      let child_runs = still p lim first.0 n (first_frame lim number child) (with_task t) returned between (omega arith) first.1 in
      let maker_runs = still p lim later.0 n maker between value after (omega arith) later.1 in (
        suc n,
        first_then n (Make child args effects true future place) (ends value after) is
            (ap (λ (b : Bool). if b then then_go_on (rest (first_frame lim number child) (with_task t)) (λ u. rest maker u) else fails TaskLimit place) (lt-ltb number lim.tasks fits)
            ∙ ap (λ (e : Ending). then_go_on e (λ u. rest maker u)) child_runs ∙ maker_runs),
      )

-- and the whole: both bounds are large enough, so they give the same
pub runs_as_defined : (p : Program) (lim : Bounds) (task : ℕ) (args cells : List ℤ) (value : ℤ) (after : Progress) → 1 ≤ lim.tasks
    → RunsTo p lim (frame_at_start p lim task args) (progress_at_start cells) value after → elided p lim task args cells ≡ ends value after
runs_as_defined p lim task args cells value after some runs =
    let frame = frame_at_start p lim task args in
    let s = progress_at_start cells in
    let m = most_segments lim in
    let over = run_ends p lim m frame s (most_is_enough p lim task args cells some) in
    sym (same_within p lim m (m + runs.0) frame s (omega arith) over) ∙ still p lim runs.0 (m + runs.0) frame s value after (omega arith) runs.1
