-- The turns of an execution with a stack: each keeps the whole, and leaves less to do.
use Rattle.std.proofs.Common.{◌≡◌, ◌+◌, ◌<◌, ℕ, suc, ℤ, Bool, true, false, List, [], ◌∷◌, length, refl, sym, ap, ◌∙◌, arith, length-append, length-set}
use Rattle.std.specs.Prelude.{nat_lt, if◌then◌else◌, pos, slice_set}
use Rattle.std.proofs.lemmas.Bool.{ltb-true}
use Rattle.twe_base.specs.declared.place.Place.{Place}
use Rattle.twe_base.specs.Limits.{Bounds}
use Rattle.twe_base.specs.declared.fault.FaultKind.{FaultKind}
use Rattle.twe_base.specs.declared.fault.FaultKind.TheVariants.{TaskLimit}
use Rattle.twe_program.specs.Program.{Program}
use Rattle.seg_meaning.specs.declared.frame.Frame.{Frame}
use Rattle.seg_meaning.specs.declared.stop.Stop.{Stop}
use Rattle.seg_meaning.specs.declared.stop.Stop.TheVariants.{Make, Waits, Joins, Done, Fault}
use Rattle.seg_meaning.specs.Giving.{given}
use Rattle.seg_meaning.specs.Segment.{segment}
use Rattle.machine_state.proofs.segment_laws.SegmentKept.{segment_keeps}
use Rattle.machine_state.specs.Moves.{frame_without_prints, making_frame}
use Rattle.determinism_laws.specs.declared.elision.progress.Progress.{Progress}
use Rattle.determinism_laws.specs.elision.Elision.{Ending, ends, fails, strays, Running, after_segment, after_stop, first_frame, is_child, kept_value, run_within, then_go_on, with_segment, with_task, with_value}
use Rattle.seq_elide.specs.inner.Turns.{Turned, goes_to, ended, faulted, strayed, turn_after, turn_at_end, turn_at_stop}
use Rattle.determinism_laws.proofs.elision.Falls.{Spends, joined_falls, room, segment_spends, size, spawn_falls, weight}
use Rattle.determinism_laws.proofs.elision.Within.{one_more, run_ends, same_within}

-- how the whole ends once its innermost task has ended
abbrev pub unwound : Running → List Frame → Ending → Ending
unwound rest [] e = e
unwound rest (caller ∷ callers) e = unwound rest callers (then_go_on e (λ s. rest caller s))

-- how the whole ends after a turn
abbrev pub whole : Running → Turned → Ending
whole rest (goes_to callers frame s) = unwound rest callers (rest frame s)
whole rest (ended value s) = ends value s
whole rest (faulted kind place) = fails kind place
whole rest strayed = strays

faulted_whole : (rest : Running) (callers : List Frame) (kind : FaultKind) (place : Place) → unwound rest callers (fails kind place) ≡ fails kind place
faulted_whole rest [] kind place = refl
faulted_whole rest (caller ∷ callers) kind place = faulted_whole rest callers kind place

strayed_whole : (rest : Running) (callers : List Frame) → unwound rest callers strays ≡ strays
strayed_whole rest [] = refl
strayed_whole rest (caller ∷ callers) = strayed_whole rest callers

ended_whole : (rest : Running) (callers : List Frame) (value : ℤ) (s : Progress) → unwound rest callers (ends value s) ≡ whole rest (turn_at_end callers value s)
ended_whole rest [] value s = refl
ended_whole rest (caller ∷ callers) value s = refl

module _ (rest : Running) (lim : Bounds) (callers : List Frame) where
  spawned_whole : (frame child : Frame) (future : ℕ) (place : Place) (s : Progress) (fits : Bool)
      → let number = length s.values in
      unwound rest callers (if fits then then_go_on (rest (first_frame lim number child) (with_task s)) (λ after. rest (making_frame future true number frame) after) else fails TaskLimit place)
      ≡ whole rest (if fits then goes_to (making_frame future true number frame ∷ callers) (first_frame lim number child) (with_task s) else faulted TaskLimit place)
  spawned_whole frame child future place s true = refl
  spawned_whole frame child future place s false = faulted_whole rest callers TaskLimit place

  joined_whole : (frame : Frame) (s : Progress) (is : Bool) → unwound rest callers (if is then rest frame s else strays) ≡ whole rest (if is then goes_to callers frame s else strayed)
  joined_whole frame s true = refl
  joined_whole frame s false = strayed_whole rest callers

  stop_whole : (frame : Frame) (stop : Stop) (s : Progress) → unwound rest callers (after_stop rest lim frame stop s) ≡ whole rest (turn_at_stop lim callers frame stop s)
  stop_whole frame (Make child args effects true future place) s = spawned_whole frame child future place s (nat_lt (length s.values) lim.tasks)
  stop_whole frame (Make child args effects false future place) s = strayed_whole rest callers
  stop_whole frame (Waits on) s = strayed_whole rest callers
  stop_whole frame (Joins on) s = joined_whole (given frame (kept_value s on)) s (is_child on frame)
  stop_whole frame (Done value) s = ended_whole rest callers value (with_value frame value s)
  stop_whole frame (Fault kind place) s = faulted_whole rest callers kind place

-- what the callers may still do once they go on
abbrev pub weights : List Frame → ℕ
weights [] = 0
weights (caller ∷ callers) = weight caller + weights callers

-- and what the whole may still do
abbrev pub size_of_all : Bounds → List Frame → Frame → Progress → ℕ
size_of_all lim callers frame s = weights callers + size lim frame s

-- after a turn less is left to do, and as many cells are there
abbrev pub LeavesLess : Bounds → ℕ → ℕ → Turned → Type 0
LeavesLess lim cells bound (goes_to callers frame s) = (size_of_all lim callers frame s < bound) × (length s.cells ≡ cells)
LeavesLess lim cells bound (ended value s) = Unit {0}
LeavesLess lim cells bound (faulted kind place) = Unit {0}
LeavesLess lim cells bound strayed = Unit {0}

module _ (lim : Bounds) (callers : List Frame) (before : Frame) (cells : ℕ) where
  spawned_less : (after child : Frame) (future : ℕ) (place : Place) (s : Progress) → length s.cells ≡ cells → after.fuel < before.fuel → length after.out.items ≡ length before.out.items → child.out.items ≡ []
      → (fits : Bool) → nat_lt (length s.values) lim.tasks ≡ fits
      → let number = length s.values in
      LeavesLess lim cells (size_of_all lim callers before s) (if fits then goes_to (making_frame future true number (frame_without_prints after) ∷ callers) (first_frame lim number child) (with_task s) else faulted TaskLimit place)
  spawned_less after child future place s same fuel out none true e =
      let number = length s.values in
      let falls = spawn_falls lim before after child future number number fuel out none (ltb-true number lim.tasks e) in
      let count : length (with_task s).values ≡ number + 1 = length-append s.values (pos 0 ∷ []) in
      let room_is : room lim (length (with_task s).values) ≡ room lim (number + 1) = ap (room lim) count in
      (omega (arith, falls, room_is), same)
  spawned_less after child future place s same fuel out none false e = tt

  joined_less : (frame : Frame) (s : Progress) → length s.cells ≡ cells → weight frame < weight before → (is : Bool)
      → LeavesLess lim cells (size_of_all lim callers before s) (if is then goes_to callers frame s else strayed)
  joined_less frame s same falls true = (omega (arith, falls), same)
  joined_less frame s same falls false = tt

ended_less : (lim : Bounds) (callers : List Frame) (before : Frame) (cells task : ℕ) (value : ℤ) (s : Progress) → length s.cells ≡ cells
    → LeavesLess lim cells (size_of_all lim callers before s) (turn_at_end callers value (record s { values = slice_set s.values task value }))
ended_less lim [] before cells task value s same = tt
ended_less lim (caller ∷ callers) before cells task value s same =
    let kept = ap (room lim) (length-set s.values task value) in
    (omega (arith, kept), same)

stop_less : (lim : Bounds) (callers : List Frame) (before after : Frame) (stop : Stop) (s : Progress) (cells : ℕ) → length s.cells ≡ cells → Spends before after stop
    → LeavesLess lim cells (size_of_all lim callers before s) (turn_at_stop lim callers (frame_without_prints after) stop s)
stop_less lim callers before after (Make child args effects true future place) s cells same spends =
    let spent = spends.made child args effects true future place refl in
    spawned_less lim callers before cells after child future place s same spent.0 spends.out spent.1 (nat_lt (length s.values) lim.tasks) refl
stop_less lim callers before after (Make child args effects false future place) s cells same spends = tt
stop_less lim callers before after (Waits on) s cells same spends = tt
stop_less lim callers before after (Joins on) s cells same spends =
    joined_less lim callers before cells (given (frame_without_prints after) (kept_value s on)) s same (joined_falls before after on (kept_value s on) spends) (is_child on (frame_without_prints after))
stop_less lim callers before after (Done value) s cells same spends = ended_less lim callers before cells after.task value s same
stop_less lim callers before after (Fault kind place) s cells same spends = tt

-- a turn keeps the whole, if what its task may do is below the bound
pub turn_keeps : (p : Program) (lim : Bounds) (bound : ℕ) (callers : List Frame) (frame : Frame) (s : Progress) → size_of_all lim callers frame s < bound
    → whole (run_within p lim bound) (turn_after lim callers s (segment p frame s.cells)) ≡ unwound (run_within p lim bound) callers (run_within p lim bound frame s)
turn_keeps p lim bound callers frame s less =
    let after = segment p frame s.cells in
    let over = run_ends p lim bound frame s (omega (arith, less)) in
    let same : run_within p lim bound frame s ≡ after_segment (run_within p lim bound) lim s after =
    sym (same_within p lim bound (suc bound) frame s (omega arith) over) ∙ one_more p lim bound frame s in
    sym (ap (unwound (run_within p lim bound) callers) same ∙ stop_whole (run_within p lim bound) lim callers (frame_without_prints after.frame) after.stop (with_segment s after))

-- and leaves less to do
pub turn_leaves_less : (p : Program) (lim : Bounds) (callers : List Frame) (frame : Frame) (s : Progress)
    → LeavesLess lim (length s.cells) (size_of_all lim callers frame s) (turn_after lim callers s (segment p frame s.cells))
turn_leaves_less p lim callers frame s =
    let after = segment p frame s.cells in
    stop_less lim callers frame after.frame after.stop (with_segment s after) (length s.cells) (segment_keeps p frame s.cells).cells (segment_spends p frame s.cells)
