-- A sequential execution of a deterministic declaration never strays: it comes to no `executeLater`, to no `getValue`, and
-- to no join of a task that is no unjoined child.
use Rattle.std.proofs.Common.{◌≡◌, ◌≢◌, ◌+◌, ℕ, zero, suc, ℤ, Bool, true, false, IsTrue, List, [], ◌∷◌, length, refl, sym, subst, arith, length-append}
use Rattle.std.specs.Prelude.{slice_get, nat_lt, if◌then◌else◌, pos}
use Rattle.twe_base.specs.declared.place.Place.{Place}
use Rattle.twe_base.specs.declared.fault.FaultKind.TheVariants.{TaskLimit}
use Rattle.twe_base.specs.Limits.{Bounds}
use Rattle.effect_sets.specs.declared.effects.Summary.{Summary}
use Rattle.effect_check.specs.Acts.{is_deterministic}
use Rattle.twe_program.specs.Program.{Program}
use Rattle.twe_program.specs.WellFormed.{IsWellFormed}
use Rattle.seg_meaning.specs.declared.frame.Frame.{Frame}
use Rattle.seg_meaning.specs.declared.stop.Stop.{Stop}
use Rattle.seg_meaning.specs.declared.stop.Stop.TheVariants as stops
use Rattle.seg_meaning.specs.Giving.{given}
use Rattle.seg_meaning.specs.Segment.{Stopped, segment}
use Rattle.isolation_laws.specs.soundness.KeepsEffects.{KeepsEffects}
use Rattle.machine_state.specs.segment_laws.Keeps.{NextAfter}
use Rattle.machine_state.proofs.segment_laws.SegmentKept.{segment_keeps}
use Rattle.machine_state.specs.Moves.{frame_without_prints, making_frame}
use Rattle.determinism_laws.specs.declared.elision.progress.Progress.{Progress}
use Rattle.determinism_laws.specs.elision.Elision.{Ending, ends, fails, strays, goes_on, after_stop, elided, first_frame, frame_at_start, is_child, kept_value, most_segments, progress_at_start, run_within, then_go_on, with_segment, with_task}
use Rattle.determinism_laws.proofs.elision.Within.{HasAtLeast, one_more, run_grows}
use Rattle.determinism_laws.proofs.ForkingFrames.{Forking, child_forking, first_forking, forking_later, joined_forking, joins_child, maker_forking, never_gets, only_spawns}

abbrev StaysOn : Ending → Type 0
StaysOn (ends value s) = Unit {0}
StaysOn (fails kind place) = Unit {0}
StaysOn strays = ⊥
StaysOn goes_on = Unit {0}

none_left : (p : Program) (lim : Bounds) (frame : Frame) (s : Progress) → run_within p lim zero frame s ≡ goes_on
unfolding run_within
none_left p lim frame s = refl

module _ (p : Program) (wf : IsWellFormed p) (keeps : KeepsEffects p) (lim : Bounds) where
  -- an execution within this bound stays on
  abbrev AllStay : ℕ → Type 0
  AllStay n = (frame : Frame) (s : Progress) → Forking p frame (length s.values) → StaysOn (run_within p lim n frame s)

  -- after a child has ended, the parent goes on
  after_child : (n : ℕ) → AllStay n → (caller : Frame) (count : ℕ) → Forking p caller count → (e : Ending) → StaysOn e → HasAtLeast count e
      → StaysOn (then_go_on e (λ t. run_within p lim n caller t))
  after_child n rest caller count forking (ends value t) stays has = rest caller t (forking_later p caller count (length t.values) has forking)
  after_child n rest caller count forking (fails kind place) stays has = tt
  after_child n rest caller count forking strays stays has = stays
  after_child n rest caller count forking goes_on stays has = tt

  module _ (n : ℕ) (rest : AllStay n) (frame : Frame) (s : Progress) (forking : Forking p frame (length s.values)) where
    abbrev left : Stopped
    left = segment p frame s.cells

    abbrev bare : Frame
    bare = frame_without_prints left.frame

    abbrev t : Progress
    t = with_segment s left

    at_spawn : (child : Frame) (args : List ℤ) (effects : Summary) (future : ℕ) (place : Place) → left.stop ≡ stops.Make child args effects true future place → (fits : Bool)
        → StaysOn (if fits then then_go_on (run_within p lim n (first_frame lim (length t.values) child) (with_task t)) (λ after. run_within p lim n (making_frame future true (length t.values) bare) after) else fails TaskLimit place)
    at_spawn child args effects future place stop true =
        let number = length t.values in
        let count : length (with_task t).values ≡ number + 1 = length-append t.values (pos 0 ∷ []) in
        let mine = first_frame lim number child in
        let child_stays = rest mine (with_task t) (child_forking p wf keeps frame s.cells number forking child args effects true future place stop lim number (length (with_task t).values)) in
        let grows : HasAtLeast (length (with_task t).values) (run_within p lim n mine (with_task t)) = run_grows p lim n mine (with_task t) in
        after_child n rest (making_frame future true number bare) (number + 1)
        (maker_forking p wf keeps frame s.cells number forking number (omega arith) child args effects future place stop)
        (run_within p lim n mine (with_task t)) child_stays (subst (λ (k : ℕ). HasAtLeast k (run_within p lim n mine (with_task t))) count grows)
    at_spawn child args effects future place stop false = tt

    at_join : (on : ℕ) (value : ℤ) → left.stop ≡ stops.Joins on → (is : Bool) → is ≡ true → StaysOn (if is then run_within p lim n (given bare value) t else strays)
    at_join on value stop true e = rest (given bare value) t (joined_forking p wf keeps frame s.cells (length s.values) forking on stop value)
    at_join on value stop false e = absurd (cc (e))

    by_stop : (stop : Stop) → left.stop ≡ stop → StaysOn (after_stop (run_within p lim n) lim bare stop t)
    by_stop (stops.Make child args effects true future place) stop = at_spawn child args effects future place stop (nat_lt (length t.values) lim.tasks)
    by_stop (stops.Make child args effects false future place) stop =
        let only = only_spawns p wf keeps frame s.cells (length s.values) forking child args effects false future place stop in
        let clash : false ≡ true = only.0 in
        absurd (cc (clash))
    by_stop (stops.Waits on) stop =
        let next = subst (λ (x : Stop). NextAfter x left.frame) stop (segment_keeps p frame s.cells).next in
        absurd (never_gets p wf keeps frame s.cells (length s.values) forking on next.0 next.1)
    by_stop (stops.Joins on) stop =
        at_join on (kept_value t on) stop (is_child on bare) (joins_child p wf keeps frame s.cells (length s.values) forking on stop)
    by_stop (stops.Done value) stop = tt
    by_stop (stops.Fault kind place) stop = tt

  all_stay : (n : ℕ) → AllStay n
  all_stay zero frame s forking = subst StaysOn (sym (none_left p lim frame s)) tt
  all_stay (suc n) frame s forking =
      subst StaysOn (sym (one_more p lim n frame s)) (by_stop n (all_stay n) frame s forking (segment p frame s.cells).stop refl)

stays_is : (e : Ending) → StaysOn e → e ≢ strays
stays_is (ends value s) stays is = absurd (cc (is))
stays_is (fails kind place) stays is = absurd (cc (is))
stays_is strays stays is = stays
stays_is goes_on stays is = absurd (cc (is))

pub never_strays : (p : Program) → IsWellFormed p → KeepsEffects p → (lim : Bounds) (task : ℕ) (args cells : List ℤ) → IsTrue (is_deterministic (slice_get p.tasks task))
    → elided p lim task args cells ≢ strays
never_strays p wf keeps lim task args cells flag =
    stays_is (elided p lim task args cells)
    (all_stay p wf keeps lim (most_segments lim) (frame_at_start p lim task args) (progress_at_start cells) (first_forking p wf lim 0 task args 1 flag))
