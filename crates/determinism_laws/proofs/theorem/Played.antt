-- The execution of a deterministic task in a journal was played.
use Rattle.std.proofs.Common.{◌≡◌, ◌≤◌, ◌+◌, ◌++◌, ◌||◌, ◌==◌, ℕ, suc, ℤ, Bool, true, false, List, [], ◌∷◌, Some, inl, inr, refl, sym, ap, ◌∙◌, subst, arith}
use Rattle.std.specs.Prelude.{slice_get}
use Rattle.std.specs.List.{list_any}
use Rattle.std.proofs.lemmas.Bool.{eq-eqb}
use Rattle.twe_base.specs.Limits.{Bounds}
use Rattle.seg_journal.specs.declared.journal.End.{End}
use Rattle.seg_journal.specs.declared.journal.End.TheVariants as entry_ends
use Rattle.seg_journal.specs.declared.journal.Entry.{Entry}
use Rattle.seg_journal.specs.declared.moves.Kind.{Kind}
use Rattle.seg_journal.specs.declared.moves.Kind.TheVariants.{Run}
use Rattle.twe_program.specs.Program.{Program}
use Rattle.twe_program.specs.WellFormed.{IsWellFormed}
use Rattle.seg_meaning.specs.declared.frame.Frame.{Frame}
use Rattle.seg_meaning.specs.declared.frame.Next.{Next}
use Rattle.seg_meaning.specs.declared.frame.Next.TheVariants.{Go, Get, Join, Closing, Ended}
use Rattle.seg_meaning.specs.declared.stop.Stop.{Stop}
use Rattle.seg_meaning.specs.declared.stop.Stop.TheVariants as stops
use Rattle.seg_meaning.specs.Giving.{given, given_by}
use Rattle.seg_meaning.specs.Segment.{segment}
use Rattle.machine_state.specs.segment_laws.Keeps.{NextAfter}
use Rattle.machine_state.proofs.segment_laws.SegmentKept.{segment_keeps}
use Rattle.effect_check.proofs.Members.{IsIn}
use Rattle.isolation_laws.specs.soundness.KeepsEffects.{KeepsEffects}
use Rattle.machine_state.specs.declared.state.State.{State}
use Rattle.machine_state.specs.declared.state.TaskRow.{TaskRow}
use Rattle.machine_state.specs.declared.state.TaskStatus.TheVariants.{Done}
use Rattle.machine_state.specs.Changes.{IsDoneWith, next_segment}
use Rattle.machine_state.specs.Legal.{MayTake}
use Rattle.machine_state.specs.Moves.{awaited_value, frame_without_prints, making_frame, ready_frame, result_by_kind, value_of}
use Rattle.machine_state.specs.Rows.{IsRow, row_awaited}
use Rattle.machine_state.specs.Runs.{Legal, state_after}
use Rattle.machine_state.proofs.tasks.DoneFirst.{children_joined}
use Rattle.machine_state.proofs.lists.Places.{got_one}
use Rattle.determinism_laws.specs.Deterministic.{IsDeterministic}
use Rattle.determinism_laws.specs.Execution.{Execution, IsNextSegment, ends, joins, spawns}
use Rattle.determinism_laws.specs.Frames.{StartsFrom}
use Rattle.determinism_laws.specs.Orders.{SegmentAccesses}
use Rattle.determinism_laws.specs.Segments.{IsSegmentOf, Spawns, state_before}
use Rattle.determinism_laws.specs.Sequential.{IsSegmentAt}
use Rattle.determinism_laws.proofs.BodyRules.{makes_deterministic}
use Rattle.determinism_laws.proofs.FinalValues.{ends_give_values}
use Rattle.determinism_laws.proofs.FirstFrames.{children_begin}
use Rattle.determinism_laws.proofs.Forks.{awaited_row, children_deterministic, reached_forks, same_flag}
use Rattle.determinism_laws.proofs.FramesFollow.{joins_take_values, makers_go_on}
use Rattle.determinism_laws.proofs.JournalPlaces.{later_at, later_end, reached_at, stands_at, taken_at}
use Rattle.determinism_laws.proofs.NewTasks.{FrameAfter, left_by, move_frame}
use Rattle.determinism_laws.proofs.RankLaws.{final_reached, final_stands}
use Rattle.determinism_laws.proofs.Trees.{kept_at, one_segment}
use Rattle.determinism_laws.specs.elision.Elision.{first_frame, is_child}
use Rattle.determinism_laws.specs.numbering.Played.{Played, PlayedStep, step_accesses, step_frame}
use Rattle.determinism_laws.specs.numbering.Played as play
use Rattle.determinism_laws.specs.numbering.Renumbering.{Numbering}
use Rattle.determinism_laws.specs.theorem.Steps.{StepsAreNumbered, AreSpawned, AreSteps, ExecutionsArePlayed, IsPlayed, SpawnsNone, final_value, tasks_after}
use Rattle.determinism_laws.proofs.theorem.Stops.{done_stop, end_of, join_stop, make_stop}

-- lists one after another
tasks_joined : (count : ℕ) (xs ys : List ℕ) → tasks_after count (xs ++ ys) ≡ tasks_after (tasks_after count xs) ys
tasks_joined count [] ys = refl
tasks_joined count (x ∷ xs) ys = tasks_joined (count + 1) xs ys

tasks_more : (count : ℕ) (xs : List ℕ) → count ≤ tasks_after count xs
tasks_more count [] = omega arith
tasks_more count (x ∷ xs) = let more = tasks_more (count + 1) xs in omega (arith, more)

numbered_first : (to : Numbering) (count : ℕ) (xs ys : List ℕ) → StepsAreNumbered to count (xs ++ ys) → StepsAreNumbered to count xs
numbered_first to count [] ys numbered = tt
numbered_first to count (x ∷ xs) ys numbered = (numbered.0, numbered_first to (count + 1) xs ys numbered.1)

numbered_later : (to : Numbering) (count : ℕ) (xs ys : List ℕ) → StepsAreNumbered to count (xs ++ ys) → StepsAreNumbered to (tasks_after count xs) ys
numbered_later to count [] ys numbered = numbered
numbered_later to count (x ∷ xs) ys numbered = numbered_later to (count + 1) xs ys numbered.1

any_true : (a b : Bool) → a ≡ true → (a || b) ≡ true
any_true true b e = refl
any_true false b e = absurd (cc (e))

any_more : (a b : Bool) → b ≡ true → (a || b) ≡ true
any_more true b e = refl
any_more false b e = e

is_in_any : (child : ℕ) (out : List ℕ) → IsIn child out → list_any (λ c. c == child) out ≡ true
is_in_any child [] there = absurd there
is_in_any child (first ∷ others) (inl here) = any_true (first == child) (list_any (λ c. c == child) others) (eq-eqb first child (sym here))
is_in_any child (first ∷ others) (inr later) = any_more (first == child) (list_any (λ c. c == child) others) (is_in_any child others later)

pub given_prints : (next : Next) (frame : Frame) (value : ℤ) → (given_by next frame value).prints ≡ frame.prints
given_prints Go frame value = refl
given_prints (Get on into) frame value = refl
given_prints (Join on into) frame value = refl
given_prints (Closing on) frame value = refl
given_prints Ended frame value = refl

module _ (p : Program) (wf : IsWellFormed p) (keeps : KeepsEffects p) (lim : Bounds) (journal : List Entry) (legal : Legal p lim journal) where
  abbrev st : ℕ → State
  st n = state_before p lim journal n

  abbrev final : State
  final = state_after p lim journal

  steps_joined : (xs ys : List SegmentAccesses) (cs bs : List PlayedStep) → AreSteps p lim journal xs cs → AreSteps p lim journal ys bs → AreSteps p lim journal (xs ++ ys) (cs ++ bs)
  steps_joined [] ys [] bs one two = two
  steps_joined [] ys (a ∷ cs) bs one two = absurd one
  steps_joined (x ∷ xs) ys [] bs one two = absurd one
  steps_joined (x ∷ xs) ys (a ∷ cs) bs one two = (one.0, one.1, one.2, steps_joined xs ys cs bs one.3 two)

  spawned_joined : (xs ys : List SegmentAccesses) (cs bs : List ℕ) → AreSpawned p lim journal xs cs → AreSpawned p lim journal ys bs → AreSpawned p lim journal (xs ++ ys) (cs ++ bs)
  spawned_joined [] ys [] bs one two = two
  spawned_joined [] ys (a ∷ cs) bs one two = absurd one
  spawned_joined (x ∷ xs) ys [] [] one two = (one.0, spawned_joined xs ys [] [] one.1 two)
  spawned_joined (x ∷ xs) ys [] (b ∷ bs) one two = inl (one.0, spawned_joined xs ys [] (b ∷ bs) one.1 two)
  spawned_joined (x ∷ xs) ys (a ∷ cs) bs (inl later) two = inl (later.0, spawned_joined xs ys (a ∷ cs) bs later.1 two)
  spawned_joined (x ∷ xs) ys (a ∷ cs) bs (inr here) two = inr (here.0, spawned_joined xs ys cs bs here.1 two)

  -- a segment that made no task spawned none
  spawns_none : (u place : ℕ) (s : SegmentAccesses) (segment : IsSegmentOf journal u place) → IsSegmentAt p lim journal place s
      → ((child : ℕ) → ¬ (segment.entry.end ≡ entry_ends.Made child)) → SpawnsNone p lim journal s.key
  spawns_none u place s segment at other parent child spawn =
      let here : Spawns p lim journal parent place child = subst (λ (n : ℕ). Spawns p lim journal parent n child) at.key spawn in
      let same : here.segment.entry ≡ segment.entry = got_one (slice_get journal place) here.segment.there segment.there in
      other child (sym (ap (λ (e : Entry). e.end) same) ∙ here.made)

  -- a deterministic task that is done at the end
  record IsDue (u : ℕ) : Type 0 where
    row : TaskRow
    there : IsRow final u row
    done : row.status ≡ Done
    flag : IsDeterministic p row

  child_due : (u child : ℕ) (row : TaskRow) → IsDue u → IsRow final child row → row.parent ≡ Some u → IsDue child
  child_due u child row due there parent =
      let joined = children_joined p final wf (lim, final_reached p wf keeps lim journal legal) u child due.row row due.there there parent due.done in
      record {
        row = row;
        there = there;
        done = ((final_stands p wf keeps lim journal legal).rows child row there).joined joined;
        flag = children_deterministic p wf keeps lim final (final_reached p wf keeps lim journal legal) child u row due.row there due.there parent due.flag;
      }

  value_of_done : (u : ℕ) → IsDue u → IsDoneWith final u (final_value p lim journal u)
  value_of_done u due = record { row = due.row; there = due.there; done = due.done; value_is = sym (ap value_of due.there) }

  module _ (u place : ℕ) (frame : Frame) (due : IsDue u) (starts : StartsFrom p lim journal u place frame) where
    abbrev step : PlayedStep
    step = record { frame = frame; cells = (st place).cells }

    concrete : (stop : Stop) → (left_by p (st place) starts.row).stop ≡ stop → (segment p frame (st place).cells).stop ≡ stop
    concrete stop is = subst (λ (f : Frame). (segment p f (st place).cells).stop ≡ stop) (sym starts.frame_is) is

    step_here : (s : SegmentAccesses) → IsSegmentAt p lim journal place s → (others : List SegmentAccesses) (steps : List PlayedStep) → AreSteps p lim journal others steps
        → AreSteps p lim journal (s ∷ others) (step ∷ steps)
    step_here s at others steps same =
        let task : at.task ≡ u = one_segment journal at.task u place at.segment starts.segment in
        let row : at.row ≡ starts.row = got_one (slice_get (st place).tasks u) (subst (λ (n : ℕ). IsRow (st place) n at.row) task at.there) starts.there in
        let accesses : s.accesses ≡ (segment p frame (st place).cells).accesses =
        at.accesses ∙ ap (λ (r : TaskRow). (next_segment p (st place) r).accesses) row ∙ ap (λ (f : Frame). (segment p f (st place).cells).accesses) (sym starts.frame_is) in
        let bare : frame.prints ≡ [] =
        ap (λ (f : Frame). f.prints) starts.frame_is ∙ given_prints starts.row.frame.next starts.row.frame (awaited_value (st place).tasks (row_awaited starts.row.frame.next))
        ∙ ((stands_at p wf lim journal legal place).rows u starts.row starts.there).prints in
        (ap (λ (n : ℕ). (st n).cells) (sym at.key), sym accesses, bare, same)

    -- the row after the segment
    now : (new : TaskRow) × IsRow (st (suc place)) u new × (new.decl ≡ starts.row.decl)
    now = let kept = (later_at p wf lim journal legal place (suc place) (omega arith)).kept u starts.row starts.there in (kept.now, kept.there, kept.decl)

    flag_now : IsDeterministic p now.0
    flag_now =
        let kept = (later_end p wf lim journal legal (suc place)).kept u now.0 now.1 in
        let same : due.row ≡ kept.now = got_one (slice_get final.tasks u) due.there kept.there in
        same_flag p due.row now.0 (ap (λ (r : TaskRow). r.decl) same ∙ kept.decl) due.flag

    frame_now : FrameAfter (left_by p (st place) starts.row).stop (left_by p (st place) starts.row).frame starts.segment.entry.end now.0
    frame_now =
        let segment = starts.segment in
        let taken = taken_at p wf lim journal legal place segment.entry segment.there in
        let may = subst (MayTake (st place) Run) segment.task (subst (λ (kind : Kind). MayTake (st place) kind segment.entry.mv.task) segment.runs taken.may) in
        let to : result_by_kind p lim (st place) segment.entry.mv.kind segment.entry.mv.task ≡ result_by_kind p lim (st place) Run u =
        λ i. result_by_kind p lim (st place) (segment.runs i) (segment.task i) in
        let here : IsRow (result_by_kind p lim (st place) Run u).0 u now.0 =
        subst (λ (s : State). IsRow s u now.0) (ap (λ (r : State × End). r.0) to) (subst (λ (s : State). IsRow s u now.0) taken.leads now.1) in
        subst (λ (e : End). FrameAfter (left_by p (st place) starts.row).stop (left_by p (st place) starts.row).frame e now.0) (sym (ap (λ (r : State × End). r.1) to) ∙ taken.end)
        (move_frame p lim (st place) (stands_at p wf lim journal legal place) u Run may starts.row now.0 starts.there here)

    -- at a join: the child is one of the frame, and is done at the end
    record IsJoined (on : ℕ) : Type 0 where
      ends_too : IsDue on
      listed : is_child on (step_frame p step) ≡ true

    joined_by : (on : ℕ) (next : Next) → now.0.frame ≡ frame_without_prints (left_by p (st place) starts.row).frame → (left_by p (st place) starts.row).frame.next ≡ next
        → (stop : Stop) → stop ≡ stops.Joins on → NextAfter stop (left_by p (st place) starts.row).frame → IsIn on now.0.frame.out.items × (row_awaited now.0.frame.next ≡ Some on)
    joined_by on next frame is (stops.Make child args effects spawned future place) e after = absurd (cc (e))
    joined_by on next frame is (stops.Waits other) e after = absurd (cc (e))
    joined_by on next frame is (stops.Done value) e after = absurd (cc (e))
    joined_by on next frame is (stops.Fault kind place) e after = absurd (cc (e))
    joined_by on next frame is (stops.Joins other) e (inl join) =
        let same : other ≡ on = cc (e) in
        let next_is : now.0.frame.next ≡ Join other join.0 = ap (λ (f : Frame). f.next) frame ∙ join.1 in
        let forks = (reached_forks p wf keeps lim (st (suc place)) (reached_at p wf lim journal legal (suc place))).frames u now.0 now.1 flag_now in
        (subst (λ (n : ℕ). IsIn n now.0.frame.out.items) same (forks.joins other join.0 next_is), ap row_awaited next_is ∙ ap (λ (n : ℕ). Some n) same)
    joined_by on next frame is (stops.Joins other) e (inr closing) =
        let same : other ≡ on = cc (e) in
        let next_is : now.0.frame.next ≡ Closing other = ap (λ (f : Frame). f.next) frame ∙ closing.next in
        let out_is : now.0.frame.out.items ≡ other ∷ closing.others = ap (λ (f : Frame). f.out.items) frame ∙ closing.out in
        (subst (λ (n : ℕ). IsIn n now.0.frame.out.items) same (subst (IsIn other) (sym out_is) (inl refl)), ap row_awaited next_is ∙ ap (λ (n : ℕ). Some n) same)

    is_joined : (on : ℕ) → (left_by p (st place) starts.row).stop ≡ stops.Joins on → IsJoined on
    is_joined on stop =
        let left = left_by p (st place) starts.row in
        let frame_is : now.0.frame ≡ frame_without_prints left.frame = subst (λ (s : Stop). FrameAfter s left.frame starts.segment.entry.end now.0) stop frame_now in
        let known = joined_by on left.frame.next frame_is refl left.stop stop (segment_keeps p (ready_frame (st place).tasks starts.row.frame) (st place).cells).next in
        let reached = reached_at p wf lim journal legal (suc place) in
        let child = awaited_row p wf keeps lim (st (suc place)) reached u on now.0 now.1 flag_now known.1 in
        let kept = (later_end p wf lim journal legal (suc place)).kept on child.0 child.1 in
        let is_listed : list_any (λ c. c == on) left.frame.out.items ≡ true = sym (ap (λ (f : Frame). list_any (λ c. c == on) f.out.items) frame_is) ∙ is_in_any on now.0.frame.out.items known.0 in
        record {
          ends_too = child_due u on kept.now due kept.there (kept.parent ∙ child.2);
          listed = ap (λ (f : Frame). list_any (λ c. c == on) (segment p f (st place).cells).frame.out.items) starts.frame_is ∙ is_listed;
        }

  -- by induction over the execution
  abbrev PlayedFrom : ℕ → ℕ → List SegmentAccesses → Type 0
  PlayedFrom u place segments = (frame : Frame) → IsDue u → StartsFrom p lim journal u place frame → IsPlayed p lim journal u frame segments

  played_end : (u place : ℕ) (s : SegmentAccesses) (value : ℤ) (segment : IsSegmentOf journal u place) → IsSegmentAt p lim journal place s → segment.entry.end ≡ entry_ends.Done value
      → PlayedFrom u place (s ∷ [])
  played_end u place s value segment at end frame due starts =
      let stop = concrete u place frame due starts (stops.Done value)
      (done_stop (left_by p (st place) starts.row).stop segment.entry.end value (end_of p wf lim journal legal u place segment starts.row starts.there) end) in
      let done = ends_give_values p wf keeps lim journal legal u place frame value starts stop in
      let value_is : value ≡ final_value p lim journal u = sym (ap value_of done.there ∙ done.value_is) in
      let here = step u place frame due starts in
      record {
        steps = here ∷ [];
        children = [];
        same = step_here u place frame due starts s at [] [] tt;
        spawned = (
          spawns_none u place s segment at (λ child made. let both : entry_ends.Done value ≡ entry_ends.Made child = sym end ∙ made in cc (both)),
          tt,
        );
        played = λ to count numbered few. play.ends u here count (stop ∙ ap (λ (v : ℤ). stops.Done v) value_is);
      }

  played_join : (u place on next : ℕ) (s : SegmentAccesses) (others : List SegmentAccesses) (segment : IsSegmentOf journal u place) → IsSegmentAt p lim journal place s
      → segment.entry.end ≡ entry_ends.Joins on → IsNextSegment journal u (suc place) next → PlayedFrom u next others → PlayedFrom u place (s ∷ others)
  played_join u place on next s others segment at end is_next rest frame due starts =
      let stopped = join_stop (left_by p (st place) starts.row).stop segment.entry.end on (end_of p wf lim journal legal u place segment starts.row starts.there) end in
      let stop = concrete u place frame due starts (stops.Joins on) stopped in
      let joined = is_joined u place frame due starts on stopped in
      let value = final_value p lim journal on in
      let here = step u place frame due starts in
      let later = joins_take_values p wf keeps lim journal legal u place next on frame value starts stop is_next (value_of_done on joined.ends_too) in
      let r = rest (given (step_frame p here) value) due later in
      record {
        steps = here ∷ r.steps;
        children = r.children;
        same = step_here u place frame due starts s at others r.steps r.same;
        spawned = spawned_joined (s ∷ []) others [] r.children (
          spawns_none u place s segment at (λ child made. let both : entry_ends.Joins on ≡ entry_ends.Made child = sym end ∙ made in cc (both)),
          tt,
        ) r.spawned;
        played = λ to count numbered few. play.joins u here on r.steps count (tasks_after count r.children) stop joined.listed (r.played to count numbered few);
      }

  played_spawn : (u place child first next : ℕ) (s : SegmentAccesses) (below others : List SegmentAccesses) → Spawns p lim journal u place child → IsSegmentAt p lim journal place s
      → IsNextSegment journal child (suc place) first → PlayedFrom child first below → IsNextSegment journal u (suc place) next → PlayedFrom u next others
      → PlayedFrom u place (s ∷ below ++ others)
  played_spawn u place child first next s below others spawn at is_first child_played is_next rest frame due starts =
      let make = make_stop (left_by p (st place) starts.row).stop spawn.segment.entry.end child (end_of p wf lim journal legal u place spawn.segment starts.row starts.there) spawn.made in
      let stop = concrete u place frame due starts (stops.Make make.child make.args make.effects make.spawned make.future make.place) make.is in
      let before = (later_end p wf lim journal legal place).kept u starts.row starts.there in
      let same_row : due.row ≡ before.now = got_one (slice_get final.tasks u) due.there before.there in
      let flag : IsDeterministic p starts.row = same_flag p due.row starts.row (ap (λ (r : TaskRow). r.decl) same_row ∙ before.decl) due.flag in
      let only = makes_deterministic p keeps lim (st place) (stands_at p wf lim journal legal place) (kept_at p wf keeps lim journal legal place) u starts.row starts.there flag
      make.child make.args make.effects make.spawned make.future make.place make.is in
      let here = step u place frame due starts in
      let entry_same : starts.segment.entry ≡ spawn.segment.entry = got_one (slice_get journal place) starts.segment.there spawn.segment.there in
      let child_starts = children_begin p wf keeps lim journal legal u place child first frame make.child make.args make.effects make.spawned make.future make.place spawn starts stop is_first in
      let later = makers_go_on p wf keeps lim journal legal u place next child frame make.child make.args make.effects make.spawned make.future make.place starts stop
      (ap (λ (e : Entry). e.end) entry_same ∙ spawn.made) is_next in
      let a = child_played (first_frame lim child make.child) (child_due u child spawn.child due spawn.there spawn.parent) child_starts in
      let b = rest (making_frame make.future make.spawned child (step_frame p here)) due later in
      let stop_true : (segment p frame (st place).cells).stop ≡ stops.Make make.child make.args make.effects true make.future make.place =
      stop ∙ ap (λ (x : Bool). stops.Make make.child make.args make.effects x make.future make.place) only.0 in
      record {
        steps = here ∷ a.steps ++ b.steps;
        children = child ∷ (a.children ++ b.children);
        same = step_here u place frame due starts s at (below ++ others) (a.steps ++ b.steps) (steps_joined below others a.steps b.steps a.same b.same);
        spawned = inr ((u, subst (λ (n : ℕ). Spawns p lim journal u n child) (sym at.key) spawn), spawned_joined below others a.children b.children a.spawned b.spawned);
        played = λ to count numbered few.
            let between = tasks_after (count + 1) a.children in
            let all = tasks_joined (count + 1) a.children b.children in
            let more_first = tasks_more (count + 1) a.children in
            let more_later = tasks_more between b.children in
            let first_played = a.played to (count + 1) (numbered_first to (count + 1) a.children b.children numbered.1) (omega (arith, few, all, more_later)) in
            let later_played = b.played to between (numbered_later to (count + 1) a.children b.children numbered.1) (omega (arith, few, all)) in
            subst (λ (n : ℕ). Played p lim to (final_value p lim journal) u frame (here ∷ a.steps ++ b.steps) count n) (sym all)
            (play.spawns u here make.child make.args make.effects make.future make.place a.steps b.steps count between (tasks_after between b.children) stop_true
            (omega (arith, few, all, more_first, more_later))
            (subst (λ (n : ℕ). Played p lim to (final_value p lim journal) n (first_frame lim n make.child) a.steps (count + 1) between) (sym numbered.0) first_played)
            (subst (λ (n : ℕ). Played p lim to (final_value p lim journal) u (making_frame make.future true n (step_frame p here)) b.steps between (tasks_after between b.children)) (sym numbered.0)
            (subst (λ (x : Bool). Played p lim to (final_value p lim journal) u (making_frame make.future x child (step_frame p here)) b.steps between (tasks_after between b.children)) only.0 later_played)));
      }

  was_played : (u place : ℕ) (segments : List SegmentAccesses) → Execution p lim journal u place segments → PlayedFrom u place segments
  was_played u place segments (ends _ _ s value segment at end) = played_end u place s value segment at end
  was_played u place segments (joins _ _ on next s others segment at end is_next later) =
      played_join u place on next s others segment at end is_next (was_played u next others later)
  was_played u place segments (spawns _ _ child first next s below others spawn at is_first child_execution is_next later) =
      played_spawn u place child first next s below others spawn at is_first (was_played child first below child_execution) is_next (was_played u next others later)

  pub executions_played : ExecutionsArePlayed p lim journal
  executions_played u place frame row segments there done flag starts execution =
      was_played u place segments execution frame (record { row = row; there = there; done = done; flag = flag }) starts
