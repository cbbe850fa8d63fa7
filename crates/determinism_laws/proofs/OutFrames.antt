-- The futures that are out in a frame of a deterministic task stand for its unjoined children. So by the rule on joins, a
-- written join is of an unjoined child.
use Rattle.std.proofs.Common.{◌≡◌, ◌≢◌, ◌<◌, ◌==◌, ◌||◌, not, ℕ, ℤ, Bool, true, false, IsTrue, List, [], ◌∷◌, ◌++◌, length, Option, None, Some, inl, inr, refl, sym, ap, ◌∙◌, subst, arith, eq-eqb, eqb-true}
use Rattle.std.specs.Prelude.{slice_get}
use Rattle.std.proofs.lemmas.Bool.{cases_Bool, false≢true}
use Rattle.std.proofs.lemmas.Option.{slice_get_within}
use Rattle.twe_base.specs.declared.place.Place.{Place}
use Rattle.twe_base.specs.Limits.{Bounds}
use Rattle.effect_sets.specs.declared.effects.Summary.{Summary}
use Rattle.twe_program.specs.declared.program.Body.{Body}
use Rattle.twe_program.specs.Program.{Program}
use Rattle.twe_program.specs.Statement.{Statement, Statements, Make, Wait, statement}
use Rattle.cover_flow.specs.ControlPath.{ControlPath, Path, end_of, point_of}
use Rattle.cover_flow.specs.Out.{out_after}
use Rattle.cover_flow.proofs.SteppingBack.{steps-back}
use Rattle.effect_check.specs.declared.rule.ERule.TheVariants.{E4}
use Rattle.effect_check.specs.Acts.{wait}
use Rattle.effect_check.specs.FailsEffect.{joined}
use Rattle.effect_check.proofs.Members.{IsIn, both-true, contains-in, in-contains, in-left, in-right}
use Rattle.seg_meaning.specs.declared.frame.Frame.{Frame}
use Rattle.seg_meaning.specs.declared.frame.Next.{Next}
use Rattle.seg_meaning.specs.declared.frame.Next.TheVariants.{Go, Join}
use Rattle.seg_meaning.specs.declared.stop.Stop.{Stop}
use Rattle.seg_meaning.specs.declared.stop.Stop.TheVariants as ends
use Rattle.seg_meaning.specs.Entry.{entry_frame}
use Rattle.seg_meaning.specs.Giving.{given, without}
use Rattle.seg_meaning.specs.Meaning.{body_of}
use Rattle.seg_meaning.specs.Segment.{task_of}
use Rattle.isolation_laws.specs.soundness.KeepsEffects.{KeepsEffects}
use Rattle.machine_state.specs.segment_laws.Keeps.{NextAfter}
use Rattle.machine_state.specs.segment_laws.Left.{left_of}
use Rattle.machine_state.specs.segment_laws.Operations.{ComesToMake, ComesToWait}
use Rattle.machine_state.specs.segment_laws.Passes.{Passes}
use Rattle.machine_state.specs.segment_laws.Ready.{futures_at}
use Rattle.machine_state.proofs.segment_laws.BeingReady.{ready_declared, ready_given}
use Rattle.machine_state.proofs.segment_laws.Following.{given_left, joins_follow, makes_follow}
use Rattle.machine_state.proofs.segment_laws.SegmentKept.{segment_keeps}
use Rattle.machine_state.specs.declared.state.State.{State}
use Rattle.machine_state.specs.declared.state.TaskRow.{TaskRow}
use Rattle.machine_state.specs.Moves.{awaited_value, frame_without_prints, making_frame}
use Rattle.machine_state.specs.Rows.{IsRow, row_awaited}
use Rattle.machine_state.proofs.lists.Members.{contains_in, in_contains, in_without}
use Rattle.machine_state.proofs.standing.Standing.{Stands}
use Rattle.isolation_laws.proofs.frames.AfterSegment.{after, after_decl, after_futures, after_out}
use Rattle.isolation_laws.proofs.frames.EndedBody.{some_at_join, some_at_make}
use Rattle.isolation_laws.proofs.frames.Frames.{given_futures, still_out}
use Rattle.isolation_laws.proofs.journals.Invariant.{Kept}
use Rattle.isolation_laws.proofs.paths.FuturesOut.{Reached, out-quiet, reached_more, reached_start}
use Rattle.isolation_laws.proofs.paths.MakesInBodies.{reached_acts}
use Rattle.isolation_laws.proofs.rows.ListElements.{get_set_other, get_set_within}
use Rattle.determinism_laws.specs.Deterministic.{IsDeterministic}
use Rattle.determinism_laws.proofs.BodyRules.{found, in_body, listed}
use Rattle.determinism_laws.proofs.NewTasks.{left_by}

-- The future stands for a child that is unjoined once the awaited value is taken.
abbrev pub StandsForChild : Frame → ℕ → Type 0
StandsForChild frame f = (u : ℕ) × (slice_get frame.futures f ≡ Some (Some u)) × IsIn u (still_out frame.next frame.out.items)

-- A control path leads to what is left of the frame's body, and each future that is out after it stands for such a child.
pub record OutOnPath (p : Program) (frame : Frame) : Type 0 where
  pub path : Path
  pub reached : Reached (body_of (slice_get p.tasks frame.decl)) (left_of p frame) path
  pub children : (f : ℕ) → IsTrue (out_after f path) → StandsForChild frame f

-- before the first segment no future is out
pub out_at_entry : (p : Program) (task : ℕ) (args : List ℤ) (number fuel : ℕ) → OutOnPath p (record (entry_frame p task args) { task = number; fuel = fuel })
out_at_entry p task args number fuel = record {
  path = [];
  reached = reached_start (body_of (slice_get p.tasks task));
  children = λ f out. absurd (false≢true out);
}

-- a reached statement is on a control path to its point
control_path : (body : Body) (first : Statement) (others : Statements) (path : Path) → Reached body.block (statement first others) path → ControlPath body (point_of first) path
control_path body first others path reached =
    elim (steps-back (end_of body) (point_of first) path reached.steps body.block [] (statement first others) reached.far refl) [
      | inl within ↦ inl within
      | inr through ↦ inr through
    ]

others_in : (u on : ℕ) (out : List ℕ) → u ≢ on → IsIn u out → IsIn u (without on out)
others_in u on out differ h =
    contains-in (without on out) u (in_contains (without on out) u (in_without out on u differ (contains_in out u (in-contains out u h))))

-- a segment of a deterministic task
module _ (p : Program) (keeps : KeepsEffects p) (lim : Bounds) (st : State) (stands : Stands p lim st) (kept : Kept p st)
    (t : ℕ) (row : TaskRow) (is_t : IsRow st t row) (flag : IsDeterministic p row) (known : ¬ (row.frame.body ≡ None) → OutOnPath p row.frame) where
  abbrev taken : ℤ
  taken = awaited_value st.tasks (row_awaited row.frame.next)

  abbrev ended : Frame
  ended = after p row.frame taken st.cells

  abbrev rest : Statements
  rest = left_of p ended

  abbrev body : Statements
  body = body_of (slice_get p.tasks row.frame.decl)

  module _ (on_path : OutOnPath p row.frame) (operation : Statement) (later : Path) (passes : Passes (left_of p (given row.frame taken)) on_path.path operation rest later) where
    reached_there : Reached body (statement operation rest) later
    reached_there =
        reached_more body (left_of p (given row.frame taken)) (statement operation rest) on_path.path later passes.steps
        (subst (λ (x : Statements). Reached body x on_path.path) (sym (given_left p row.frame taken)) on_path.reached) passes.far

    -- a future that is out at the operation stands for a child
    child_there : (f : ℕ) → IsTrue (out_after f later) → (u : ℕ) × (slice_get row.frame.futures f ≡ Some (Some u)) × IsIn u ended.out.items
    child_there f out =
        let before : IsTrue (out_after f on_path.path) = sym (ap (out_after f) passes.same ∙ out-quiet f passes.passed on_path.path passes.quiet) ∙ out in
        let child = on_path.children f before in
        (child.0, child.1, subst (IsIn child.0) (sym (after_out p row.frame taken st.cells)) child.2)

  -- A written join.

  module _ (on : ℕ) (into : Option ℕ) (next : ended.next ≡ Join on into) where
    abbrev join_path : OutOnPath p row.frame
    join_path = known (some_at_join p row.frame taken st.cells on into next)

    abbrev comes : ComesToWait p (given row.frame taken) ended join_path.path true on into
    comes = joins_follow p (given row.frame taken) st.cells join_path.path on into next

    abbrev operation : Statement
    operation = Wait comes.point comes.future true into comes.place

    reached_join : Reached body (statement operation rest) comes.later
    reached_join = reached_there join_path operation comes.later comes.passes

    surely_out : IsTrue (out_after comes.future comes.later)
    surely_out =
        let decl = found p keeps lim st stands kept t row is_t flag in
        let there = in_body p keeps lim st stands kept t row is_t flag operation comes.later reached_join in
        let act = reached_acts p (decl.0).body.block (statement operation rest) comes.later (wait comes.point comes.future true comes.place) there (inl refl) in
        elim (cases_Bool (out_after comes.future comes.later)) [
          | inl out ↦ out
          | inr not_out ↦
              absurd (keeps E4 comes.place
              (inl (
                decl.0,
                listed p keeps lim st stands kept t row is_t flag,
                joined comes.point comes.future comes.place (in-contains _ _ act)
                    (λ surely. false≢true (sym not_out ∙ surely comes.later (control_path (decl.0).body operation rest comes.later there))),
              )))
        ]

    -- the child that is joined is out
    joined_child : (slice_get row.frame.futures comes.future ≡ Some (Some on)) × IsIn on ended.out.items
    joined_child =
        let child = child_there join_path operation comes.later comes.passes comes.future surely_out in
        let same : on ≡ child.0 = comes.on_is ∙ ap task_of (ap (λ (fs : List (Option ℕ)). slice_get fs comes.future) (given_futures row.frame taken) ∙ child.1) in
        (subst (λ (n : ℕ). slice_get row.frame.futures comes.future ≡ Some (Some n)) (sym same) child.1, subst (λ (n : ℕ). IsIn n ended.out.items) (sym same) child.2)

    pub joins_child : IsIn on ended.out.items
    joins_child = joined_child.1

    -- another future stands for another child
    other_child : (f u : ℕ) → not (comes.future == f) ≡ true → slice_get row.frame.futures f ≡ Some (Some u) → u ≢ on
    other_child f u other stands_f same =
        let here : slice_get row.frame.futures f ≡ Some (Some on) = subst (λ (n : ℕ). slice_get row.frame.futures f ≡ Some (Some n)) same stands_f in
        let one : f ≡ comes.future = (stands.rows t row is_t).frame.apart f comes.future on here joined_child.0 in
        let equal : (comes.future == f) ≡ true = eq-eqb comes.future f (sym one) in
        false≢true (sym (ap not equal) ∙ other)

    -- and the others stay out
    pub out_after_join : OutOnPath p (frame_without_prints ended)
    out_after_join =
        let past : Reached body rest (operation ∷ comes.later) =
        reached_more body (statement operation rest) rest comes.later (operation ∷ comes.later) 1 reached_join (rest, operation ∷ comes.later, (refl, refl), (refl, refl)) in
        record {
          path = operation ∷ comes.later;
          reached = subst (λ (n : ℕ). Reached (body_of (slice_get p.tasks n)) rest (operation ∷ comes.later)) (sym (after_decl p row.frame taken st.cells)) past;
          children = λ f out.
              let both = both-true (not (comes.future == f)) (out_after f comes.later) out in
              let child = child_there join_path operation comes.later comes.passes f both.1 in (
                child.0,
                ap (λ (fs : List (Option ℕ)). slice_get fs f) (after_futures p row.frame taken st.cells) ∙ child.1,
                subst (λ (n : Next). IsIn child.0 (still_out n ended.out.items)) (sym next)
                    (others_in child.0 on ended.out.items (other_child f child.0 both.0 child.1) child.2),
              );
        }

  -- A spawn.

  module _ (number : ℕ) (child : Frame) (args : List ℤ) (effects : Summary) (future : ℕ) (place : Place)
      (stop : (left_by p st row).stop ≡ ends.Make child args effects true future place) where
    abbrev make_path : OutOnPath p row.frame
    make_path = known (some_at_make p row.frame taken st.cells child args effects true future place stop)

    abbrev making : ComesToMake p (given row.frame taken) ended make_path.path child args effects true future place
    making = makes_follow p (given row.frame taken) st.cells make_path.path child args effects true future place stop

    abbrev spawn : Statement
    spawn = Make making.point future making.task making.given true making.future_place place

    abbrev maker : Frame
    maker = frame_without_prints (making_frame future true number ended)

    reached_spawn : Reached body (statement spawn rest) making.later
    reached_spawn = reached_there make_path spawn making.later making.passes

    goes_on : ended.next ≡ Go
    goes_on = subst (λ (s : Stop). NextAfter s ended) stop (segment_keeps p (given row.frame taken) st.cells).next

    -- the future is one of the frame's
    room : future < length ended.futures
    room =
        let ready = ready_given p row.frame taken (stands.rows t row is_t).ready in
        let declared = ready_declared p (given row.frame taken) st.cells ready child args effects true future place stop in
        let below : future < length (futures_at p (given row.frame taken).decl) = slice_get_within _ future _ declared.declared in
        let many = ready.futures in
        let same = ap (λ (fs : List (Option ℕ)). length fs) (after_futures p row.frame taken st.cells ∙ sym (given_futures row.frame taken)) in
        omega arith

    child_of_maker : (f : ℕ) (same : Bool) → (future == f) ≡ same → (same || out_after f making.later) ≡ true → StandsForChild maker f
    child_of_maker f true e out =
        let is : future ≡ f = eqb-true future f e in (
          number,
          subst (λ (n : ℕ). slice_get maker.futures n ≡ Some (Some number)) is (get_set_within ended.futures future (Some number) room),
          subst (λ (n : Next). IsIn number (still_out n (ended.out.items ++ number ∷ []))) (sym goes_on) (in-right number ended.out.items (number ∷ []) (inl refl)),
        )
    child_of_maker f false e out =
        let old = child_there make_path spawn making.later making.passes f out in
        let other : f ≢ future = λ is. let equal = eq-eqb future f (sym is) in cc (equal, e) in (
          old.0,
          get_set_other ended.futures future f (Some number) other ∙ (ap (λ (fs : List (Option ℕ)). slice_get fs f) (after_futures p row.frame taken st.cells) ∙ old.1),
          subst (λ (n : Next). IsIn old.0 (still_out n (ended.out.items ++ number ∷ []))) (sym goes_on) (in-left old.0 ended.out.items (number ∷ []) old.2),
        )

    pub out_after_spawn : OutOnPath p maker
    out_after_spawn =
        let past : Reached body rest (spawn ∷ making.later) =
        reached_more body (statement spawn rest) rest making.later (spawn ∷ making.later) 1 reached_spawn (rest, spawn ∷ making.later, (refl, refl), (refl, refl)) in
        record {
          path = spawn ∷ making.later;
          reached = subst (λ (n : ℕ). Reached (body_of (slice_get p.tasks n)) rest (spawn ∷ making.later)) (sym (after_decl p row.frame taken st.cells)) past;
          children = λ f out. child_of_maker f (future == f) refl out;
        }
