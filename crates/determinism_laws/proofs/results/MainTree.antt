-- If main is deterministic, all tasks are deterministic, and each but main was spawned. So each segment is below main.
use Rattle.std.proofs.Common.{◌≡◌, ◌⊎◌, ◌≤◌, ℕ, zero, suc, Bool, IsTrue, List, length, Option, None, Some, inl, inr, refl, sym, ap, ◌∙◌, subst, arith, take_all}
use Rattle.std.specs.Prelude.{slice_get, take}
use Rattle.std.proofs.lemmas.Option.{slice_get_within}
use Rattle.effect_check.specs.Acts.{is_deterministic}
use Rattle.seg_journal.specs.declared.journal.Entry.{Entry}
use Rattle.twe_base.specs.Limits.{Bounds}
use Rattle.wait_graph.specs.Chain.{none, more}
use Rattle.twe_program.specs.Program.{Program}
use Rattle.twe_program.specs.WellFormed.{IsWellFormed}
use Rattle.isolation_laws.specs.soundness.KeepsEffects.{KeepsEffects}
use Rattle.machine_state.specs.declared.state.State.{State}
use Rattle.machine_state.specs.declared.state.TaskRow.{TaskRow}
use Rattle.machine_state.specs.Moves.{parent_of}
use Rattle.machine_state.specs.Rows.{IsRow}
use Rattle.machine_state.specs.Runs.{Legal, state_after}
use Rattle.machine_state.proofs.lists.Places.{below_there, got_one}
use Rattle.determinism_laws.specs.Deterministic.{IsDeterministic}
use Rattle.determinism_laws.specs.Ranks.{BelowTask, HasParent, IsBelow}
use Rattle.determinism_laws.specs.Segments.{IsSegmentOf, state_before}
use Rattle.determinism_laws.proofs.BodyRules.{makes_deterministic}
use Rattle.determinism_laws.proofs.Forks.{same_flag}
use Rattle.determinism_laws.proofs.JournalPlaces.{later_at, later_end, stands_at, taken_at}
use Rattle.determinism_laws.proofs.NewTasks.{move_row}
use Rattle.determinism_laws.proofs.OwnCells.{take_past}
use Rattle.determinism_laws.proofs.RankLaws.{parent_below, segments_ranked}
use Rattle.determinism_laws.proofs.Trees.{kept_at, runner}
use Rattle.determinism_laws.specs.results.Main.{MainIsDeterministic}
use Rattle.determinism_laws.proofs.results.Enabling.{past_end}

module _ (p : Program) (wf : IsWellFormed p) (keeps : KeepsEffects p) (lim : Bounds) (journal : List Entry) (legal : Legal p lim journal) (flag : MainIsDeterministic p) where
  abbrev st : ℕ → State
  st n = state_before p lim journal n

  abbrev final : State
  final = state_after p lim journal

  -- the task is deterministic, and it is main or was spawned
  pub record InTree (t : ℕ) (row : TaskRow) : Type 0 where
    pub deterministic : IsDeterministic p row
    pub spawned : (t ≡ 0) ⊎ ((q : ℕ) × (row.parent ≡ Some q))

  abbrev AllInTree : State → Type 0
  AllInTree s = (t : ℕ) (row : TaskRow) → IsRow s t row → InTree t row

  at_start : AllInTree (st 0)
  at_start zero row here =
      let same = got_one (slice_get (st 0).tasks 0) refl here in
      record { deterministic = subst (λ (r : TaskRow). IsDeterministic p r) same flag; spawned = inl refl }
  at_start (suc t) row here = absurd (cc (here))

  -- a task that was there before
  kept_in_tree : (n t : ℕ) (old row : TaskRow) → IsRow (st n) t old → IsRow (st (suc n)) t row → InTree t old → InTree t row
  kept_in_tree n t old row before here is =
      let kept = (later_at p wf lim journal legal n (suc n) (omega arith)).kept t old before in
      let same : kept.now ≡ row = got_one (slice_get (st (suc n)).tasks t) kept.there here in
      let decl : old.decl ≡ row.decl = sym kept.decl ∙ ap (λ (r : TaskRow). r.decl) same in
      let parent : row.parent ≡ old.parent = sym (ap (λ (r : TaskRow). r.parent) same) ∙ kept.parent in
      record {
        deterministic = same_flag p old row decl is.deterministic;
        spawned = elim is.spawned [ inl first ↦ inl first | inr some ↦ inr (some.0, parent ∙ some.1) ];
      }

  -- a task that the entry made
  made_in_tree : (n t : ℕ) (entry : Entry) → slice_get journal n ≡ Some entry → AllInTree (st n) → length (st n).tasks ≤ t → (row : TaskRow) → IsRow (st (suc n)) t row → InTree t row
  made_in_tree n t entry there before past row later =
      let taken = taken_at p wf lim journal legal n entry there in
      let here = subst (λ (s : State). IsRow s t row) taken.leads later in
      let stands = stands_at p wf lim journal legal n in
      let moved = move_row p lim (st n) stands entry.mv.task entry.mv.kind t past row here in
      let makes = moved.makes in
      let maker = before entry.mv.task moved.row moved.there in
      let only = makes_deterministic p keeps lim (st n) stands (kept_at p wf keeps lim journal legal n) entry.mv.task moved.row moved.there maker.deterministic
      makes.child makes.args makes.effects makes.spawned makes.future makes.place makes.stops_at in
      record {
        deterministic = subst (λ (d : ℕ). IsTrue (is_deterministic (slice_get p.tasks d))) (sym makes.decl) only.1;
        spawned = inr (entry.mv.task, makes.parent ∙ ap (λ (b : Bool). parent_of entry.mv.task b) only.0);
      }

  by_found : (n t : ℕ) (entry : Entry) → slice_get journal n ≡ Some entry → AllInTree (st n) → (row : TaskRow) → IsRow (st (suc n)) t row → (found : Option TaskRow) → slice_get (st n).tasks t ≡ found
      → InTree t row
  by_found n t entry there before row here (Some old) is = kept_in_tree n t old row is here (before t old is)
  by_found n t entry there before row here None gone = made_in_tree n t entry there before (past_end (st n).tasks t gone) row here

  by_entry : (n : ℕ) (found : Option Entry) → slice_get journal n ≡ found → AllInTree (st n) → AllInTree (st (suc n))
  by_entry n None gone before t row here = before t row (subst (λ (entries : List Entry). IsRow (state_after p lim entries) t row) (take_past journal n gone) here)
  by_entry n (Some entry) there before t row here = by_found n t entry there before row here (slice_get (st n).tasks t) refl

  all_in_tree : (n : ℕ) → AllInTree (st n)
  all_in_tree zero = at_start
  all_in_tree (suc n) = by_entry n (slice_get journal n) refl (all_in_tree n)

  pub in_tree : AllInTree final
  in_tree =
      let all : take (length journal) journal ≡ journal = take_all (length journal) journal (omega arith) in
      subst (λ (entries : List Entry). AllInTree (state_after p lim entries)) all (all_in_tree (length journal))

  -- So each task is below main, and so is each segment.

  task_below : (fuel t : ℕ) → t ≤ fuel → (row : TaskRow) → IsRow final t row → BelowTask final 0 t
  task_below zero t le row here =
      let first : 0 ≡ t = omega (arith, le) in
      subst (λ (n : ℕ). BelowTask final 0 n) first none
  task_below (suc fuel) t le row here = elim (in_tree t row here).spawned [
    | inl first ↦ subst (λ (n : ℕ). BelowTask final 0 n) (sym first) none
    | inr some ↦
        let parent : HasParent final t some.0 = (row, here, some.1) in
        let lower = parent_below p wf keeps lim journal legal t some.0 parent in
        let within = slice_get_within final.tasks t row here in
        let found = below_there final.tasks some.0 (omega (arith, lower, within)) in
        more parent (task_below fuel some.0 (omega (arith, lower, le)) found.0 found.1)
  ]

  pub all_below_main : (t i : ℕ) → IsSegmentOf journal t i → IsBelow p lim journal 0 i
  all_below_main t i segment =
      let may = runner p wf keeps lim journal legal t i segment in
      let kept = (later_end p wf lim journal legal i).kept t may.0.0 may.0.1 in
      segments_ranked p wf keeps lim journal legal 0 i t segment (task_below t t (omega arith) kept.now kept.there)
