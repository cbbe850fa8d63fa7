-- The segments below a task. When one of them runs, the task is there and is not done, and what the segment accesses lies
-- within the effects of the task. A segment below a spawned task comes after the segment that spawned it.
use Rattle.std.proofs.Common.{◌≡◌, ◌<◌, ◌+◌, ℕ, suc, List, [], ◌∷◌, length, Some, inl, inr, sym, ap, ◌∙◌, subst, arith}
use Rattle.std.specs.Prelude.{slice_get}
use Rattle.std.proofs.lemmas.Bool.{cases_lt}
use Rattle.std.proofs.lemmas.Option.{slice_get_within}
use Rattle.effect_sets.specs.declared.effects.Effect.{Effect}
use Rattle.effect_sets.specs.Access.{PathAccess as PathAccess, CoversAccess, SomeCoversAccess}
use Rattle.effect_sets.specs.Covers.{EffectWithin}
use Rattle.effect_sets.proofs.Accesses.{within-covers}
use Rattle.effect_check.proofs.Members.{in-contains}
use Rattle.seg_journal.specs.declared.journal.End.{End}
use Rattle.seg_journal.specs.declared.journal.End.TheVariants as ends
use Rattle.seg_journal.specs.declared.journal.Entry.{Entry}
use Rattle.seg_journal.specs.declared.moves.Kind.{Kind}
use Rattle.seg_journal.specs.declared.moves.Kind.TheVariants.{Run}
use Rattle.twe_base.specs.Limits.{Bounds}
use Rattle.twe_program.specs.Program.{Program}
use Rattle.twe_program.specs.WellFormed.{IsWellFormed}
use Rattle.seg_meaning.specs.Access.{Access}
use Rattle.isolation_laws.specs.soundness.DeclaredNow.{access_of}
use Rattle.isolation_laws.specs.soundness.KeepsEffects.{KeepsEffects}
use Rattle.machine_state.specs.declared.state.State.{State}
use Rattle.machine_state.specs.declared.state.TaskRow.{TaskRow}
use Rattle.machine_state.specs.declared.state.TaskStatus.TheVariants.{Done, Enabled}
use Rattle.machine_state.specs.Changes.{LeavesAlone, made_by}
use Rattle.machine_state.specs.Legal.{MayRun, MayTake}
use Rattle.machine_state.specs.Moves.{move_result}
use Rattle.machine_state.specs.Rows.{IsRow}
use Rattle.machine_state.specs.Runs.{Legal}
use Rattle.machine_state.proofs.tasks.DoneFirst.{children_joined}
use Rattle.machine_state.proofs.tasks.LeftAlone.{moves_leave_alone}
use Rattle.machine_state.proofs.lists.Places.{below_there, got_one}
use Rattle.isolation_laws.proofs.effects.Interference.{AllWithin, any-in, in-any}
use Rattle.isolation_laws.proofs.journals.Invariant.{Kept}
use Rattle.isolation_laws.proofs.journals.Journals.{reached_kept}
use Rattle.isolation_laws.proofs.running.Covered.{declared}
use Rattle.determinism_laws.specs.Ranks.{HasRank}
use Rattle.determinism_laws.specs.Segments.{IsSegmentOf, SegmentMakes, Spawns, state_before}
use Rattle.determinism_laws.proofs.JournalPlaces.{later_at, parent_at, reached_at, stands_at, taken_at}

-- an access that some effect covers is covered by the effects that contain these
pub covers_more : (es ds : List Effect) (access : PathAccess) → AllWithin es ds → SomeCoversAccess es access → SomeCoversAccess ds access
covers_more es ds access within covered =
    let inner = any-in (λ (e : Effect). CoversAccess e access) es covered in
    let outer = any-in (λ (d : Effect). EffectWithin d inner.0) ds (within inner.0 (in-contains es inner.0 inner.1)) in
    in-any (λ (d : Effect). CoversAccess d access) ds outer.0 outer.1 (within-covers outer.0 inner.0 outer.2 access inner.2)

-- one entry stands at a place
pub one_segment : (journal : List Entry) (s t n : ℕ) → IsSegmentOf journal s n → IsSegmentOf journal t n → s ≡ t
one_segment journal s t n a b =
    let same : a.entry ≡ b.entry = got_one (slice_get journal n) a.there b.there in
    sym a.task ∙ (ap (λ (e : Entry). e.mv.task) same ∙ b.task)

module _ (p : Program) (wf : IsWellFormed p) (keeps : KeepsEffects p) (lim : Bounds) (journal : List Entry) (legal : Legal p lim journal) where
  abbrev st : ℕ → State
  st n = state_before p lim journal n

  pub kept_at : (n : ℕ) → Kept p (st n)
  kept_at n = reached_kept p wf keeps lim (st n) (reached_at p wf lim journal legal n)

  -- a task whose segment stands at a place may run before it
  pub runner : (t n : ℕ) → IsSegmentOf journal t n → MayRun (st n) t
  runner t n segment =
      let taken = taken_at p wf lim journal legal n segment.entry segment.there in
      subst (MayTake (st n) Run) segment.task (subst (λ (kind : Kind). MayTake (st n) kind segment.entry.mv.task) segment.runs taken.may)

  -- the entry of a spawn leaves all else alone
  spawn_alone : (t n c : ℕ) → (spawn : Spawns p lim journal t n c)
      → LeavesAlone p (st n) (move_result p lim (st n) spawn.segment.entry.mv).0 spawn.segment.entry.mv (move_result p lim (st n) spawn.segment.entry.mv).1
  spawn_alone t n c spawn =
      let taken = taken_at p wf lim journal legal n spawn.segment.entry spawn.segment.there in
      moves_leave_alone p lim (st n) spawn.segment.entry.mv wf (reached_at p wf lim journal legal n) taken.may

  spawn_end : (t n c : ℕ) → (spawn : Spawns p lim journal t n c) → (move_result p lim (st n) spawn.segment.entry.mv).1 ≡ ends.Made c
  spawn_end t n c spawn = (taken_at p wf lim journal legal n spawn.segment.entry spawn.segment.there).end ∙ spawn.made

  -- the number of a spawned task is the count of the tasks before it
  pub spawned_number : (t n c : ℕ) → Spawns p lim journal t n c → c ≡ length (st n).tasks
  spawned_number t n c spawn = (spawn_alone t n c spawn).made c (spawn_end t n c spawn)

  -- after the spawn the task is there
  pub spawned_there : (t n c m : ℕ) → Spawns p lim journal t n c → n < m → c < length (st m).tasks
  spawned_there t n c m spawn before =
      let leads = (taken_at p wf lim journal legal n spawn.segment.entry spawn.segment.there).leads in
      let one : length (st (suc n)).tasks ≡ length (st n).tasks + 1 =
      ap (λ (s : State). length s.tasks) leads ∙ ((spawn_alone t n c spawn).tasks ∙ ap (λ (end : End). length (st n).tasks + made_by end) (spawn_end t n c spawn)) in
      let number = spawned_number t n c spawn in
      let longer = (later_at p wf lim journal legal (suc n) m (omega (arith, before))).longer in
      omega arith

  -- its row, with its parent
  pub spawned_row_at : (t n c m : ℕ) → Spawns p lim journal t n c → n < m → (row : TaskRow) × IsRow (st m) c row × (row.parent ≡ Some t)
  spawned_row_at t n c m spawn before =
      let found = below_there (st m).tasks c (spawned_there t n c m spawn before) in
      (found.0, found.1, sym (parent_at p wf lim journal legal m c found.0 spawn.child found.1 spawn.there) ∙ spawn.parent)

  -- if a task is done, so are all that it spawned
  pub parent_undone : (n c q : ℕ) (child row : TaskRow) → IsRow (st n) c child → IsRow (st n) q row → child.parent ≡ Some q → ¬ (child.status ≡ Done) → ¬ (row.status ≡ Done)
  parent_undone n c q child row is_c is_q of undone done =
      undone (((stands_at p wf lim journal legal n).rows c child is_c).joined
      (children_joined p (st n) wf (lim, reached_at p wf lim journal legal n) q c row child is_q is_c of done))

  -- Task c is there before the entry at place n, and is not done. Each access of a segment that stands at this place lies
  -- within its effects.
  pub record Holds (n c : ℕ) : Type 0 where
    pub row : TaskRow
    pub there : IsRow (st n) c row
    pub undone : ¬ (row.status ≡ Done)
    pub covers : (s : ℕ) (access : Access) → SegmentMakes p lim journal s n access → SomeCoversAccess row.effects.effects (access_of p access)

  own_holds : (c n : ℕ) → IsSegmentOf journal c n → Holds n c
  own_holds c n segment =
      let may = runner c n segment in
      record {
        row = may.0.0;
        there = may.0.1;
        undone = λ done. let both : Enabled ≡ Done = sym may.0.2 ∙ done in absurd (cc);
        covers = λ s access makes.
            let same : c ≡ s = one_segment journal c s n segment makes.segment in
            let here : IsRow (st n) c makes.row = subst (λ (x : ℕ). IsRow (st n) x makes.row) (sym same) makes.there in
            let one : makes.row ≡ may.0.0 = got_one (slice_get (st n).tasks c) here may.0.1 in
            subst (λ (r : TaskRow). SomeCoversAccess r.effects.effects (access_of p access)) one
            (declared p wf keeps lim (st n) (stands_at p wf lim journal legal n) (kept_at n) c makes.row here (st n).cells access makes.makes);
      }

  -- the parent of a task that holds does, too
  parent_holds : (n c q : ℕ) → (holds : Holds n c) → holds.row.parent ≡ Some q → Holds n q
  parent_holds n c q holds of =
      let above : q < c = ((stands_at p wf lim journal legal n).rows c holds.row holds.there).parent q of in
      let here = slice_get_within (st n).tasks c holds.row holds.there in
      let found = below_there (st n).tasks q (omega (arith, above, here)) in
      record {
        row = found.0;
        there = found.1;
        undone = parent_undone n c q holds.row found.0 holds.there found.1 of holds.undone;
        covers = λ s access makes.
            covers_more holds.row.effects.effects found.0.effects.effects (access_of p access) ((kept_at n).within c q holds.row found.0 holds.there found.1 of)
            (holds.covers s access makes);
      }

  -- a segment below a spawned task comes after the segment that spawned it
  pub own_after : (t m c n : ℕ) → Spawns p lim journal t m c → IsSegmentOf journal c n → m < n
  own_after t m c n spawn segment =
      elim (cases_lt m n) [
        | inl before ↦ before
        | inr after ↦
            let longer = (later_at p wf lim journal legal n m after).longer in
            let number = spawned_number t m c spawn in
            let below = slice_get_within (st n).tasks c (own_holds c n segment).row (own_holds c n segment).there in
            absurd (omega arith)
      ]

  pub spawned_before : (rank : List ℕ) (t m c n : ℕ) → Spawns p lim journal t m c → HasRank p lim journal c n rank → m < n
  spawned_before [] t m c n spawn has = absurd has
  spawned_before (number ∷ []) t m c n spawn has = own_after t m c n spawn has.0
  spawned_before (number ∷ next ∷ others) t m c n spawn has =
      let first = own_after t m c has.0 spawn has.2.segment in
      let rest = spawned_before (next ∷ others) c has.0 has.1 n has.2 has.4 in
      omega (arith, first, rest)

  -- if a segment below a task runs, the task holds
  pub holds_at : (rank : List ℕ) (c n : ℕ) → HasRank p lim journal c n rank → Holds n c
  holds_at [] c n has = absurd has
  holds_at (number ∷ []) c n has = own_holds c n has.0
  holds_at (number ∷ next ∷ others) c n has =
      let child = holds_at (next ∷ others) has.1 n has.4 in
      let before = spawned_before (next ∷ others) c has.0 has.1 n has.2 has.4 in
      let known = spawned_row_at c has.0 has.1 n has.2 before in
      let same : known.0 ≡ child.row = got_one (slice_get (st n).tasks has.1) known.1 child.there in
      parent_holds n has.1 c child (sym (ap (λ (r : TaskRow). r.parent) same) ∙ known.2)
