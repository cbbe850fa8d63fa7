-- What a state keeps when a frame is put back into its row: the task's row and its wait are set.
use Rattle.std.proofs.Common.{◌≡◌, ◌≢◌, ◌⊎◌, ℕ, List, Option, None, Some, inl, inr, length, sym, ap, ◌∙◌, subst}
use Rattle.std.proofs.Math.Seq.{set_out}
use Rattle.std.proofs.lemmas.Bool.{cases_lt}
use Rattle.seg_meaning.specs.declared.frame.Frame.{Frame}
use Rattle.wait_graph.specs.declared.tasks.Link.{Link}
use Rattle.wait_graph.specs.Waiting.{DescendsFrom, IsDone, SpawnedBy, WaitsFor, WaitsForNobody, YieldsTo}
use Rattle.wait_graph.specs.Link.{link_of, with_done, with_wait}
use Rattle.wait_graph.proofs.ChainLemmas.{Chain-arrives}
use Rattle.wait_graph.proofs.SettingLemmas.{SpawnedBy-with_done, WaitsFor-with_wait_same, YieldsTo-with_done, YieldsTo-with_wait}
use Rattle.machine_state.specs.declared.state.State.{State}
use Rattle.machine_state.specs.declared.state.TaskRow.{TaskRow}
use Rattle.machine_state.specs.declared.state.TaskStatus.TheVariants.{Done, Enabled}
use Rattle.machine_state.specs.Legal.{Isolated}
use Rattle.machine_state.specs.Moves.{state_after_storing, state_after_join}
use Rattle.machine_state.specs.Rows.{HasStatus, IsRow, LinksAgree, row_awaited}
use Rattle.isolation_laws.proofs.rows.RowsLater.{Became, Continues, EnabledBefore, isolated_later}
use Rattle.isolation_laws.proofs.rows.ListElements.{get_set}
use Rattle.isolation_laws.proofs.rows.JoinedChild.{DoneAreChildless, Untouched, untouches_joined, nobody_joined, yields_joined}

-- a task that waits for nobody still does when its wait is taken away
nobody_without : (links : List Link) (t : ℕ) → WaitsForNobody links t → WaitsForNobody (with_wait links t None) t
nobody_without links t nobody u w = elim (cases_lt t (length links)) [
  | inl there ↦ let some : None ≡ Some u = ((WaitsFor-with_wait_same links t u None there).0 w).0 in absurd (cc)
  | inr past ↦ nobody u (subst (λ (ls : List Link). WaitsFor ls t u) (set_out links t (record (link_of links t) { waits = None }) past) w)
]

-- a segment of t, which waits for nobody, has joined this child, if there is one; the child is done
module _ (st : State) (o : Option ℕ) (t : ℕ) (row : TaskRow) (is_t : IsRow st t row) where
  -- the row of t is the one that was set, and each other row was there before
  pub rows_home : (frame : Frame) (new : TaskRow) (s : ℕ) (b : TaskRow) → IsRow (state_after_storing (state_after_join st o) t frame new) s b
      → ((s ≡ t) × (b ≡ new)) ⊎ ((s ≢ t) × ((a : TaskRow) × IsRow st s a × Untouched a b))
  rows_home frame new s b is = elim (get_set (state_after_join st o).tasks t s new b is) [
    | inl here ↦ inl here
    | inr other ↦ inr (other.0, untouches_joined st o s b other.1)
  ]

  pub continues_home : (frame : Frame) (new : TaskRow) → Became row new → Continues st (state_after_storing (state_after_join st o) t frame new)
  continues_home frame new became s b is = elim (rows_home frame new s b is) [
    | inl here ↦ (row, subst (λ (x : ℕ). IsRow st x row) (sym here.0) is_t, subst (Became row) (sym here.1) became)
    | inr other ↦ (other.1.0, other.1.1, other.1.2.became)
  ]

  pub enabled_home : (frame : Frame) (new : TaskRow) → (new.status ≡ Enabled → row.status ≡ Enabled) → EnabledBefore st (state_after_storing (state_after_join st o) t frame new)
  enabled_home frame new before s may = elim (rows_home frame new s may.0 may.1) [
    | inl here ↦ (row, subst (λ (x : ℕ). IsRow st x row) (sym here.0) is_t, before (ap (λ (r : TaskRow). r.status) (sym here.1) ∙ may.2))
    | inr other ↦ (other.1.0, other.1.1, sym other.1.2.status ∙ may.2)
  ]

  module _ (agree : LinksAgree st) (childless : DoneAreChildless st.links) (done : (child : ℕ) → o ≡ Some child → IsDone st.links child) (nobody : WaitsForNobody st.links t) where
    pub yields_home : (frame : Frame) (new : TaskRow) (s c : ℕ) → HasStatus st c Enabled → YieldsTo st.links s c → YieldsTo (state_after_storing (state_after_join st o) t frame new).links s c
    yields_home frame new s c may yields =
        YieldsTo-with_wait (state_after_join st o).links t s c (row_awaited frame.next) (nobody_joined st o t nobody) (yields_joined st o agree childless done s c may yields)

    pub isolated_home : (frame : Frame) (new : TaskRow) → Became row new → (new.status ≡ Enabled → row.status ≡ Enabled) → Isolated st → Isolated (state_after_storing (state_after_join st o) t frame new)
    isolated_home frame new became before isolated =
        let enabled = enabled_home frame new before in
        isolated_later st (state_after_storing (state_after_join st o) t frame new) (continues_home frame new became) enabled
        (λ s c may_s may_c yields. yields_home frame new s c (enabled c may_c) yields) isolated

    -- t waits for nobody if its frame has no wait
    pub nobody_home : (frame : Frame) (new : TaskRow) → row_awaited frame.next ≡ None → WaitsForNobody (state_after_storing (state_after_join st o) t frame new).links t
    nobody_home frame new none =
        subst (λ (on : Option ℕ). WaitsForNobody (with_wait (state_after_join st o).links t on) t) (sym none) (nobody_without (state_after_join st o).links t (nobody_joined st o t nobody))

    -- t is done and has no unjoined child
    module _ (frame : Frame) (new : TaskRow) (became : Became row new) (is_done : new.status ≡ Done) (none : row_awaited frame.next ≡ None)
        (alone : (x : ℕ) → ¬ SpawnedBy (with_done (state_after_storing (state_after_join st o) t frame new).links t) x t) where
      -- each enabled task is another one, and no descendant of t
      other_than : (c : ℕ) → HasStatus (state_after_storing (state_after_join st o) t frame new) c Enabled → c ≢ t
      other_than c may e = elim (rows_home frame new c may.0 may.1) [
        | inl here ↦
            let both : Enabled ≡ Done = sym may.2 ∙ (ap (λ (r : TaskRow). r.status) here.1 ∙ is_done) in
            absurd (cc)
        | inr other ↦ other.0 e
      ]

      no_descendant : (c : ℕ) → HasStatus (state_after_storing (state_after_join st o) t frame new) c Enabled → ¬ DescendsFrom (state_after_storing (state_after_join st o) t frame new).links c t
      no_descendant c may chain =
          let links = (state_after_storing (state_after_join st o) t frame new).links in
          other_than c may (Chain-arrives (λ x by. alone x ((SpawnedBy-with_done links t x t).1 by)) chain)

      before_done : new.status ≡ Enabled → row.status ≡ Enabled
      before_done e = let both : Enabled ≡ Done = sym e ∙ is_done in absurd (cc)

      pub isolated_finished : Isolated st → Isolated (record (state_after_storing (state_after_join st o) t frame new) { links = with_done (state_after_storing (state_after_join st o) t frame new).links t })
      isolated_finished isolated =
          let mid = state_after_storing (state_after_join st o) t frame new in
          let enabled = enabled_home frame new before_done in
          isolated_later st (record mid { links = with_done mid.links t }) (continues_home frame new became) enabled
          (λ s c may_s may_c yields.
          (YieldsTo-with_done mid.links t s c (nobody_home frame new none) (no_descendant c may_c)).1 (yields_home frame new s c (enabled c may_c) yields))
          isolated
