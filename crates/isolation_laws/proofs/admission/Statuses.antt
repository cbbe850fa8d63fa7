-- A task whose next operation is a wait is enabled, one that has an unjoined child is enabled or has met a fault, and one
-- that is not admitted yet is alone.
use Rattle.std.proofs.Common.{◌≡◌, ◌⊎◌, ℕ, List, [], Contains, Option, None, Some, inl, inr, refl, sym, ap, ◌∙◌, subst}
use Rattle.std.specs.Prelude.{slice_get}
use Rattle.twe_base.specs.Limits.{Bounds}
use Rattle.twe_program.specs.Program.{Program}
use Rattle.twe_program.specs.WellFormed.{IsWellFormed}
use Rattle.wait_graph.specs.declared.tasks.Link.{Link}
use Rattle.wait_graph.specs.Link.{link_of}
use Rattle.wait_graph.specs.Waiting.{SpawnedBy}
use Rattle.machine_state.specs.declared.state.State.{State}
use Rattle.machine_state.specs.declared.state.TaskRow.{TaskRow}
use Rattle.machine_state.specs.declared.state.TaskStatus.{TaskStatus}
use Rattle.machine_state.specs.declared.state.TaskStatus.TheVariants.{Made, Enabled, Done, Faulted}
use Rattle.machine_state.specs.Rows.{HasStatus, IsRow, row_awaited}
use Rattle.machine_state.specs.Runs.{IsReached}
use Rattle.machine_state.proofs.lists.Members.{contains_in}
use Rattle.machine_state.proofs.lists.Places.{below_there}
use Rattle.machine_state.proofs.standing.ReachedStands.{reached_stands}
use Rattle.machine_state.proofs.standing.Standing.{IsChild, IsOver, Stands}
use Rattle.isolation_laws.specs.Admission.{MadeTasksAreAlone, ParentsAreEnabledOrFaulted, WaitersAreEnabled}
use Rattle.isolation_laws.proofs.journals.Invariant.{done_alone, parents_there}
use Rattle.isolation_laws.proofs.rows.LinksOfRows.{link_not_there, link_there, spawned_row}

module _ (p : Program) (lim : Bounds) (st : State) (stands : Stands p lim st) where
  -- A task that waits.

  ended_waits : (t u : ℕ) (row : TaskRow) → IsRow st t row → IsOver row.status → ¬ (row_awaited row.frame.next ≡ Some u)
  ended_waits t u row is over waits = let none : row_awaited row.frame.next ≡ None = ap row_awaited ((stands.rows t row is).over over) in cc (none, waits)

  made_waits : (t : ℕ) (row : TaskRow) → IsRow st t row → row.status ≡ Made → row_awaited row.frame.next ≡ None
  made_waits t row is made = ap (λ (r : TaskRow). row_awaited r.frame.next) ((stands.rows t row is).made made)

  waiter_by : (t u : ℕ) (row : TaskRow) (status : TaskStatus) → IsRow st t row → row.status ≡ status → row_awaited row.frame.next ≡ Some u → status ≡ Enabled
  waiter_by t u row Made is has waits = let none = made_waits t row is has in absurd (cc (none, waits))
  waiter_by t u row Enabled is has waits = refl
  waiter_by t u row Done is has waits = absurd (ended_waits t u row is (subst IsOver (sym has) tt) waits)
  waiter_by t u row Faulted is has waits = absurd (ended_waits t u row is (subst IsOver (sym has) tt) waits)

  waiter_at : (t u : ℕ) (o : Option TaskRow) → slice_get st.tasks t ≡ o → (link_of st.links t).waits ≡ Some u → HasStatus st t Enabled
  waiter_at t u None is waits = let none = ap (λ (l : Link). l.waits) (link_not_there st stands.links t is) in absurd (cc (none, waits))
  waiter_at t u (Some row) is waits =
      (row, is, waiter_by t u row row.status is refl (sym (ap (λ (l : Link). l.waits) (link_there st stands.links t row is)) ∙ waits))

  pub waiters_enabled : WaitersAreEnabled st
  waiters_enabled t u waits = waiter_at t u (slice_get st.tasks t) refl waits

  -- A task that has an unjoined child.

  made_childless : (t c : ℕ) (row : TaskRow) → IsRow st t row → row.status ≡ Made → ¬ SpawnedBy st.links c t
  made_childless t c row is made by =
      let child = spawned_row st stands.links c t by in
      let known : IsChild st.tasks t c = record { row = child.0; there = child.1; parent = child.2; unjoined = child.3 } in
      let none : row.out ≡ [] = ap (λ (r : TaskRow). r.out) ((stands.rows t row is).made made) in
      contains_in [] c (subst (λ (out : List ℕ). Contains out c) none ((stands.children t row is c).1 known))

  parent_by : (c t : ℕ) (row : TaskRow) (status : TaskStatus) → IsRow st t row → row.status ≡ status → SpawnedBy st.links c t
      → HasStatus st t Enabled ⊎ HasStatus st t Faulted
  parent_by c t row Made is has by = absurd (made_childless t c row is has by)
  parent_by c t row Enabled is has by = inl (row, is, has)
  parent_by c t row Done is has by = absurd (done_alone p lim st stands t row is has c by)
  parent_by c t row Faulted is has by = inr (row, is, has)

  pub parents_enabled_or_faulted : ParentsAreEnabledOrFaulted st
  parents_enabled_or_faulted c t by =
      let child = spawned_row st stands.links c t by in
      let row = below_there st.tasks t (parents_there p lim st stands c t child.0 child.1 child.2) in
      parent_by c t row.0 row.0.status row.1 refl by

  -- A task that is not admitted yet.

  pub made_alone : MadeTasksAreAlone st
  made_alone t row is made =
      let link = link_there st stands.links t row is in
      let parent : row.parent ≡ None = ap (λ (r : TaskRow). r.parent) ((stands.rows t row is).made made) in
      let waits : (link_of st.links t).waits ≡ None = ap (λ (l : Link). l.waits) link ∙ made_waits t row is made in
      record {
        parent = parent;
        linked_parent = ap (λ (l : Link). l.parent) link ∙ parent;
        childless = λ c by. made_childless t c row is made by;
        free = λ u wait. let some : (link_of st.links t).waits ≡ Some u = wait.waits in cc (waits, some);
      }

module _ (p : Program) (wf : IsWellFormed p) (lim : Bounds) (st : State) (reached : IsReached p lim st) where
  pub reached_waiters : WaitersAreEnabled st
  reached_waiters = waiters_enabled p lim st (reached_stands p lim st wf reached)

  pub reached_parents : ParentsAreEnabledOrFaulted st
  reached_parents = parents_enabled_or_faulted p lim st (reached_stands p lim st wf reached)

  pub reached_made : MadeTasksAreAlone st
  reached_made = made_alone p lim st (reached_stands p lim st wf reached)
