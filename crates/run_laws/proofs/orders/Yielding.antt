-- Who yields to a task goes on yielding to it until that task is done.
use Rattle.std.proofs.Common.{◌≡◌, ℕ, false, List, inl, inr, ap, ◌∙◌}
use Rattle.std.proofs.lemmas.Bool.{cases_Bool}
use Rattle.seg_journal.specs.declared.journal.Entry.{Entry}
use Rattle.twe_base.specs.Limits.{Bounds}
use Rattle.twe_program.specs.Program.{Program}
use Rattle.twe_program.specs.WellFormed.{IsWellFormed}
use Rattle.wait_graph.specs.Chain.{none, more}
use Rattle.wait_graph.specs.declared.tasks.Link.{Link}
use Rattle.wait_graph.specs.Waiting.{DescendsFrom, IsDone, SpawnedBy, YieldsTo}
use Rattle.machine_state.specs.declared.state.State.{State}
use Rattle.machine_state.specs.Rows.{is_done_status}
use Rattle.machine_state.specs.Runs.{LegalFrom, replayed}
use Rattle.machine_state.proofs.links.ChainsStay.{chain_stays_on}
use Rattle.machine_state.proofs.standing.ReachedStands.{run_stands}
use Rattle.machine_state.proofs.standing.Standing.{Stands}
use Rattle.isolation_laws.proofs.journals.Invariant.{done_childless}
use Rattle.isolation_laws.proofs.rows.LinksOfRows.{link_there, spawned_row}
use Rattle.run_laws.proofs.orders.TasksStay.{tasks_stay}

module _ (p : Program) (lim : Bounds) (well : IsWellFormed p) (st : State) (entries : List Entry) (legal : LegalFrom p lim st entries) (stands : Stands p lim st) where
  abbrev end : State
  end = replayed p lim st entries

  end_stands : Stands p lim end
  end_stands = run_stands p lim well st entries legal stands

  -- a child that isn't done is not joined, so its parent isn't done
  child_stays : (c q : ℕ) → SpawnedBy st.links c q → ¬ IsDone end.links c → SpawnedBy end.links c q × ¬ IsDone end.links q
  child_stays c q by undone =
      let old = spawned_row st stands.links c q by in
      let now = tasks_stay p lim well st entries legal stands c old.0 old.1 in
      let link = link_there end end_stands.links c now.now now.there in
      let unjoined : now.now.joined ≡ false = elim (cases_Bool now.now.joined) [
        | inl joined ↦ absurd (undone (ap (λ (l : Link). l.done) link ∙ ap is_done_status ((end_stands.rows c now.now now.there).joined joined)))
        | inr free ↦ free
      ] in
      let by_now : SpawnedBy end.links c q = record { parent = ap (λ (l : Link). l.parent) link ∙ (now.parent ∙ old.2); unjoined = ap (λ (l : Link). l.joined) link ∙ unjoined } in
      (by_now, λ done. done_childless p lim end end_stands q c done by_now)

  -- so descent from a task on stays until the task is done
  descent_stays : (c u : ℕ) → DescendsFrom st.links c u → ¬ IsDone end.links c → DescendsFrom end.links c u × ¬ IsDone end.links u
  descent_stays c u none undone = (none, undone)
  descent_stays c u (more {b = q} by chain) undone =
      let first = child_stays c q by undone in
      let others = descent_stays q u chain first.1 in
      (more first.0 others.0, others.1)

  pub yields_stays : (s t : ℕ) → YieldsTo st.links s t → ¬ IsDone end.links t → YieldsTo end.links s t
  yields_stays s t yields undone =
      let descends = descent_stays t yields.0 yields.2 undone in
      elim (chain_stays_on p lim well st entries s yields.0 legal stands (inl yields.1)) [
        | inl waits ↦ (yields.0, waits, descends.0)
        | inr done ↦ absurd (descends.1 done)
      ]
