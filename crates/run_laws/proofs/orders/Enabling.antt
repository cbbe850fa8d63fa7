-- Of two enabled tasks that interfere, the one that was enabled before the other yields to it.
use Rattle.std.proofs.Common.{◌≡◌, ◌≢◌, ◌≤◌, ◌++◌, ℕ, List, [], ◌∷◌, take, drop, Option, None, Some, inl, inr, refl, sym, ap, ◌∙◌, subst, arith}
use Rattle.std.specs.Prelude.{slice_get}
use Rattle.std.proofs.lemmas.Bool.{cases_eq}
use Rattle.std.proofs.lemmas.List.{take-append-drop}
use Rattle.std.proofs.lemmas.Option.{slice_get_within}
use Rattle.seg_journal.specs.declared.journal.End.{End}
use Rattle.seg_journal.specs.declared.journal.End.TheVariants as ends
use Rattle.seg_journal.specs.declared.journal.Entry.{Entry}
use Rattle.seg_journal.specs.declared.moves.Kind.{Kind}
use Rattle.seg_journal.specs.declared.moves.Kind.TheVariants.{Admit, Run}
use Rattle.twe_base.specs.Limits.{Bounds}
use Rattle.twe_program.specs.Program.{Program}
use Rattle.twe_program.specs.WellFormed.{IsWellFormed}
use Rattle.wait_graph.specs.Waiting.{SpawnedBy, WaitsForNobody, YieldsTo}
use Rattle.wait_graph.proofs.ChainLemmas.{Chain-arrives}
use Rattle.wait_graph.proofs.WaitingLemmas.{YieldsTo-alone}
use Rattle.isolation_laws.specs.soundness.KeepsEffects.{KeepsEffects}
use Rattle.machine_state.specs.declared.state.State.{State}
use Rattle.machine_state.specs.declared.state.TaskRow.{TaskRow}
use Rattle.machine_state.specs.declared.state.TaskStatus.TheVariants.{Enabled, Made}
use Rattle.machine_state.specs.Changes.{made_by}
use Rattle.machine_state.specs.Legal.{Interfere, MayTake}
use Rattle.machine_state.specs.Moves.{admitted, move_result, result_by_kind, start_of}
use Rattle.machine_state.specs.Rows.{HasStatus, IsRow}
use Rattle.machine_state.specs.Runs.{IsReached, Legal, LegalFrom, replayed, state_after}
use Rattle.machine_state.proofs.links.Ordered.{parent_down, waits_up}
use Rattle.machine_state.proofs.lists.Places.{got_one}
use Rattle.machine_state.proofs.standing.ReachedStands.{reached_stands, run_stands, taken_stands}
use Rattle.machine_state.proofs.standing.SettlesNext.{as_many_links}
use Rattle.machine_state.proofs.standing.Standing.{Stands}
use Rattle.machine_state.proofs.tasks.LeftAlone.{left_alone}
use Rattle.machine_state.proofs.tasks.OtherRows.{row_after}
use Rattle.isolation_laws.proofs.admission.Statuses.{made_alone}
use Rattle.isolation_laws.proofs.journals.Journals.{beginning_reached, reached_kept}
use Rattle.isolation_laws.proofs.rows.LinksOfRows.{enabled_undone, spawned_row}
use Rattle.isolation_laws.proofs.rows.RowsLater.{same_interfere}
use Rattle.run_laws.specs.Orders.{EarlierYield}
use Rattle.run_laws.proofs.orders.TasksStay.{enabled_between, enabled_or_not, legal_both, not_there, one_status, reached_next, replayed_both, tasks_stay}
use Rattle.run_laws.proofs.orders.Yielding.{yields_stays}

-- A task that a move enables.

-- nobody descends from u but itself, and u waits for nobody
record IsFresh (st : State) (u : ℕ) : Type 0 where
  free : WaitsForNobody st.links u
  childless : (c : ℕ) → ¬ SpawnedBy st.links c u

pub at_most_one : (end : End) → made_by end ≤ 1
at_most_one ends.Admitted = omega arith
at_most_one (ends.Made child) = omega arith
at_most_one (ends.Waits on) = omega arith
at_most_one (ends.Joins on) = omega arith
at_most_one (ends.Done value) = omega arith
at_most_one (ends.Fault kind place) = omega arith

admission_fresh : (st : State) (t u : ℕ) (found : Option TaskRow) → IsFresh st u → IsFresh (admitted st t found) u
admission_fresh st t u None fresh = fresh
admission_fresh st t u (Some row) fresh = record { free = fresh.free; childless = fresh.childless }

module _ (p : Program) (lim : Bounds) (well : IsWellFormed p) (st : State) (kind : Kind) (t : ℕ) (may : MayTake st kind t) (stands : Stands p lim st) where
  abbrev after : State
  after = (result_by_kind p lim st kind t).0

  after_stands : Stands p lim after
  after_stands = taken_stands p lim well st kind t may stands

  -- a task that the move has made has the highest number
  made_fresh : (u : ℕ) → slice_get st.tasks u ≡ None → IsFresh after u
  made_fresh u nowhere =
      let past = not_there st.tasks u nowhere in
      let alone = left_alone p lim well st kind t may stands in
      let few = at_most_one (result_by_kind p lim st kind t).1 in
      let links = as_many_links p lim after after_stands in
      record {
        free = λ v wait. let up = waits_up p lim after after_stands u v wait.waits in absurd (omega (arith, past, alone.tasks, few, links, up.0, up.1));
        childless = λ c by.
            let down = parent_down p lim after after_stands c u by.parent in
            let child = spawned_row after after_stands.links c u by in
            let there = slice_get_within after.tasks c child.0 child.1 in
            absurd (omega (arith, past, alone.tasks, few, down, there));
      }

  -- a task that was there before, and is not the one that moved, was enabled before
  other_was : (u : ℕ) (row : TaskRow) → u ≢ t → IsRow st u row → HasStatus after u Enabled → HasStatus st u Enabled
  other_was u row other is now = elim (row_after p lim st t u other row is kind) [
    | inl stays ↦ (row, is, one_status after u row Enabled now stays.1)
    | inr marked ↦ (row, is, one_status after u _ Enabled now marked.1)
  ]

  other_fresh : (u : ℕ) (found : Option TaskRow) → slice_get st.tasks u ≡ found → u ≢ t → ¬ HasStatus st u Enabled → HasStatus after u Enabled → IsFresh after u
  other_fresh u None is other was now = made_fresh u is
  other_fresh u (Some row) is other was now = absurd (was (other_was u row other is now))

own_fresh : (p : Program) (lim : Bounds) (well : IsWellFormed p) (st : State) (kind : Kind) (t : ℕ) → MayTake st kind t → Stands p lim st → ¬ HasStatus st t Enabled
    → IsFresh (result_by_kind p lim st kind t).0 t
own_fresh p lim well st Admit t may stands was =
    let alone = made_alone p lim st stands t may.0.0 may.0.1 may.0.2 in
    admission_fresh st t t (slice_get st.tasks t) (record { free = alone.free; childless = alone.childless })
own_fresh p lim well st Run t may stands was = absurd (was may.0)

newly_fresh : (p : Program) (lim : Bounds) (well : IsWellFormed p) (st : State) (kind : Kind) (t u : ℕ) → MayTake st kind t → Stands p lim st → ¬ HasStatus st u Enabled
    → HasStatus (result_by_kind p lim st kind t).0 u Enabled → IsFresh (result_by_kind p lim st kind t).0 u
newly_fresh p lim well st kind t u may stands was now = elim (cases_eq u t) [
  | inl same ↦
      subst (IsFresh (result_by_kind p lim st kind t).0) (sym same) (own_fresh p lim well st kind t may stands (λ before. was (subst (λ (x : ℕ). HasStatus st x Enabled) (sym same) before)))
  | inr other ↦ other_fresh p lim well st kind t may stands u (slice_get st.tasks u) refl other was now
]

-- The order of enabling.

module _ (p : Program) (well : IsWellFormed p) (keeps : KeepsEffects p) (lim : Bounds) where
  -- two tasks whose effects interfere after a journal interfere before it, if both were there
  interfered : (st : State) (entries : List Entry) → LegalFrom p lim st entries → Stands p lim st → (s t : ℕ) (a b : TaskRow) → IsRow st s a → IsRow st t b
      → Interfere (replayed p lim st entries) s t → Interfere st s t
  interfered st entries legal stands s t a b is_a is_b i =
      let end = replayed p lim st entries in
      let first = tasks_stay p lim well st entries legal stands s a is_a in
      let second = tasks_stay p lim well st entries legal stands t b is_b in
      let one : i.0 ≡ first.now = got_one (slice_get end.tasks s) i.2 first.there in
      let other : i.1 ≡ second.now = got_one (slice_get end.tasks t) i.3 second.there in
      (a, b, is_a, is_b, same_interfere a i.0 b i.1 (ap (λ (r : TaskRow). r.effects) one ∙ first.effects) (ap (λ (r : TaskRow). r.effects) other ∙ second.effects) i.4)

  -- to a task that a move has just enabled, each enabled task that interferes with it yields
  yields_at_first : (st : State) → IsReached p lim st → (s t : ℕ) → s ≢ t → HasStatus st s Enabled → HasStatus st t Enabled → IsFresh st t → Interfere st s t → YieldsTo st.links s t
  yields_at_first st reached s t differ may_s may_t fresh i = elim ((reached_kept p well keeps lim st reached).isolated s t differ may_s may_t i) [
    | inl yields ↦ yields
    | inr back ↦ absurd (differ (Chain-arrives fresh.childless (YieldsTo-alone fresh.free back)))
  ]

  -- so it is from then on
  yields_later : (st : State) (entries : List Entry) → IsReached p lim st → LegalFrom p lim st entries → (s t : ℕ) → HasStatus st s Enabled → ¬ HasStatus st t Enabled
      → HasStatus (replayed p lim st entries) s Enabled → HasStatus (replayed p lim st entries) t Enabled → Interfere (replayed p lim st entries) s t
      → YieldsTo (replayed p lim st entries).links s t
  yields_later st [] reached legal s t first second may_s may_t i = absurd (second may_t)
  yields_later st (entry ∷ entries) reached legal s t first second may_s may_t i =
      let stands = reached_stands p lim st well reached in
      let next : State = (move_result p lim st entry.mv).0 in
      let next_reached : IsReached p lim next = reached_next p lim st entry.mv reached legal.0 in
      let next_stands = reached_stands p lim next well next_reached in
      let end : State = replayed p lim next entries in
      let end_links = (run_stands p lim well next entries legal.2 next_stands).links in
      let now = enabled_between p lim well st entry entries legal stands s first may_s in
      let differ : s ≢ t = λ same. second (subst (λ (x : ℕ). HasStatus st x Enabled) same first) in
      elim (enabled_or_not next t) [
        | inl enabled ↦
            let fresh = newly_fresh p lim well st entry.mv.kind entry.mv.task t legal.0 stands second enabled in
            let interfere = interfered next entries legal.2 next_stands s t now.0 enabled.0 now.1 enabled.1 i in
            yields_stays p lim well next entries legal.2 next_stands s t (yields_at_first next next_reached s t differ now enabled fresh interfere) (enabled_undone end end_links t may_t)
        | inr not_yet ↦ yields_later next entries next_reached legal.2 s t now not_yet may_s may_t i
      ]

  pub earlier_yield : (journal : List Entry) → Legal p lim journal → EarlierYield p lim journal
  earlier_yield journal legal s t may_s may_t i before =
      let n = before.moves in
      let start = start_of p lim in
      let mid : State = state_after p lim (take n journal) in
      let second : ¬ HasStatus mid t Enabled = λ now. let both : Made ≡ Enabled = sym (before.second now.0 now.1) ∙ now.2 in cc (both) in
      let split : take n journal ++ drop n journal ≡ journal = take-append-drop n journal in
      let both = legal_both p lim start (take n journal) (drop n journal) (subst (Legal p lim) (sym split) legal) in
      let same : replayed p lim mid (drop n journal) ≡ state_after p lim journal = sym (replayed_both p lim start (take n journal) (drop n journal)) ∙ ap (state_after p lim) split in
      subst (λ (end : State). HasStatus end s Enabled → HasStatus end t Enabled → Interfere end s t → YieldsTo end.links s t) same
      (yields_later mid (drop n journal) (beginning_reached p lim journal legal n) both.1 s t before.first second) may_s may_t i
