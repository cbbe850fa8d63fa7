-- A run whose main is deterministic is never stuck. Of the tasks that are not done take the one with the highest number. It
-- waits for nobody, since who waits waits for a higher number. If it is not admitted yet, it is main, and nobody else is
-- enabled.
use Rattle.std.proofs.Common.{◌≡◌, ◌≢◌, ◌⊎◌, ◌≤◌, ℕ, zero, suc, true, false, length, Option, None, Some, inl, inr, refl, sym, ap, ◌∙◌, subst, arith}
use Rattle.std.proofs.lemmas.List.{length-map}
use Rattle.std.specs.Prelude.{slice_get}
use Rattle.seg_journal.specs.declared.moves.Kind.TheVariants.{Admit, Run}
use Rattle.seg_journal.specs.declared.moves.Move.{Move}
use Rattle.twe_base.specs.Limits.{Bounds, IsWithin}
use Rattle.twe_program.specs.Program.{Program}
use Rattle.twe_program.specs.WellFormed.{IsWellFormed}
use Rattle.wait_graph.specs.declared.tasks.Link.{Link}
use Rattle.wait_graph.specs.Link.{link_of}
use Rattle.wait_graph.specs.Waiting.{WaitsFor}
use Rattle.isolation_laws.specs.soundness.KeepsEffects.{KeepsEffects}
use Rattle.isolation_laws.proofs.rows.LinksOfRows.{link_there}
use Rattle.machine_state.specs.declared.ending.Outcome.TheVariants.{Stuck}
use Rattle.machine_state.specs.declared.state.State.{State}
use Rattle.machine_state.specs.declared.state.TaskRow.{TaskRow}
use Rattle.machine_state.specs.declared.state.TaskStatus.{TaskStatus}
use Rattle.machine_state.specs.declared.state.TaskStatus.TheVariants.{Made, Enabled, Done, Faulted}
use Rattle.machine_state.specs.Legal.{MayMove}
use Rattle.machine_state.specs.Rows.{HasStatus, IsRow, is_done_status, link_of_row}
use Rattle.machine_state.specs.Runs.{AllTasksDone, IsOutcome, IsReached}
use Rattle.machine_state.proofs.links.Ordered.{reached_ordered}
use Rattle.machine_state.proofs.lists.Places.{below_there, got_one}
use Rattle.machine_state.proofs.standing.ReachedStands.{reached_stands}
use Rattle.machine_state.proofs.standing.Standing.{Stands}
use Rattle.determinism_laws.specs.results.Main.{MainIsDeterministic}
use Rattle.determinism_laws.proofs.results.MainTree.{in_tree}
use Rattle.std.proofs.lemmas.Option.{slice_get_within}

module _ (p : Program) (wf : IsWellFormed p) (keeps : KeepsEffects p) (flag : MainIsDeterministic p) (lim : Bounds) (within : IsWithin lim.fuel lim.tasks) (st : State) (reached : IsReached p lim st)
    (no_fault : st.first_fault ≡ None) where
  stands : Stands p lim st
  stands = reached_stands p lim st wf reached

  -- each task is main, or was spawned
  spawned : (t : ℕ) (row : TaskRow) → IsRow st t row → (t ≡ 0) ⊎ ((q : ℕ) × (row.parent ≡ Some q))
  spawned t row here = (in_tree p wf keeps lim reached.journal reached.legal flag t row (subst (λ (s : State). IsRow s t row) reached.same here)).spawned

  -- all tasks from this number on are done
  abbrev DoneFrom : ℕ → Type 0
  DoneFrom n = (t : ℕ) (row : TaskRow) → n ≤ t → IsRow st t row → row.status ≡ Done

  -- nobody waits for one of them
  free : (n t u : ℕ) → DoneFrom n → n ≤ suc t → ¬ WaitsFor st.links t u
  free n t u done least wait =
      let up = (reached_ordered p lim st wf within reached).waits_up t u wait.waits in
      let same : length st.links ≡ length st.tasks = ap length stands.links ∙ length-map st.tasks link_of_row in
      let row = below_there st.tasks u (omega (arith, same, up.1)) in
      let status = done u row.0 (omega (arith, least, up.0)) row.1 in
      let link : (link_of st.links u).done ≡ true = ap (λ (l : Link). l.done) (link_there st stands.links u row.0 row.1) ∙ ap is_done_status status in
      let undone : (link_of st.links u).done ≡ false = wait.undone in
      cc (link, undone)

  abbrev Moves : Type 0
  Moves = (mv : Move) × MayMove st mv

  -- the last task that is not done may move, whatever its status is
  by_status : (t : ℕ) (row : TaskRow) → IsRow st t row → DoneFrom (suc t) → (status : TaskStatus) → row.status ≡ status → status ≢ Done → Moves
  by_status t row here done Made is undone =
      (record { task = t; kind = Admit }, ((row, here, is), (λ s differ enabled interfere. absurd (alone s differ enabled))))
    where
      first : t ≡ 0
      first = elim (spawned t row here) [
        | inl is_main ↦ is_main
        | inr parent ↦ let none = ap (λ (r : TaskRow). r.parent) ((stands.rows t row here).made is) in absurd (cc (none, parent.1))
      ]

      alone : (s : ℕ) → s ≢ t → ¬ HasStatus st s Enabled
      alone s differ enabled =
          let status = done s enabled.0 (omega (arith, differ, first)) enabled.1 in
          let both : Done ≡ Enabled = sym status ∙ enabled.2 in
          cc (both)
  by_status t row here done Enabled is undone = (record { task = t; kind = Run }, ((row, here, is), (λ u. free (suc t) t u done (omega arith))))
  by_status t row here done Done is undone = absurd (undone refl)
  by_status t row here done Faulted is undone = absurd (stands.no_fault no_fault t (row, here, is))

  done_or_not : (status : TaskStatus) → (status ≡ Done) ⊎ (status ≢ Done)
  done_or_not Made = inr (λ e. cc (e))
  done_or_not Enabled = inr (λ e. cc (e))
  done_or_not Done = inl refl
  done_or_not Faulted = inr (λ e. cc (e))

  -- with this task too, all from it on are done
  and_this : (n : ℕ) → DoneFrom (suc n) → ((row : TaskRow) → IsRow st n row → row.status ≡ Done) → DoneFrom n
  and_this n later this t row least here = by_order (below_or_not n t least)
    where
      below_or_not : (a b : ℕ) → a ≤ b → (b ≡ a) ⊎ (suc a ≤ b)
      below_or_not zero zero le = inl refl
      below_or_not zero (suc b) le = inr (omega arith)
      below_or_not (suc a) zero le = absurd (omega (arith, le))
      below_or_not (suc a) (suc b) le = elim (below_or_not a b (omega (arith, le))) [ inl e ↦ inl (ap suc e) | inr lt ↦ inr (omega (arith, lt)) ]

      by_order : (t ≡ n) ⊎ (suc n ≤ t) → row.status ≡ Done
      by_order (inl same) = this row (subst (λ (k : ℕ). IsRow st k row) same here)
      by_order (inr above) = later t row above here

  -- from the highest number down
  by_row : (n : ℕ) → DoneFrom (suc n) → (DoneFrom n → AllTasksDone st ⊎ Moves) → (found : Option TaskRow) → slice_get st.tasks n ≡ found → AllTasksDone st ⊎ Moves
  by_row n done rest None gone = rest (and_this n done (λ row here. absurd (cc (gone, here))))
  by_row n done rest (Some row) here = elim (done_or_not row.status) [
    | inl is ↦ rest (and_this n done (λ other there. ap (λ (r : TaskRow). r.status) (got_one (slice_get st.tasks n) there here) ∙ is))
    | inr undone ↦ inr (by_status n row here done row.status refl undone)
  ]

  search_from : (n : ℕ) → DoneFrom n → AllTasksDone st ⊎ Moves
  search_from zero done = inl (λ t row here. done t row (omega arith) here)
  search_from (suc n) done = by_row n done (search_from n) (slice_get st.tasks n) refl

  pub all_done_or_moves : AllTasksDone st ⊎ Moves
  all_done_or_moves = search_from (length st.tasks) (λ t row least here. absurd (past t row least here))
    where
      past : (t : ℕ) (row : TaskRow) → length st.tasks ≤ t → ¬ IsRow st t row
      past t row least here = let below = slice_get_within st.tasks t row here in omega (arith, least, below)

pub some_move : (p : Program) → IsWellFormed p → KeepsEffects p → MainIsDeterministic p → (lim : Bounds) → IsWithin lim.fuel lim.tasks → (st : State) → IsReached p lim st
    → st.first_fault ≡ None → ¬ AllTasksDone st → (mv : Move) × MayMove st mv
some_move p wf keeps flag lim within st reached no_fault undone =
    elim (all_done_or_moves p wf keeps flag lim within st reached no_fault) [
      | inl all ↦ absurd (undone all)
      | inr move ↦ move
    ]

pub never_stuck : (p : Program) → IsWellFormed p → KeepsEffects p → MainIsDeterministic p → (lim : Bounds) → IsWithin lim.fuel lim.tasks → (st : State) → IsReached p lim st
    → ¬ IsOutcome st Stuck
never_stuck p wf keeps flag lim within st reached stuck =
    let move = some_move p wf keeps flag lim within st reached stuck.0 stuck.1 in
    stuck.2 move.0 move.1
