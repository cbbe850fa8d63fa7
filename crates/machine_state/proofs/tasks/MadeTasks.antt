-- A task that was made and not admitted waits for nobody and has no parent, so those alone yield to it that wait for it.
use Rattle.std.proofs.Common.{◌≡◌, ℕ, zero, suc, None, false, refl, sym, ap, ◌∙◌, subst}
use Rattle.std.specs.Prelude.{slice_get}
use Rattle.seg_journal.specs.declared.moves.Kind.{Kind}
use Rattle.seg_journal.specs.declared.moves.Kind.TheVariants.{Admit, Run}
use Rattle.twe_base.specs.Limits.{Bounds}
use Rattle.twe_program.specs.Program.{Program}
use Rattle.wait_graph.specs.declared.tasks.Link.{Link}
use Rattle.wait_graph.specs.Link.{link_of}
use Rattle.wait_graph.specs.Waiting.{SpawnedBy, WaitsForNobody, WaitsOn, YieldsTo}
use Rattle.wait_graph.proofs.ChainLemmas.{Chain-stays}
use Rattle.machine_state.specs.declared.state.State.{State}
use Rattle.machine_state.specs.declared.state.TaskRow.{TaskRow}
use Rattle.machine_state.specs.declared.state.TaskStatus.TheVariants.{Made, Enabled}
use Rattle.machine_state.specs.Legal.{MayTake}
use Rattle.machine_state.specs.Moves.{start_of}
use Rattle.machine_state.specs.Rows.{HasStatus, is_done_status, link_of_row}
use Rattle.machine_state.proofs.lists.Places.{got_one}
use Rattle.machine_state.proofs.standing.Standing.{Stands}
use Rattle.machine_state.proofs.links.TakenJoins.{row_link}

pub made_row : (p : Program) (lim : Bounds) (st : State) (t : ℕ) → Stands p lim st → HasStatus st t Made
    → ((link_of st.links t).waits ≡ None) × ((link_of st.links t).parent ≡ None) × ((link_of st.links t).done ≡ false)
made_row p lim st t stands has =
    let link = row_link p lim st stands t has.0 has.1 in
    let as_made = (stands.rows t has.0 has.1).made has.2 in (
      ap (λ (l : Link). l.waits) link ∙ ap (λ (r : TaskRow). (link_of_row r).waits) as_made,
      ap (λ (l : Link). l.parent) link ∙ ap (λ (r : TaskRow). (link_of_row r).parent) as_made,
      ap (λ (l : Link). l.done) link ∙ ap is_done_status has.2,
    )

pub free_by : (st : State) (t : ℕ) → (link_of st.links t).waits ≡ None → WaitsForNobody st.links t
free_by st t e u wait = let some = wait.waits in cc (e, some)

pub orphan_by : (st : State) (t : ℕ) → (link_of st.links t).parent ≡ None → (q : ℕ) → ¬ SpawnedBy st.links t q
orphan_by st t e q spawned = let some = spawned.parent in cc (e, some)

pub yields_by : (st : State) (s t : ℕ) → ((q : ℕ) → ¬ SpawnedBy st.links t q) → YieldsTo st.links s t → WaitsOn st.links s t
yields_by st s t orphan yields = subst (λ (u : ℕ). WaitsOn st.links s u) (sym (Chain-stays orphan yields.2)) yields.1

-- who may take a move waits for nobody
pub mover_free : (p : Program) (lim : Bounds) (st : State) (kind : Kind) (t : ℕ) → Stands p lim st → MayTake st kind t → WaitsForNobody st.links t
mover_free p lim st Admit t stands may = free_by st t (made_row p lim st t stands may.0).0
mover_free p lim st Run t stands may = may.1

-- at the start of a run no task is enabled
pub none_enabled : (p : Program) (lim : Bounds) (t : ℕ) → ¬ HasStatus (start_of p lim) t Enabled
none_enabled p lim zero has =
    let made : has.0.status ≡ Made = ap (λ (r : TaskRow). r.status) (got_one (slice_get (start_of p lim).tasks 0) has.1 refl) in
    cc (made, has.2)
none_enabled p lim (suc t) has = cc (has.1)
