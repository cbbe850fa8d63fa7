-- What a legal move leaves of the other tasks: each keeps its status, its effects and what it waits for.
use Rattle.std.proofs.Common.{◌≡◌, ◌≢◌, ◌⊎◌, ◌<◌, inl, inr, ℕ, List, length, map, Some, false, refl, sym, ap, ◌∙◌, subst, arith}
use Rattle.std.specs.Prelude.{slice_get}
use Rattle.std.proofs.lemmas.Bool.{cases_eq}
use Rattle.seg_journal.specs.declared.moves.Kind.{Kind}
use Rattle.seg_journal.specs.declared.moves.Kind.TheVariants.{Admit, Run}
use Rattle.twe_base.specs.Limits.{Bounds}
use Rattle.wait_graph.specs.declared.tasks.Link.{Link}
use Rattle.wait_graph.specs.Link.{link_of}
use Rattle.wait_graph.specs.Waiting.{WaitsFor}
use Rattle.twe_program.specs.Program.{Program}
use Rattle.twe_program.specs.WellFormed.{IsWellFormed}
use Rattle.machine_state.specs.declared.state.State.{State}
use Rattle.machine_state.specs.declared.state.TaskRow.{TaskRow}
use Rattle.machine_state.specs.declared.state.TaskStatus.{TaskStatus}
use Rattle.machine_state.specs.declared.state.TaskStatus.TheVariants.{Made, Enabled}
use Rattle.machine_state.specs.Legal.{MayTake}
use Rattle.machine_state.specs.Moves.{joined_row, result_by_kind}
use Rattle.machine_state.specs.Rows.{HasStatus, IsRow, is_done_status, link_of_row}
use Rattle.machine_state.proofs.tasks.MadeTasks.{mover_free}
use Rattle.machine_state.proofs.links.Ordered.{link_from, waits_up}
use Rattle.machine_state.proofs.tasks.OtherRows.{row_after}
use Rattle.machine_state.proofs.lists.Places.{below_there, got_one}
use Rattle.machine_state.proofs.standing.ReachedStands.{taken_stands}
use Rattle.machine_state.proofs.standing.SettlesNext.{as_many_links}
use Rattle.machine_state.proofs.standing.Standing.{Stands}
use Rattle.machine_state.proofs.links.TakenJoins.{row_link}

-- a row of another task: its status, its frame and its effects stay
pub record Same (after : State) (u : ℕ) (row : TaskRow) : Type 0 where
  pub now : TaskRow
  pub there : IsRow after u now
  pub status : now.status ≡ row.status
  pub waits : (link_of_row now).waits ≡ (link_of_row row).waits
  pub effects : now.effects ≡ row.effects

-- a task that waits has a row
pub waits_row : (links : List Link) (rows : List TaskRow) → links ≡ map link_of_row rows → (s u : ℕ) → (link_of links s).waits ≡ Some u → (row : TaskRow) × (slice_get rows s ≡ Some row)
waits_row links rows agree s u waits =
    link_from rows s (slice_get rows s) refl (λ (l : Link). l.waits ≡ Some u → (row : TaskRow) × (slice_get rows s ≡ Some row))
    (λ gone is. absurd (cc (is))) (λ row there is. (row, there))
    (subst (λ (ls : List Link). (link_of ls s).waits ≡ Some u) agree waits)

module _ (p : Program) (lim : Bounds) (well : IsWellFormed p) (st : State) (kind : Kind) (t : ℕ) (may : MayTake st kind t) (stands : Stands p lim st) where
  abbrev pub after : State
  after = (result_by_kind p lim st kind t).0

  pub after_stands : Stands p lim after
  after_stands = taken_stands p lim well st kind t may stands

  pub other : (u : ℕ) (row : TaskRow) → u ≢ t → IsRow st u row → Same after u row
  other u row ne here =
      elim (row_after p lim st t u ne row here kind) [
        | inl stays ↦ record { now = row; there = stays.1; status = refl; waits = refl; effects = refl }
        | inr marked ↦ record { now = joined_row row; there = marked.1; status = refl; waits = refl; effects = refl }
      ]

  pub other_waits : (u : ℕ) (row : TaskRow) → u ≢ t → IsRow st u row → (link_of after.links u).waits ≡ (link_of st.links u).waits
  other_waits u row ne here =
      let same = other u row ne here in
      ap (λ (l : Link). l.waits) (row_link p lim after after_stands u same.now same.there) ∙ same.waits
      ∙ ap (λ (l : Link). l.waits) (sym (row_link p lim st stands u row here))

  pub other_done : (u : ℕ) (row : TaskRow) → u ≢ t → IsRow st u row → (link_of after.links u).done ≡ (link_of st.links u).done
  other_done u row ne here =
      let same = other u row ne here in
      ap (λ (l : Link). l.done) (row_link p lim after after_stands u same.now same.there) ∙ ap is_done_status same.status
      ∙ ap (λ (l : Link). l.done) (sym (row_link p lim st stands u row here))

  mover : HasStatus st t Made ⊎ HasStatus st t Enabled
  mover = moves kind may where
    moves : (k : Kind) → MayTake st k t → HasStatus st t Made ⊎ HasStatus st t Enabled
    moves Admit m = inl m.0
    moves Run m = inr m.0

  pub mover_undone : (link_of st.links t).done ≡ false
  mover_undone =
      elim mover [
        | inl has ↦ ap (λ (l : Link). l.done) (row_link p lim st stands t has.0 has.1) ∙ ap is_done_status has.2
        | inr has ↦ ap (λ (l : Link). l.done) (row_link p lim st stands t has.0 has.1) ∙ ap is_done_status has.2
      ]

  -- a status after the move was one before it
  pub status_back : (u : ℕ) (status : TaskStatus) → u ≢ t → u < length st.tasks → HasStatus after u status → HasStatus st u status
  status_back u status ne below has =
      let row = below_there st.tasks u below in
      let same = other u row.0 ne row.1 in
      let one = got_one (slice_get after.tasks u) same.there has.1 in
      (row.0, row.1, sym same.status ∙ ap (λ (r : TaskRow). r.status) one ∙ has.2)

  pub awaited_there : (s u : ℕ) → (link_of st.links s).waits ≡ Some u → u < length st.tasks
  awaited_there s u waits = let up = waits_up p lim st stands s u waits in omega (arith, up.1, as_many_links p lim st stands)

  -- who waits after the move, but for t, has waited before it
  pub waits_back : (s u : ℕ) → s ≢ t → s < length st.tasks → WaitsFor after.links s u → WaitsFor st.links s u
  waits_back s u ne below wait =
      let row = below_there st.tasks s below in
      let waits = sym (other_waits s row.0 ne row.1) ∙ wait.waits in
      elim (cases_eq u t) [
        | inl is ↦ record { waits = waits; undone = subst (λ (n : ℕ). (link_of st.links n).done ≡ false) (sym is) mover_undone }
        | inr away ↦
            let to = below_there st.tasks u (awaited_there s u waits) in
            record { waits = waits; undone = sym (other_done u to.0 away to.1) ∙ wait.undone }
      ]

  -- a wait stays, if it is not for t or t is not done after the move
  pub waits_forth : (s u : ℕ) → (u ≡ t → (link_of after.links t).done ≡ false) → WaitsFor st.links s u → WaitsFor after.links s u
  waits_forth s u going wait =
      let ne : s ≢ t = λ is. mover_free p lim st kind t stands may u (subst (λ (n : ℕ). WaitsFor st.links n u) is wait) in
      let row = waits_row st.links st.tasks stands.links s u wait.waits in
      let waits = other_waits s row.0 ne row.1 ∙ wait.waits in
      elim (cases_eq u t) [
        | inl is ↦ record { waits = waits; undone = subst (λ (n : ℕ). (link_of after.links n).done ≡ false) (sym is) (going is) }
        | inr away ↦
            let to = below_there st.tasks u (awaited_there s u wait.waits) in
            record { waits = waits; undone = other_done u to.0 away to.1 ∙ wait.undone }
      ]
