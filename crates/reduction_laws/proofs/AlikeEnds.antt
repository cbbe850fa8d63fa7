-- States that are the same but for numbers can end in the same ways.
use Rattle.std.proofs.Common.{ℕ, List, [], ◌∷◌, ap, ◌∙◌, inl, inr}
use Rattle.std.proofs.lemmas.Bool.{cases_Bool}
use Rattle.twe_base.specs.Limits.{Bounds}
use Rattle.seg_journal.specs.declared.journal.Entry.{Entry}
use Rattle.seg_journal.specs.declared.moves.Kind.{Kind}
use Rattle.seg_journal.specs.declared.moves.Kind.TheVariants.{Admit, Run}
use Rattle.seg_journal.specs.declared.moves.Move.{Move}
use Rattle.twe_program.specs.Program.{Program}
use Rattle.twe_program.specs.WellFormed.{IsWellFormed}
use Rattle.isolation_laws.specs.soundness.KeepsEffects.{KeepsEffects}
use Rattle.machine_state.specs.declared.state.State.{State}
use Rattle.machine_state.specs.declared.state.TaskRow.{TaskRow}
use Rattle.machine_state.specs.Changes.{next_segment}
use Rattle.machine_state.specs.Legal.{MayTake}
use Rattle.machine_state.specs.Moves.{result_by_kind}
use Rattle.machine_state.specs.Rows.{IsRow}
use Rattle.machine_state.specs.Runs.{AllTasksDone, LegalFrom, replayed}
use Rattle.determinism_laws.specs.numbering.Renumbering.{Numbering}
use Rattle.determinism_laws.proofs.NearFaults.{ends_in_fault, reached_more}
use Rattle.determinism_laws.proofs.RenumberedRows.{row_renumbered}
use Rattle.reduction_laws.specs.WaysToEnd.{CanEndSo, HasEndedSo, WayToEnd, all_done, stuck, faulty}
use Rattle.reduction_laws.proofs.AlikeAdmissions.{admits_too, alike_admitted}
use Rattle.reduction_laws.proofs.AlikeStates.{Alike, alike_after, ends_too, its_row, runs_too, turned}
use Rattle.reduction_laws.proofs.Faults.{ends_after, ends_as_met, no_fault, segment_met}

module _ (p : Program) (wf : IsWellFormed p) (keeps : KeepsEffects p) (lim : Bounds) (to : Numbering) where
  takes_too : (st other : State) → Alike p lim to st other → (kind : Kind) (t : ℕ) → MayTake st kind t → MayTake other kind (to t)
  takes_too st other alike Admit t may = admits_too p wf lim to st other alike t may
  takes_too st other alike Run t may = runs_too p wf lim to st other alike keeps t may.0.0 may.0.1 may

  all_done_too : (st other : State) → Alike p lim to st other → AllTasksDone st → AllTasksDone other
  all_done_too st other alike done u r here =
      let was = its_row p wf lim to st other alike u r here in ap (λ (x : TaskRow). x.status) was.2 ∙ done (to u) was.0 was.1

  ended_too : (st other : State) (way : WayToEnd) → Alike p lim to st other → HasEndedSo st way → HasEndedSo other way
  ended_too st other (all_done cells prints tasks) alike ended =
      ((alike.faultless_too, all_done_too st other alike ended.0.1), alike.same.cells ∙ ended.1, alike.prints ∙ ended.2, alike.same.count ∙ ended.3)
  ended_too st other stuck alike ended =
      let back = turned p wf lim to st other alike in (
        alike.faultless_too,
        λ done. ended.1 (all_done_too other st back done),
        λ mv may. ended.2 (record { task = to mv.task; kind = mv.kind }) (takes_too other st back mv.kind mv.task may),
      )
  ended_too st other faulty alike ended = absurd (no_fault st alike.faultless ended)

  -- what follows a move can end in the same way from alike states
  abbrev RestToo : List Entry → WayToEnd → Type 0
  RestToo entries way =
      (x y : State) → Alike p lim to x y → LegalFrom p lim x entries → HasEndedSo (replayed p lim x entries) way → CanEndSo p lim y way

  run_too : (entries : List Entry) (st other : State) (way : WayToEnd) (t : ℕ) → Alike p lim to st other → RestToo entries way → MayTake st Run t
      → LegalFrom p lim (result_by_kind p lim st Run t).0 entries → HasEndedSo (replayed p lim (result_by_kind p lim st Run t).0 entries) way → CanEndSo p lim other way
  run_too entries st other way t alike rest may legal ended =
      let row = may.0.0 in
      let here = may.0.1 in
      let may_there = runs_too p wf lim to st other alike keeps t row here may in
      let there : IsRow other (to t) (row_renumbered to row) = alike.same.rows t row here in
      let ends = ends_too p wf lim to st other alike keeps t row here may in
      let move : Move = record { task = to t; kind = Run } in
      ends_after p lim other move way may_there (elim (cases_Bool (ends_in_fault lim st.asked (next_segment p st row).stop)) [
        | inl fault ↦
            ends_as_met p wf keeps lim (result_by_kind p lim st Run t).0 (result_by_kind p lim other Run (to t)).0 way
            (reached_more p wf keeps lim st (record { task = t; kind = Run }) alike.reached may) (segment_met p wf keeps lim st t row alike.reached here may fault)
            (record { entries = entries; legal = legal; ended = ended })
            (segment_met p wf keeps lim other (to t) (row_renumbered to row) alike.reached_too there may_there (ends ∙ fault))
        | inr fits ↦
            rest (result_by_kind p lim st Run t).0 (result_by_kind p lim other Run (to t)).0
            (alike_after p wf lim to st other alike keeps t row here may fits) legal ended
      ])

  admit_too : (entries : List Entry) (st other : State) (way : WayToEnd) (t : ℕ) → Alike p lim to st other → RestToo entries way → MayTake st Admit t
      → LegalFrom p lim (result_by_kind p lim st Admit t).0 entries → HasEndedSo (replayed p lim (result_by_kind p lim st Admit t).0 entries) way → CanEndSo p lim other way
  admit_too entries st other way t alike rest may legal ended =
      let move : Move = record { task = to t; kind = Admit } in
      ends_after p lim other move way (admits_too p wf lim to st other alike t may)
      (rest (result_by_kind p lim st Admit t).0 (result_by_kind p lim other Admit (to t)).0 (alike_admitted p wf lim to st other alike t may keeps) legal ended)

  by_kind : (entries : List Entry) (st other : State) (way : WayToEnd) (t : ℕ) → Alike p lim to st other → RestToo entries way → (kind : Kind) → MayTake st kind t
      → LegalFrom p lim (result_by_kind p lim st kind t).0 entries → HasEndedSo (replayed p lim (result_by_kind p lim st kind t).0 entries) way → CanEndSo p lim other way
  by_kind entries st other way t alike rest Run may legal ended = run_too entries st other way t alike rest may legal ended
  by_kind entries st other way t alike rest Admit may legal ended = admit_too entries st other way t alike rest may legal ended

  -- the same moves, by the other numbers, lead to the same end
  pub ends_alike : (entries : List Entry) (st other : State) (way : WayToEnd) → Alike p lim to st other → LegalFrom p lim st entries → HasEndedSo (replayed p lim st entries) way
      → CanEndSo p lim other way
  ends_alike [] st other way alike legal ended = record { entries = []; legal = tt; ended = ended_too st other way alike ended }
  ends_alike (entry ∷ entries) st other way alike legal ended =
      by_kind entries st other way entry.mv.task alike (λ x y both rest_legal rest_ended. ends_alike entries x y way both rest_legal rest_ended) entry.mv.kind legal.0 legal.2 ended
