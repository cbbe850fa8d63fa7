-- Enough moves keep each way to end.
use Rattle.std.proofs.Common.{◌≡◌, ℕ, List, [], ◌∷◌, refl, subst}
use Rattle.twe_base.specs.Limits.{Bounds}
use Rattle.seg_journal.specs.declared.journal.Entry.{Entry}
use Rattle.seg_journal.specs.declared.moves.Kind.{Kind}
use Rattle.seg_journal.specs.declared.moves.Kind.TheVariants.{Admit, Run}
use Rattle.seg_journal.specs.declared.moves.Move.{Move}
use Rattle.twe_program.specs.Program.{Program}
use Rattle.twe_program.specs.WellFormed.{IsWellFormed}
use Rattle.isolation_laws.specs.soundness.KeepsEffects.{KeepsEffects}
use Rattle.machine_state.specs.declared.state.State.{State}
use Rattle.machine_state.specs.Legal.{MayMove, MayRun, MayTake}
use Rattle.machine_state.specs.Moves.{move_result}
use Rattle.machine_state.specs.Runs.{IsReached, LegalFrom, replayed}
use Rattle.reduction_laws.specs.declared.choice.Choice.{Choice}
use Rattle.reduction_laws.specs.declared.choice.Choice.TheVariants.{Admission, EachAdmission, Segment}
use Rattle.reduction_laws.specs.Enough.{IsChosen, IsEnough}
use Rattle.reduction_laws.specs.WaysToEnd.{CanEndSo, HasEndedSo, WayToEnd}
use Rattle.reduction_laws.proofs.AdmitFirst.{admit_first}
use Rattle.reduction_laws.proofs.RunFirst.{run_first}

module _ (p : Program) (wf : IsWellFormed p) (keeps : KeepsEffects p) (lim : Bounds) (st : State) (reached : IsReached p lim st) (way : WayToEnd) where
  -- a legal move of the choice leads on to that end
  abbrev LeadsOn : Choice → Type 0
  LeadsOn choice = (mv : Move) × IsChosen choice mv × MayMove st mv × CanEndSo p lim (move_result p lim st mv).0 way

  -- the first move is an admission, if no task may run
  first_admission : ((t : ℕ) → ¬ MayRun st t) → (mv : Move) → MayMove st mv → (kind : Kind) → mv.kind ≡ kind → mv.kind ≡ Admit
  first_admission none mv may Admit is = is
  first_admission none mv may Run is = absurd (none mv.task (subst (λ (k : Kind). MayTake st k mv.task) is may))

  some_admission : ((t : ℕ) → ¬ MayRun st t) → (entries : List Entry) → LegalFrom p lim st entries → HasEndedSo (replayed p lim st entries) way → ¬ HasEndedSo st way → LeadsOn EachAdmission
  some_admission none [] legal ended goes_on = absurd (goes_on ended)
  some_admission none (entry ∷ entries) legal ended goes_on =
      (entry.mv, first_admission none entry.mv legal.0 entry.mv.kind refl, legal.0, record { entries = entries; legal = legal.2; ended = ended })

  leads_on : (choice : Choice) → IsEnough p st choice → CanEndSo p lim st way → ¬ HasEndedSo st way → LeadsOn choice
  leads_on (Segment t) may can goes_on = (record { task = t; kind = Run }, (refl, refl), may, run_first p wf keeps lim st reached t may way can)
  leads_on (Admission t) enough can goes_on =
      (record { task = t; kind = Admit }, (refl, refl), enough.0, admit_first p wf keeps lim st reached t enough.0 enough.1 way can)
  leads_on EachAdmission none can goes_on = some_admission none can.entries can.legal can.ended goes_on

pub enough_moves : (p : Program) → IsWellFormed p → KeepsEffects p → (lim : Bounds) (st : State) → IsReached p lim st → (choice : Choice) → IsEnough p st choice
    → (way : WayToEnd) → CanEndSo p lim st way → ¬ HasEndedSo st way
    → (mv : Move) × IsChosen choice mv × MayMove st mv × CanEndSo p lim (move_result p lim st mv).0 way
enough_moves p wf keeps lim st reached choice enough way can goes_on = leads_on p wf keeps lim st reached way choice enough can goes_on
