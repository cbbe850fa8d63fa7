-- The first fault of a state is the first one that its journal has.
use Rattle.std.proofs.Common.{◌≡◌, ℕ, List, [], ◌∷◌, ◌++◌, Option, None, Some, refl, ap, ◌∙◌, sym}
use Rattle.seg_journal.specs.declared.journal.End.{End}
use Rattle.seg_journal.specs.declared.journal.End.TheVariants as ends
use Rattle.seg_journal.specs.declared.journal.Entry.{Entry}
use Rattle.seg_journal.specs.declared.moves.Move.{Move}
use Rattle.twe_base.specs.Limits.{Bounds}
use Rattle.twe_program.specs.Program.{Program}
use Rattle.twe_program.specs.WellFormed.{IsWellFormed}
use Rattle.machine_state.specs.declared.state.FirstFault.{FirstFault}
use Rattle.machine_state.specs.declared.state.State.{State}
use Rattle.machine_state.specs.Changes.{fault_after}
use Rattle.machine_state.specs.Legal.{MayMove}
use Rattle.machine_state.specs.Moves.{move_result}
use Rattle.machine_state.specs.Runs.{IsRun, Legal, entry_of, state_after}
use Rattle.machine_state.proofs.tasks.LeftAlone.{moves_leave_alone}
use Rattle.floor_laws.specs.rule.Shown.{earlier_of, fault_of, first_fault_in}
use Rattle.floor_laws.proofs.rule.Along.{after_all}

alone : (t : ℕ) (end : End) → earlier_of (fault_of t end) None ≡ fault_after None t end
alone t ends.Admitted = refl
alone t (ends.Made child) = refl
alone t (ends.Waits on) = refl
alone t (ends.Joins on) = refl
alone t (ends.Done value) = refl
alone t (ends.Fault kind place) = refl

kept : (fault : FirstFault) (t : ℕ) (end : End) → Some fault ≡ fault_after (Some fault) t end
kept fault t ends.Admitted = refl
kept fault t (ends.Made child) = refl
kept fault t (ends.Waits on) = refl
kept fault t (ends.Joins on) = refl
kept fault t (ends.Done value) = refl
kept fault t (ends.Fault kind place) = refl

behind : (earlier later : Option FirstFault) (t : ℕ) (end : End) → earlier_of earlier (fault_after later t end) ≡ fault_after (earlier_of earlier later) t end
behind None later t end = refl
behind (Some fault) later t end = kept fault t end

-- one entry more
one_more : (before : List Entry) (e : Entry) → first_fault_in (before ++ e ∷ []) ≡ fault_after (first_fault_in before) e.mv.task e.end
one_more [] e = alone e.mv.task e.end
one_more (x ∷ before) e =
    ap (earlier_of (fault_of x.mv.task x.end)) (one_more before e) ∙ behind (fault_of x.mv.task x.end) (first_fault_in before) e.mv.task e.end

module _ (p : Program) (lim : Bounds) (well : IsWellFormed p) where
  abbrev Has : List Entry → State → Type 0
  Has journal st = st.first_fault ≡ first_fault_in journal

  has_after : (before : List Entry) (st : State) (mv : Move) → IsRun p lim before st → MayMove st mv → Has before st → Has (before ++ entry_of p lim st mv ∷ []) (move_result p lim st mv).0
  has_after before st mv run may has =
      let end : End = (move_result p lim st mv).1 in
      (moves_leave_alone p lim st mv well (record { journal = before; legal = run.legal; same = run.same }) may).first_fault
      ∙ (ap (λ (o : Option FirstFault). fault_after o mv.task end) has ∙ sym (one_more before (entry_of p lim st mv)))

  pub first_fault_is : (journal : List Entry) → Legal p lim journal → (state_after p lim journal).first_fault ≡ first_fault_in journal
  first_fault_is journal legal = after_all p lim Has refl has_after journal legal
