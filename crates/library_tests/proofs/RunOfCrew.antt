-- A crew stays one of its program, and what it leaves is a state that a run reaches.
use Rattle.std.proofs.Common.{◌≡◌, List, ap, subst}
use Rattle.seg_journal.specs.declared.journal.Entry.{Entry}
use Rattle.twe_program.specs.Program.{Program}
use Rattle.machine_state.specs.declared.state.State.{State}
use Rattle.machine_state.specs.Runs.{IsReachable, IsReached, Legal}
use Rattle.flat_sched.specs.declared.ending.RunEnd.{RunEnd}
use Rattle.flat_sched.specs.declared.ending.RunEnd.TheVariants.{AllDone, Fault, Stuck, Unfinished}
use Rattle.twe_rounds.specs.Crews.{CrewRun, StepsFrom, StepsQuietly, state_of}

same_from : (old new : CrewRun) (journal : List Entry) (end : RunEnd) → StepsFrom old new journal end → new.prog ≡ old.prog
same_from old new journal (Fault task kind place) steps = ap (λ (crew : CrewRun). crew.prog) steps.0
same_from old new journal AllDone steps = ap (λ (crew : CrewRun). crew.prog) steps.0
same_from old new journal (Stuck cycle) steps = ap (λ (crew : CrewRun). crew.prog) steps.0
same_from old new journal Unfinished steps = ap (λ (crew : CrewRun). crew.prog) steps.1.2

pub same_program : (old new : CrewRun) (end : RunEnd) → StepsQuietly old new end → new.prog ≡ old.prog
same_program old new end steps = same_from old new steps.0 end steps.3

pub reached : (p : Program) (crew : CrewRun) (journal : List Entry) (st : State) → crew.prog ≡ p → Legal crew.prog crew.lim journal → st ≡ state_of crew journal
    → IsReachable p st
reached p crew journal st is legal same =
    (crew.lim, subst (λ (q : Program). IsReached q crew.lim st) is (record { journal = journal; legal = legal; same = same }))
