-- A quiet step that does not move finds how the run has ended.
use Rattle.std.proofs.Common.{◌≡◌, List, Option, None, Some, true, sym, ap, ◌∙◌, subst}
use Rattle.seg_journal.specs.declared.journal.Entry.{Entry}
use Rattle.machine_state.specs.declared.state.State.{State}
use Rattle.flat_sched.specs.declared.ending.RunEnd.{RunEnd}
use Rattle.flat_sched.specs.declared.ending.RunEnd.TheVariants.{AllDone, Fault, Stuck, Unfinished}
use Rattle.flat_sched.specs.RunEnds.{IsRunEnd, is_run_over}
use Rattle.twe_rounds.specs.Crews.{CrewRun, StepsFrom, StepsQuietly, state_of}

ended_from : (old new : CrewRun) (journal : List Entry) (end : RunEnd) → is_run_over end ≡ true → StepsFrom old new journal end
    → (new ≡ old) × IsRunEnd (state_of old journal) end
ended_from old new journal AllDone over steps = steps
ended_from old new journal (Fault task kind place) over steps = steps
ended_from old new journal (Stuck cycle) over steps = steps
ended_from old new journal Unfinished over steps = absurd (cc over)

-- the quiet step changed nothing, and the run of the crew has ended so
pub ends_so : (old new : CrewRun) (end : RunEnd) → is_run_over end ≡ true → StepsQuietly old new end
    → (new ≡ old) × ((journal : List Entry) × (old.journal ≡ Some journal) × IsRunEnd (state_of old journal) end)
ends_so old new end over steps =
    let ended : (new ≡ old) × IsRunEnd (state_of old steps.0) end = ended_from old new steps.0 end over steps.3 in
    (ended.0, (steps.0, steps.1, ended.1))

-- the journal of a crew, or the other if it has none
abbrev journal_or : List Entry → Option (List Entry) → List Entry
journal_or other None = other
journal_or other (Some journal) = journal

-- so the state to which its journal leads is that of a run that has ended so
pub ended_at : (old new : CrewRun) (journal entries : List Entry) (st : State) (end : RunEnd) → new ≡ old → old.journal ≡ Some journal
    → IsRunEnd (state_of old journal) end → new.journal ≡ Some entries → st ≡ state_of new entries → IsRunEnd st end
ended_at old new journal entries st end same was ended has is =
    let one : Some entries ≡ Some journal = sym has ∙ (ap (λ (c : CrewRun). c.journal) same ∙ was) in
    let entries_are : entries ≡ journal = ap (journal_or entries) one in
    let st_is : st ≡ state_of old journal = is ∙ (ap (λ (c : CrewRun). state_of c entries) same ∙ ap (state_of old) entries_are) in
    subst (λ (s : State). IsRunEnd s end) (sym st_is) ended
