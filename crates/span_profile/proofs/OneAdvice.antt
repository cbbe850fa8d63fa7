-- A list of moves has one advice.
use Rattle.std.proofs.Common.{◌≡◌, ℕ, List, length, sym, ap, ◌∙◌, subst}
use Rattle.schedules.specs.Timetables.{AreEarliest}
use Rattle.seg_journal.specs.declared.journal.Entry.{Entry}
use Rattle.seg_journal.specs.declared.moves.Move.{Move}
use Rattle.twe_base.specs.Limits.{Bounds}
use Rattle.twe_program.specs.Program.{Program}
use Rattle.machine_state.specs.declared.state.State.{State}
use Rattle.machine_state.specs.declared.state.TaskRow.{TaskRow}
use Rattle.machine_state.specs.Moves.{start_of}
use Rattle.machine_state.specs.Runs.{counted, state_after}
use Rattle.machine_state.proofs.replays.Replayed.{one_from}
use Rattle.span_profile.specs.Advice.{AreMadeTasks, AreWorks, IsCountedRun}
use Rattle.span_profile.specs.LeadsTo.{LeadsTo}
use Rattle.span_profile.specs.Profiles.{HasEarliest}
use Rattle.span_profile.specs.Strands.{strands, weight_of}
use Rattle.span_profile.specs.Totals.{works_from}
use Rattle.span_profile.specs.declared.totals.TaskWork.{TaskWork}
use Rattle.span_profile.specs.heaviest_chain.Chains.{Leads, weight_at}
use Rattle.span_profile.proofs.OneTimes.{one_earliest}

-- the part that counts is one, and leads to one state
pub one_run : (p : Program) (lim : Bounds) (moves : List Move) (journal other : List Entry) (st last : State) → IsCountedRun p lim moves journal st → IsCountedRun p lim moves other last
    → (journal ≡ other) × (st ≡ last)
one_run p lim moves journal other st last one two =
    let wholes : one.whole ≡ two.whole = one_from p lim (start_of p lim) one.whole two.whole one.legal two.legal (one.has ∙ sym two.has) in
    let journals : journal ≡ other = one.journal_is ∙ (ap counted wholes ∙ sym two.journal_is) in
    (journals, one.state_is ∙ (ap (state_after p lim) journals ∙ sym two.state_is))

pub one_works : (p : Program) (lim : Bounds) (moves : List Move) (works others : List TaskWork) → AreWorks p lim moves works → AreWorks p lim moves others → works ≡ others
one_works p lim moves works others one two =
    let same = one_run p lim moves one.journal two.journal one.st two.st one.run two.run in
    one.works_are ∙ ((λ i. works_from lim.fuel (same.0 i) 0 (same.1 i).tasks) ∙ sym two.works_are)

pub one_tasks : (p : Program) (lim : Bounds) (moves : List Move) (tasks others : List TaskRow) → AreMadeTasks p lim moves tasks → AreMadeTasks p lim moves others → tasks ≡ others
one_tasks p lim moves tasks others one two =
    let same = one_run p lim moves one.journal two.journal one.st two.st one.run two.run in
    one.tasks_are ∙ (ap (λ (s : State). s.tasks) same.1 ∙ sym two.tasks_are)

pub one_times : (p : Program) (lim : Bounds) (moves : List Move) (span other : ℕ) (starts ends firsts lasts : List ℕ) → HasEarliest p lim moves span starts ends → HasEarliest p lim moves other firsts lasts
    → (span ≡ other) × (starts ≡ firsts) × (ends ≡ lasts)
one_times p lim moves span other starts ends firsts lasts one two =
    let journals : one.journal ≡ two.journal = one_from p lim (start_of p lim) one.journal two.journal one.legal two.legal (one.has ∙ sym two.has) in
    let all = strands p lim (counted two.journal) in
    one_earliest (Leads LeadsTo all) (λ i j leads. leads.before) (weight_at weight_of all) (length all) span other starts ends firsts lasts
    (subst (λ (j : List Entry). AreEarliest (Leads LeadsTo (strands p lim (counted j))) (weight_at weight_of (strands p lim (counted j))) (length (strands p lim (counted j))) span starts ends) journals one.earliest)
    two.earliest
