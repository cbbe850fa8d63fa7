-- What a seat knows to pass passes in the core.
use Rattle.std.proofs.Common.{◌≡◌, ℕ, List, sym, ap, subst, ◌∙◌, inl, inr}
use Rattle.effect_sets.specs.declared.effects.Effect.{Effect}
use Rattle.seg_journal.specs.declared.journal.Entry.{Entry}
use Rattle.wait_graph.specs.declared.tasks.Link.{Link}
use Rattle.wait_graph.specs.Chain.{none}
use Rattle.wait_graph.specs.Waiting.{DescendsFrom, IsDone, WaitsOn, WaitsOnUnlessDone}
use Rattle.machine_state.specs.declared.state.State.{State}
use Rattle.machine_state.specs.declared.state.TaskRow.{TaskRow}
use Rattle.machine_state.specs.declared.state.TaskStatus.{TaskStatus}
use Rattle.machine_state.specs.declared.state.TaskStatus.TheVariants as status
use Rattle.machine_state.specs.Rows.{LinksAgree}
use Rattle.machine_state.proofs.lists.Places.{got_one}
use Rattle.isolation_laws.proofs.rows.LinksOfRows.{done_row}
use Rattle.floor_laws.specs.rule.Fitting.{Turns}
use Rattle.floor_laws.specs.admission.admission_core.Tasks.{Task, Tasks, IsTask}
use Rattle.floor_laws.specs.admission.admission_core.Tasks as core
use Rattle.floor_laws.specs.admission.admission_core.States.{IsAmong, RecordPasses, PassesFor, Purpose, Admit, Child, Remove, Record}
use Rattle.floor_laws.specs.admission.admission_core.Events.{MayBegin}
use Rattle.floor_laws.specs.admission.TasksOf.{status_of}
use Rattle.floor_laws.specs.rule.nodes.Fitting.{TasksFit}
use Rattle.floor_laws.specs.rule.nodes.LockSteps.{IsKnownToPass, apart, own, waiting, PassesHere}
use Rattle.floor_laws.specs.rule.nodes.Trees.{WaitFact}
use Rattle.floor_laws.proofs.rule.nodes.KnownTasks.{row_of}

done_made : (x : TaskStatus) → x ≡ status.Done → status_of x ≡ core.Made → ⊥
done_made x done made = let no : core.Done ≡ core.Made = sym (ap status_of done) ∙ made in cc

module _ (journal : List Entry) (st : State) (turns : Turns) (tasks : Tasks) (fit : TasksFit journal st turns tasks) (agree : LinksAgree st) where
  -- a task that is to be admitted is not done
  made_undone : (t : ℕ) (task : Task) → IsTask tasks t task → task.status ≡ core.Made → ¬ IsDone st.links t
  made_undone t task is made done =
      let row = row_of journal st turns tasks fit t task is in
      let found = done_row st agree t done in
      let same : found.0 ≡ row.row = got_one _ found.1 row.there in
      done_made row.row.status (sym (ap (λ (r : TaskRow). r.status) same) ∙ found.2) (sym row.status_is ∙ made)

  waits_pass : (r : Record) (t : ℕ) (e : Effect) (task : Task) → IsTask tasks t task → task.status ≡ core.Made
      → WaitsOnUnlessDone st.links r.task t → RecordPasses tasks t e r
  waits_pass r t e task is made (inl chain) live i = (t, subst (λ (ls : List Link). WaitsOn ls r.task t) (sym fit.rows.links) chain, none)
  waits_pass r t e task is made (inr done) live i = absurd (made_undone t task is made done)

  module _ (waits : List WaitFact) (hold : (fact : WaitFact) → IsAmong fact waits → WaitsOnUnlessDone st.links fact.waiter fact.awaited) where
    known_passes : (t : ℕ) (e : Effect) (r : Record) (task : Task) → IsTask tasks t task → task.status ≡ core.Made → IsKnownToPass waits t e r → RecordPasses tasks t e r
    known_passes t e r task is made (apart away) live i = absurd (away i)
    known_passes t e r task is made (own same) live i =
        (r.task, none, subst (λ (x : ℕ). DescendsFrom tasks.links x r.task) same none)
    known_passes t e r task is made (waiting among) live i =
        waits_pass r t e task is made (hold (record { waiter = r.task; awaited = t }) among) live i

    pub passes_here : (i : ℕ) (purpose : Purpose) (r : Record) → MayBegin tasks i purpose → PassesHere waits purpose r → PassesFor tasks purpose r
    passes_here i (Admit t e) r mine known = known_passes t e r mine.0 mine.1 mine.2 known
    passes_here i (Child t e) r mine known = tt
    passes_here i (Remove t e) r mine known = tt
