use Rattle.std.proofs.Common.{◌≡◌, ◌<◌, ◌≤◌, List, length, get_or, sym, ap, ◌∙◌, subst}
use Rattle.twe_program.specs.declared.program.Decl.{Decl}
use Rattle.twe_program.specs.Program.{Program}
use Rattle.twe_program.specs.WellFormed.{IsWellFormed}
use Rattle.effect_check.specs.inner.First.{IsFirstOf, OneFails}
use Rattle.effect_check.proofs.Bodies.{task-more, TaskFailure}
use Rattle.std.proofs.lemmas.List.{take_all}
use Rattle.effect_check.proofs.whole.first_in_tasks.Goals as goal

pub loop-task-preserved : goal.loop-task-preserved
loop-task-preserved c =
    let p : Program = c.args.p.now in
    let task : Decl = c.task-item.result in
    let well_formed : IsWellFormed p = subst IsWellFormed c.p.view_is c.p.invariant in
    let items : c.as_slice-task-items.result.now ≡ p.tasks = c.as_slice-task-items.ensures ∙ ap (λ (q : Program). q.tasks) c.p.view_is in
    let there : c.loop-task.task-index < length p.tasks = subst (λ (xs : List Decl). c.loop-task.task-index < length xs) items c.loop-task-test.true in
    let is : get_or p.tasks c.loop-task.task-index task ≡ task =
    subst (λ (xs : List Decl). get_or xs c.loop-task.task-index task ≡ task) items (sym c.task-item.is) in
    task-more p well_formed c.loop-task.task-index there task is c.loop-task.first c.judge_task.new.first c.loop-task.invariant c.in_ok-judge_task.ensures

pub returns : goal.returns
returns c =
    let p : Program = c.args.p.now in
    let items : c.as_slice-task-items.result.now ≡ p.tasks = c.as_slice-task-items.ensures ∙ ap (λ (q : Program). q.tasks) c.p.view_is in
    let past : length p.tasks ≤ c.loop-task.task-index = subst (λ (xs : List Decl). length xs ≤ c.loop-task.task-index) items c.loop-task-test.false in
    subst (λ (xs : List Decl). IsFirstOf (OneFails (TaskFailure p) xs) c.loop-task.first) (take_all c.loop-task.task-index p.tasks past) c.loop-task.invariant
