use Rattle.std.proofs.Common.{◌≡◌, ◌∙◌, false, List, ap, sym, subst}
use Rattle.std.specs.Prelude.{Contains}
use Rattle.std.specs.List.{All}
use Rattle.std.proofs.lemmas.List.Elements.{All-contains_itself, All-nil}
use Rattle.twe_program.specs.declared.program.Decl.{Decl}
use Rattle.twe_program.specs.Program.{Program}
use Rattle.twe_program.specs.WellFormed.{DeclFits, IsWellFormed}
use Rattle.refusal_causes.specs.inner.Keeping.{KeepsThere}
use Rattle.refusal_causes.proofs.Complete.{fit_by}
use Rattle.refusal_causes.proofs.Entries.{grows_not, grows_then}
use Rattle.refusal_causes.proofs.Loops.{at_item, one_more, whole}
use Rattle.refusal_causes.proofs.listing.note_tasks.Goals as goal

-- the task fits the program
pub note_task-requires-clause-fits : goal.note_task-requires-clause-fits
note_task-requires-clause-fits c =
    let p : Program = c.args.p.now in
    let items : c.as_slice-task-items.result.now ≡ p.tasks = c.as_slice-task-items.ensures ∙ ap (λ (q : Program). q.tasks) c.p.view_is in
    let wf : IsWellFormed p = subst IsWellFormed c.p.view_is c.p.invariant in
    at_item (DeclFits p) c.as_slice-task-items.result.now c.loop-task.task-index c.task-item.result c.loop-task-test.true c.task-item.is
    (subst (λ (xs : List Decl). All (DeclFits p) xs) (sym items) (fit_by p wf false))

-- it is one of the program's
pub note_task-requires-clause-inside : goal.note_task-requires-clause-inside
note_task-requires-clause-inside c =
    let p : Program = c.args.p.now in
    let items : c.as_slice-task-items.result.now ≡ p.tasks = c.as_slice-task-items.ensures ∙ ap (λ (q : Program). q.tasks) c.p.view_is in
    at_item (Contains p.tasks) c.as_slice-task-items.result.now c.loop-task.task-index c.task-item.result c.loop-task-test.true c.task-item.is
    (subst (λ (xs : List Decl). All (Contains p.tasks) xs) (sym items) (All-contains_itself p.tasks))

-- nothing is done yet
pub loop-task-init : goal.loop-task-init
loop-task-init c = record {
  grows = grows_not c.args.p.now c.args.found.now;
  kept = λ rule place of none. All-nil (KeepsThere c.args.p.now rule place);
}

-- one task more
pub loop-task-preserved : goal.loop-task-preserved
loop-task-preserved c = record {
  grows = grows_then c.args.p.now c.args.found.now c.loop-task.found c.note_task.new.found c.loop-task.invariant.grows
      c.in_ok-note_task.ensures.grows;
  kept = λ rule place of none.
      one_more (KeepsThere c.args.p.now rule place) c.as_slice-task-items.result.now c.loop-task.task-index c.task-item.result
      c.loop-task-test.true c.task-item.is
      (c.loop-task.invariant.kept rule place of (c.in_ok-note_task.ensures.grows.keeps rule place none))
      (c.in_ok-note_task.ensures.kept rule place of none);
}

-- all tasks
pub returns-clause-kept : goal.returns-clause-kept
returns-clause-kept c = λ rule place of none.
    let p : Program = c.args.p.now in
    let items : c.as_slice-task-items.result.now ≡ p.tasks = c.as_slice-task-items.ensures ∙ ap (λ (q : Program). q.tasks) c.p.view_is in
    subst (λ (xs : List Decl). All (KeepsThere p rule place) xs) items
    (whole (KeepsThere p rule place) c.as_slice-task-items.result.now c.loop-task.task-index c.loop-task-test.false
    (c.loop-task.invariant.kept rule place of none))
