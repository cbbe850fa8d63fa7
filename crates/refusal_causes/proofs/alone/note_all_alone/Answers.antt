use Rattle.std.proofs.lemmas.List.Elements.{All-nil}
use Rattle.effect_check.specs.declared.act.Act.{Act}
use Rattle.refusal_causes.specs.inner.Keeping.{IsDone}
use Rattle.refusal_causes.specs.inner.Listed.{KeepsAlone}
use Rattle.refusal_causes.proofs.Entries.{grows_not, grows_then}
use Rattle.refusal_causes.proofs.Loops.{at_item, one_more, whole}
use Rattle.refusal_causes.proofs.alone.note_all_alone.Goals as goal

-- the act is one of the task's
pub note_alone-requires-clause-done : goal.note_alone-requires-clause-done
note_alone-requires-clause-done c =
    at_item (IsDone c.args.p.now c.args.task.now) c.args.acts.now c.loop-act.act-index c.act-item.result c.loop-act-test.true c.act-item.is
    c.requires.done

-- nothing is done yet
pub loop-act-init : goal.loop-act-init
loop-act-init c = record {
  grows = grows_not c.args.p.now c.args.found.now;
  kept = λ rule place none. All-nil (λ (act : Act). KeepsAlone rule place c.args.task.now act.kind);
}

-- one act more
pub loop-act-preserved : goal.loop-act-preserved
loop-act-preserved c = record {
  grows = grows_then c.args.p.now c.args.found.now c.loop-act.found c.note_alone.new.found c.loop-act.invariant.grows
      c.in_ok-note_alone.ensures.grows;
  kept = λ rule place none.
      one_more (λ (act : Act). KeepsAlone rule place c.args.task.now act.kind) c.args.acts.now c.loop-act.act-index c.act-item.result
      c.loop-act-test.true c.act-item.is
      (c.loop-act.invariant.kept rule place (c.in_ok-note_alone.ensures.grows.keeps rule place none))
      (c.in_ok-note_alone.ensures.kept rule place none);
}

-- all acts
pub returns-clause-kept : goal.returns-clause-kept
returns-clause-kept c = λ rule place none.
    whole (λ (act : Act). KeepsAlone rule place c.args.task.now act.kind) c.args.acts.now c.loop-act.act-index c.loop-act-test.false
    (c.loop-act.invariant.kept rule place none)
