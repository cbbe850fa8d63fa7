use Rattle.std.proofs.Common.{◌∙◌, ℕ, List, ap, sym, subst}
use Rattle.std.proofs.lemmas.List.Elements.{All-contains_itself, All-nil}
use Rattle.std.specs.List.{All}
use Rattle.effect_check.specs.declared.act.Act.{Act}
use Rattle.effect_check.specs.Acts.{acts_in_all}
use Rattle.refusal_causes.specs.inner.Keeping.{IsDone}
use Rattle.refusal_causes.specs.inner.Listed.{KeepsGroup, makes_of}
use Rattle.refusal_causes.proofs.Entries.{grows_not, grows_then}
use Rattle.refusal_causes.proofs.Loops.{at_item, one_more, whole}
use Rattle.refusal_causes.proofs.group.note_group.Goals as goal

-- the facts and the spawns are the task's
pub note_in_group-requires-clause-group : goal.note_in_group-requires-clause-group
note_in_group-requires-clause-group c = record {
  facts = c.in_ok-points.ensures.exact;
  are = c.as_slice-makes.ensures ∙ c.in_ok-made.ensures ∙ ap (makes_of c.in_ok-points.points.first) c.requires.all;
}

-- the act is one of the task's
pub note_in_group-requires-clause-done : goal.note_in_group-requires-clause-done
note_in_group-requires-clause-done c =
    at_item (IsDone c.args.p.now c.args.task.now) c.args.acts.now c.loop-act.act-index c.act-item.result c.loop-act-test.true c.act-item.is
    (subst (λ (xs : List Act). All (IsDone c.args.p.now c.args.task.now) xs) (sym c.requires.all)
    (All-contains_itself (acts_in_all c.args.p.now c.args.task.now.body.block)))

-- nothing is done yet
pub loop-act-init : goal.loop-act-init
loop-act-init c = record {
  grows = grows_not c.args.p.now c.args.found.now;
  kept = λ rule place none. All-nil (KeepsGroup c.args.p.now c.args.task.now c.args.first rule place);
}

-- one act more
pub loop-act-preserved : goal.loop-act-preserved
loop-act-preserved c = record {
  grows = grows_then c.args.p.now c.args.found.now c.loop-act.found c.note_in_group.new.found c.loop-act.invariant.grows
      c.in_ok-note_in_group.ensures.grows;
  kept = λ rule place none.
      one_more (KeepsGroup c.args.p.now c.args.task.now c.args.first rule place) c.args.acts.now c.loop-act.act-index c.act-item.result
      c.loop-act-test.true c.act-item.is
      (c.loop-act.invariant.kept rule place (c.in_ok-note_in_group.ensures.grows.keeps rule place none))
      (subst (λ (n : ℕ). KeepsGroup c.args.p.now c.args.task.now n rule place c.act-item.result) c.in_ok-points.ensures.first
      (c.in_ok-note_in_group.ensures.kept rule place none));
}

-- all acts
pub returns-clause-kept : goal.returns-clause-kept
returns-clause-kept c = λ rule place none.
    whole (KeepsGroup c.args.p.now c.args.task.now c.args.first rule place) c.args.acts.now c.loop-act.act-index c.loop-act-test.false
    (c.loop-act.invariant.kept rule place none)
