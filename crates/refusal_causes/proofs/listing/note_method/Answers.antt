use Rattle.std.proofs.Common.{◌∙◌, List, sym, subst}
use Rattle.std.specs.List.{All}
use Rattle.std.proofs.lemmas.List.Elements.{All-contains_itself, All-nil}
use Rattle.effect_check.specs.declared.act.Act.{Act}
use Rattle.effect_check.specs.declared.rule.ERule.TheVariants.{E8}
use Rattle.effect_check.specs.Acts.{acts_in_all}
use Rattle.refusal_causes.specs.inner.Keeping.{IsDone, IsKept}
use Rattle.refusal_causes.proofs.Entries.{grows_not, grows_then}
use Rattle.refusal_causes.proofs.Loops.{at_item, one_more, whole}
use Rattle.refusal_causes.proofs.listing.note_method.Goals as goal

-- the act is one of the method's
pub note_undeclared-requires-clause-done : goal.note_undeclared-requires-clause-done
note_undeclared-requires-clause-done c =
    at_item (IsDone c.args.p.now c.args.method.now) c.as_slice-act-items.result.now c.loop-act.act-index c.act-item.result c.loop-act-test.true
    c.act-item.is
    (subst (λ (xs : List Act). All (IsDone c.args.p.now c.args.method.now) xs) (sym (c.as_slice-act-items.ensures ∙ c.in_ok-done.ensures))
    (All-contains_itself (acts_in_all c.args.p.now c.args.method.now.body.block)))

-- nothing is done yet
pub loop-act-init : goal.loop-act-init
loop-act-init c = record {
  grows = grows_not c.args.p.now c.args.found.now;
  kept = λ place none. All-nil (IsKept c.args.p.now E8 place c.args.method.now);
}

-- one act more
pub loop-act-preserved : goal.loop-act-preserved
loop-act-preserved c = record {
  grows = grows_then c.args.p.now c.args.found.now c.loop-act.found c.note_undeclared.new.found c.loop-act.invariant.grows
      c.in_ok-note_undeclared.ensures.grows;
  kept = λ place none.
      one_more (IsKept c.args.p.now E8 place c.args.method.now) c.as_slice-act-items.result.now c.loop-act.act-index c.act-item.result
      c.loop-act-test.true c.act-item.is
      (c.loop-act.invariant.kept place (c.in_ok-note_undeclared.ensures.grows.keeps E8 place none))
      (c.in_ok-note_undeclared.ensures.kept E8 place none);
}

-- all acts
pub returns-clause-kept : goal.returns-clause-kept
returns-clause-kept c = λ place none.
    subst (λ (xs : List Act). All (IsKept c.args.p.now E8 place c.args.method.now) xs) (c.as_slice-act-items.ensures ∙ c.in_ok-done.ensures)
    (whole (IsKept c.args.p.now E8 place c.args.method.now) c.as_slice-act-items.result.now c.loop-act.act-index c.loop-act-test.false
    (c.loop-act.invariant.kept place none))
