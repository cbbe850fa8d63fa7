use Rattle.std.proofs.Common.{◌≡◌, ◌∙◌, ◌≤◌, ◌*◌, ℕ, List, inl, inr, sym, subst, arith}
use Rattle.std.specs.List.{All}
use Rattle.std.proofs.lemmas.Bool.{cases_lt}
use Rattle.std.proofs.lemmas.List.Elements.{All-contains_itself}
use Rattle.effect_check.specs.declared.act.Act.{Act}
use Rattle.effect_check.specs.Acts.{acts_in_all}
use Rattle.refusal_causes.specs.inner.Keeping.{IsDone}
use Rattle.refusal_causes.specs.inner.Listed.{KeepsAlone, KeepsGroup}
use Rattle.refusal_causes.proofs.Entries.{grows_then}
use Rattle.refusal_causes.proofs.Kept.{task_kept}
use Rattle.refusal_causes.proofs.listing.note_task.Goals as goal

-- all acts are the task's
pub note_all_alone-requires-clause-done : goal.note_all_alone-requires-clause-done
note_all_alone-requires-clause-done c =
    subst (λ (xs : List Act). All (IsDone c.args.p.now c.args.task.now) xs) (sym (c.as_slice-acts.ensures ∙ c.in_ok-done.ensures))
    (All-contains_itself (acts_in_all c.args.p.now c.args.task.now.body.block))

-- no group is done yet
pub loop-group-init : goal.loop-group-init
loop-group-init c = record {
  grows = c.in_ok-note_all_alone.ensures.grows;
  alone = λ rule place none. subst (λ (xs : List Act). All (λ (act : Act). KeepsAlone rule place c.args.task.now act.kind) xs)
      (c.as_slice-acts.ensures ∙ c.in_ok-done.ensures) (c.in_ok-note_all_alone.ensures.kept rule place none);
  groups = λ rule place none g below. absurd (omega (arith, below));
}

-- one group more
pub loop-group-preserved : goal.loop-group-preserved
loop-group-preserved c =
    let keeps = c.in_ok-note_group.ensures.grows.keeps in
    record {
      grows = grows_then c.args.p.now c.args.found.now c.loop-group.found c.note_group.new.found c.loop-group.invariant.grows
          c.in_ok-note_group.ensures.grows;
      alone = λ rule place none. c.loop-group.invariant.alone rule place (keeps rule place none);
      groups = λ rule place none g below. elim (cases_lt g c.loop-group.group) [
        | inl before ↦ c.loop-group.invariant.groups rule place (keeps rule place none) g before
        | inr from ↦
            let is : c.loop-group.group ≡ g = omega (arith, below, from) in
            subst (λ (n : ℕ). All (KeepsGroup c.args.p.now c.args.task.now (n * 128) rule place) (acts_in_all c.args.p.now c.args.task.now.body.block)) is
            (subst (λ (xs : List Act). All (KeepsGroup c.args.p.now c.args.task.now (c.loop-group.group * 128) rule place) xs)
            (c.as_slice-acts.ensures ∙ c.in_ok-done.ensures) (c.in_ok-note_group.ensures.kept rule place none))
      ];
    }

-- all groups
pub returns-clause-kept : goal.returns-clause-kept
returns-clause-kept c = λ rule place of none.
    let enough : c.args.task.now.body.futures ≤ c.loop-group.group * 128 = omega arith in
    task_kept c.args.p.now c.args.task.now c.requires.fits c.loop-group.group enough rule place of
    (c.loop-group.invariant.alone rule place none) (c.loop-group.invariant.groups rule place none)
