use Rattle.std.proofs.Common.{take}
use Rattle.std.specs.List.{All}
use Rattle.twe_base.specs.declared.place.Place.{Place}
use Rattle.effect_check.specs.declared.act.Act.{Act}
use Rattle.effect_check.specs.declared.rule.ERule.{ERule}
use Rattle.refusal_causes.specs.inner.Found.{Grows, IsUnlisted}
use Rattle.refusal_causes.specs.inner.Listed.{KeepsAlone}
use Rattle.refusal_causes.proofs.alone.note_all_alone.Given as goal

-- what is found stays, and by no act so far the task fails what is not listed
abbrev pub invariant-loop-act : goal.invariant-loop-act
invariant-loop-act l = record {
  grows : Grows l.p l.fn.found l.found;
  kept : (rule : ERule) (place : Place) → IsUnlisted l.found rule place
      → All (λ (act : Act). KeepsAlone rule place l.task act.kind) (take l.act-index l.acts);
}
