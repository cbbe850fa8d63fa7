use Rattle.std.proofs.Common.{ℕ, ◌<◌, ◌*◌}
use Rattle.std.specs.List.{All}
use Rattle.twe_base.specs.declared.place.Place.{Place}
use Rattle.effect_check.specs.declared.act.Act.{Act}
use Rattle.effect_check.specs.declared.rule.ERule.{ERule}
use Rattle.effect_check.specs.Acts.{acts_in_all}
use Rattle.refusal_causes.specs.inner.Found.{Grows, IsUnlisted}
use Rattle.refusal_causes.specs.inner.Listed.{KeepsAlone, KeepsGroup}
use Rattle.refusal_causes.proofs.listing.note_task.Given as goal

-- what is found stays, and apart from futures and by the groups so far the task fails nothing that is not listed
abbrev pub invariant-loop-group : goal.invariant-loop-group
invariant-loop-group l = record {
  grows : Grows l.p l.fn.found l.found;
  alone : (rule : ERule) (place : Place) → IsUnlisted l.found rule place
      → All (λ (act : Act). KeepsAlone rule place l.task act.kind) (acts_in_all l.p l.task.body.block);
  groups : (rule : ERule) (place : Place) → IsUnlisted l.found rule place → (g : ℕ) → g < l.group
      → All (KeepsGroup l.p l.task (g * 128) rule place) (acts_in_all l.p l.task.body.block);
}
