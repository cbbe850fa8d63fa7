use Rattle.std.proofs.Common.{◌≡◌, false, take}
use Rattle.std.specs.List.{All}
use Rattle.twe_base.specs.declared.place.Place.{Place}
use Rattle.effect_check.specs.declared.rule.ERule.{ERule}
use Rattle.refusal_causes.specs.Seeking.{is_of_methods}
use Rattle.refusal_causes.specs.inner.Found.{Grows, IsUnlisted}
use Rattle.refusal_causes.specs.inner.Keeping.{KeepsThere}
use Rattle.refusal_causes.proofs.listing.note_tasks.Given as goal

-- what is found stays, and no task so far fails what is not listed
abbrev pub invariant-loop-task : goal.invariant-loop-task
invariant-loop-task l = record {
  grows : Grows l.p l.fn.found l.found;
  kept : (rule : ERule) (place : Place) → is_of_methods rule ≡ false → IsUnlisted l.found rule place
      → All (KeepsThere l.p rule place) (take l.task-index l.task-items);
}
