use Rattle.std.proofs.Common.{◌≡◌, ◌++◌, List, take}
use Rattle.floor_laws.specs.admission.admission_core.States.{Record}
use Rattle.task_floor.specs.inner.Recording.{AreRecordsOf}
use Rattle.task_floor.proofs.recording.add_effects.Given as goal

-- behind the records that were there are those of the first effects
abbrev pub invariant-loop-effect : goal.invariant-loop-effect
invariant-loop-effect l = (more : List Record) × (l.records ≡ l.initial.records ++ more) × AreRecordsOf l.shape l.t (take l.effect-index l.effects) more
