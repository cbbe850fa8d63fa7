use Rattle.std.proofs.Common.{◌≡◌, Some}
use Rattle.std.specs.Prelude.{slice_get}
use Rattle.all_runs.specs.declared.found.FoundRun.{FoundRun}
use Rattle.all_runs.specs.Explored.{AreFound}
use Rattle.all_runs.specs.inner.Growing.{Grows}
use Rattle.all_runs.proofs.Growing.{AdmittedBelow}
use Rattle.all_runs.proofs.exploring.Exploration.take_admissions.Given as goal

-- the admissions of the tasks before this one were taken
abbrev pub invariant-loop-task : goal.invariant-loop-task
invariant-loop-task l = record {
  found : AreFound l.p l.lim l.self.going l.self.ended;
  grows : Grows l.fn.self.going l.fn.self.ended l.self.going l.self.ended;
  taken : (run : FoundRun) → slice_get l.fn.self.going l.at ≡ Some run → AdmittedBelow l.p l.lim l.self.going l.self.ended run.state l.task;
}
