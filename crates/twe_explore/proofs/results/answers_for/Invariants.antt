use Rattle.std.proofs.Common.{◌≡◌, ℕ, Some, length}
use Rattle.std.specs.Prelude.{slice_get}
use Rattle.flat_sched.specs.declared.ending.WholeRun.{WholeRun}
use Rattle.twe_io.specs.declared.answer.Answer.{Answer}
use Rattle.twe_explore.specs.Answers.{AnswersFor}
use Rattle.twe_explore.proofs.results.answers_for.Given as goal

-- the runs so far have their answers
abbrev pub invariant-loop-run : goal.invariant-loop-run
invariant-loop-run l = record {
  count : length l.answers ≡ l.run-index;
  each : (at : ℕ) (run : WholeRun) (answer : Answer) → slice_get l.runs at ≡ Some run → slice_get l.answers at ≡ Some answer
      → AnswersFor l.p l.lim run answer;
}
