use Rattle.std.proofs.Common.{◌≡◌, ◌+◌, ◌++◌, drop}
use Rattle.twe_explore.specs.Texts.{result_parts}
use Rattle.twe_explore.proofs.text.push_results.Given as goal

-- the results so far, with those that are left
abbrev pub invariant-loop-answer : goal.invariant-loop-answer
invariant-loop-answer l = record {
  counted : l.number ≡ l.answer-index + 1;
  written : l.text ++ result_parts l.number (drop l.answer-index l.answers) ≡ l.fn.text ++ result_parts 1 l.answers;
}
