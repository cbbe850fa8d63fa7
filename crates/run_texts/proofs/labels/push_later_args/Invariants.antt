use Rattle.std.proofs.Common.{◌≡◌, ◌++◌, take}
use Rattle.run_texts.specs.TaskLabels.{later_args}
use Rattle.run_texts.proofs.labels.push_later_args.Given as goal

-- the arguments up to here were written
abbrev pub invariant-loop-arg : goal.invariant-loop-arg
invariant-loop-arg l = l.text ≡ l.fn.text ++ later_args (take l.arg-index l.args)
