use Rattle.std.proofs.Common.{◌≡◌, ◌++◌, drop}
use Rattle.effect_infer.specs.Gathered.{starts_of, calls_of}
use Rattle.effect_infer.proofs.gather.add_steps.Given as goal

-- what is gathered so far and from what is left is what all give
abbrev pub invariant-loop-step : goal.invariant-loop-step
invariant-loop-step l = record {
  starts : l.gathered.starts ++ starts_of l.method l.params (drop l.step-index l.steps) ≡ l.fn.gathered.starts ++ starts_of l.method l.params l.steps;
  calls : l.gathered.calls ++ calls_of l.method l.params (drop l.step-index l.steps) ≡ l.fn.gathered.calls ++ calls_of l.method l.params l.steps;
}
