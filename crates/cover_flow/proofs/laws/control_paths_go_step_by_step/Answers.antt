use Rattle.std.proofs.Common.{[], inl, inr}
use Rattle.cover_flow.specs.ControlPath.{end_of}
use Rattle.cover_flow.proofs.Stepping.{path-steps}
use Rattle.cover_flow.proofs.SteppingBack.{steps-back}
use Rattle.cover_flow.proofs.laws.control_paths_go_step_by_step.Goals as goal

pub returns : goal.returns
returns c = λ body to path. (
  λ comes. let found = path-steps body to path comes in (found.1.0, found.0, found.1.1, found.2),
  λ steps. elim (steps-back (end_of body) to path steps.0 body.block [] steps.1 steps.2 steps.3) [
    | inl comes ↦ inl comes
    | inr through ↦ inr through
  ],
)
