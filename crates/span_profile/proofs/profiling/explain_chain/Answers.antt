use Rattle.std.proofs.Common.{◌∙◌}
use Rattle.span_profile.proofs.Explained.{explained}
use Rattle.span_profile.proofs.profiling.explain_chain.Goals as goal

pub returns-clause-steps : goal.returns-clause-steps
returns-clause-steps c = λ work span is.
    explained c.args.p.now c.args.lim c.args.moves.now c.args.chain.now c.in_ok-run.run' c.in_ok-run.ensures.tracked c.in_ok-run.ensures.moves
    (c.in_ok-run.ensures.chain ∙ c.in_ok-followed.ensures) work span is
