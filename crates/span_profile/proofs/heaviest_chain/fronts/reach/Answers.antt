use Rattle.std.proofs.Common.{List, Option, ap, ◌∙◌}
use Rattle.span_profile.specs.declared.heaviest_chain.top.Top.{Top}
use Rattle.span_profile.specs.heaviest_chain.inner.Fronts.{top_in}
use Rattle.span_profile.proofs.heaviest_chain.FrontLemmas.{top_in_more}
use Rattle.span_profile.proofs.heaviest_chain.fronts.reach.Goals as goal

-- a number more without a node
pub reaching-preserved : goal.reaching-preserved
reaching-preserved c = λ n. ap (λ (tops : List (Option Top)). top_in tops n) c.in_ok-push.ensures.ok ∙ (top_in_more c.reaching.tops n ∙ c.reaching.invariant n)
