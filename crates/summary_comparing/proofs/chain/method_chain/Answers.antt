use Rattle.summary_comparing.proofs.Compared.{when-none}
use Rattle.summary_comparing.proofs.chain.method_chain.Goals as goal

-- it is the need of no body
pub returns-in-None-clause-none : goal.returns-in-None-clause-none
returns-in-None-clause-none c = λ need is. absurd (when-none _ c.in_ok-need_of.field-0 c.in-None.is c.in_ok-need_of.ensures.none need is)
