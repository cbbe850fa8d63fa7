-- A record of the task itself passes, and one whose effect is apart.
use Rattle.std.proofs.Common.{sym, inl, inr, ◌∙◌}
use Rattle.tree_admit.proofs.Looking.{once_ok}
use Rattle.tree_admit.proofs.testing.record_passes.Goals as goal

pub returns-then-passes_at_once-clause-passes : goal.returns-then-passes_at_once-clause-passes
returns-then-passes_at_once-clause-passes g c = inl (sym c.passes_at_once.ensures ∙ c.if-passes_at_once.true)

pub record_leads-requires-clause-uneasy : goal.record_leads-requires-clause-uneasy
record_leads-requires-clause-uneasy g c = sym c.passes_at_once.ensures ∙ c.if-passes_at_once.false

pub returns-clause-passes : goal.returns-clause-passes
returns-clause-passes g c = once_ok _ _ c.record_leads.result (λ known. inr known) c.record_leads.ensures.known
