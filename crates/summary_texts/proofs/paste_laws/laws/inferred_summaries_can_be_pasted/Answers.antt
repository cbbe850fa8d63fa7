use Rattle.summary_texts.proofs.paste_laws.Whole.{least-printed, least-meant, least-accepted}
use Rattle.summary_texts.proofs.paste_laws.laws.inferred_summaries_can_be_pasted.Goals as goal

pub returns-clause-printed : goal.returns-clause-printed
returns-clause-printed c text p meaning summaries written least can = least-printed text p meaning summaries written least can

pub returns-clause-meant : goal.returns-clause-meant
returns-clause-meant c text other p its meaning summaries written least can parsed alike = least-meant text p meaning summaries written least can other its parsed alike

pub returns-clause-accepted : goal.returns-clause-accepted
returns-clause-accepted c text other p its meaning summaries written least can parsed alike passes =
    least-accepted text p meaning summaries written least can other its parsed alike passes
