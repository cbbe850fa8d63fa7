use Rattle.std.proofs.Common.{sym, ◌∙◌}
use Rattle.summary_texts.proofs.PastedTree.{decl-pasted}
use Rattle.summary_texts.proofs.items.with_summary.Goals as goal

-- the clauses of the summary
pub returns-in_ok-effects : goal.returns-in_ok-effects
returns-in_ok-effects c =
    decl-pasted c.args.regions.now c.args.summary.now c.args.decl c.with_effects.result c.as_slice.result.now c.in_ok-effects.effects
    (sym c.in_ok-can_be_written.ensures ∙ c.if-branch.true) c.as_slice.ensures c.in_ok-effects.ensures c.with_effects.ensures
