use Rattle.std.proofs.Common.{◌∙◌, List, Option, ap}
use Rattle.std.proofs.lemmas.Result.{IfOk-weaker}
use Rattle.effect_sets.specs.declared.effects.Summary.{Summary}
use Rattle.twe_program.specs.declared.program.Decl.{Decl}
use Rattle.twe_program.specs.Program.{Program}
use Rattle.summary_comparing.specs.Counted.{AreCountedWith, counted_summaries}
use Rattle.summary_comparing.proofs.counted.summaries_of.Goals as goal

-- from the least ones
pub returns : goal.returns
returns c =
    let methods = c.as_slice-2.ensures ∙ ap (λ (q : Program). q.methods) c.p.view_is in
    IfOk-weaker c.counted_summaries.result _ (AreCountedWith c.args.p.now)
    (λ summaries is. (
      c.in_ok-least.least,
      c.in_ok-least.ensures.least,
      is ∙ ap (λ (os : List (Option Summary)). counted_summaries os c.as_slice-2.result.now) c.as_slice.ensures
          ∙ ap (λ (ds : List Decl). counted_summaries c.in_ok-least.least ds) methods,
    ))
    c.counted_summaries.ensures
