use Rattle.std.proofs.Common.{◌≡◌, List, map, sym, subst}
use Rattle.std.proofs.lemmas.Result.{IfOk-weaker, IfErr-weaker}
use Rattle.effect_sets.specs.declared.effects.Summary.{Summary}
use Rattle.effect_infer.specs.needs.Choices.{NoMethodFails, NoRuleFails, with_summaries}
use Rattle.effect_infer.specs.Table.{AreFew, IsFirstLong}
use Rattle.effect_infer.specs.Inferred.{summary_of, AreLeast, AreCoveredByAll, InferHasCause}
use Rattle.effect_infer.proofs.Results.{are-least, accepted, stays, covered-by-all, too-many, made-few}
use Rattle.effect_infer.proofs.least.infer.Goals as goal

pub returns-clause-least : goal.returns-clause-least
returns-clause-least c =
    made-few (AreLeast c.args.p.now) c.in_ok-table.table c.summaries.result c.summaries.ensures.made c.summaries.ensures.few (are-least c.args.p.now c.in_ok-table.table c.in_ok-table.ensures.widest)

pub returns-clause-accepted : goal.returns-clause-accepted
returns-clause-accepted c =
    made-few (λ needs. NoMethodFails (with_summaries needs c.args.p.now)) c.in_ok-table.table c.summaries.result c.summaries.ensures.made c.summaries.ensures.few
    (accepted c.args.p.now c.in_ok-table.table c.in_ok-table.ensures.widest)

pub returns-clause-stays : goal.returns-clause-stays
returns-clause-stays c =
    made-few (λ needs. NoRuleFails c.args.p.now → NoRuleFails (with_summaries needs c.args.p.now)) c.in_ok-table.table c.summaries.result c.summaries.ensures.made c.summaries.ensures.few
    (λ few. stays c.args.p.now c.in_ok-table.table c.in_ok-table.ensures.widest few c.in_ok-table.ensures.well_formed)

pub returns-clause-covered : goal.returns-clause-covered
returns-clause-covered c =
    made-few (AreCoveredByAll c.args.p.now) c.in_ok-table.table c.summaries.result c.summaries.ensures.made c.summaries.ensures.few
    (covered-by-all c.args.p.now c.in_ok-table.table c.in_ok-table.ensures.widest)

pub returns-clause-refused : goal.returns-clause-refused
returns-clause-refused c =
    IfErr-weaker c.summaries.result (IsFirstLong c.in_ok-table.table) (InferHasCause c.args.p.now) (too-many c.args.p.now c.in_ok-table.table c.in_ok-table.ensures.widest) c.summaries.ensures.many
