use Rattle.std.proofs.Common.{List, sym, subst}
use Rattle.std.proofs.lemmas.Result.{IfOk-weaker}
use Rattle.effect_sets.specs.declared.effects.Summary.{Summary}
use Rattle.effect_infer.specs.needs.Choices.{NoMethodFails, NoRuleFails, with_summaries}
use Rattle.effect_infer.specs.Inferred.{AreEachLeast, AreCoveredByAll}
use Rattle.effect_infer.proofs.Results.{accepted, stays, covered-by-all}
use Rattle.effect_infer.proofs.Each.{each-least, made-each}
use Rattle.effect_infer.proofs.least.infer_each.Goals as goal

pub returns-clause-least : goal.returns-clause-least
returns-clause-least c =
    IfOk-weaker c.each_summary.result _ _ (λ each is. subst (AreEachLeast c.args.p.now) (sym is) (each-least c.args.p.now c.in_ok-table.table c.in_ok-table.ensures.widest)) c.each_summary.ensures

pub returns-clause-accepted : goal.returns-clause-accepted
returns-clause-accepted c =
    IfOk-weaker c.each_summary.result _ _
    (λ each is all full. made-each (λ (its : List Summary). NoMethodFails (with_summaries its c.args.p.now)) c.in_ok-table.table each all is full
    (accepted c.args.p.now c.in_ok-table.table c.in_ok-table.ensures.widest)) c.each_summary.ensures

pub returns-clause-stays : goal.returns-clause-stays
returns-clause-stays c =
    IfOk-weaker c.each_summary.result _ _
    (λ each is all full. made-each (λ (its : List Summary). NoRuleFails c.args.p.now → NoRuleFails (with_summaries its c.args.p.now)) c.in_ok-table.table each all is full
    (λ few. stays c.args.p.now c.in_ok-table.table c.in_ok-table.ensures.widest few c.in_ok-table.ensures.well_formed)) c.each_summary.ensures

pub returns-clause-covered : goal.returns-clause-covered
returns-clause-covered c =
    IfOk-weaker c.each_summary.result _ _
    (λ each is all full. made-each (AreCoveredByAll c.args.p.now) c.in_ok-table.table each all is full (covered-by-all c.args.p.now c.in_ok-table.table c.in_ok-table.ensures.widest))
    c.each_summary.ensures
