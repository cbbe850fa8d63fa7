use Rattle.std.proofs.Common.{◌≡◌, length, sym, ap, subst}
use Rattle.std.proofs.lemmas.Result.{on_ok_weaker}
use Rattle.effect_infer.specs.declared.needs.need.Need.{Need}
use Rattle.effect_infer.specs.declared.found.FoundNeed.{FoundNeed}
use Rattle.effect_infer.specs.Covered.{HandsOnBefore, SummaryGrows}
use Rattle.effect_infer.proofs.Finding.{before-grown, start-met, start-spreads}
use Rattle.effect_infer.proofs.spread.start.Goals as goal

-- what was handed on before it was added
pub hand_on_from-requires-clause-before : goal.hand_on_from-requires-clause-before
hand_on_from-requires-clause-before c =
    let grows = c.in_ok-add.ensures in
    subst (λ k. HandsOnBefore (length c.args.callers.now) c.args.calls.now k c.add.new.all) (sym c.len-from.ensures)
    (before-grown (length c.args.callers.now) c.args.calls.now c.args.all.now c.add.new.all grows.longer.0 grows.longer.1 c.requires.before)

pub returns-clause-spreads : goal.returns-clause-spreads
returns-clause-spreads c =
    let found = c.args.found.now in
    let is : record { method = found.method; need = c.in_ok-need.need } ≡ found =
    ap (λ (n : Need). let f : FoundNeed = record { method = found.method; need = n } in f) c.in_ok-need.ensures in
    on_ok_weaker c.hand_on_from.result (λ spreads.
    start-spreads (length c.args.callers.now) c.args.calls.now c.args.all.now c.add.new.all c.hand_on_from.new.all found
    (subst (λ (g : FoundNeed). SummaryGrows c.args.all.now c.add.new.all (λ f. f ≡ g)) is c.in_ok-add.ensures) spreads)
    c.hand_on_from.ensures

pub returns-clause-met : goal.returns-clause-met
returns-clause-met c =
    let found = c.args.found.now in
    let is : record { method = found.method; need = c.in_ok-need.need } ≡ found =
    ap (λ (n : Need). let f : FoundNeed = record { method = found.method; need = n } in f) c.in_ok-need.ensures in
    on_ok_weaker c.hand_on_from.result (λ spreads.
    start-met (length c.args.callers.now) c.args.calls.now c.args.all.now c.add.new.all c.hand_on_from.new.all found
    (subst (λ (g : FoundNeed). SummaryGrows c.args.all.now c.add.new.all (λ f. f ≡ g)) is c.in_ok-add.ensures) spreads)
    c.hand_on_from.ensures
