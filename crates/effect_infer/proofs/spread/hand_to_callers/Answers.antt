use Rattle.std.proofs.Common.{◌≡◌, ℕ, List, [], Some, sym, ap, ◌∙◌, subst}
use Rattle.std.proofs.lemmas.Option.{get_or_from_slice_get}
use Rattle.std.proofs.lemmas.Result.{on_ok_weaker}
use Rattle.effect_infer.specs.Rows.{row}
use Rattle.effect_infer.specs.Covered.{SummaryGrows, IsHandedBy}
use Rattle.effect_infer.proofs.Growth.{grows-none, none-taken}
use Rattle.effect_infer.proofs.RowItems.{row-missing}
use Rattle.effect_infer.proofs.spread.hand_to_callers.Goals as goal

pub returns-in-None : goal.returns-in-None
returns-in-None c =
    grows-none c.args.all.now (IsHandedBy c.args.calls.now (row c.args.callers.now c.args.method) c.args.method c.args.need.now)
    (λ f h. row-missing c.args.callers.now c.args.method (sym c.in-None.ensures) h.0 h.2)

pub returns-in-Some : goal.returns-in-Some
returns-in-Some c =
    let is : row c.args.callers.now c.args.method ≡ c.as_slice.result.now =
    get_or_from_slice_get c.args.callers.now c.args.method c.in-Some.places.now [] (sym c.in-Some.ensures) ∙ sym c.as_slice.ensures in
    on_ok_weaker c.hand_to_all.result (λ grows.
    subst (λ (places : List ℕ). SummaryGrows c.args.all.now c.hand_to_all.new.all (IsHandedBy c.args.calls.now places c.args.method c.args.need.now)) (sym is) grows)
    c.hand_to_all.ensures
