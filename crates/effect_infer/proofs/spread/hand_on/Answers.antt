use Rattle.std.proofs.Common.{◌≡◌, List, inl, sym, ap, ◌∙◌, subst}
use Rattle.std.proofs.lemmas.Result.{on_ok_weaker}
use Rattle.region_paths.specs.declared.elements.Elem.{Elem}
use Rattle.effect_infer.specs.declared.needs.need.Need.{Need}
use Rattle.effect_infer.specs.needs.Needs.{settled, filled_need}
use Rattle.effect_infer.specs.declared.found.FoundNeed.{FoundNeed}
use Rattle.effect_infer.specs.Covered.{SummaryGrows, IsHanded}
use Rattle.effect_infer.proofs.Growth.{grows-none, grows-as}
use Rattle.effect_infer.proofs.spread.hand_on.Goals as goal

-- the need is that of the caller
pub returns : goal.returns
returns c =
    let call = c.args.call.now in
    let need = c.args.need.now in
    let is : c.in_ok-need.need ≡ settled call.params (filled_need call.args need) =
    c.in_ok-need.ensures ∙ ap (settled call.params) (c.in_ok-filled.ensures ∙ ap (λ (es : List Elem). filled_need es need) c.as_slice.ensures) in
    let found = ap (λ (n : Need). let f : FoundNeed = record { method = call.caller; need = n } in f) is in
    on_ok_weaker c.add.result (λ grows.
    grows-as c.args.all.now c.add.new.all (λ f. f ≡ record { method = call.caller; need = c.in_ok-need.need }) (IsHanded call c.args.method need) grows
    (λ f h. h.1 ∙ sym found) (λ f e. (c.if-call-method.false, e ∙ found)))
    c.add.ensures
