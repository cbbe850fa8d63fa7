use Rattle.std.proofs.Common.{◌≡◌, ◌+◌, List, ℕ, get_or, take, refl, sym, ap, ◌∙◌, subst, arith}
use Rattle.std.proofs.lemmas.List.{take_all, get_or_default}
use Rattle.effect_infer.specs.declared.found.FoundNeed.{FoundNeed}
use Rattle.effect_infer.specs.Covered.{SummaryGrows, IsHandedBy}
use Rattle.effect_infer.proofs.Growth.{grows-none, none-taken, places-more, places-skip}
use Rattle.effect_infer.proofs.spread.hand_to_all.Goals.{in-Some+in_ok-hand_on, in_default}
use Rattle.effect_infer.proofs.spread.hand_to_all.Goals as goal

pub loop-place-init : goal.loop-place-init
loop-place-init c =
    grows-none c.args.all.now (IsHandedBy c.args.calls.now (take 0 c.args.places.now) c.args.method c.args.need.now) (λ f h. none-taken c.args.places.now h.0 h.2)

-- one place more
pub loop-place-preserved : goal.loop-place-preserved
loop-place-preserved c =
    let calls = c.args.calls.now in
    let places = c.args.places.now in
    let method = c.args.method in
    let need = c.args.need.now in
    let i = c.loop-place.place-index in
    let place : ℕ = get_or places i 0 in
    let is : get_or places i place ≡ place = get_or_default places i place 0 c.loop-place-test.true in
    let P : List FoundNeed → Type 0 = λ all. SummaryGrows c.args.all.now all (IsHandedBy calls (take (i + 1) places) method need) in
    elim c.match-get.branch [
      | in-Some+in_ok-hand_on w ↦
          subst P (sym w.all-is)
          (places-more calls places method need i place c.loop-place-test.true is c.args.all.now c.loop-place.all w.hand_on.new.all w.in-Some.call.now
          (sym w.in-Some.ensures) c.loop-place.invariant w.in_ok-hand_on.ensures)
      | in_default w ↦
          subst P (sym w.all-is)
          (places-skip calls places method need i place c.loop-place-test.true is c.args.all.now c.loop-place.all (sym w.in_default.ensures) c.loop-place.invariant)
    ]

pub returns : goal.returns
returns c =
    subst (λ xs. SummaryGrows c.args.all.now c.loop-place.all (IsHandedBy c.args.calls.now xs c.args.method c.args.need.now)) (take_all c.loop-place.place-index c.args.places.now c.loop-place-test.false)
    c.loop-place.invariant
