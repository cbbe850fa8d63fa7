use Rattle.std.proofs.Common.{◌<◌, ◌++◌, ℕ, List, Option, Some, sym, ap, ◌∙◌, subst}
use Rattle.std.specs.List.{filter}
use Rattle.held_span.specs.Rivals.{EffectList, is_rival}
use Rattle.held_span.proofs.Climbing.{IsClimbed, climb-begins, climb-ends, climb-goes, climbs, steps_left}
use Rattle.held_span.proofs.placed.Placed.rivals_from.Goals as goal

pub climbing-init : goal.climbing-init
climbing-init c =
    subst (λ (found : List ℕ). IsClimbed c.args.self.now c.args.effect.now c.args.node (Some c.args.node) found) (sym c.new-rivals.ensures)
    (climb-begins c.args.self.now c.requires.placed c.args.effect.now c.args.node c.requires.there)

pub parent-at-requires : goal.parent-at-requires
parent-at-requires c = c.climbing.invariant.there c.in-Some.n c.in-Some.is

pub climbing-preserved : goal.climbing-preserved
climbing-preserved c =
    let placed = c.args.self.now in
    let effect = c.args.effect.now in
    climb-goes placed c.requires.placed effect c.args.node c.in-Some.n c.climbing.at c.parent-at.result c.climbing.rivals c.push_rivals.new.rivals c.climbing.invariant c.in-Some.is
    c.parent-at.ensures.parent c.parent-at.ensures.root
    (c.in_ok-push_rivals.ensures
    ∙ (ap (λ (effects : EffectList). c.climbing.rivals ++ filter (is_rival effects effect) c.row_of.result.now) c.as_slice-effects.ensures
    ∙ ap (λ (numbers : List ℕ). c.climbing.rivals ++ filter (is_rival placed.effects effect) numbers) c.row_of.ensures))

pub climbing-smaller : goal.climbing-smaller
climbing-smaller c =
    let shape = c.args.self.now.shape in
    subst (λ (at : Option ℕ). steps_left shape c.parent-at.result < steps_left shape at) (sym c.in-Some.is)
    (climbs shape c.in-Some.n c.parent-at.result c.parent-at.ensures.parent)

pub returns : goal.returns
returns c = climb-ends c.args.self.now c.requires.placed c.args.effect.now c.args.node c.climbing.at c.climbing.rivals c.in_default.is c.climbing.invariant
