use Rattle.std.proofs.Common.{◌≡◌, ℕ, List, length, take, sym, subst, arith}
use Rattle.held_span.specs.Rivals.{AreNumbersOf}
use Rattle.held_span.proofs.Longer.{filled-at, numbers-all, numbers-more}
use Rattle.held_span.proofs.gathered.numbers_of.Goals as goal

pub loop-effect-init : goal.loop-effect-init
loop-effect-init c = record {
  placed = c.requires.placed;
  numbers = subst (λ (numbers : List ℕ). AreNumbersOf c.args.placed.now.effects numbers (take 0 c.args.effects.now)) (sym c.new-numbers.ensures) tt;
  kept = λ n other h. h;
}

pub number_of-requires-clause-filled : goal.number_of-requires-clause-filled
number_of-requires-clause-filled c = filled-at c.args.effects.now c.loop-effect.effect-index c.effect-item.result c.requires.filled c.loop-effect-test.true c.effect-item.is

pub loop-effect-preserved : goal.loop-effect-preserved
loop-effect-preserved c = record {
  placed = c.in_ok-number_of.ensures.placed;
  numbers =
      numbers-more c.loop-effect.placed.effects c.number_of.new.self.effects c.in_ok-number_of.ensures.kept c.loop-effect.numbers c.push.new.self c.args.effects.now c.loop-effect.effect-index _
      c.effect-item.result c.loop-effect-test.true c.effect-item.is c.in_ok-push.ensures.ok c.loop-effect.invariant.numbers c.in_ok-number_of.ensures.number;
  kept = λ n other h. c.in_ok-number_of.ensures.kept n other (c.loop-effect.invariant.kept n other h);
}

pub returns-clause-numbers : goal.returns-clause-numbers
returns-clause-numbers c =
    let all : c.loop-effect.effect-index ≡ length c.args.effects.now = omega arith in
    numbers-all c.loop-effect.placed.effects c.loop-effect.numbers c.args.effects.now c.loop-effect.effect-index all c.loop-effect.invariant.numbers
