-- Each step of the chain goes to a task with a higher number, to which the first one and those that were passed over are led.
use Rattle.std.proofs.Common.{◌≤◌, ℕ, [], refl, subst, ◌∙◌, inl, inr, arith}
use Rattle.floor_laws.specs.admission.admission_core.States.{IsAmong}
use Rattle.wait_graph.specs.Chain.{none}
use Rattle.floor_laws.specs.table.nodes.Chains.{starts}
use Rattle.tree_admit.proofs.Alone.{followed_alone, leads_on}
use Rattle.tree_admit.proofs.Following.{followed_refl, followed_trans, follows_only, led_further}
use Rattle.tree_admit.proofs.Chained.{chain_ended, chain_longer}
use Rattle.tree_admit.proofs.Learning.{led_kept}
use Rattle.tree_admit.proofs.PassedOver.{arrived_all, walked_on}
use Rattle.tree_admit.proofs.chains.follow_past.Goals as goal

pub returns-in_default-clause-end : goal.returns-in_default-clause-end
returns-in_default-clause-end g c =
    let only = follows_only g.N.Named.lim c.loop-at.stand.me c.loop-at.at c.status.result c.status.new.stand.me c.status.ensures.found in
    (led_kept c.loop-at.stand.me.0 c.status.new.stand.me.0 c.args.from c.loop-at.at only.learned c.loop-at.invariant.led, c.loop-at.invariant.other)

pub returns-in_default-clause-followed : goal.returns-in_default-clause-followed
returns-in_default-clause-followed g c low =
    let chain = c.loop-at.invariant.chain low in
    chain_ended g.N.Named.lim c.args.stand.now.me.0.looks c.loop-at.stand.me c.status.new.stand.me c.args.from c.loop-at.at c.status.result chain.0 chain.1 chain.2 c.status.ensures.found
    (λ u is. c.in_default.not-Waits u is)

pub returns-clause-end : goal.returns-clause-end
returns-clause-end g c = (c.loop-at.invariant.led, c.loop-at.invariant.other)

pub returns-clause-followed : goal.returns-clause-followed
returns-clause-followed g c low =
    let here = (c.loop-at.invariant.chain low).3 in
    absurd (omega (arith, here, c.requires.tasks, c.loop-at-test.false))

pub returns-in_default-clause-alone : goal.returns-in_default-clause-alone
returns-in_default-clause-alone g c low =
    followed_alone g.N.Named.prog g.N.Named.lim c.args.from c.args.to c.loop-at.at c.status.result c.args.stand.now.me c.loop-at.stand.me c.loop-at.invariant.only c.status.ensures.alone c.loop-at.invariant.other
    (λ u is. c.in_default.not-Waits u is) c.loop-at.invariant.alone

pub returns-clause-alone : goal.returns-clause-alone
returns-clause-alone g c low =
    let here = (c.loop-at.invariant.chain low).3 in
    absurd (omega (arith, here, c.requires.tasks, c.loop-at-test.false))

pub returns-in_default-clause-only : goal.returns-in_default-clause-only
returns-in_default-clause-only g c =
    followed_trans c.args.stand.now.me c.loop-at.stand.me c.status.new.stand.me c.loop-at.invariant.only
    (follows_only g.N.Named.lim c.loop-at.stand.me c.loop-at.at c.status.result c.status.new.stand.me c.status.ensures.found)

pub returns-then-on-to-clause-known : goal.returns-then-on-to-clause-known
returns-then-on-to-clause-known g c =
    let before = c.loop-at.stand.me in
    let after = c.status.new.stand.me in
    subst (λ (t : ℕ). IsAmong (record { waiter = c.args.from; awaited = t }) after.0.waits) c.if-on-to.true
    (led_further g.N.Named.lim before c.args.from c.loop-at.at c.in-Waits.on after c.loop-at.invariant.led c.in-Waits.ensures.found)

pub returns-then-on-to-clause-passed : goal.returns-then-on-to-clause-passed
returns-then-on-to-clause-passed g c =
    let to = c.args.to in
    let e = c.args.effect.now in
    let content = c.args.content.now in
    let on = c.in-Waits.on in
    let after = c.status.new.stand.me in
    let rest = c.pass_over-rest.result in
    let left = c.args.left in
    let fewer : rest ≤ left = omega (arith, c.pass_over-rest.ensures.fewer, c.loop-at.invariant.fewer) in
    let passed = walked_on g.N.Named.lim c.loop-at.stand.me c.loop-at.at on after to e content rest c.loop-at.rest left
    c.in-Waits.ensures.found c.pass_over-rest.ensures.passed c.loop-at.invariant.passed in
    (fewer, arrived_all after.0 to e on content rest left c.if-on-to.true passed)

pub returns-then-on-to-clause-led : goal.returns-then-on-to-clause-led
returns-then-on-to-clause-led g c = λ s known.
    let after = c.status.new.stand.me in
    subst (λ (t : ℕ). IsAmong (record { waiter = s; awaited = t }) after.0.waits) c.if-on-to.true
    (led_further g.N.Named.lim c.loop-at.stand.me s c.loop-at.at c.in-Waits.on after (c.loop-at.invariant.further s known) c.in-Waits.ensures.found)

pub returns-then-on-to-clause-only : goal.returns-then-on-to-clause-only
returns-then-on-to-clause-only g c =
    followed_trans c.args.stand.now.me c.loop-at.stand.me c.status.new.stand.me c.loop-at.invariant.only
    (follows_only g.N.Named.lim c.loop-at.stand.me c.loop-at.at c.status.result c.status.new.stand.me c.status.ensures.found)

pub loop-at-preserved : goal.loop-at-preserved
loop-at-preserved g c =
    let lim = g.N.Named.lim in
    let before = c.loop-at.stand.me in
    let at = c.loop-at.at in
    let on = c.in-Waits.on in
    let after = c.status.new.stand.me in
    record {
      chain = λ low.
          let chain = c.loop-at.invariant.chain low in
          chain_longer lim c.args.stand.now.me.0.looks before after c.args.from at on chain.0 chain.1 chain.2 c.in-Waits.ensures.found;
      other = c.if-on-to.false;
      alone = λ st alone turns.
          leads_on g.N.Named.prog lim c.args.from c.args.to at c.status.result c.args.stand.now.me before c.loop-at.invariant.only c.status.ensures.alone c.loop-at.invariant.other st alone turns on c.in-Waits.is
          (c.loop-at.invariant.alone st alone turns);
      led = inr (led_further lim before c.args.from at on after c.loop-at.invariant.led c.in-Waits.ensures.found);
      further = λ s known. inr (led_further lim before s at on after (c.loop-at.invariant.further s known) c.in-Waits.ensures.found);
      fewer = omega (arith, c.pass_over-rest.ensures.fewer, c.loop-at.invariant.fewer);
      passed = walked_on lim before at on after c.args.to c.args.effect.now c.args.content.now c.pass_over-rest.result c.loop-at.rest c.args.left
          c.in-Waits.ensures.found c.pass_over-rest.ensures.passed c.loop-at.invariant.passed;
      only = followed_trans c.args.stand.now.me before after c.loop-at.invariant.only
          (follows_only lim before at c.status.result after c.status.ensures.found);
      here = c.status.ensures.same.0 ∙ c.loop-at.invariant.here;
      id = c.status.ensures.same.1 ∙ c.loop-at.invariant.id;
    }

pub loop-at-init : goal.loop-at-init
loop-at-init g c = record {
  chain = λ low. ([], refl, starts, low);
  other = c.requires.other;
  alone = λ st alone turns. inl none;
  led = inl refl;
  further = λ s known. inr known;
  fewer = omega arith;
  passed = λ k r first last at. absurd (omega (arith, first, last));
  only = followed_refl c.args.stand.now.me;
  here = refl;
  id = refl;
}
