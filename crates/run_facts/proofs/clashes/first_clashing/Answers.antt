use Rattle.std.proofs.Common.{◌≡◌, ◌+◌, ℕ, suc, drop, sym, ap, ◌∙◌, arith}
use Rattle.run_facts.specs.Clashes.{first_clashing}
use Rattle.run_facts.proofs.Clashing.{clashes_here, clashes_later}
use Rattle.run_facts.proofs.clashes.first_clashing.Goals as goal

pub returns-then-clashes : goal.returns-then-clashes
returns-then-clashes c =
    sym (clashes_here c.args.effects.now c.args.others.now c.loop-effect.effect-index c.effect-item.result c.loop-effect-test.true c.effect-item.is
    (sym c.clashes.ensures ∙ c.if-clashes.true))
    ∙ c.loop-effect.invariant

pub loop-effect-preserved : goal.loop-effect-preserved
loop-effect-preserved c =
    let i : ℕ = c.loop-effect.effect-index in
    let next : i + 1 ≡ suc i = omega arith in
    ap (λ (n : ℕ). first_clashing (drop n c.args.effects.now) c.args.others.now) next
    ∙ (sym (clashes_later c.args.effects.now c.args.others.now i c.effect-item.result c.loop-effect-test.true c.effect-item.is
    (sym c.clashes.ensures ∙ c.if-clashes.false))
    ∙ c.loop-effect.invariant)
