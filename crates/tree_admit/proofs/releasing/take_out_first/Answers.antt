-- Each errand takes a record out.
use Rattle.std.proofs.Common.{◌≡◌, ◌∙◌, ℕ, subst, arith}
use Rattle.tree_admit.specs.Attempts.{HasTakenOutFirst}
use Rattle.tree_admit.proofs.Attempts.{taken_more}
use Rattle.tree_admit.proofs.releasing.take_out_first.Goals as goal

pub loop-number-preserved : goal.loop-number-preserved
loop-number-preserved g c =
    let out = c.take_out_effect.ensures.out in
    record {
      out = taken_more g.N.Planted.nodes c.args.task c.args.effects.now c.requires.tree c.loop-number.number c.args.stand.now.me c.loop-number.stand.me c.take_out_effect.new.stand.me
          out.0 c.loop-number.invariant.out out.1 out.2;
      same = (c.take_out_effect.ensures.same.0 ∙ c.loop-number.invariant.same.0, c.take_out_effect.ensures.same.1 ∙ c.loop-number.invariant.same.1);
    }

pub returns-clause-out : goal.returns-clause-out
returns-clause-out g c =
    let most = c.loop-number.auto.number-end in
    let past = c.loop-number-test.false in
    let all : c.loop-number.number ≡ c.args.count = omega (arith, most, past) in
    subst (λ (k : ℕ). HasTakenOutFirst g.N.Planted.nodes c.args.task c.args.effects.now k c.args.stand.now.me c.loop-number.stand.me) all c.loop-number.invariant.out
