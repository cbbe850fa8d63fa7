use Rattle.std.proofs.Common.{◌≡◌, ◌≤◌, inl, inr, sym, subst, arith}
use Rattle.std.specs.List.{Contains}
use Rattle.std.proofs.lemmas.List.{take_all}
use Rattle.effect_infer.specs.declared.found.FoundNeed.{FoundNeed}
use Rattle.effect_infer.specs.Kept.{method_rank}
use Rattle.effect_infer.proofs.Growth.{taken-cases}
use Rattle.effect_infer.proofs.keep.top_rank.Goals as goal

-- one rank more
pub loop-found-preserved : goal.loop-found-preserved
loop-found-preserved c =
    let here = c.rank.ensures.rank in
    let first = c.higher-top.ensures.first in
    let second = c.higher-top.ensures.second in
    record {
      top = λ need there. elim (taken-cases c.args.all.now c.loop-found.found-index c.found-item.result need c.loop-found-test.true (sym c.found-item.is) there) [
        | inl before ↦ let below = c.loop-found.invariant.top need before in omega (arith, below, first)
        | inr e ↦
            let last : method_rank c.found-item.result.need ≤ c.higher-top.result = omega (arith, here, second) in
            subst (λ (f : FoundNeed). method_rank f.need ≤ c.higher-top.result) e last
      ];
      small = c.higher-top.ensures.small c.loop-found.invariant.small c.rank.ensures.small;
    }

pub returns-clause-top : goal.returns-clause-top
returns-clause-top c = λ need there.
    c.loop-found.invariant.top need (subst (λ xs. Contains xs need) (sym (take_all c.loop-found.found-index c.args.all.now c.loop-found-test.false)) there)
