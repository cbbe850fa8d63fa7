use Rattle.std.proofs.Common.{◌≡◌, List, inl, inr, sym, subst}
use Rattle.std.proofs.lemmas.Result.{on_ok_weaker}
use Rattle.effect_infer.specs.declared.found.FoundNeed.{FoundNeed}
use Rattle.effect_infer.specs.Covered.{SummaryGrows, IsMet}
use Rattle.effect_infer.proofs.Growth.{grows-same, grows-push}
use Rattle.effect_infer.proofs.add.add.Goals as goal

-- one that was found covers it
pub returns-then-is_covered_at : goal.returns-then-is_covered_at
returns-then-is_covered_at c =
    grows-same c.args.all.now (λ f. f ≡ c.args.found) (λ f e. subst (IsMet c.args.all.now) (sym e) (inl (c.is_covered_at.ensures c.if-is_covered_at.true)))

-- there is no room for it
pub returns-then-crowded : goal.returns-then-crowded
returns-then-crowded c =
    grows-same c.args.all.now (λ f. f ≡ c.args.found) (λ f e. subst (IsMet c.args.all.now) (sym e) (inr (c.in_ok-crowded.ensures c.if-crowded.true)))

-- it is added
pub returns : goal.returns
returns c =
    on_ok_weaker c.push.result (λ is. subst (λ (all : List FoundNeed). SummaryGrows c.args.all.now all (λ f. f ≡ c.args.found)) (sym is) (grows-push c.args.all.now c.args.found))
    c.push.ensures.ok
