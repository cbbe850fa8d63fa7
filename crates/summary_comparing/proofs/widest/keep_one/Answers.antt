use Rattle.std.proofs.Common.{◌≡◌, ◌∷◌, [], ◌++◌, List, get_or, sym, ap, ◌∙◌, subst}
use Rattle.effect_sets.specs.declared.effects.Effect.{Effect}
use Rattle.summary_comparing.specs.Widest.{not_under}
use Rattle.summary_comparing.specs.inner.Keeping.{IsTopAmong, KeepsWidest}
use Rattle.summary_comparing.proofs.Keeping.{keeps-one}
use Rattle.summary_comparing.proofs.widest.keep_one.Goals as goal

-- one widest effect more
pub returns-clause-keeps : goal.returns-clause-keeps
returns-clause-keeps c =
    let effects = c.args.effects.now in
    let kept = c.args.kept.now in
    let left = c.args.left.now in
    let place = c.top_place-place.result in
    let top = c.index-left-place.result in
    let is : top ≡ get_or left place top = c.index-left-place.is in
    let above = subst (IsTopAmong left) (sym is) (c.top_place-place.ensures.top top) in
    let keeps = keeps-one effects kept left c.requires.keeps top (place, c.top_place-place.ensures.inside, sym is) above in
    subst (λ (es : List Effect). KeepsWidest effects c.push.new.self es) (sym (c.in_ok-others.ensures ∙ ap (not_under left) c.in_ok-top.ensures))
    (subst (λ (es : List Effect). KeepsWidest effects es (not_under left top))
    (sym (c.in_ok-push.ensures.ok ∙ ap (λ (t : Effect). kept ++ t ∷ []) c.in_ok-top.ensures)) keeps)
