use Rattle.std.proofs.Common.{Bool, Option, ap, sym, ◌∙◌, get_or, take}
use Rattle.std.specs.List.{list_any}
use Rattle.std.proofs.lemmas.List.Folds.{list_any_more}
use Rattle.span_profile.specs.declared.heaviest_chain.key.Key.TheVariants.{Task}
use Rattle.span_profile.specs.declared.heaviest_chain.top.Top.{Top}
use Rattle.span_profile.specs.heaviest_chain.BestChains.{key_eq}
use Rattle.span_profile.specs.heaviest_chain.inner.Fronts.{front_after, front_at}
use Rattle.span_profile.proofs.heaviest_chain.FrontLemmas.{given_more}
use Rattle.span_profile.proofs.heaviest_chain.fronts.Fronts.give_all.Goals as goal

-- a key more
pub loop-key-preserved : goal.loop-key-preserved
loop-key-preserved c = λ k.
    let so_far = list_any (key_eq k) (take c.loop-key.key-index c.args.keys.now) in
    let old = front_at c.args.self.now k in
    let key = get_or c.args.keys.now c.loop-key.key-index (Task 0) in
    let more = list_any_more (key_eq k) c.args.keys.now c.loop-key.key-index (Task 0) c.loop-key-test.true in
    c.in_ok-give.ensures k
    ∙ (ap (λ (before : Option Top). front_after (key_eq k key) before c.args.top) (c.loop-key.invariant k)
    ∙ (given_more old c.args.top so_far (key_eq k key) ∙ ap (λ (given : Bool). front_after given old c.args.top) (sym more)))
