use Rattle.std.proofs.Common.{◌∙◌, ap, List, subst, sym, take}
use Rattle.std.proofs.lemmas.Result.{IfOk-weaker}
use Rattle.held_span.specs.MostHeld.{HeldMost}
use Rattle.held_span.specs.inner.Ranks.{ranked}
use Rattle.held_span.specs.declared.pair.HeldPair.{HeldPair}
use Rattle.held_span.proofs.Most.{held_most}
use Rattle.held_span.proofs.most_held.held_pairs.Goals as goal

pub returns : goal.returns
returns c =
    IfOk-weaker c.first_three.result _ (HeldMost c.args.tasks.now c.args.holds.now)
    (λ most is. subst (HeldMost c.args.tasks.now c.args.holds.now)
    (sym (is ∙ ap (λ (pairs : List HeldPair). take 3 (ranked pairs)) (c.as_slice.ensures.value ∙ c.in_ok-pairs.ensures)))
    (held_most c.args.tasks.now c.args.holds.now c.in_ok-tally.tally c.in_ok-tally.ensures))
    c.first_three.ensures
