use Rattle.std.proofs.Common.{List, ◌∙◌, subst}
use Rattle.std.specs.List.{Contains}
use Rattle.effect_sets.specs.declared.effects.Effect.{Effect}
use Rattle.summary_comparing.proofs.Ordered.{ordered-among}
use Rattle.summary_comparing.proofs.explaining.explain_effects.Goals as goal

-- the body needs each of them
pub chains_of-requires-clause-needed : goal.chains_of-requires-clause-needed
chains_of-requires-clause-needed c = λ e has.
    c.requires.few_needed.among e (ordered-among c.args.needed.now e
    (subst (λ (es : List Effect). Contains es e) (c.as_slice-needed.ensures.value ∙ c.in_ok-needed.ensures) has))

-- a child declares each of them
pub spawn_places-requires : goal.spawn_places-requires
spawn_places-requires c = λ e has.
    c.requires.few_spawned.among e (ordered-among c.args.spawned.now e
    (subst (λ (es : List Effect). Contains es e) (c.as_slice-spawned.ensures.value ∙ c.in_ok-spawned.ensures) has))
