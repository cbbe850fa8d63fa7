use Rattle.std.proofs.Common.{◌≡◌, ℕ, Some, inl, inr, ◌∙◌, subst, arith}
use Rattle.std.specs.Prelude.{slice_get}
use Rattle.std.proofs.lemmas.Bool.{cases_lt}
use Rattle.std.proofs.lemmas.Option.{get_or_from_slice_get, slice_get_within}
use Rattle.effect_sets.specs.declared.effects.Effect.{Effect}
use Rattle.twe_machine.specs.Books.{IsEntered}
use Rattle.twe_machine.proofs.enabled_tasks.EnabledTasks.add_all.Goals as goal

pub loop-effect-preserved : goal.loop-effect-preserved
loop-effect-preserved c =
    let loop = c.loop-effect in
    record {
      added = λ k e low at.
          elim (cases_lt k loop.effect-index) [
            | inl less ↦ c.in_ok-add.ensures.kept c.args.t e c.requires.enabled (loop.invariant.added k e less at)
            | inr high ↦
                let is : k ≡ loop.effect-index = omega (arith, low, high) in
                let own = get_or_from_slice_get c.args.effects.now loop.effect-index e c.effect-item.result (subst (λ (n : ℕ). slice_get c.args.effects.now n ≡ Some e) is at) in
                subst (λ (f : Effect). IsEntered c.add.new.self c.args.t f) (c.effect-item.is ∙ own) c.in_ok-add.ensures.added
          ];
      kept = λ s e has h. c.in_ok-add.ensures.kept s e has (loop.invariant.kept s e has h);
      decided = c.in_ok-add.ensures.decided;
    }

pub returns-clause-added : goal.returns-clause-added
returns-clause-added c = λ e has.
    let within = slice_get_within c.args.effects.now has.0 e has.1 in
    c.loop-effect.invariant.added has.0 e (omega (arith, within)) has.1
