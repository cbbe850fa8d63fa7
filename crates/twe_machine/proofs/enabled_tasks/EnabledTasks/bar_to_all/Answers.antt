use Rattle.std.proofs.Common.{◌≡◌, ℕ, Some, inl, inr, sym, ◌∙◌, subst, arith}
use Rattle.std.specs.Prelude.{slice_get}
use Rattle.std.proofs.lemmas.Bool.{cases_lt}
use Rattle.std.proofs.lemmas.Option.{get_or_from_slice_get, slice_get_within}
use Rattle.effect_sets.specs.declared.effects.Effect.{Effect}
use Rattle.effect_sets.specs.Interference.{Interferes}
use Rattle.twe_machine.proofs.enabled_tasks.EnabledTasks.bar_to_all.Goals as goal

pub loop-effect-init : goal.loop-effect-init
loop-effect-init c = λ k s f e low. absurd (omega (arith, low))

pub loop-effect-preserved : goal.loop-effect-preserved
loop-effect-preserved c = λ k s f e low at entered int.
    let loop = c.loop-effect in
    elim (cases_lt k loop.effect-index) [
      | inl less ↦ loop.invariant k s f e less at entered int
      | inr high ↦
          let is : k ≡ loop.effect-index = omega (arith, low, high) in
          let own = get_or_from_slice_get c.args.effects.now loop.effect-index f c.effect-item.result (subst (λ (n : ℕ). slice_get c.args.effects.now n ≡ Some f) is at) in
          c.in_default.ensures.none s e entered (subst (λ (g : Effect). Interferes e g) (sym (c.effect-item.is ∙ own)) int)
    ]

pub returns-clause-none : goal.returns-clause-none
returns-clause-none c = λ s e f entered has int.
    let within = slice_get_within c.args.effects.now has.0 f has.1 in
    c.loop-effect.invariant has.0 s f e (omega (arith, within)) has.1 entered int
