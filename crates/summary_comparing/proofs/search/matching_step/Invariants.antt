use Rattle.std.proofs.Common.{◌≡◌, ◌<◌, ℕ, false, Some}
use Rattle.std.specs.Prelude.{slice_get}
use Rattle.effect_infer.specs.declared.needs.need.Need.{Need}
use Rattle.effect_infer.specs.declared.needs.need.BodyStep.TheVariants.{Touch}
use Rattle.summary_comparing.specs.inner.Standing.{is_match}
use Rattle.summary_comparing.proofs.search.matching_step.Given as goal

-- none so far stands for it
abbrev pub invariant-loop-number : goal.invariant-loop-number
invariant-loop-number l =
    (k : ℕ) (need : Need) → k < l.number → slice_get l.steps k ≡ Some (Touch need) → is_match l.values need l.target ≡ false
