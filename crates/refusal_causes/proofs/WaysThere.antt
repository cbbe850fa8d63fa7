-- Where a future may be out, or is not surely out, there is a way that shows it.
use Rattle.std.proofs.Common.{ℕ, true, false, inl, inr}
use Rattle.twe_program.specs.declared.program.Body.{Body}
use Rattle.cover_flow.specs.Out.{out_after, MayBeOut, SurelyOut}
use Rattle.cover_flow.proofs.FactLaws.{both}
use Rattle.refusal_causes.specs.Ways.{IsOnNone}

pub may_show : (body : Body) (point future : ℕ) → MayBeOut body point future → ¬ IsOnNone body point future true
may_show body point future some none = none some.0 some.1 some.2

pub not_surely_show : (body : Body) (point future : ℕ) → (¬ SurelyOut body point future) → ¬ IsOnNone body point future false
not_surely_show body point future not none =
    not (λ path comes. elim (both (out_after future path)) [ inl out ↦ out | inr in_again ↦ absurd (none path comes in_again) ])
