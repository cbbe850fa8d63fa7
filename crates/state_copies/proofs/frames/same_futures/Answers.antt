use Rattle.std.proofs.Common.{◌≡◌, ℕ, Option, None, Some, refl, ap}
use Rattle.std.specs.Bool.{Decides}
use Rattle.std.specs.Option.{option_eq}
use Rattle.std.specs.Prelude.{◌==◌}
use Rattle.std.proofs.lemmas.Bool.Decides.{Decides-eqb, Decides-like}
use Rattle.std.proofs.lemmas.Slice.Eq.{slice_eq-Decides}
use Rattle.state_copies.proofs.frames.same_futures.Goals as goal

futures_decide : (a b : Option ℕ) → Decides (option_eq (λ (x y : ℕ). x == y) a b) (a ≡ b)
futures_decide None None = (λ yes. refl, λ same. refl)
futures_decide None (Some y) = (λ yes. absurd (cc (yes)), λ same. absurd (cc (same)))
futures_decide (Some x) None = (λ yes. absurd (cc (yes)), λ same. absurd (cc (same)))
futures_decide (Some x) (Some y) = Decides-like _ (λ same. ap (λ (n : ℕ). Some n) same) (λ same. cc (same)) (Decides-eqb x y)

pub returns : goal.returns
returns c = slice_eq-Decides futures_decide _ _ _ c.eq.ensures
