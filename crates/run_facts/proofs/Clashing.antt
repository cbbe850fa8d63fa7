-- Where the first clashing effect stands.
use Rattle.std.proofs.Common.{◌≡◌, ◌<◌, ℕ, zero, suc, Bool, true, false, List, [], ◌∷◌, Some, length, drop, get_or, ap, subst, arith}
use Rattle.std.specs.Prelude.{if◌then◌else◌}
use Rattle.std.specs.List.{list_any}
use Rattle.effect_sets.specs.declared.effects.Effect.{Effect}
use Rattle.effect_sets.specs.Interference.{statically_interferes}
use Rattle.run_facts.specs.Clashes.{first_clashing}

-- the effect interferes with one of the others
abbrev pub with_some : Effect → List Effect → Bool
with_some effect others = list_any (λ other. statically_interferes effect other) others

-- the effect at i does
pub clashes_here : (effects others : List Effect) (i : ℕ) (effect : Effect) → i < length effects → effect ≡ get_or effects i effect → with_some effect others ≡ true
    → first_clashing (drop i effects) others ≡ Some effect
clashes_here [] others i effect below is does = absurd (omega (arith, below))
clashes_here (first ∷ effects) others zero effect below is does =
    subst (λ (e : Effect). first_clashing (e ∷ effects) others ≡ Some effect) is
    (ap (λ (b : Bool). if b then Some effect else first_clashing effects others) does)
clashes_here (first ∷ effects) others (suc i) effect below is does = clashes_here effects others i effect (omega (arith, below)) is does

-- the effect at i does never
pub clashes_later : (effects others : List Effect) (i : ℕ) (effect : Effect) → i < length effects → effect ≡ get_or effects i effect → with_some effect others ≡ false
    → first_clashing (drop i effects) others ≡ first_clashing (drop (suc i) effects) others
clashes_later [] others i effect below is never = absurd (omega (arith, below))
clashes_later (first ∷ effects) others zero effect below is never =
    subst (λ (e : Effect). first_clashing (e ∷ effects) others ≡ first_clashing effects others) is
    (ap (λ (b : Bool). if b then Some effect else first_clashing effects others) never)
clashes_later (first ∷ effects) others (suc i) effect below is never = clashes_later effects others i effect (omega (arith, below)) is never
