-- Spawned tasks that bar an effect.
use Rattle.std.specs.Prelude.{◌≡◌, ℕ, Bool, true, IsTrue, List, Contains}
use Rattle.twe_base.specs.declared.place.Place.{Place}
use Rattle.effect_sets.specs.declared.effects.Effect.{Effect}
use Rattle.effect_sets.specs.declared.effects.Summary.{Summary}
use Rattle.effect_sets.specs.Interference.{statically_interferes}
use Rattle.twe_program.specs.declared.program.Body.{Body}
use Rattle.twe_program.specs.declared.program.Decl.{Decl}
use Rattle.twe_program.specs.Program.{Program}
use Rattle.cover_flow.specs.Out.{MayBeOut}
use Rattle.refusal_causes.specs.declared.barring.Pair.{Pair}
use Rattle.refusal_causes.specs.declared.barring.SpawnBar.{SpawnBar}
use Rattle.effect_sets.specs.Covers.{covers}
use Rattle.refusal_causes.specs.declared.cause.RuleCause.{RuleCause}
use Rattle.refusal_causes.specs.declared.cause.RuleCause.TheVariants.{Undeclared, Out, NotOut, OutAgain, OrderOpen, NotDeterministic}
use Rattle.refusal_causes.specs.Causes.{IsBarred, IsWayIf}

-- one of these effects is needed, the spawned task has the other, and they interfere
pub record IsPair (needs : List Effect) (effects : Summary) (pair : Pair) : Type 0 where
  pub needed : Contains needs pair.need
  pub has : Contains effects.effects pair.other
  pub interferes : IsTrue (statically_interferes pair.need pair.other)

-- the future, whose task has these effects, may be out at the point, and so it bars one that is needed
pub record IsFutureBar (ways : Bool) (body : Body) (point : ℕ) (needs : List Effect) (future : ℕ) (effects : Summary)
    (future_place : Place) (bar : SpawnBar) : Type 0 where
  pub out : MayBeOut body point future
  pub shown : IsWayIf ways body point future true bar.way
  pub pair : IsPair needs effects (record { need = bar.need; other = bar.other })
  pub place : bar.future_place ≡ future_place

-- a spawned task bars one of these effects at the point
abbrev pub IsSpawnBar : Program → Bool → Decl → ℕ → List Effect → SpawnBar → Type 0
IsSpawnBar p ways task point needs bar =
    Contains needs bar.need × IsBarred p ways task point bar.need bar.other bar.future_place bar.way

-- of the effects that the declaration needs at the point, one is not declared, or a spawned task bars it
abbrev pub IsLack : Program → Bool → Decl → ℕ → List Effect → RuleCause → Type 0
IsLack p ways decl point needs (Undeclared need declared decl_place) =
    (declared ≡ decl.summary) × (decl_place ≡ decl.place) × Contains needs need × (¬ IsTrue (covers decl.summary need))
IsLack p ways decl point needs (Out need other future_place way decl_place) =
    (decl_place ≡ decl.place) × Contains needs need × IsBarred p ways decl point need other future_place way
IsLack p ways decl point needs (NotOut future_place way) = ⊥
IsLack p ways decl point needs (OutAgain way) = ⊥
IsLack p ways decl point needs (OrderOpen makes decl_place) = ⊥
IsLack p ways decl point needs (NotDeterministic decl_place) = ⊥
