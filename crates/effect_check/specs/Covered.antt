-- When an effect is covered at a point of a body.
use Rattle.std.specs.Prelude.{ℕ, Bool, true, IsTrue, Contains}
use Rattle.twe_base.specs.declared.place.Place.{Place}
use Rattle.effect_sets.specs.declared.effects.Effect.{Effect}
use Rattle.effect_sets.specs.declared.effects.Summary.{Summary}
use Rattle.effect_sets.specs.Covers.{covers}
use Rattle.effect_sets.specs.Interference.{statically_interferes}
use Rattle.twe_program.specs.declared.program.Decl.{Decl}
use Rattle.twe_program.specs.Program.{Program}
use Rattle.cover_flow.specs.Out.{MayBeOut}
use Rattle.effect_check.specs.declared.act.ActKind.{ActKind}
use Rattle.effect_check.specs.declared.act.ActKind.TheVariants.{Make}
use Rattle.effect_check.specs.Acts.{acts_in_all}

-- the body of the declaration does this at the point
abbrev pub Does : Program → Decl → ℕ → ActKind → Type 0
Does p decl point kind = Contains (acts_in_all p decl.body.block) (record { point = point; kind = kind })

-- the effect is inside one that is declared, which writes if it writes, and interferes with no effect of a future that
-- may be out at the point
pub record CoveredAt (p : Program) (decl : Decl) (point : ℕ) (effect : Effect) : Type 0 where
  pub declared : IsTrue (covers decl.summary effect)
  pub free : (at future : ℕ) (deterministic : Bool) (effects : Summary) (future_place place : Place)
      → Does p decl at (Make future true deterministic effects future_place place) → MayBeOut decl.body point future
      → (other : Effect) → Contains effects.effects other → ¬ IsTrue (statically_interferes effect other)
