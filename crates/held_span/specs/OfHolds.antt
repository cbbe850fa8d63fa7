-- The declared effects for which a hold counts.
use Rattle.std.specs.Prelude.{◌≡◌, List, Some, map, slice_get}
use Rattle.region_paths.specs.declared.elements.Elem.TheVariants.{Index}
use Rattle.effect_sets.specs.declared.effects.Effect.{Effect}
use Rattle.effect_sets.specs.Filled.{fill_effect}
use Rattle.effect_sets.specs.Interference.{Interferes}
use Rattle.twe_program.specs.declared.program.Decl.{Decl}
use Rattle.twe_program.specs.Program.{Program}
use Rattle.machine_state.specs.declared.state.TaskRow.{TaskRow}
use Rattle.held_span.specs.declared.pair.DeclaredEffect.{DeclaredEffect}
use Rattle.held_span.specs.declared.pair.EffectPair.{EffectPair}
use Rattle.held_span.specs.declared.hold.Hold.{Hold}

-- the declaration of the task has an effect of this number, and filled with the task's arguments that is this effect
pub record IsDeclared (p : Program) (row : TaskRow) (its : DeclaredEffect) (effect : Effect) : Type 0 where
  pub decl_is : its.decl ≡ row.decl
  pub decl : Decl
  pub at_decl : slice_get p.tasks its.decl ≡ Some decl
  pub declared : Effect
  pub at_effect : slice_get decl.summary.effects its.effect ≡ Some declared
  pub filled : effect ≡ fill_effect (map (λ value. Index value) row.args) declared

-- the pair is of two declared effects that interfere, filled with the arguments of the two tasks
pub record IsOfHold (p : Program) (rows : List TaskRow) (hold : Hold) (pair : EffectPair) : Type 0 where
  pub holder : TaskRow
  pub held : TaskRow
  pub at_holder : slice_get rows hold.holder ≡ Some holder
  pub at_held : slice_get rows hold.task ≡ Some held
  pub effect : Effect
  pub other : Effect
  pub of_holder : IsDeclared p holder pair.holder effect
  pub of_held : IsDeclared p held pair.held other
  pub interfere : Interferes effect other
