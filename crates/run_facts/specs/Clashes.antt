-- The effects for which one task holds another.
use Rattle.std.specs.Prelude.{ℕ, List, [], ◌∷◌, Option, None, Some, if◌then◌else◌, slice_get}
use Rattle.std.specs.List.{list_any}
use Rattle.effect_sets.specs.declared.effects.Effect.{Effect}
use Rattle.effect_sets.specs.Interference.{statically_interferes}
use Rattle.machine_state.specs.declared.state.State.{State}
use Rattle.machine_state.specs.declared.state.TaskRow.{TaskRow}

-- the first of these effects that interferes with one of the others
abbrev pub first_clashing : List Effect → List Effect → Option Effect
first_clashing [] others = None
first_clashing (effect ∷ effects) others =
    if list_any (λ other. statically_interferes effect other) others then Some effect else first_clashing effects others

-- the effects of a task that was looked up
abbrev pub effects_of_row : Option TaskRow → List Effect
effects_of_row None = []
effects_of_row (Some row) = row.effects.effects

-- the effects of a task
abbrev pub effects_of_task : State → ℕ → List Effect
effects_of_task st task = effects_of_row (slice_get st.tasks task)
