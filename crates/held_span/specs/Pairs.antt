-- Which pair of declared effects a hold counts for. A task may hold another for several pairs of their effects: the hold counts
-- for the first effect of the holder that interferes with one of the held task, and for the first of those. The effects of a task
-- stand in the order of its declaration, so their numbers are those of the declared ones.
use Rattle.std.specs.Prelude.{ℕ, Bool, List, Option, Some, option_and_then, position, slice_get}
use Rattle.std.specs.List.{list_any}
use Rattle.effect_sets.specs.declared.effects.Effect.{Effect}
use Rattle.effect_sets.specs.Interference.{statically_interferes}
use Rattle.held_span.specs.declared.pair.EffectPair.{EffectPair}
use Rattle.held_span.specs.declared.hold.Hold.{Hold}
use Rattle.machine_state.specs.declared.state.TaskRow.{TaskRow}

infixl 10 ◌>>=◌
-- what comes of a value that is there
abbrev pub ◌>>=◌ : {A B : Type 0} → Option A → (A → Option B) → Option B
found >>= next = option_and_then next found

-- whether the effect interferes with one of the others
abbrev pub interferes_with_one : List Effect → Effect → Bool
interferes_with_one others effect = list_any (statically_interferes effect) others

-- the number of the first effect that interferes with one of the others, and the number of the first of those
abbrev pub first_meeting : List Effect → List Effect → Option (ℕ × ℕ)
first_meeting effects others = do
  n ← position (interferes_with_one others) effects
  effect ← slice_get effects n
  m ← position (statically_interferes effect) others
  Some (n, m)

-- the pair of effects for which a task with the first row holds one with the second
abbrev pub pair_of_rows : TaskRow → TaskRow → Option EffectPair
pair_of_rows holder held = do
  numbers ← first_meeting holder.effects.effects held.effects.effects
  Some (record {
    holder = record { decl = holder.decl; effect = numbers.0 };
    held = record { decl = held.decl; effect = numbers.1 };
  })

-- the pair that a hold counts for, if the tasks have these rows
abbrev pub pair_of : List TaskRow → Hold → Option EffectPair
pair_of rows hold = do
  holder ← slice_get rows hold.holder
  held ← slice_get rows hold.task
  pair_of_rows holder held
