-- The effects of spawned tasks lie within those of the tasks that spawned them.
use Rattle.std.specs.Prelude.{◌≡◌, ◌≤◌, ℕ, Any, Contains, List, Some, length, take}
use Rattle.effect_sets.specs.declared.effects.Effect.{Effect}
use Rattle.effect_sets.specs.Covers.{EffectWithin}
use Rattle.seg_journal.specs.declared.journal.Entry.{Entry}
use Rattle.twe_base.specs.Limits.{Bounds}
use Rattle.twe_program.specs.Program.{Program}
use Rattle.machine_state.specs.declared.state.State.{State}
use Rattle.machine_state.specs.declared.state.TaskRow.{TaskRow}
use Rattle.machine_state.specs.Rows.{IsRow}
use Rattle.machine_state.specs.Runs.{state_after}

-- each effect of the first task lies within one of the second, which writes if it writes
abbrev pub EffectsWithin : TaskRow → TaskRow → Type 0
EffectsWithin inner outer = (e : Effect) → Contains inner.effects.effects e → Any (λ d. EffectWithin d e) outer.effects.effects

-- the effects of each spawned task lie within those of its parent
abbrev pub SpawnedWithin : State → Type 0
SpawnedWithin st =
    (t q : ℕ) (child parent : TaskRow) → IsRow st t child → IsRow st q parent → child.parent ≡ Some q → EffectsWithin child parent

-- so it is after each beginning of the journal
abbrev pub AlwaysWithin : Program → Bounds → List Entry → Type 0
AlwaysWithin p lim journal = (n : ℕ) → n ≤ length journal → SpawnedWithin (state_after p lim (take n journal))
