-- Passing over records while waits are followed.
use Rattle.std.specs.Prelude.{◌≡◌, ◌⊎◌, ◌==◌, ◌≤◌, ◌<◌, ◌||◌, ℕ, Bool, true, not, List, Some, slice_get}
use Rattle.effect_sets.specs.declared.effects.Effect.{Effect}
use Rattle.effect_sets.specs.Interference.{statically_interferes}
use Rattle.floor_laws.specs.admission.admission_core.States.{IsAmong, Record}
use Rattle.floor_laws.specs.rule.nodes.Trees.{WaitFact}

-- the record is of task t, or its effect is apart from effect e, so it passes whatever is known of waits
abbrev pub is_at_ease : ℕ → Effect → Record → Bool
is_at_ease t e r = (r.task == t) || not (statically_interferes r.effect e)

-- the record is at ease, or its task is known to wait for t
abbrev pub EaseOrWaits : List WaitFact → ℕ → Effect → Record → Type 0
EaseOrWaits waits t e r = (is_at_ease t e r ≡ true) ⊎ IsAmong (record { waiter = r.task; awaited = t }) waits

-- the record is of task t, or its task is known to wait for t
abbrev pub OwnOrWaits : List WaitFact → ℕ → Record → Type 0
OwnOrWaits waits t r = (r.task ≡ t) ⊎ IsAmong (record { waiter = r.task; awaited = t }) waits

-- the record is of task t, or its effect may interfere with effect e
abbrev pub is_own_or_meets : ℕ → Effect → Record → Bool
is_own_or_meets t e r = (r.task == t) || statically_interferes r.effect e

-- the record is at ease, or of task u
abbrev pub is_passed_over : ℕ → Effect → ℕ → Record → Bool
is_passed_over t e u r = (r.task == u) || is_at_ease t e r

-- the records of a content from one index on and before another have this property
abbrev pub EachBetween : (Record → Type 0) → List Record → ℕ → ℕ → Type 0
EachBetween P content first end = (k : ℕ) (r : Record) → first ≤ k → k < end → slice_get content k ≡ Some r → P r
