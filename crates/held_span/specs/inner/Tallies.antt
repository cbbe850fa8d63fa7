-- What is known of the pairs that were counted so far.
use Rattle.std.specs.Prelude.{◌≡◌, ◌<◌, ◌≤◌, ◌+◌, ◌-◌, ◌*◌, ◌^◌, ℕ, List, Some, unwrap_or}
use Rattle.std.specs.declared.cmp.Ordering.{Ordering}
use Rattle.std.specs.Ordering.{nat_cmp, ordering_then}
use Rattle.std.specs.BTreeMap as tree
use Rattle.held_span.specs.MostHeld.{pair_total}
use Rattle.held_span.specs.declared.pair.DeclaredEffect.{DeclaredEffect}
use Rattle.held_span.specs.declared.pair.EffectPair.{EffectPair}
use Rattle.held_span.specs.declared.pair.HeldPair.{HeldPair}
use Rattle.held_span.specs.declared.hold.Hold.{Hold}
use Rattle.machine_state.specs.declared.state.TaskRow.{TaskRow}
use Rattle.held_span.specs.declared.tally.HoldTally.{HoldTally}

-- by the declaration, and then by the number of the effect
abbrev pub effect_cmp : DeclaredEffect → DeclaredEffect → Ordering
effect_cmp a b = ordering_then (nat_cmp a.decl b.decl) (nat_cmp a.effect b.effect)

-- by the effect of the holder, and then by that of the held task
abbrev pub pair_cmp : EffectPair → EffectPair → Ordering
pair_cmp a b = ordering_then (effect_cmp a.holder b.holder) (effect_cmp a.held b.held)

-- a pair that has held no task
abbrev pub never_held : EffectPair → HeldPair
never_held pair = record { pair = pair; admissions = 0; time = 0 }

-- the pair with one hold more, of this time
abbrev pub with_hold : HeldPair → ℕ → HeldPair
with_hold total time = record { pair = total.pair; admissions = total.admissions + 1; time = total.time + time }

-- how often and how long the pair has held tasks, as far as they were counted
abbrev pub counted_at : HoldTally → EffectPair → HeldPair
counted_at tally pair = unwrap_or (tree.get pair_cmp tally.pairs pair) (never_held pair)

-- The pairs are in order, each pair has its total over these holds, and those that are there have held some task.
pub record IsTally (rows : List TaskRow) (holds : List Hold) (tally : HoldTally) : Type 0 where
  pub ordered : tree.IsOrdered pair_cmp tally.pairs
  pub each : (pair : EffectPair) → counted_at tally pair ≡ pair_total rows holds pair
  pub some : (pair : EffectPair) (total : HeldPair) → tree.get pair_cmp tally.pairs pair ≡ Some total → 0 < total.admissions

-- the greatest time of a hold
abbrev pub longest : ℕ
longest = 2 ^ 64 - 1

-- no pair has more than so many holds, each no longer than a hold can be
pub record IsSmall (holds : ℕ) (tally : HoldTally) : Type 0 where
  pub few : (pair : EffectPair) → (counted_at tally pair).admissions ≤ holds
  pub short : (pair : EffectPair) → (counted_at tally pair).time ≤ holds * longest

-- one hold more can be counted
pub record CanCount (tally : HoldTally) : Type 0 where
  pub holds : ℕ
  pub small : IsSmall holds tally
  pub room : holds < 2 ^ 64 - 1

-- a hold of this time was added to the pair
pub record HasMore (old new : HoldTally) (pair : EffectPair) (time : ℕ) : Type 0 where
  pub ordered : tree.IsOrdered pair_cmp new.pairs
  pub added : tree.Updates pair_cmp old.pairs new.pairs pair (Some (with_hold (counted_at old pair) time))
