-- How often and how long each pair of declared effects held tasks, and the pairs that held most.
use Rattle.std.specs.Prelude.{◌≡◌, ◌<◌, ◌≤◌, ◌⊎◌, ◌==◌, ◌&&◌, ℕ, Bool, false, List, Option, None, Some, All, AllPairs, Contains, count_by, length, sum_by, if◌then◌else◌}
use Rattle.held_span.specs.Pairs.{pair_of}
use Rattle.held_span.specs.declared.pair.DeclaredEffect.{DeclaredEffect}
use Rattle.held_span.specs.declared.pair.EffectPair.{EffectPair}
use Rattle.held_span.specs.declared.pair.HeldPair.{HeldPair}
use Rattle.held_span.specs.declared.hold.Hold.{Hold}
use Rattle.machine_state.specs.declared.state.TaskRow.{TaskRow}

-- whether these are the same declared effect
abbrev pub is_same_effect : DeclaredEffect → DeclaredEffect → Bool
is_same_effect a b = a.decl == b.decl && a.effect == b.effect

-- whether a pair that was looked up is this one
abbrev pub is_pair : EffectPair → Option EffectPair → Bool
is_pair pair None = false
is_pair pair (Some other) = is_same_effect pair.holder other.holder && is_same_effect pair.held other.held

-- whether the hold counts for the pair, if the tasks have these rows
abbrev pub counts_for : List TaskRow → EffectPair → Hold → Bool
counts_for rows pair hold = is_pair pair (pair_of rows hold)

-- how long the pair held the task in this hold, which is 0 if the hold counts for another
abbrev pub time_for : List TaskRow → EffectPair → Hold → ℕ
time_for rows pair hold = if counts_for rows pair hold then hold.time else 0

-- how often and how long the pair held tasks
abbrev pub pair_total : List TaskRow → List Hold → EffectPair → HeldPair
pair_total rows holds pair = record {
  pair = pair;
  admissions = count_by (counts_for rows pair) holds;
  time = sum_by (time_for rows pair) holds;
}

-- a pair that held some task, and how often and how long it held tasks
pub record HasHeld (rows : List TaskRow) (holds : List Hold) (total : HeldPair) : Type 0 where
  pub some : 0 < total.admissions
  pub total_is : total ≡ pair_total rows holds total.pair

-- the first effect is declared before the second
abbrev pub IsDeclaredBefore : DeclaredEffect → DeclaredEffect → Type 0
IsDeclaredBefore a b = (a.decl < b.decl) ⊎ ((a.decl ≡ b.decl) × (a.effect < b.effect))

-- the effects of the first pair are declared before those of the second, the one of the holder being looked at first
abbrev pub IsLower : EffectPair → EffectPair → Type 0
IsLower a b = IsDeclaredBefore a.holder b.holder ⊎ ((a.holder ≡ b.holder) × IsDeclaredBefore a.held b.held)

-- the first pair has held for longer than the second, or for as long and is lower
abbrev pub HeldMore : HeldPair → HeldPair → Type 0
HeldMore a b = (b.time < a.time) ⊎ ((a.time ≡ b.time) × IsLower a.pair b.pair)

-- These are the pairs that held most, at most three, the one that held most first. A pair is left out only if there are three
-- that held more.
pub record HeldMost (rows : List TaskRow) (holds : List Hold) (pairs : List HeldPair) : Type 0 where
  pub few : length pairs ≤ 3
  pub each : All (HasHeld rows holds) pairs
  pub ordered : AllPairs HeldMore pairs
  pub others : (other : HeldPair) → HasHeld rows holds other
      → Contains pairs other ⊎ ((length pairs ≡ 3) × All (λ pair. HeldMore pair other) pairs)
