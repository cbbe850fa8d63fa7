-- For each method its widest needs, or too many of them.
use Rattle.std.specs.Prelude.{◌≡◌, ◌<◌, ◌≤◌, ℕ, nat_lt, List, Option, None, Some, length, Contains, IsTrue, if◌then◌else◌}
use Rattle.twe_base.specs.Language.{max_effects}
use Rattle.effect_sets.specs.declared.effects.Summary.{Summary}
use Rattle.twe_program.specs.Program.{Program}
use Rattle.effect_infer.specs.declared.needs.need.Need.{Need}
use Rattle.effect_infer.specs.needs.Needs.{IsNeed, IsWidest}
use Rattle.effect_infer.specs.declared.fail.InferFail.{InferFail}
use Rattle.effect_infer.specs.declared.fail.InferFail.TheVariants.{TooMany, OutOfMemory}
use Rattle.effect_infer.specs.Kept.{AreDistinct, some_cover}
use Rattle.effect_infer.specs.Rows.{row}
use Rattle.effect_infer.specs.Inferred.{summary_of}

-- no method has more than 8 needs in the table
abbrev pub AreFew : List (List Need) → Type 0
AreFew table = (m : ℕ) → length (row table m) ≤ max_effects

-- the first method that has more
abbrev pub IsFirstLong : List (List Need) → InferFail → Type 0
IsFirstLong table (TooMany method) =
    (method < length table) × (max_effects < length (row table method))
    × ((m : ℕ) → m < method → length (row table m) ≤ max_effects)
IsFirstLong table (OutOfMemory memory) = Unit {0}

-- the summary that these needs make, if there are at most 8
abbrev pub few_summary_of : List Need → Option Summary
few_summary_of needs = if nat_lt max_effects (length needs) then None else Some (summary_of needs)

-- the needs of each method are widest ones, each once, and cover all of its needs if there are at most 8
pub record IsWidestTable (p : Program) (table : List (List Need)) : Type 0 where
  pub long : length table ≡ length p.methods
  pub only : (m : ℕ) (need : Need) → Contains (row table m) need → IsWidest p m need
  pub once : (m : ℕ) → AreDistinct (row table m)
  pub covered : (m : ℕ) (need : Need) → length (row table m) ≤ max_effects
      → IsNeed p m need → IsTrue (some_cover (row table m) need)
