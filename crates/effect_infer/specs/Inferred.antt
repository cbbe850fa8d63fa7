-- The least summaries.
use Rattle.std.specs.Prelude.{◌≡◌, ◌<◌, ◌≤◌, ◌↔◌, ℕ, List, Option, None, Some, length, map, slice_get, Contains, IsTrue}
use Rattle.twe_base.specs.Language.{max_effects}
use Rattle.effect_sets.specs.declared.effects.Effect.{Effect}
use Rattle.effect_sets.specs.declared.effects.Summary.{Summary}
use Rattle.effect_sets.specs.Covers.{covers}
use Rattle.twe_program.specs.Program.{Program}
use Rattle.effect_infer.specs.declared.needs.need.Need.{Need}
use Rattle.effect_infer.specs.needs.Needs.{IsWidest, effect_of}
use Rattle.effect_infer.specs.needs.Choices.{with_summaries, IsChoice, NoMethodFails}
use Rattle.effect_infer.specs.declared.fail.InferFail.{InferFail}
use Rattle.effect_infer.specs.declared.fail.InferFail.TheVariants.{TooMany, OutOfMemory}
use Rattle.effect_infer.specs.Kept.{AreDistinct}

-- these are the needs of the method that no other covers, each once
pub record AreWidest (p : Program) (m : ℕ) (needs : List Need) : Type 0 where
  pub exact : (need : Need) → Contains needs need ↔ IsWidest p m need
  pub once : AreDistinct needs

-- the summary that these needs make
abbrev pub summary_of : List Need → Summary
summary_of needs = record { effects = map effect_of needs }

-- the method's least summary has at most 8 effects, and it is this one
abbrev pub IsLeast : Program → ℕ → Summary → Type 0
IsLeast p m summary = (needs : List Need) × AreWidest p m needs × (length needs ≤ max_effects) × (summary ≡ summary_of needs)

-- the method's least summary would have more than 8 effects
abbrev pub HasTooMany : Program → ℕ → Type 0
HasTooMany p m =
    (needs : List Need) × AreDistinct needs × (max_effects < length needs)
    × ((need : Need) → Contains needs need → IsWidest p m need)

-- a least summary for each method
pub record AreLeast (p : Program) (summaries : List Summary) : Type 0 where
  pub one_each : length summaries ≡ length p.methods
  pub least : (m : ℕ) (summary : Summary) → slice_get summaries m ≡ Some summary → IsLeast p m summary

-- this is the method's least summary; or there is none, since it would have more than 8 effects
abbrev pub IsLeastIfFew : Program → ℕ → Option Summary → Type 0
IsLeastIfFew p m (Some summary) = IsLeast p m summary
IsLeastIfFew p m None = HasTooMany p m

-- a least summary for each method that has one
pub record AreEachLeast (p : Program) (each : List (Option Summary)) : Type 0 where
  pub one_each : length each ≡ length p.methods
  pub least : (m : ℕ) (its : Option Summary) → slice_get each m ≡ Some its → IsLeastIfFew p m its

-- with every choice of summaries that the rule on methods accepts, each of these effects is covered by the chosen summary
-- of its method
abbrev pub AreCoveredByAll : Program → List Summary → Type 0
AreCoveredByAll p summaries = (chosen : List Summary) → IsChoice p chosen → NoMethodFails (with_summaries chosen p)
    → (m : ℕ) (choice summary : Summary) (effect : Effect) → slice_get chosen m ≡ Some choice
    → slice_get summaries m ≡ Some summary
    → Contains summary.effects effect → IsTrue (covers choice effect)

-- the cause of a failure: the first method whose least summary would have more than 8 effects; nothing is said of want of memory
abbrev pub InferHasCause : Program → InferFail → Type 0
InferHasCause p (TooMany method) =
    (method < length p.methods) × HasTooMany p method
    × ((m : ℕ) → m < method → (summary : Summary) × IsLeast p m summary)
InferHasCause p (OutOfMemory memory) = Unit {0}
