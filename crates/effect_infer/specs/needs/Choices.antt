-- A choice of summaries for the methods of a program.
use Rattle.std.specs.Prelude.{◌≡◌, ℕ, nat_lt, Bool, true, ◌&&◌, IsTrue, List, [], ◌∷◌, length, Some, slice_get, Contains}
use Rattle.std.specs.List.{list_all}
use Rattle.twe_base.specs.declared.place.Place.{Place}
use Rattle.region_paths.specs.Filled.{vars_below}
use Rattle.effect_sets.specs.declared.effects.Effect.{Effect}
use Rattle.effect_sets.specs.declared.effects.Summary.{Summary}
use Rattle.effect_sets.specs.Covers.{covers}
use Rattle.twe_program.specs.declared.program.Decl.{Decl}
use Rattle.twe_program.specs.Program.{Program}
use Rattle.effect_check.specs.declared.rule.ERule.{ERule}
use Rattle.effect_check.specs.declared.rule.ERule.TheVariants.{E8}
use Rattle.effect_check.specs.FailsEffect.{FailsEffect}
use Rattle.effect_infer.specs.declared.needs.need.Need.{Need}
use Rattle.effect_infer.specs.needs.Needs.{IsNeed, effect_of}

-- the declarations with these summaries in the place of their own
abbrev pub with_each : List Summary → List Decl → List Decl
with_each summaries [] = []
with_each [] (decl ∷ decls) = decl ∷ decls
with_each (summary ∷ summaries) (decl ∷ decls) = record decl { summary = summary } ∷ with_each summaries decls

-- the program with these summaries of its methods
abbrev pub with_summaries : List Summary → Program → Program
with_summaries summaries p = record p { methods = with_each summaries p.methods }

-- no method fails the rule on methods
abbrev pub NoMethodFails : Program → Type 0
NoMethodFails p = (place : Place) → ¬ FailsEffect p E8 place

-- the program keeps every rule on effects
abbrev pub NoRuleFails : Program → Type 0
NoRuleFails p = (rule : ERule) (place : Place) → ¬ FailsEffect p rule place

-- the variables of the effect are parameters, of which there are so many
abbrev pub speaks_of : ℕ → Effect → Bool
speaks_of params effect = vars_below params effect.path.elems && vars_below params effect.path.tail

-- one summary for each method, which speaks of no variables but the method's parameters
pub record IsChoice (p : Program) (summaries : List Summary) : Type 0 where
  pub one_each : length summaries ≡ length p.methods
  pub of_parameters : (m : ℕ) (decl : Decl) (summary : Summary)
      → slice_get p.methods m ≡ Some decl → slice_get summaries m ≡ Some summary
      → IsTrue (list_all (speaks_of decl.params) summary.effects)

-- each effect of each summary is a need of its method
abbrev pub HasNeeds : Program → List Summary → Type 0
HasNeeds p summaries =
    (m : ℕ) (summary : Summary) (effect : Effect) → slice_get summaries m ≡ Some summary → Contains summary.effects effect
    → (need : Need) × IsNeed p m need × (effect ≡ effect_of need)

-- each need of a method is covered by its summary
abbrev pub CoversNeeds : Program → List Summary → Type 0
CoversNeeds p summaries = (m : ℕ) (summary : Summary) (need : Need) → slice_get summaries m ≡ Some summary → IsNeed p m need
    → IsTrue (covers summary (effect_of need))
