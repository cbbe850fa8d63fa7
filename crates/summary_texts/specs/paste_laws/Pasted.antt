-- Summaries that are written in the place of those that a text declares.
use Rattle.std.specs.Prelude.{◌↔◌, List, Contains}
use Rattle.std.specs.List.{AllByRecursion, AllZip}
use Rattle.effect_sets.specs.declared.effects.Effect.{Effect}
use Rattle.effect_sets.specs.declared.effects.Summary.{Summary}
use Rattle.twe_program.specs.Program.{Program}
use Rattle.effect_infer.specs.needs.Choices.{with_summaries}
use Rattle.summary_texts.specs.paste_laws.places.Places.{SameButPlaces}
use Rattle.summary_texts.specs.paste_laws.Clauses.{CanBeWritten}

-- the same effects, in any order
abbrev pub HaveSameEffects : Summary → Summary → Type 0
HaveSameEffects one other = (effect : Effect) → Contains one.effects effect ↔ Contains other.effects effect

-- The second program is the first with these summaries of its methods in the place of those that it declares. The effects of a
-- summary may stand in another order, and the places of the text may differ. Nothing else does.
pub record IsPasted (summaries : List Summary) (p q : Program) : Type 0 where
  pub written : List Summary
  pub same_effects : AllZip HaveSameEffects written summaries
  pub same_otherwise : SameButPlaces q (with_summaries written p)

-- these are the summaries with their effects in any order, and a text can have them
pub record CanBePasted (written summaries : List Summary) : Type 0 where
  pub same : AllZip HaveSameEffects written summaries
  pub can : AllByRecursion CanBeWritten written
