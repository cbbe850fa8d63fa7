-- What a declaration declares beside what it needs.
use Rattle.std.specs.Prelude.{◌⊎◌, Bool, not, ◌&&◌, ◌||◌, List, [], ◌∷◌, if◌then◌else◌}
use Rattle.std.specs.List.{list_any}
use Rattle.effect_sets.specs.declared.effects.Effect.{Effect}
use Rattle.effect_sets.specs.declared.effects.Summary.{Summary}
use Rattle.twe_program.specs.declared.program.Decl.{Decl}
use Rattle.twe_program.specs.Program.{Program}
use Rattle.summary_comparing.specs.Needed.{body_needs, child_needs}
use Rattle.summary_comparing.specs.Widest.{AreFewWidest, HasManyWidest, covers_some, is_under}
use Rattle.summary_comparing.specs.declared.comparison.Comparison.{Comparison}
use Rattle.summary_comparing.specs.declared.comparison.Comparison.TheVariants.{Exact, Wider, TooMany}

-- something is needed that the effect covers
abbrev pub is_needed : List Effect → List Effect → Effect → Bool
is_needed body children effect = covers_some body effect || covers_some children effect

-- something is needed that covers the effect
abbrev pub is_within_needs : List Effect → List Effect → Effect → Bool
is_within_needs body children effect = is_under body effect || is_under children effect

-- the declared effects that nothing needs
abbrev pub idle_effects : List Effect → List Effect → List Effect → List Effect
idle_effects body children [] = []
idle_effects body children (effect ∷ declared) =
    if is_needed body children effect
    then idle_effects body children declared
    else effect ∷ idle_effects body children declared

-- the declared effects that something needs
abbrev pub needed_effects : List Effect → List Effect → List Effect → List Effect
needed_effects body children [] = []
needed_effects body children (effect ∷ declared) =
    if is_needed body children effect
    then effect ∷ needed_effects body children declared
    else needed_effects body children declared

-- the declared effects are wider than what is needed: nothing needs one of them, or one is within nothing that is needed
abbrev pub is_wider : List Effect → List Effect → List Effect → Bool
is_wider body children declared =
    list_any (λ effect. not (is_needed body children effect && is_within_needs body children effect)) declared

-- the comparison of declared effects with what a body needs and its spawned children declare, of which these are the widest
abbrev pub comparison_of : List Effect → List Effect → List Effect → List Effect → List Effect → Comparison
comparison_of body children declared needed spawned =
    if is_wider body children declared
    then Wider declared needed spawned (idle_effects body children declared)
    else Exact

-- How a declaration of the program compares with what it needs, if methods count with these summaries for those that call them.
pub data IsComparison (p : Program) (summaries : List Summary) (decl : Decl) : Comparison → Type 0 where
  -- its body needs at most 8 effects that no other covers, and so do its spawned children
  few : (needed spawned : List Effect) → AreFewWidest (body_needs p summaries decl) needed
      → AreFewWidest (child_needs p decl) spawned
      → IsComparison p summaries decl
      (comparison_of (body_needs p summaries decl) (child_needs p decl) decl.summary.effects needed spawned)
  -- one of the two needs more
  many : HasManyWidest (body_needs p summaries decl) ⊎ HasManyWidest (child_needs p decl)
      → IsComparison p summaries decl TooMany

-- the same for each of these declarations
abbrev pub AreComparisons : Program → List Summary → List Decl → List Comparison → Type 0
AreComparisons p summaries [] [] = Unit {0}
AreComparisons p summaries [] (comparison ∷ comparisons) = ⊥
AreComparisons p summaries (decl ∷ decls) [] = ⊥
AreComparisons p summaries (decl ∷ decls) (comparison ∷ comparisons) =
    IsComparison p summaries decl comparison × AreComparisons p summaries decls comparisons
