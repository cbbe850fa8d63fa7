-- Replacing the variables of effects by arguments.
use Rattle.std.specs.Prelude.{Bool, List, map}
use Rattle.std.specs.List.{list_all}
use Rattle.region_paths.specs.declared.elements.Elem.{Elem}
use Rattle.region_paths.specs.Filled.{Valuation, fill, filled, has_args, under}
use Rattle.effect_sets.specs.declared.effects.Effect.{Effect}
use Rattle.effect_sets.specs.declared.effects.Summary.{Summary}

-- the effect with each variable of its path replaced by its argument
abbrev pub fill_effect : List Elem → Effect → Effect
fill_effect args e = record { write = e.write; path = fill args e.path }

-- the summary with each variable replaced by its argument
abbrev pub fill_summary : List Elem → Summary → Summary
fill_summary args s = record { effects = map (fill_effect args) s.effects }

-- no effect has a variable
abbrev pub all_filled : List Effect → Bool
all_filled es = list_all (λ e. filled e.path) es

-- there is an argument for each variable of each effect
abbrev pub all_have_args : List Elem → List Effect → Bool
all_have_args args es = list_all (λ e. has_args args e.path) es

-- the effect with each variable of its path replaced by its value
abbrev pub effect_under : Valuation → Effect → Effect
effect_under v e = record { write = e.write; path = under v e.path }
