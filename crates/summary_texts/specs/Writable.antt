-- Summaries that a text can have.
use Rattle.std.specs.Prelude.{ℕ, ℤ, pos, negsuc, ◌+◌, nat_le, Bool, true, false, ◌&&◌, List, length}
use Rattle.std.specs.List.{list_all}
use Rattle.twe_base.specs.Language.{max_literal, max_path_elements, max_effects}
use Rattle.region_paths.specs.declared.elements.Elem.{Elem}
use Rattle.region_paths.specs.declared.elements.Elem.TheVariants.{Name, Index, Var, AnyIndex}
use Rattle.effect_sets.specs.declared.effects.Summary.{Summary}
use Rattle.summary_texts.specs.Order.{summary_paths_of}

-- a literal of a text is not negative, and not larger than the largest one
abbrev pub is_writable_index : ℤ → Bool
is_writable_index (pos i) = nat_le i max_literal
is_writable_index (negsuc i) = false

-- a text can have the element
abbrev pub is_writable_elem : Elem → Bool
is_writable_elem (Name n) = true
is_writable_elem (Index i) = is_writable_index i
is_writable_elem (Var k) = true
is_writable_elem AnyIndex = true

-- a text can have a path with these elements
abbrev pub is_writable_path : List Elem → Bool
is_writable_path path = nat_le (length path) max_path_elements && list_all is_writable_elem path

-- a text can have a summary of these paths: those that are only read, and those that are written
abbrev pub are_writable : List (List Elem) → List (List Elem) → Bool
are_writable reads writes =
    list_all is_writable_path reads && (list_all is_writable_path writes && nat_le (length reads + length writes) max_effects)

-- a text can have the summary
abbrev pub is_writable : Summary → Bool
is_writable summary = are_writable (summary_paths_of false summary.effects) (summary_paths_of true summary.effects)
