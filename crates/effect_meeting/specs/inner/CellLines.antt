-- The elements of the path of a declaration of cells, side by side with those of two paths.
use Rattle.std.specs.Prelude.{◌≡◌, ℕ, Bool, false, List, ◌++◌, Option, Some, map}
use Rattle.region_paths.specs.declared.elements.Elem.{Elem}
use Rattle.region_paths.specs.declared.elements.Elem.TheVariants.{Name, Index, Var, AnyIndex}
use Rattle.region_paths.specs.Written.{WrittenPath}
use Rattle.effect_meeting.specs.declared.met.Met.{Met}
use Rattle.effect_meeting.specs.Values.{values_in}
use Rattle.effect_meeting.specs.Cells.{IsMetWithin, is_index_below}

-- the elements of the path of a declaration, and any index after them for each bound
abbrev pub cell_line : List Elem → List ℕ → List (Option Elem)
cell_line elems bounds = map Some elems ++ map (λ bound. Some AnyIndex) bounds

-- the element is an index below the bound
abbrev pub is_written_below : ℕ → Elem → Bool
is_written_below bound (Name n) = false
is_written_below bound (Index z) = is_index_below bound z
is_written_below bound (Var k) = false
is_written_below bound AnyIndex = false

-- the paths meet at these elements with the indexes that were found after them, and for the values that were
pub record IsMetAfter (shared : ℕ) (p q : WrittenPath) (elems : List Elem) (bounds : List ℕ) (met : Met) : Type 0 where
  pub here : IsMetWithin shared p q elems bounds met.elems
  pub told : met.values ≡ values_in shared p q here.meet.first

-- the paths meet at no such elements with any indexes below the bounds after them
abbrev pub IsNeverMetWithin : ℕ → WrittenPath → WrittenPath → List Elem → List ℕ → Type 0
IsNeverMetWithin shared p q elems bounds = (indexes : List Elem) → ¬ IsMetWithin shared p q elems bounds indexes
