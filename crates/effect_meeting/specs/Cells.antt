-- Where two written paths meet at a cell.
use Rattle.std.specs.Prelude.{◌≡◌, ℕ, ℤ, pos, negsuc, nat_lt, Bool, true, false, ◌&&◌, List, [], ◌∷◌, ◌++◌, IsTrue, Some, map, slice_get, take}
use Rattle.std.specs.List.{All}
use Rattle.region_paths.specs.declared.elements.Elem.{Elem}
use Rattle.region_paths.specs.Written.{WrittenPath}
use Rattle.region_paths.specs.Concrete.{ConcreteElem, ConcretePath, each_stands, number, region}
use Rattle.twe_program.specs.declared.program.Dims.{Dims}
use Rattle.twe_program.specs.declared.program.Dims.TheVariants.{Scalar, Row, Grid}
use Rattle.twe_program.specs.declared.program.CellDecl.{CellDecl}
use Rattle.effect_meeting.specs.declared.cells.CellMet.{CellMet}
use Rattle.effect_meeting.specs.Values.{values_in}
use Rattle.effect_meeting.specs.Meeting.{MeetAt, as_written}

-- what the indexes of a cell are below: none of a single cell, one in an array, two in a grid
abbrev pub index_bounds : Dims → List ℕ
index_bounds Scalar = []
index_bounds (Row count) = count ∷ []
index_bounds (Grid rows columns) = rows ∷ columns ∷ []

-- the number is an index below the bound
abbrev pub is_index_below : ℕ → ℤ → Bool
is_index_below bound (pos i) = nat_lt i bound
is_index_below bound (negsuc i) = false

-- the same of what stands in a concrete path
abbrev pub stands_below : ℕ → ConcreteElem → Bool
stands_below bound (region n) = false
stands_below bound (number z) = is_index_below bound z

-- the indexes are as many as the bounds, and each is below its own
abbrev pub indexes_below : List ℕ → ConcretePath → Bool
indexes_below [] [] = true
indexes_below [] (c ∷ cs) = false
indexes_below (bound ∷ bounds) [] = false
indexes_below (bound ∷ bounds) (c ∷ cs) = stands_below bound c && indexes_below bounds cs

-- The paths meet at these elements with these indexes after them: the elements stand for the first part of a concrete path at
-- which they meet, and the indexes, each below its bound, are the rest of it.
pub record IsMetWithin (shared : ℕ) (p q : WrittenPath) (elems : List Elem) (bounds : List ℕ) (indexes : List Elem) : Type 0 where
  pub declared : ConcretePath
  pub numbers : ConcretePath
  pub written : indexes ≡ map as_written numbers
  pub lies : IsTrue (each_stands elems declared)
  pub in_range : IsTrue (indexes_below bounds numbers)
  pub meet : MeetAt shared p q (declared ++ numbers)

-- the paths meet at the path of the declaration's cell with these indexes: that of the declaration, and the indexes after it
abbrev pub IsMetAt : ℕ → WrittenPath → WrittenPath → CellDecl → List Elem → Type 0
IsMetAt shared p q decl indexes = IsMetWithin shared p q decl.path.elems (index_bounds decl.dims) indexes

-- they meet at no cell of the declaration
abbrev pub IsNeverMet : ℕ → WrittenPath → WrittenPath → CellDecl → Type 0
IsNeverMet shared p q decl = (indexes : List Elem) → ¬ IsMetAt shared p q decl indexes

-- they meet at a cell of this declaration, for these values of the parameters that stand in them, and at no cell of the
-- declarations before it
pub record IsFirstMet (shared : ℕ) (p q : WrittenPath) (cells : List CellDecl) (met : CellMet) : Type 0 where
  pub decl : CellDecl
  pub there : slice_get cells met.decl ≡ Some decl
  pub here : IsMetAt shared p q decl met.indexes
  pub told : met.values ≡ values_in shared p q here.meet.first
  pub before : All (IsNeverMet shared p q) (take met.decl cells)
