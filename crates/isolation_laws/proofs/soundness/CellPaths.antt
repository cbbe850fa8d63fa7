-- The rules have a written path for an access of a cell. The cell's concrete path is in its set, if the written indexes
-- stand for those of the cell.
use Rattle.std.proofs.Common.{◌≡◌, ℕ, zero, suc, ◌+◌, ◌-◌, ◌*◌, ◌/◌, ◌%◌, ◌<◌, ◌≤◌, ℤ, pos, negsuc, Bool, true, false, List, [], ◌∷◌, ◌++◌, map, Option, None, Some, refl, sym, ap, ap₂, ◌∙◌, subst, arith, ltb-true}
use Rattle.std.specs.Prelude.{nat_lt, slice_get, option_map, if◌then◌else◌}
use Rattle.std.specs.List.{AllByRecursion}
use Rattle.std.proofs.lemmas.Bool.{lt-ltb, le-ltb, and_from, eq-eqb}
use Rattle.std.proofs.lemmas.Bool.Decides.{Decides-int_eq}
use Rattle.std.proofs.lemmas.List.{map-append}
use Rattle.std.proofs.lemmas.Nat.{div-mul-add, mod-mul-add}
use Rattle.region_paths.specs.declared.elements.Elem.{Elem}
use Rattle.region_paths.specs.declared.elements.Elem.TheVariants.{Name, Index, Var, AnyIndex}
use Rattle.region_paths.specs.Concrete.{number, ConcretePath, InSet, elem_stands, each_stands}
use Rattle.region_paths.specs.Filled.{Valuation, elem_under, under}
use Rattle.region_paths.proofs.Standing.{each_stands-append}
use Rattle.twe_program.specs.declared.program.Dims.{Dims}
use Rattle.twe_program.specs.declared.program.Dims.TheVariants.{Scalar, Row, Grid}
use Rattle.twe_program.specs.declared.program.CellDecl.{CellDecl}
use Rattle.twe_program.specs.Program.{Program, size_of}
use Rattle.twe_program.specs.Numbering.{CellsCountUp}
use Rattle.twe_program.specs.Fitting.{HasShape, TakesIndexes}
use Rattle.twe_program.specs.WellFormed.{IsWellFormed, CellFits, CellElementFits}
use Rattle.seg_meaning.specs.Cells.{in_row, in_grid, at_column, index_below, cell_number, element_of, grid_element_of, first_of}
use Rattle.seg_meaning.proofs.CellNumbers.{grid_within}
use Rattle.effect_check.specs.Standing.{path_at, elements_from}
use Rattle.isolation_laws.specs.soundness.CellPaths.{concrete, indexes_at, path_within, path_among, path_of_cell}

-- the elements of a declaration's path stand for themselves
elements_stand : (v : Valuation) (regions : ℕ) (es : List Elem) → AllByRecursion (CellElementFits regions) es
    → each_stands (map (elem_under v) es) (map concrete es) ≡ true
elements_stand v regions [] fit = refl
elements_stand v regions (Name n ∷ es) fit = and_from _ _ (eq-eqb n n refl) (elements_stand v regions es fit.1)
elements_stand v regions (Index i ∷ es) fit = and_from _ _ ((Decides-int_eq i i).1 refl) (elements_stand v regions es fit.1)
elements_stand v regions (Var k ∷ es) fit = absurd fit.0
elements_stand v regions (AnyIndex ∷ es) fit = absurd fit.0

-- a declaration further back has higher numbers
comes_after : (cells : List CellDecl) (n i : ℕ) (decl : CellDecl) → CellsCountUp n cells → slice_get cells i ≡ Some decl → n ≤ decl.first
comes_after [] n i decl up found = absurd (cc)
comes_after (c ∷ cells) n zero decl up found = let same : c.first ≡ decl.first = cc in omega (arith, up.0, same)
comes_after (c ∷ cells) n (suc i) decl up found = omega (arith, comes_after cells (n + size_of c.dims) i decl up.1 found)

-- the path of a cell is its path within its own declaration
path_found : (cells : List CellDecl) (n i : ℕ) (decl : CellDecl) (place : ℕ) → CellsCountUp n cells → slice_get cells i ≡ Some decl → place < size_of decl.dims
    → path_among cells (decl.first + place) ≡ path_within decl (decl.first + place)
path_found [] n i decl place up found within = absurd (cc)
path_found (c ∷ cells) n zero decl place up found within =
    let same : c ≡ decl = cc in
    let Path : CellDecl → Type 0 = λ x. path_among (x ∷ cells) (decl.first + place) ≡ path_within decl (decl.first + place) in
    let here : nat_lt (decl.first + place) (decl.first + size_of decl.dims) ≡ true = lt-ltb _ _ (omega (arith, within)) in
    subst Path (sym same)
    (ap (λ b. if b then path_within decl (decl.first + place) else path_among cells (decl.first + place)) here)
path_found (c ∷ cells) n (suc i) decl place up found within =
    let behind : c.first + size_of c.dims ≤ decl.first + place = omega (arith, up.0, comes_after cells (n + size_of c.dims) i decl up.1 found) in
    let not_here : nat_lt (decl.first + place) (c.first + size_of c.dims) ≡ false = le-ltb _ _ behind in
    ap (λ b. if b then path_within c (decl.first + place) else path_among cells (decl.first + place)) not_here
    ∙ path_found cells (n + size_of c.dims) i decl place up.1 found within

fits_at : (P : CellDecl → Type 0) (cells : List CellDecl) (i : ℕ) (decl : CellDecl) → AllByRecursion P cells → slice_get cells i ≡ Some decl → P decl
fits_at P [] i decl all found = absurd (cc)
fits_at P (c ∷ cells) zero decl all found = let same : c ≡ decl = cc in subst P same all.0
fits_at P (c ∷ cells) (suc i) decl all found = fits_at P cells i decl all.1 found

-- this holds for the number of an element, if there is one
abbrev pub AtSome : (ℕ → Type 0) → Option ℕ → Type 0
AtSome P None = Unit {0}
AtSome P (Some n) = P n

module _ (p : Program) (wf : IsWellFormed p) (v : Valuation) where
  abbrev pub Touches : ℕ → List Elem → ℕ → Type 0
  Touches cell indexes n = InSet (under v (path_at p cell indexes)) (path_of_cell p n)

  touches : (cell : ℕ) (decl : CellDecl) (indexes : List Elem) (place : ℕ) → slice_get p.cells cell ≡ Some decl → place < size_of decl.dims
      → each_stands (map (elem_under v) indexes) (indexes_at decl.dims place) ≡ true → Touches cell indexes (decl.first + place)
  touches cell decl indexes place found within stand =
      let fits : CellFits _ decl = fits_at (CellFits _) p.cells cell decl wf.cells found in
      let front : each_stands (map (elem_under v) decl.path.elems) (map concrete decl.path.elems) ≡ true = elements_stand v _ decl.path.elems fits.elems in
      let back : (decl.first + place) - decl.first ≡ place = omega arith in
      let whole = each_stands-append (map (elem_under v) decl.path.elems) (map concrete decl.path.elems) (map (elem_under v) indexes) (indexes_at decl.dims place) front stand in
      let written : map (elem_under v) (elements_from (slice_get p.cells cell) ++ indexes) ≡ map (elem_under v) decl.path.elems ++ map (elem_under v) indexes
      = ap (λ (o : Option CellDecl). map (elem_under v) (elements_from o ++ indexes)) found ∙ map-append (elem_under v) decl.path.elems indexes in
      let really : path_of_cell p (decl.first + place) ≡ map concrete decl.path.elems ++ indexes_at decl.dims place
      = path_found p.cells 0 cell decl place wf.numbered found within ∙ ap (λ n. map concrete decl.path.elems ++ indexes_at decl.dims n) back in
      ap₂ each_stands written really ∙ whole

  one_cell : (dims : Dims) → HasShape dims 0 → (0 < size_of dims) × (indexes_at dims 0 ≡ [])
  one_cell Scalar shape = (omega arith, refl)
  one_cell (Row count) shape = elim shape [ ]
  one_cell (Grid rows columns) shape = elim shape [ ]

  pub cell_touched : (cell : ℕ) (o : Option CellDecl) → slice_get p.cells cell ≡ o → TakesIndexes o 0 → Touches cell [] (cell_number p cell)
  cell_touched cell None found takes = absurd takes
  cell_touched cell (Some decl) found takes =
      let shape = one_cell decl.dims takes in
      let number : cell_number p cell ≡ decl.first = ap first_of found in
      let same : decl.first + 0 ≡ cell_number p cell = omega (arith, number) in
      subst (Touches cell []) same (touches cell decl [] 0 found shape.0 (ap (λ (l : ConcretePath). each_stands [] l) shape.1))

  -- an index within its bound is the place of the element
  below : (bound n : ℕ) (within : Bool) → nat_lt n bound ≡ within → AtSome (λ place. (place < bound) × (pos n ≡ pos place)) (if within then Some n else None)
  below bound n true e = (ltb-true n bound e, refl)
  below bound n false e = tt

  index_place : (bound : ℕ) (index : ℤ) → AtSome (λ place. (place < bound) × (index ≡ pos place)) (index_below bound index)
  index_place bound (pos n) = below bound n (nat_lt n bound) refl
  index_place bound (negsuc n) = tt

  stands_one : (e : Elem) (index : ℤ) (place : ℕ) → index ≡ pos place → elem_stands (elem_under v e) (number index) ≡ true
      → each_stands (map (elem_under v) (e ∷ [])) (number (pos place) ∷ []) ≡ true
  stands_one e index place same stand = and_from _ _ (ap (λ (z : ℤ). elem_stands (elem_under v e) (number z)) (sym same) ∙ stand) refl

  in_array : (array : ℕ) (decl : CellDecl) (e : Elem) (index : ℤ) (dims : Dims) → decl.dims ≡ dims → slice_get p.cells array ≡ Some decl
      → elem_stands (elem_under v e) (number index) ≡ true
      → AtSome (Touches array (e ∷ [])) (option_map (λ offset. decl.first + offset) (in_row dims index))
  in_array array decl e index Scalar is found stand = tt
  in_array array decl e index (Grid rows columns) is found stand = tt
  in_array array decl e index (Row count) is found stand = at (index_below count index) (index_place count index)
    where
      at : (o : Option ℕ) → AtSome (λ place. (place < count) × (index ≡ pos place)) o → AtSome (Touches array (e ∷ [])) (option_map (λ offset. decl.first + offset) o)
      at None h = tt
      at (Some place) h =
          let within : place < size_of decl.dims = subst (λ (d : Dims). place < size_of d) (sym is) h.0 in
          touches array decl (e ∷ []) place found within
          (ap (λ (d : Dims). each_stands (map (elem_under v) (e ∷ [])) (indexes_at d place)) is ∙ stands_one e index place h.1 stand)

  pub element_touched : (array : ℕ) (e : Elem) (index : ℤ) (o : Option CellDecl) → slice_get p.cells array ≡ o
      → elem_stands (elem_under v e) (number index) ≡ true → AtSome (Touches array (e ∷ [])) (element_of o index)
  element_touched array e index None found stand = tt
  element_touched array e index (Some decl) found stand = in_array array decl e index decl.dims refl found stand

  -- the two indexes of an element of a grid
  stands_two : (d e : Elem) (i j : ℤ) (rows columns row column : ℕ) → i ≡ pos row → j ≡ pos column → column < columns
      → elem_stands (elem_under v d) (number i) ≡ true → elem_stands (elem_under v e) (number j) ≡ true
      → each_stands (map (elem_under v) (d ∷ e ∷ [])) (indexes_at (Grid rows columns) (row * columns + column)) ≡ true
  stands_two d e i j rows columns row column same_row same_column h first second =
      let first_index : i ≡ pos ((row * columns + column) / columns) = same_row ∙ ap pos (sym (div-mul-add row columns column h)) in
      let second_index : j ≡ pos ((row * columns + column) % columns) = same_column ∙ ap pos (sym (mod-mul-add row columns column h)) in
      and_from _ _ (ap (λ (z : ℤ). elem_stands (elem_under v d) (number z)) (sym first_index) ∙ first)
      (stands_one e j ((row * columns + column) % columns) second_index second)

  within_grid : (array : ℕ) (decl : CellDecl) (d e : Elem) (i j : ℤ) (dims : Dims) → decl.dims ≡ dims → slice_get p.cells array ≡ Some decl
      → elem_stands (elem_under v d) (number i) ≡ true → elem_stands (elem_under v e) (number j) ≡ true
      → AtSome (Touches array (d ∷ e ∷ [])) (option_map (λ offset. decl.first + offset) (in_grid dims i j))
  within_grid array decl d e i j Scalar is found first second = tt
  within_grid array decl d e i j (Row count) is found first second = tt
  within_grid array decl d e i j (Grid rows columns) is found first second =
      at (index_below rows i) (index_below columns j) (index_place rows i) (index_place columns j)
    where
      at : (o o' : Option ℕ) → AtSome (λ place. (place < rows) × (i ≡ pos place)) o → AtSome (λ place. (place < columns) × (j ≡ pos place)) o'
          → AtSome (Touches array (d ∷ e ∷ [])) (option_map (λ offset. decl.first + offset) (at_column columns o o'))
      at None o' h k = tt
      at (Some row) None h k = tt
      at (Some row) (Some column) h k =
          let within : row * columns + column < size_of decl.dims = subst (λ (x : Dims). row * columns + column < size_of x) (sym is) (grid_within rows columns row column h.0 k.0) in
          touches array decl (d ∷ e ∷ []) (row * columns + column) found within
          (ap (λ (x : Dims). each_stands (map (elem_under v) (d ∷ e ∷ [])) (indexes_at x (row * columns + column))) is
          ∙ stands_two d e i j rows columns row column h.1 k.1 k.0 first second)

  pub grid_element_touched : (array : ℕ) (d e : Elem) (i j : ℤ) (o : Option CellDecl) → slice_get p.cells array ≡ o
      → elem_stands (elem_under v d) (number i) ≡ true → elem_stands (elem_under v e) (number j) ≡ true
      → AtSome (Touches array (d ∷ e ∷ [])) (grid_element_of o i j)
  grid_element_touched array d e i j None found first second = tt
  grid_element_touched array d e i j (Some decl) found first second = within_grid array decl d e i j decl.dims refl found first second
