-- The cells of the tree and the nodes of their paths are within the limits.
use Rattle.std.proofs.Common.{◌≡◌, ℕ, ◌+◌, ◌≤◌, zero, suc, List, [], ◌∷◌, ◌++◌, Option, ◌⊎◌, inl, inr, length, append_assoc, refl, sym, ap, ◌∙◌, subst, arith}
use Rattle.std.specs.Prelude.{codes}
use Rattle.std.specs.List.{Contains}
use Rattle.std.proofs.lemmas.List.Elements.{Contains-append_left}
use Rattle.twe_base.specs.declared.place.Place.{Place}
use Rattle.twe_ast.specs.declared.item.CellDecl.{CellDecl}
use Rattle.twe_ast.specs.declared.item.CellShape.{CellShape}
use Rattle.twe_ast.specs.declared.item.CellShape.TheVariants as shapes
use Rattle.twe_ast.specs.declared.item.Initial.{Initial}
use Rattle.twe_ast.specs.declared.path.CellElemKind.{CellElemKind}
use Rattle.twe_ast.specs.declared.path.CellElemKind.TheVariants.{Name, Index}
use Rattle.name_check.specs.cell_limits.GoesOver.{cells_of, GoesOver}
use Rattle.name_check.specs.cell_limits.Nodes.{cells_of_text, written_path, DeclaresCells, console_name, IsPathNode, of_console, of_cell, HasNodes}
use Rattle.name_check.proofs.cell_limits.Distinct.{length-le_from_once}
use Rattle.twe_base.proofs.Members.{IsIn, contains-in, in-contains}
use Rattle.load_text.proofs.accepted.Trees.{Places, later, items_from, load_tree}

abbrev WrittenPath : Type 0
WrittenPath = List CellElemKind

-- `R:[7]`
abbrev element : ℕ → WrittenPath
element i = Name (codes "R") ∷ Index i ∷ []

-- the paths of the cells of `count` numbers from this one on
abbrev elements_from : ℕ → ℕ → List WrittenPath
elements_from i zero = []
elements_from i (suc count) = element i ∷ elements_from (suc i) count

-- the cell is no array, and lies here
record LiesAt (cell : CellDecl) (path : WrittenPath) : Type 0 where
  written : written_path cell ≡ path
  initial : Option Initial
  shape : cell.shape ≡ shapes.Scalar initial

-- the paths of all nodes
abbrev all_paths : ℕ → List WrittenPath
all_paths n = [] ∷ console_name ∷ (Name (codes "S") ∷ []) ∷ (Name (codes "R") ∷ []) ∷ elements_from 0 n

many_elements : (i count : ℕ) → length (elements_from i count) ≡ count
many_elements i zero = refl
many_elements i (suc count) = ap suc (many_elements (suc i) count)

-- a prefix of a path of one element, or of two
of_one : (first : CellElemKind) (path rest : WrittenPath) → first ∷ [] ≡ path ++ rest → (path ≡ []) ⊎ (path ≡ first ∷ [])
of_one first [] rest is = inl refl
of_one first (x ∷ []) rest is = let same : x ≡ first = cc in inr (ap (λ (e : CellElemKind). e ∷ []) same)
of_one first (x ∷ y ∷ path) rest is = absurd (cc)

of_two : (first second : CellElemKind) (path rest : WrittenPath) → first ∷ second ∷ [] ≡ path ++ rest
    → (path ≡ []) ⊎ ((path ≡ first ∷ []) ⊎ (path ≡ first ∷ second ∷ []))
of_two first second [] rest is = inl refl
of_two first second (x ∷ []) rest is = let same : x ≡ first = cc in inr (inl (ap (λ (e : CellElemKind). e ∷ []) same))
of_two first second (x ∷ y ∷ []) rest is = let same : x ≡ first = cc in let also : y ≡ second = cc in inr (inr (λ k. same k ∷ also k ∷ []))
of_two first second (x ∷ y ∷ z ∷ path) rest is = absurd (cc)

declared_path : (cell : CellDecl) (path declared : WrittenPath) → LiesAt cell path → DeclaresCells (written_path cell) cell.shape declared → declared ≡ path
declared_path cell path declared lies declares =
    subst (λ (shape : CellShape). DeclaresCells (written_path cell) shape declared) lies.shape declares ∙ lies.written

module _ (n : ℕ) where
  -- a cell of the tree, and its path
  element_cell : (count i : ℕ) (at : Places) (cell : CellDecl) → IsIn cell (cells_of (items_from at i count n))
      → (path : WrittenPath) × LiesAt cell path × (j : ℕ) × (path ≡ element j) × IsIn path (elements_from i count)
  element_cell zero i at cell there = absurd there
  element_cell (suc count) i at cell (inl is) =
      (element i, record { written = ap written_path is; initial = _; shape = ap (λ (c : CellDecl). c.shape) is }, i, refl, inl refl)
  element_cell (suc count) i at cell (inr there) =
      let found = element_cell count (suc i) (later 69 at) cell there in (found.0, found.1, found.2, found.3, inr found.4)

  few_cells : (count i : ℕ) (at : Places) → cells_of_text (cells_of (items_from at i count n)) ≡ count
  few_cells zero i at = refl
  few_cells (suc count) i at = let more = few_cells count (suc i) (later 69 at) in omega arith

cells_made-append : (cells more : List CellDecl) → cells_of_text (cells ++ more) ≡ cells_of_text cells + cells_of_text more
cells_made-append [] more = omega arith
cells_made-append (cell ∷ cells) more = let rest = cells_made-append cells more in omega arith

module _ (at : Places) (end : Place) (n : ℕ) (most : n ≤ 2000) where
  abbrev cells : List CellDecl
  cells = cells_of (load_tree at end n).items

  -- a prefix of the path of a cell is one of the paths
  cell_prefix : (cell : CellDecl) (declared path rest : WrittenPath) → IsIn cell cells → DeclaresCells (written_path cell) cell.shape declared
      → declared ≡ path ++ rest → IsIn path (all_paths n)
  cell_prefix cell declared path rest (inl is) declares split =
      let lies : LiesAt cell (Name (codes "S") ∷ []) = record { written = ap written_path is; initial = _; shape = ap (λ (c : CellDecl). c.shape) is } in
      elim (of_one (Name (codes "S")) path rest (sym (declared_path cell _ declared lies declares) ∙ split)) [
        | inl none ↦ inl none
        | inr one ↦ inr (inr (inl one))
      ]
  cell_prefix cell declared path rest (inr there) declares split =
      let found = element_cell n n 0 (later 10 at) cell there in
      let whole : element found.2 ≡ path ++ rest = sym found.3 ∙ sym (declared_path cell found.0 declared found.1 declares) ∙ split in
      elim (of_two (Name (codes "R")) (Index found.2) path rest whole) [
        | inl none ↦ inl none
        | inr (inl one) ↦ inr (inr (inr (inl one)))
        | inr (inr two) ↦ inr (inr (inr (inr (subst (λ (p : WrittenPath). IsIn p (elements_from 0 n)) (found.3 ∙ sym two) found.4))))
      ]

  node_path : (front after : List CellDecl) (path : WrittenPath) → cells ≡ front ++ after → IsPathNode front path → IsIn path (all_paths n)
  node_path front after path list (of_console rest split) =
      elim (of_one (Name (codes "Console")) path rest split) [ inl none ↦ inl none | inr one ↦ inr (inl one) ]
  node_path front after path list (of_cell cell declared rest there declares split) =
      cell_prefix cell declared path rest
      (contains-in cells cell (subst (λ (all : List CellDecl). Contains all cell) (sym list) (Contains-append_left front after cell there))) declares split

  few_nodes : (front after : List CellDecl) (count : ℕ) → cells ≡ front ++ after → HasNodes front count → count ≤ 2004
  few_nodes front after count list has =
      let within = length-le_from_once (λ (p : WrittenPath). p) has.nodes (all_paths n) has.distinct (λ a b c d e. e)
      (λ path there. in-contains (all_paths n) path (node_path front after path list (has.each path there))) in
      omega (arith, has.many, many_elements 0 n)

  few_made : (front after : List CellDecl) → cells ≡ front ++ after → cells_of_text front ≤ 2001
  few_made front after list =
      let whole = few_cells n n 0 (later 10 at) in
      let parts : cells_of_text cells ≡ cells_of_text front + cells_of_text after = ap cells_of_text list ∙ cells_made-append front after in
      omega arith

  pub none_over : (cell : CellDecl) → ¬ GoesOver cells cell
  none_over cell over =
      let list : cells ≡ (over.before ++ cell ∷ []) ++ over.after = over.list ∙ sym (append_assoc over.before (cell ∷ []) over.after) in
      elim over.over [
        | inl made ↦ (let few = few_made (over.before ++ cell ∷ []) over.after list in omega arith)
        | inr nodes ↦ (let few = few_nodes (over.before ++ cell ∷ []) over.after 131073 list nodes in omega arith)
      ]
