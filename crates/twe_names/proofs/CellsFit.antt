-- The cells of a program are numbered on, and not too many.
use Rattle.std.proofs.Common.{◌≡◌, ◌⊎◌, ◌<◌, ◌≤◌, ℕ, ◌+◌, List, [], ◌∷◌, ◌++◌, length, Contains, AllPairs, inl, inr, refl, sym, ap₂, ◌∙◌, subst, arith, append_assoc, append-nil}
use Rattle.std.proofs.lemmas.Bool.{cases_lt}
use Rattle.twe_base.specs.Language.{max_cells, max_nodes}
use Rattle.twe_ast.specs.declared.item.CellDecl as written
use Rattle.twe_ast.specs.declared.item.CellShape.{CellShape}
use Rattle.twe_ast.specs.declared.item.CellShape.TheVariants as shapes
use Rattle.twe_ast.specs.declared.path.CellElemKind.{CellElemKind}
use Rattle.twe_program.specs.Program as program
use Rattle.twe_program.specs.Numbering.{CellsCountUp}
use Rattle.name_check.specs.cell_limits.Nodes.{declared_size, cells_of_text, console_name, IsPathNode, of_console, of_cell, HasNodes}
use Rattle.name_check.specs.cell_limits.GoesOver.{GoesOver}
use Rattle.name_check.specs.declared.names.GlobalName.{GlobalName}
use Rattle.twe_names.specs.Meaning.{dims_of, cells_from}

pub cells-count : (globals : List GlobalName) (first : ℕ) (cells : List written.CellDecl) → CellsCountUp first (cells_from globals first cells)
cells-count globals first [] = tt
cells-count globals first (cell ∷ cells) = (refl, cells-count globals (first + program.size_of (dims_of cell.shape)) cells)

size-same : (shape : CellShape) → program.size_of (dims_of shape) ≡ declared_size shape
size-same (shapes.Scalar initial) = refl
size-same (shapes.Array elements) = refl
size-same (shapes.Grid rows columns) = refl

pub made-same : (globals : List GlobalName) (first : ℕ) (cells : List written.CellDecl) → program.cells_made (cells_from globals first cells) ≡ cells_of_text cells
made-same globals first [] = refl
made-same globals first (cell ∷ cells) =
    ap₂ (λ a b. a + b) (size-same cell.shape) (made-same globals (first + program.size_of (dims_of cell.shape)) cells)

-- without cells there are two nodes alone, the root and that of `Console`
node-cases : (path : List CellElemKind) → IsPathNode [] path → (path ≡ []) ⊎ (path ≡ console_name)
node-cases [] h = inl refl
node-cases (x ∷ []) (of_console rest e) = inr (cc)
node-cases (x ∷ []) (of_cell cell declared rest there h e) = absurd (omega (arith, there.1))
node-cases (x ∷ y ∷ more) (of_console rest e) = absurd (cc)
node-cases (x ∷ y ∷ more) (of_cell cell declared rest there h e) = absurd (omega (arith, there.1))

-- of three that are two alone some are the same
of_three : {X : Type 0} (x y a b c : X) → (a ≡ x) ⊎ (a ≡ y) → (b ≡ x) ⊎ (b ≡ y) → (c ≡ x) ⊎ (c ≡ y) → ¬ (a ≡ b) → ¬ (a ≡ c) → ¬ (b ≡ c) → ⊥
of_three x y a b c (inl e) (inl f) g ab ac bc = ab (e ∙ sym f)
of_three x y a b c (inr e) (inr f) g ab ac bc = ab (e ∙ sym f)
of_three x y a b c (inl e) (inr f) (inl g) ab ac bc = ac (e ∙ sym g)
of_three x y a b c (inl e) (inr f) (inr g) ab ac bc = bc (f ∙ sym g)
of_three x y a b c (inr e) (inl f) (inl g) ab ac bc = bc (f ∙ sym g)
of_three x y a b c (inr e) (inl f) (inr g) ab ac bc = ac (e ∙ sym g)

few_without_cells : (count : ℕ) → 2 < count → ¬ HasNodes [] count
few_without_cells count big h = go h.nodes h.many h.distinct h.each where
  go : (nodes : List (List CellElemKind)) → length nodes ≡ count → AllPairs (λ one other. ¬ (one ≡ other)) nodes
      → ((path : List CellElemKind) → Contains nodes path → IsPathNode [] path) → ⊥
  go [] e d each = omega arith
  go (a ∷ []) e d each = omega arith
  go (a ∷ b ∷ []) e d each = omega arith
  go (a ∷ b ∷ c ∷ more) e d each =
      of_three [] console_name a b c
      (node-cases a (each a (0, omega arith, refl))) (node-cases b (each b (1, omega arith, refl))) (node-cases c (each c (2, omega arith, refl)))
      (d 0 1 a (omega arith) (omega arith)) (d 0 2 a (omega arith) (omega arith)) (d 1 2 a (omega arith) (omega arith))

module _ (cells : List written.CellDecl) (none : (cell : written.CellDecl) → ¬ GoesOver cells cell) where
  within-from : (before rest : List written.CellDecl) → cells ≡ before ++ rest → cells_of_text before ≤ max_cells → ¬ HasNodes before (max_nodes + 1)
      → (cells_of_text cells ≤ max_cells) × ¬ HasNodes cells (max_nodes + 1)
  within-from before [] e few nodes =
      subst (λ (xs : List written.CellDecl). (cells_of_text xs ≤ max_cells) × ¬ HasNodes xs (max_nodes + 1)) (sym (e ∙ append-nil before)) (few, nodes)
  within-from before (cell ∷ rest) e few nodes = elim (cases_lt max_cells (cells_of_text (before ++ cell ∷ []))) [
    | inl over ↦ absurd (none cell (record { before = before; after = rest; list = e; few_cells = few; few_nodes = nodes; over = inl over }))
    | inr within ↦
        within-from (before ++ cell ∷ []) rest (e ∙ sym (append_assoc before (cell ∷ []) rest)) within
        (λ h. none cell (record { before = before; after = rest; list = e; few_cells = few; few_nodes = nodes; over = inr h }))
  ]

  -- if no declaration goes over a limit, both numbers stay within their limits
  pub within-limits : (cells_of_text cells ≤ max_cells) × ¬ HasNodes cells (max_nodes + 1)
  within-limits = within-from [] cells refl (omega arith) (few_without_cells (max_nodes + 1) (omega arith))
