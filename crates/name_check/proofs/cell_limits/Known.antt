-- The names that are known, as more come to them.
use Rattle.std.proofs.Common.{◌≡◌, ℕ, ◌+◌, ◌<◌, List, [], ◌∷◌, ◌++◌, length, get_or, take, sym, ap, subst, ◌∙◌}
use Rattle.std.specs.List.{All}
use Rattle.std.proofs.lemmas.List.{take_more}
use Rattle.std.proofs.lemmas.List.Elements.{All-nil, All-cons, All-weaker, All-append, All-more, All-map}
use Rattle.std.proofs.lemmas.List.Concat.{flat_map-append}
use Rattle.std.proofs.lemmas.List.{append-nil}
use Rattle.twe_ast.specs.declared.path.CellElem.{CellElem}
use Rattle.twe_ast.specs.declared.path.CellElemKind.{CellElemKind}
use Rattle.twe_ast.specs.declared.path.CellElemKind.TheVariants.{Name, Index}
use Rattle.twe_ast.specs.declared.item.CellDecl.{CellDecl}
use Rattle.twe_ast.specs.declared.item.Item.{Item}
use Rattle.name_check.specs.cell_limits.Nodes.{written_path}
use Rattle.name_check.specs.cell_limits.GoesOver.{cells_of_item, cells_of}
use Rattle.name_check.specs.cell_limits.inner.Parts.{IsKnown, Keeps}

IsKnown-keeps : (old new : List (List ℕ)) → Keeps old new → (kind : CellElemKind) → IsKnown old kind → IsKnown new kind
IsKnown-keeps old new keeps (Name text) h = keeps text h
IsKnown-keeps old new keeps (Index i) h = tt

-- the elements of a path
pub known-elem : (old new : List (List ℕ)) (elems : List CellElem) (i : ℕ) (elem : CellElem) → i < length elems → elem ≡ get_or elems i elem → Keeps old new
    → All (λ (e : CellElem). IsKnown old e.kind) (take i elems) → IsKnown new elem.kind → All (λ (e : CellElem). IsKnown new e.kind) (take (i + 1) elems)
known-elem old new elems i elem there is keeps before this =
    let P : CellElem → Type 0 = λ e. IsKnown new e.kind in
    All-more P elems i elem there (All-weaker (λ (e : CellElem). IsKnown old e.kind) P (λ e h. IsKnown-keeps old new keeps e.kind h) (take i elems) before) (subst P is this)

known-path : (names : List (List ℕ)) (cell : CellDecl) → All (λ (e : CellElem). IsKnown names e.kind) cell.path.elems → All (IsKnown names) (written_path cell)
known-path names cell h = All-map (IsKnown names) (λ (e : CellElem). e.kind) cell.path.elems h

-- all names in the paths of cells are known
abbrev pub AreKnown : List (List ℕ) → List CellDecl → Type 0
AreKnown names cells = All (λ (cell : CellDecl). All (IsKnown names) (written_path cell)) cells

-- the cell that an item declares
pub known-cell : (names : List (List ℕ)) (cell : CellDecl) → All (λ (e : CellElem). IsKnown names e.kind) cell.path.elems → AreKnown names (cell ∷ [])
known-cell names cell h =
    let P : CellDecl → Type 0 = λ c. All (IsKnown names) (written_path c) in
    All-cons P cell [] (known-path names cell h) (All-nil P)

AreKnown-keeps : (old new : List (List ℕ)) → Keeps old new → (cells : List CellDecl) → AreKnown old cells → AreKnown new cells
AreKnown-keeps old new keeps cells =
    All-weaker (λ (cell : CellDecl). All (IsKnown old) (written_path cell)) (λ (cell : CellDecl). All (IsKnown new) (written_path cell))
    (λ cell h. All-weaker (IsKnown old) (IsKnown new) (IsKnown-keeps old new keeps) (written_path cell) h) cells

-- the cells of one item more
pub cells_of-more : (items : List Item) (i : ℕ) (item : Item) → i < length items → item ≡ get_or items i item → cells_of (take (i + 1) items) ≡ cells_of (take i items) ++ cells_of_item item
cells_of-more items i item there is =
    ap cells_of (take_more items i item there)
    ∙ flat_map-append cells_of_item (take i items) (get_or items i item ∷ [])
    ∙ ap (λ (cs : List CellDecl). cells_of (take i items) ++ cs) (append-nil (cells_of_item (get_or items i item)))
    ∙ ap (λ (it : Item). cells_of (take i items) ++ cells_of_item it) (sym is)

pub known-item : (old new : List (List ℕ)) (items : List Item) (i : ℕ) (item : Item) → i < length items → item ≡ get_or items i item → Keeps old new
    → AreKnown old (cells_of (take i items)) → AreKnown new (cells_of_item item) → AreKnown new (cells_of (take (i + 1) items))
known-item old new items i item there is keeps before this =
    subst (AreKnown new) (sym (cells_of-more items i item there is))
    (All-append (λ (cell : CellDecl). All (IsKnown new) (written_path cell)) (cells_of (take i items)) (cells_of_item item) (AreKnown-keeps old new keeps _ before) this)
