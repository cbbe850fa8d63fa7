-- Nor do the limits on cells.
use Rattle.std.proofs.Common.{◌≡◌, ℕ, ◌+◌, ◌<◌, ◌≤◌, List, [], ◌∷◌, ◌++◌, map, inl, inr, refl, sym, ap, ◌∙◌, subst}
use Rattle.twe_base.specs.declared.place.Place.{Place}
use Rattle.twe_base.specs.Language.{max_cells, max_nodes}
use Rattle.twe_ast.specs.declared.item.CellDecl.{CellDecl}
use Rattle.twe_ast.specs.declared.item.CellShape.{CellShape}
use Rattle.twe_ast.specs.declared.path.CellElem.{CellElem}
use Rattle.twe_ast.specs.declared.path.CellElemKind.{CellElemKind}
use Rattle.name_check.specs.cell_limits.Nodes.{declared_size, cells_of_text, written_path, DeclaresCells, IsPathNode, of_console, of_cell, HasNodes}
use Rattle.name_check.specs.cell_limits.GoesOver.{GoesOver}
use Rattle.moved_places.specs.MovedTree.{moved_cell_elem, moved_cell}
use Rattle.moved_places.proofs.Lists.{like-in, split-alike, one-more, same-map}

module _ (to : Place → Place) where
  moved-made : (cells : List CellDecl) → cells_of_text (map (moved_cell to) cells) ≡ cells_of_text cells
  moved-made [] = refl
  moved-made (cell ∷ cells) = ap (λ n. declared_size cell.shape + n) (moved-made cells)

  moved-written : (cell : CellDecl) → written_path (moved_cell to cell) ≡ written_path cell
  moved-written cell = same-map (moved_cell_elem to) (λ (elem : CellElem). elem.kind) (λ (elem : CellElem). elem.kind) (λ elem. refl) cell.path.elems

module _ (from to : Place → Place) (one other : List CellDecl) (same : map (moved_cell from) one ≡ map (moved_cell to) other) where
  made-alike : cells_of_text one ≡ cells_of_text other
  made-alike = sym (moved-made from one) ∙ ap cells_of_text same ∙ moved-made to other

  node-alike : (path : List CellElemKind) → IsPathNode one path → IsPathNode other path
  node-alike path (of_console rest is) = of_console rest is
  node-alike path (of_cell cell declared rest there declares is) =
      let found = like-in (moved_cell from) (moved_cell to) one other same cell there in
      let written : written_path cell ≡ written_path found.0 = sym (moved-written from cell) ∙ ap written_path found.2 ∙ moved-written to found.0 in
      let shape : cell.shape ≡ found.0.shape = ap (λ (c : CellDecl). c.shape) found.2 in
      of_cell found.0 declared rest found.1
      (subst (λ (s : CellShape). DeclaresCells (written_path found.0) s declared) shape
      (subst (λ (p : List CellElemKind). DeclaresCells p cell.shape declared) written declares)) is

  nodes-alike : (count : ℕ) → HasNodes one count → HasNodes other count
  nodes-alike count has = record {
    nodes = has.nodes;
    many = has.many;
    distinct = has.distinct;
    each = λ path there. node-alike path (has.each path there);
  }

-- the declaration that goes over a limit has its like in the other list
pub over-alike : (from to : Place → Place) (one other : List CellDecl) → map (moved_cell from) one ≡ map (moved_cell to) other → (cell : CellDecl) → GoesOver one cell
    → (its : CellDecl) × GoesOver other its × (moved_cell from cell ≡ moved_cell to its)
over-alike from to one other same cell over =
    let split = split-alike (moved_cell from) (moved_cell to) over.before cell over.after other (ap (map (moved_cell from)) (sym over.list) ∙ same) in
    let more = one-more (moved_cell from) (moved_cell to) over.before split.its_before cell split.its split.same_before split.same in (
      split.its,
      record {
        before = split.its_before;
        after = split.its_after;
        list = split.list;
        few_cells = subst (λ n. n ≤ max_cells) (made-alike from to over.before split.its_before split.same_before) over.few_cells;
        few_nodes = λ has. over.few_nodes (nodes-alike to from split.its_before over.before (sym split.same_before) (max_nodes + 1) has);
        over = elim over.over [
          | inl made ↦ inl (subst (λ n. max_cells < n) (made-alike from to (over.before ++ cell ∷ []) (split.its_before ++ split.its ∷ []) more) made)
          | inr nodes ↦ inr (nodes-alike from to (over.before ++ cell ∷ []) (split.its_before ++ split.its ∷ []) more (max_nodes + 1) nodes)
        ];
      },
      split.same,
    )
