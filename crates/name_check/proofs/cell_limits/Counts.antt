-- How many nodes there are, by the tree in which they were counted.
use Rattle.std.proofs.Common.{◌≡◌, ℕ, ◌+◌, ◌<◌, ◌≤◌, ◌↔◌, List, [], ◌∷◌, ◌++◌, length, get_or, take, refl, sym, ap, subst, ◌∙◌, ◌⊎◌, inl, inr, ⊎_elim, arith}
use Rattle.std.specs.Prelude.{codes}
use Rattle.std.specs.List.{Contains}
use Rattle.std.proofs.lemmas.List.{length-take-le, get_or-take, get_or_default}
use Rattle.std.proofs.lemmas.List.Elements.{Contains-append_left, Contains-append_right, Contains-append_cases}
use Rattle.twe_base.specs.Language.{max_nodes}
use Rattle.prefix_tree.specs.declared.part.Part.{Part}
use Rattle.prefix_tree.specs.Nodes.{path_of, IsNode as IsTreeNode, IsTreeOfPaths}
use Rattle.prefix_tree.specs.Growth.{Grows}
use Rattle.twe_ast.specs.declared.item.CellDecl.{CellDecl}
use Rattle.twe_ast.specs.declared.path.CellElemKind.{CellElemKind}
use Rattle.twe_ast.specs.declared.path.CellElemKind.TheVariants.{Name}
use Rattle.name_check.specs.declared.cell_limits.count.Count.{Count}
use Rattle.name_check.specs.cell_limits.Nodes.{cells_of_text, console_name, IsPathNode, of_console, of_cell, HasNodes}
use Rattle.name_check.specs.cell_limits.inner.Parts.{part_of, parts_of}
use Rattle.name_check.specs.cell_limits.inner.Counting.{IsOfCell, IsPartsOf, HasCounted, CountsWhole}
use Rattle.name_check.proofs.cell_limits.Known.{AreKnown}
use Rattle.name_check.proofs.cell_limits.KnownNodes.{parts_of-once, known-node}
use Rattle.name_check.proofs.cell_limits.Distinct.{Contains-here, Contains-cons, length-le_from_once, choose}

-- one cell more

pub IsNode-more : (cells more : List CellDecl) (path : List CellElemKind) → IsPathNode cells path → IsPathNode (cells ++ more) path
IsNode-more cells more path (of_console rest e) = of_console rest e
IsNode-more cells more path (of_cell cell declared rest there d e) = of_cell cell declared rest (Contains-append_left cells more cell there) d e

IsNode-cell : (cells : List CellDecl) (cell : CellDecl) (path : List CellElemKind) → IsOfCell cell path → IsPathNode (cells ++ cell ∷ []) path
IsNode-cell cells cell path (declared, rest, d, e) = of_cell cell declared rest (Contains-append_right cells (cell ∷ []) cell (Contains-here cell [])) d e

IsNode-cases : (cells : List CellDecl) (cell : CellDecl) (path : List CellElemKind) → IsPathNode (cells ++ cell ∷ []) path → IsPathNode cells path ⊎ IsOfCell cell path
IsNode-cases cells cell path (of_console rest e) = inl (of_console rest e)
IsNode-cases cells cell path (of_cell other declared rest there d e) =
    ⊎_elim
    (λ before. inl (of_cell other declared rest before d e))
    (λ last.
    ⊎_elim
    (λ same. inr (subst (λ (c : CellDecl). IsOfCell c path) (sym same) (declared, rest, d, e)))
    (λ none. let past = none.1 in absurd (omega arith))
    (Contains-cons cell [] other last))
    (Contains-append_cases cells (cell ∷ []) other there)

-- the paths of the nodes are these, by their parts
abbrev pub IsExact : List (List ℕ) → List CellDecl → List (List Part) → Type 0
IsExact names cells nodes = (parts : List Part) → IsTreeNode nodes parts ↔ IsPartsOf names (IsPathNode cells) parts

pub exact-more : (names : List (List ℕ)) (cells : List CellDecl) (cell : CellDecl) (old new : List (List Part)) → IsExact names cells old → Grows old new (IsPartsOf names (IsOfCell cell)) → IsExact names (cells ++ cell ∷ []) new
exact-more names cells cell old new is grows parts = (
  λ node.
      ⊎_elim
      (λ was. let known = (is parts).0 was in (known.0, IsNode-more cells (cell ∷ []) known.0 known.1, known.2))
      (λ added. (added.0, IsNode-cell cells cell added.0 added.1, added.2))
      ((grows.exact parts).0 node),
  λ known.
      (grows.exact parts).1
      (⊎_elim
      (λ was. inl ((is parts).1 (known.0, was, known.2)))
      (λ added. inr (known.0, added, known.2))
      (IsNode-cases cells cell known.0 known.1)),
)

pub cells_made-append : (cells more : List CellDecl) → cells_of_text (cells ++ more) ≡ cells_of_text cells + cells_of_text more
cells_made-append [] more = omega arith
cells_made-append (c ∷ cs) more = let others = cells_made-append cs more in omega arith

pub HasCounted-more : (names : List (List ℕ)) (cells : List CellDecl) (cell : CellDecl) (old new : Count) → HasCounted names cells old → CountsWhole names old new cell → length new.tree ≤ max_nodes → HasCounted names (cells ++ cell ∷ []) new
HasCounted-more names cells cell old new was added few = record {
  cells = let both = cells_made-append cells (cell ∷ []) in let before = was.cells in let this = added.cells in omega arith;
  few_cells = added.few_cells;
  exact = exact-more names cells cell old.tree new.tree was.exact added.grows;
  few_nodes = few;
}

-- the root and `Console`

of-console : (path rest : List CellElemKind) → console_name ≡ path ++ rest → (path ≡ []) ⊎ (path ≡ console_name)
of-console [] rest e = inl refl
of-console (k ∷ []) rest e = inr (cc)
of-console (k ∷ l ∷ ls) rest e = cc

pub exact-console : (names : List (List ℕ)) (old new : List (List Part)) → old ≡ [] ∷ [] → Grows old new (λ path. path ≡ path_of old 0 ++ part_of names (Name (codes "Console")) ∷ []) → IsExact names [] new
exact-console names old new is grows parts =
    let root = ap (λ (nodes : List (List Part)). path_of nodes 0) is in
    let one = ap length is in
    let named = part_of names (Name (codes "Console")) in (
      λ node.
          ⊎_elim
          (λ was.
          let there = was.1 in
          let first : was.0 ≡ 0 = omega arith in
          ([], of_console console_name refl, sym root ∙ ap (path_of old) (sym first) ∙ was.2))
          (λ e. (console_name, of_console [] refl, sym (e ∙ ap (λ (p : List Part). p ++ named ∷ []) root)))
          ((grows.exact parts).0 node),
      λ known.
          (grows.exact parts).1
          (elim known.1 [
            | of_console rest e ↦
                ⊎_elim
                (λ none. inl (0, omega arith, root ∙ sym (ap (parts_of names) none) ∙ known.2))
                (λ all. inr (sym known.2 ∙ ap (parts_of names) all ∙ ap (λ (p : List Part). p ++ named ∷ []) (sym root)))
                (of-console known.0 rest e)
            | of_cell cell declared rest there d e ↦ let none = there.1 in absurd (omega arith)
          ]),
    )

-- as many nodes as the tree has

pub HasNodes-le : (names : List (List ℕ)) (cells : List CellDecl) (nodes : List (List Part)) (count : ℕ) → Contains names (codes "Console") → AreKnown names cells → IsExact names cells nodes → HasNodes cells count → count ≤ length nodes
HasNodes-le names cells nodes count has known is h =
    let few =
    length-le_from_once (parts_of names) h.nodes nodes h.distinct
    (λ a b c d e. parts_of-once names a b (known-node names cells a has known (h.each a c)) (known-node names cells b has known (h.each b d)) e)
    (λ path c.
    let node = (is (parts_of names path)).1 (path, h.each path c, refl) in
    (node.0, node.1, in_range nodes node.0 (parts_of names path) node.1 node.2)) in
    let many = h.many in
    omega arith
  where
    in_range : (xs : List (List Part)) (n : ℕ) (x : List Part) → n < length xs → path_of xs n ≡ x → get_or xs n x ≡ x
    in_range xs n x there e = get_or_default xs n x [] there ∙ e

pub le-HasNodes : (names : List (List ℕ)) (cells : List CellDecl) (nodes : List (List Part)) (count : ℕ) → IsTreeOfPaths nodes → IsExact names cells nodes → count ≤ length nodes → HasNodes cells count
le-HasNodes names cells nodes count t is few =
    let some = take count nodes in
    let long : length some ≡ count = length-take-le count nodes few in
    let chosen =
    choose (parts_of names) (IsPathNode cells) some
    (λ i j d below within same.
    let first : i < count = omega arith in
    let second : j < count = omega arith in
    let at_first = get_or-take count nodes i d first in
    let at_second = get_or-take count nodes j d second in
    let i_there : i < length nodes = omega arith in
    let j_there : j < length nodes = omega arith in
    let one = t.once i j i_there j_there (get_or_default nodes i [] d i_there ∙ sym at_first ∙ same ∙ at_second ∙ get_or_default nodes j d [] j_there) in
    omega arith)
    (λ parts c.
    let within = c.1 in
    let below : c.0 < count = omega arith in
    let there : c.0 < length nodes = omega arith in
    (is parts).0 (c.0, there, get_or_default nodes c.0 [] parts there ∙ sym (get_or-take count nodes c.0 parts below) ∙ c.2)) in
    record { nodes = chosen.items; many = chosen.many ∙ long; distinct = chosen.distinct; each = chosen.each }
