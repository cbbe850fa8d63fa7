-- The nodes that the cells so far give.
use Rattle.std.proofs.Common.{◌≡◌, ℕ, pos, ◌+◌, ◌<◌, ◌≤◌, ◌↔◌, List, [], ◌∷◌, ◌++◌, map, length, get_or, take, refl, sym, ap, subst, ◌∙◌, ◌⊎◌, inl, inr, ⊎_elim, arith}
use Rattle.std.specs.Prelude.{take_while}
use Rattle.std.specs.List.{Any}
use Rattle.std.proofs.lemmas.Bool.{cases_lt}
use Rattle.std.proofs.lemmas.List.{length-take-le, get_or-take, get_or_default}
use Rattle.std.proofs.Math.Seq.{take-length}
use Rattle.region_paths.specs.declared.elements.Elem.{Elem}
use Rattle.region_paths.specs.declared.elements.Elem.TheVariants.{Name, Index, Var, AnyIndex}
use Rattle.region_paths.specs.Filled.{is_solid, solid_prefix}
use Rattle.prefix_tree.specs.declared.part.Part.{Part}
use Rattle.prefix_tree.specs.declared.part.Part.TheVariants as part
use Rattle.prefix_tree.specs.Nodes.{path_of, IsNode}
use Rattle.prefix_tree.specs.Growth.{Grows}
use Rattle.prefix_tree.proofs.PrefixLemmas.{IsPrefix-snoc, IsPrefix-nil}
use Rattle.twe_program.specs.declared.program.CellDecl.{CellDecl}
use Rattle.twe_program.specs.declared.program.Dims.{Dims}
use Rattle.twe_program.specs.declared.program.Dims.TheVariants.{Scalar, Row, Grid}
use Rattle.twe_program.specs.Nodes.{console, PathBeginsWith, Declares, IsPrefixOfDeclared}
use Rattle.effect_tree.specs.inner.Parts.{elem_of, elem_paths}
use Rattle.effect_tree.specs.inner.Growth.{HasPaths, IsFrontPath}
use Rattle.effect_tree.proofs.SolidLemmas.{take_while-solid, take_while-other}
use Rattle.effect_tree.proofs.PartPaths.{elems-snoc, node-to, node-parts}
use Rattle.effect_tree.proofs.DeclaredLemmas.{prefix-of, two_more, GrowsByCell}

-- what holds of one of the items up to one more
Any-take : {X : Type 0} (P : X → Type 0) (xs : List X) (k : ℕ) (x : X) → k < length xs → x ≡ get_or xs k x → (Any P (take k xs) ⊎ P x) ↔ Any P (take (k + 1) xs)
Any-take {X} P xs k x there is =
    let some : length (take k xs) ≡ k = length-take-le k xs (omega arith) in
    let more : length (take (k + 1) xs) ≡ k + 1 = length-take-le (k + 1) xs (omega arith) in (
      λ h.
          ⊎_elim
          (λ a.
          let i = a.0 in
          let y = a.1 in
          let within = a.2 in
          let low : i < k = omega arith in
          let high : i < k + 1 = omega arith in
          (i, y, omega arith, get_or-take (k + 1) xs i y high ∙ sym (get_or-take k xs i y low) ∙ a.3, a.4))
          (λ p. let last : k < k + 1 = omega arith in (k, x, omega arith, get_or-take (k + 1) xs k x last ∙ sym is, p))
          h,
      λ a.
          let i = a.0 in
          let y = a.1 in
          let within = a.2 in
          let high : i < k + 1 = omega arith in
          let item = sym (get_or-take (k + 1) xs i y high) ∙ a.3 in
          ⊎_elim
          (λ (low : i < k). inl (i, y, omega arith, get_or-take k xs i y low ∙ item, a.4))
          (λ (past : k ≤ i).
          let last : i ≡ k = omega arith in
          let same : y ≡ x = sym item ∙ ap (λ (j : ℕ). get_or xs j y) last ∙ get_or_default xs k y x there ∙ sym is in
          inr (subst P same a.4))
          (cases_lt i k),
    )

Any-none : {X : Type 0} (P : X → Type 0) → ¬ Any P []
Any-none P a = let none = a.2 in omega arith

-- the nodes are those that the cells give
abbrev pub IsTreeOfCells : List (List Part) → List CellDecl → Type 0
IsTreeOfCells nodes cells = HasPaths nodes (λ (parts : List Part). IsFrontPath cells (map elem_of parts))

-- the nodes that one more cell gives
pub cells-more : (mid new : List (List Part)) (cells : List CellDecl) (k : ℕ) (cell : CellDecl) → k < length cells → cell ≡ get_or cells k cell → IsTreeOfCells mid (take k cells) → GrowsByCell mid new (solid_prefix cell.path) cell.dims → IsTreeOfCells new (take (k + 1) cells)
cells-more mid new cells k cell there is has grows parts =
    let more = Any-take (λ (c : CellDecl). IsPrefixOfDeclared (solid_prefix c.path) c.dims (map elem_of parts)) cells k cell there is in (
      λ node.
          ⊎_elim
          (λ old. ⊎_elim (λ p. inl p) (λ a. inr (more.0 (inl a))) ((has parts).0 old))
          (λ d. inr (more.0 (inr d)))
          ((grows.exact parts).0 node),
      λ h.
          (grows.exact parts).1
          (⊎_elim
          (λ p. inl ((has parts).1 (inl p)))
          (λ a. ⊎_elim (λ b. inl ((has parts).1 (inr b))) (λ d. inr d) (more.1 a))
          h),
    )

-- the root, and `Console` below it
pub cells-none : (old new : List (List Part)) → old ≡ [] ∷ [] → Grows old new (λ path. path ≡ path_of old 0 ++ part.Name 0 ∷ []) → IsTreeOfCells new []
cells-none old new is grows parts =
    let root = ap (λ (nodes : List (List Part)). path_of nodes 0) is in
    let one = ap length is in
    let snoc = IsPrefix-snoc parts [] (part.Name 0) in (
      λ node.
          ⊎_elim
          (λ old_node.
          let there = old_node.1 in
          let first : old_node.0 ≡ 0 = omega arith in
          let empty = sym root ∙ ap (path_of old) (sym first) ∙ old_node.2 in
          inl (subst (λ (p : List Part). PathBeginsWith console (map elem_of p)) empty (console, refl)))
          (λ e. inl (subst (λ (p : List Part). PathBeginsWith console (map elem_of p)) (sym (e ∙ ap (λ (p : List Part). p ++ part.Name 0 ∷ []) root)) ([], refl)))
          ((grows.exact parts).0 node),
      λ h.
          (grows.exact parts).1
          (⊎_elim
          (λ p.
          ⊎_elim
          (λ nil. inl (0, omega arith, root ∙ sym (IsPrefix-nil parts nil)))
          (λ e. inr (e ∙ ap (λ (q : List Part). q ++ part.Name 0 ∷ []) (sym root)))
          (snoc.0 (prefix-of (part.Name 0 ∷ []) parts p)))
          (λ a. absurd (Any-none _ a))
          h),
    )

-- all cells
pub cells-all : (nodes : List (List Part)) (cells : List CellDecl) (k : ℕ) → k ≡ length cells → IsTreeOfCells nodes (take k cells) → IsTreeOfCells nodes cells
cells-all nodes cells k e has =
    subst (λ (cs : List CellDecl). IsTreeOfCells nodes cs) (ap (λ (j : ℕ). take j cells) e ∙ take-length cells) has

-- the path of each node that the cells give has parts

solid-front : (elems : List Elem) → (parts : List Part) × (map elem_of parts ≡ take_while is_solid elems)
solid-front [] = ([], refl)
solid-front (Name n ∷ es) =
    let rest = solid-front es in
    (part.Name n ∷ rest.0, ap (λ (xs : List Elem). Name n ∷ xs) rest.1 ∙ sym (take_while-solid (Name n) es refl))
solid-front (Index i ∷ es) =
    let rest = solid-front es in
    (part.Index i ∷ rest.0, ap (λ (xs : List Elem). Index i ∷ xs) rest.1 ∙ sym (take_while-solid (Index i) es refl))
solid-front (Var k ∷ es) = ([], sym (take_while-other (Var k) es refl))
solid-front (AnyIndex ∷ es) = ([], sym (take_while-other AnyIndex es refl))

declared-parts : (front : List Part) (dims : Dims) (declared : List Elem) → Declares (map elem_of front) dims declared → (parts : List Part) × (map elem_of parts ≡ declared)
declared-parts front Scalar declared e = (front, sym e)
declared-parts front (Row n) declared (inl e) = (front, sym e)
declared-parts front (Row n) declared (inr (i, below, e)) = (front ++ part.Index (pos i) ∷ [], elems-snoc front (part.Index (pos i)) ∙ sym e)
declared-parts front (Grid rows cols) declared (inl e) = (front, sym e)
declared-parts front (Grid rows cols) declared (inr (i, j, row, column, e)) = ((front ++ part.Index (pos i) ∷ []) ++ part.Index (pos j) ∷ [], two_more front i j ∙ sym e)

begin-parts : (whole : List Part) (path rest : List Elem) → map elem_of whole ≡ path ++ rest → (parts : List Part) × (map elem_of parts ≡ path)
begin-parts whole [] rest e = ([], refl)
begin-parts [] (x ∷ xs) rest e = cc
begin-parts (p ∷ ps) (x ∷ xs) rest e =
    let head : elem_of p ≡ x = cc in
    let tail : map elem_of ps ≡ xs ++ rest = cc in
    let others = begin-parts ps xs rest tail in
    (p ∷ others.0, ap (λ (ys : List Elem). elem_of p ∷ ys) others.1 ∙ ap (λ (y : Elem). y ∷ xs) head)

cell-parts : (cell : CellDecl) (path : List Elem) → IsPrefixOfDeclared (solid_prefix cell.path) cell.dims path → (parts : List Part) × (map elem_of parts ≡ path)
cell-parts cell path (declared, is, (rest, e)) =
    let front = solid-front cell.path.elems in
    let whole = declared-parts front.0 cell.dims declared (subst (λ (at : List Elem). Declares at cell.dims declared) (sym front.1) is) in
    begin-parts whole.0 path rest (whole.1 ∙ e)

front-has-parts : (cells : List CellDecl) (path : List Elem) → IsFrontPath cells path → (parts : List Part) × (map elem_of parts ≡ path)
front-has-parts cells path h =
    ⊎_elim
    (λ c. begin-parts (part.Name 0 ∷ []) path c.0 c.1)
    (λ a. cell-parts a.1 path a.4)
    h

-- so the nodes by their elements are those that the cells give
pub cells-elems : (nodes : List (List Part)) (cells : List CellDecl) → IsTreeOfCells nodes cells → HasPaths (elem_paths nodes) (IsFrontPath cells)
cells-elems nodes cells has path = (
  λ node.
      let parts = node-parts nodes path node in
      subst (λ (p : List Elem). IsFrontPath cells p) parts.2 ((has parts.0).0 parts.1),
  λ h.
      let parts = front-has-parts cells path h in
      subst (λ (p : List Elem). IsNode (elem_paths nodes) p) parts.1
      (node-to nodes parts.0 ((has parts.0).1 (subst (λ (p : List Elem). IsFrontPath cells p) (sym parts.1) h))),
)
