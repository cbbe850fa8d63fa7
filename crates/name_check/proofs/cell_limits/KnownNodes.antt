-- All names in the path of a node are known, so no other path of a node has the same parts.
use Rattle.std.proofs.Common.{◌≡◌, ℕ, pos, ◌<◌, List, [], ◌∷◌, ◌++◌, length, length-append, refl, sym, ap, subst, ◌∙◌, ⊎_elim, arith}
use Rattle.std.specs.Prelude.{codes}
use Rattle.std.specs.List.{All, Contains}
use Rattle.std.proofs.lemmas.List.{get_or_append_left}
use Rattle.std.proofs.lemmas.List.Elements.{All-nil, All-cons, All-head, All-tail, All-append, All-contains}
use Rattle.twe_ast.specs.declared.item.CellDecl.{CellDecl}
use Rattle.twe_ast.specs.declared.item.CellShape.{CellShape}
use Rattle.twe_ast.specs.declared.item.CellShape.TheVariants.{Scalar, Array, Grid}
use Rattle.twe_ast.specs.declared.path.CellElemKind.{CellElemKind}
use Rattle.twe_ast.specs.declared.path.CellElemKind.TheVariants.{Name, Index}
use Rattle.prefix_tree.specs.declared.part.Part.TheVariants as part
use Rattle.name_check.specs.cell_limits.Nodes.{DeclaresCells, written_path, IsPathNode, of_console, of_cell}
use Rattle.name_check.specs.cell_limits.inner.Parts.{part_of, parts_of, IsKnown}
use Rattle.name_check.proofs.cell_limits.Positions.{number_of-once}
use Rattle.name_check.proofs.cell_limits.Known.{AreKnown}

pub All-front : {A : Type 0} (P : A → Type 0) (xs ys : List A) → All P (xs ++ ys) → All P xs
All-front P xs ys h k d below =
    let more = length-append xs ys in
    let within : k < length (xs ++ ys) = omega arith in
    subst P (get_or_append_left xs ys d k below) (h k d within)

number-same : (m n : ℕ) → part.Name m ≡ part.Name n → m ≡ n
number-same m n e = cc

index-same : (m n : ℕ) → part.Index (pos m) ≡ part.Index (pos n) → m ≡ n
index-same m n e = cc

other-part : (m n : ℕ) → ¬ (part.Name m ≡ part.Index (pos n))
other-part m n e = cc

part_of-once : (names : List (List ℕ)) (a b : CellElemKind) → IsKnown names a → IsKnown names b → part_of names a ≡ part_of names b → a ≡ b
part_of-once names (Name s) (Name t) h k e = ap Name (number_of-once names s t h k (number-same _ _ e))
part_of-once names (Name s) (Index j) h k e = absurd (other-part _ _ e)
part_of-once names (Index i) (Name t) h k e = absurd (other-part _ _ (sym e))
part_of-once names (Index i) (Index j) h k e = ap Index (index-same i j e)

-- paths of known names are one if their parts are
pub parts_of-once : (names : List (List ℕ)) (a b : List CellElemKind) → All (IsKnown names) a → All (IsKnown names) b → parts_of names a ≡ parts_of names b → a ≡ b
parts_of-once names [] [] h k e = refl
parts_of-once names [] (y ∷ ys) h k e = cc
parts_of-once names (x ∷ xs) [] h k e = cc
parts_of-once names (x ∷ xs) (y ∷ ys) h k e =
    let first : part_of names x ≡ part_of names y = cc in
    let others : parts_of names xs ≡ parts_of names ys = cc in
    let head = part_of-once names x y (All-head (IsKnown names) x xs h) (All-head (IsKnown names) y ys k) first in
    let tail = parts_of-once names xs ys (All-tail (IsKnown names) x xs h) (All-tail (IsKnown names) y ys k) others in
    ap (λ (z : CellElemKind). z ∷ xs) head ∙ ap (λ (zs : List CellElemKind). y ∷ zs) tail

known-more : (names : List (List ℕ)) (path more declared : List CellElemKind) → declared ≡ path ++ more → All (IsKnown names) path → All (IsKnown names) more → All (IsKnown names) declared
known-more names path more declared e h k = subst (All (IsKnown names)) (sym e) (All-append (IsKnown names) path more h k)

known-indexes : (names : List (List ℕ)) (i : ℕ) (more : List CellElemKind) → All (IsKnown names) more → All (IsKnown names) (Index i ∷ more)
known-indexes names i more h = All-cons (IsKnown names) (Index i) more tt h

known-none : (names : List (List ℕ)) → All (IsKnown names) []
known-none names = All-nil (IsKnown names)

known-declared : (names : List (List ℕ)) (path : List CellElemKind) (shape : CellShape) (declared : List CellElemKind) → All (IsKnown names) path → DeclaresCells path shape declared → All (IsKnown names) declared
known-declared names path (Scalar initial) declared h d = subst (All (IsKnown names)) (sym d) h
known-declared names path (Array n) declared h d =
    ⊎_elim
    (λ e. subst (All (IsKnown names)) (sym e) h)
    (λ r. known-more names path (Index r.0 ∷ []) declared r.2 h (known-indexes names r.0 [] (known-none names)))
    d
known-declared names path (Grid rows columns) declared h d =
    ⊎_elim
    (λ e. subst (All (IsKnown names)) (sym e) h)
    (λ g. known-more names path (Index g.0 ∷ Index g.1 ∷ []) declared g.4 h (known-indexes names g.0 (Index g.1 ∷ []) (known-indexes names g.1 [] (known-none names))))
    d

pub known-node : (names : List (List ℕ)) (cells : List CellDecl) (path : List CellElemKind) → Contains names (codes "Console") → AreKnown names cells → IsPathNode cells path → All (IsKnown names) path
known-node names cells path has known (of_console rest e) =
    All-front (IsKnown names) path rest (subst (All (IsKnown names)) e (All-cons (IsKnown names) (Name (codes "Console")) [] has (known-none names)))
known-node names cells path has known (of_cell cell declared rest there d e) =
    let all = All-contains (λ (c : CellDecl). All (IsKnown names) (written_path c)) cells cell known there in
    All-front (IsKnown names) path rest (subst (All (IsKnown names)) e (known-declared names (written_path cell) cell.shape declared all d))
