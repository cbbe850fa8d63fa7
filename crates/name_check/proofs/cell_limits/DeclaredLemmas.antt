-- The beginnings of the paths that a cell declares, and their parts.
use Rattle.std.proofs.Common.{◌≡◌, ℕ, pos, ◌<◌, ◌↔◌, List, [], ◌∷◌, ◌++◌, Option, refl, sym, ap, subst, ◌∙◌, ◌⊎◌, inl, inr, ⊎_elim, arith}
use Rattle.std.proofs.Math.Seq.{append_snoc}
use Rattle.std.proofs.lemmas.List.{map-append}
use Rattle.twe_ast.specs.declared.item.CellShape.{CellShape}
use Rattle.twe_ast.specs.declared.item.Initial.{Initial}
use Rattle.twe_ast.specs.declared.item.CellShape.TheVariants.{Scalar, Array, Grid}
use Rattle.twe_ast.specs.declared.path.CellElemKind.{CellElemKind}
use Rattle.twe_ast.specs.declared.path.CellElemKind.TheVariants as kind
use Rattle.prefix_tree.specs.declared.part.Part.{Part}
use Rattle.prefix_tree.specs.declared.part.Part.TheVariants as part
use Rattle.prefix_tree.specs.Prefix.{IsPrefix}
use Rattle.prefix_tree.specs.Growth.{Grows, IsRowElement, IsGridElement}
use Rattle.prefix_tree.proofs.PrefixLemmas.{IsPrefix-refl, IsPrefix-snoc}
use Rattle.prefix_tree.proofs.GrowthLemmas.{Grows-append, Grows-same}
use Rattle.name_check.specs.cell_limits.Nodes.{DeclaresCells}
use Rattle.name_check.specs.cell_limits.inner.Parts.{part_of, parts_of}
use Rattle.name_check.specs.cell_limits.inner.Counting.{IsPartsOf}

-- a beginning of the parts of a path is that of a beginning of the path
pub prefix-parts : (names : List (List ℕ)) (path : List CellElemKind) (parts : List Part) → IsPrefix parts (parts_of names path) → (front : List CellElemKind) × (rest : List CellElemKind) × (path ≡ front ++ rest) × (parts_of names front ≡ parts)
prefix-parts names path [] h = ([], path, refl, refl)
prefix-parts names [] (p ∷ ps) h = absurd h
prefix-parts names (k ∷ ks) (p ∷ ps) h =
    let others = prefix-parts names ks ps h.1 in (
      k ∷ others.0,
      others.1,
      ap (λ (path : List CellElemKind). k ∷ path) others.2,
      ap (λ (path : List Part). part_of names k ∷ path) others.3 ∙ ap (λ (q : Part). q ∷ ps) (sym h.0),
    )

pub parts-prefix : (names : List (List ℕ)) (front rest : List CellElemKind) → IsPrefix (parts_of names front) (parts_of names (front ++ rest))
parts-prefix names [] rest = tt
parts-prefix names (k ∷ ks) rest = (refl, parts-prefix names ks rest)

parts-snoc : (names : List (List ℕ)) (path : List CellElemKind) (k : CellElemKind) → parts_of names (path ++ k ∷ []) ≡ parts_of names path ++ part_of names k ∷ []
parts-snoc names path k = map-append (part_of names) path (k ∷ [])

parts-grid : (names : List (List ℕ)) (path : List CellElemKind) (i j : ℕ) → parts_of names (path ++ kind.Index i ∷ kind.Index j ∷ []) ≡ (parts_of names path ++ part.Index (pos i) ∷ []) ++ part.Index (pos j) ∷ []
parts-grid names path i j =
    map-append (part_of names) path (kind.Index i ∷ kind.Index j ∷ []) ∙ sym (append_snoc (parts_of names path) (part.Index (pos i)) (part.Index (pos j) ∷ []))

-- the path is a beginning of one that a cell of this shape at this path declares
abbrev IsOf : List CellElemKind → CellShape → List CellElemKind → Type 0
IsOf at shape path = (declared : List CellElemKind) × (rest : List CellElemKind) × DeclaresCells at shape declared × (declared ≡ path ++ rest)

of-declared : (names : List (List ℕ)) (at : List CellElemKind) (shape : CellShape) (declared : List CellElemKind) (parts : List Part) → DeclaresCells at shape declared → IsPrefix parts (parts_of names declared) → IsPartsOf names (IsOf at shape) parts
of-declared names at shape declared parts d h =
    let front = prefix-parts names declared parts h in
    (front.0, (declared, front.1, d, front.2), front.3)

to-declared : (names : List (List ℕ)) (at : List CellElemKind) (shape : CellShape) (parts : List Part) → IsPartsOf names (IsOf at shape) parts → (declared : List CellElemKind) × DeclaresCells at shape declared × IsPrefix parts (parts_of names declared)
to-declared names at shape parts (path, (declared, rest, d, e), is) = (
  declared,
  d,
  subst (λ (p : List Part). IsPrefix p (parts_of names declared)) is
      (subst (λ (whole : List CellElemKind). IsPrefix (parts_of names path) (parts_of names whole)) (sym e) (parts-prefix names path rest)),
)

whole : (path at : List Part) → path ≡ at → IsPrefix path at
whole path at e = subst (λ (p : List Part). IsPrefix path p) e (IsPrefix-refl path)

to : (names : List (List ℕ)) (parts : List Part) (one other : List CellElemKind) (at : List Part) → one ≡ other → parts_of names other ≡ at → IsPrefix parts (parts_of names one) → IsPrefix parts at
to names parts one other at e is h = subst (λ (p : List Part). IsPrefix parts p) (ap (parts_of names) e ∙ is) h

of-scalar : (names : List (List ℕ)) (at : List CellElemKind) (initial : Option Initial) (parts : List Part) → IsPrefix parts (parts_of names at) ↔ IsPartsOf names (IsOf at (Scalar initial)) parts
of-scalar names at initial parts = (
  λ h. of-declared names at (Scalar initial) at parts refl h,
  λ o. let d = to-declared names at (Scalar initial) parts o in to names parts d.0 at (parts_of names at) d.1 refl d.2,
)

of-array : (names : List (List ℕ)) (at : List CellElemKind) (n : ℕ) (parts : List Part) → (IsPrefix parts (parts_of names at) ⊎ IsRowElement (parts_of names at) n parts) ↔ IsPartsOf names (IsOf at (Array n)) parts
of-array names at n parts = (
  λ h.
      ⊎_elim
      (λ p. of-declared names at (Array n) at parts (inl refl) p)
      (λ r.
      let element = at ++ kind.Index r.0 ∷ [] in
      of-declared names at (Array n) element parts (inr (r.0, r.1, refl)) (whole parts (parts_of names element) (r.2 ∙ sym (parts-snoc names at (kind.Index r.0)))))
      h,
  λ o.
      let d = to-declared names at (Array n) parts o in
      ⊎_elim
      (λ e. inl (to names parts d.0 at (parts_of names at) e refl d.2))
      (λ r.
      ⊎_elim (λ p. inl p) (λ e. inr (r.0, r.1, e))
      ((IsPrefix-snoc parts (parts_of names at) (part.Index (pos r.0))).0 (to names parts d.0 _ _ r.2 (parts-snoc names at (kind.Index r.0)) d.2)))
      d.1,
)

of-grid : (names : List (List ℕ)) (at : List CellElemKind) (rows columns : ℕ) (parts : List Part) → (IsPrefix parts (parts_of names at) ⊎ IsGridElement (parts_of names at) rows columns parts) ↔ IsPartsOf names (IsOf at (Grid rows columns)) parts
of-grid names at rows columns parts = (
  λ h.
      ⊎_elim
      (λ p. of-declared names at (Grid rows columns) at parts (inl refl) p)
      (λ g.
      let i = g.1.0 in
      let row = parts_of names at ++ part.Index (pos i) ∷ [] in
      ⊎_elim
      (λ (e : parts ≡ row).
      of-declared names at (Grid rows columns) (at ++ kind.Index i ∷ kind.Index 0 ∷ []) parts (inr (i, 0, g.1.1, g.0, refl))
      (subst (λ (p : List Part). IsPrefix parts p) (sym (parts-grid names at i 0)) ((IsPrefix-snoc parts row (part.Index (pos 0))).1 (inl (whole parts row e)))))
      (λ (r : IsRowElement row columns parts).
      of-declared names at (Grid rows columns) (at ++ kind.Index i ∷ kind.Index r.0 ∷ []) parts (inr (i, r.0, g.1.1, r.1, refl))
      (whole parts _ (r.2 ∙ sym (parts-grid names at i r.0))))
      g.1.2)
      h,
  λ o.
      let d = to-declared names at (Grid rows columns) parts o in
      ⊎_elim
      (λ e. inl (to names parts d.0 at (parts_of names at) e refl d.2))
      (λ g.
      let i = g.0 in
      let j = g.1 in
      let row = parts_of names at ++ part.Index (pos i) ∷ [] in
      let column = g.3 in
      let some : 0 < columns = omega arith in
      ⊎_elim
      (λ p. ⊎_elim (λ q. inl q) (λ e. inr (some, (i, g.2, inl e))) ((IsPrefix-snoc parts (parts_of names at) (part.Index (pos i))).0 p))
      (λ e. inr (some, (i, g.2, inr (j, column, e))))
      ((IsPrefix-snoc parts row (part.Index (pos j))).0 (to names parts d.0 _ _ g.4 (parts-grid names at i j) d.2)))
      d.1,
)

-- what a cell at this path adds
pub Grows-scalar : (names : List (List ℕ)) (old new : List (List Part)) (front : List Part) (at : List CellElemKind) (shape : CellShape) (initial : Option Initial) → front ≡ parts_of names at → shape ≡ Scalar initial
    → Grows old new (λ path. IsPrefix path front) → Grows old new (IsPartsOf names (IsOf at shape))
Grows-scalar names old new front at shape initial same is a =
    subst (λ (d : CellShape). Grows old new (IsPartsOf names (IsOf at d))) (sym is)
    (Grows-same old new (λ path. IsPrefix path (parts_of names at)) (IsPartsOf names (IsOf at (Scalar initial)))
    (subst (λ (p : List Part). Grows old new (λ path. IsPrefix path p)) same a) (of-scalar names at initial))

pub Grows-array : (names : List (List ℕ)) (old mid new : List (List Part)) (front above : List Part) (at : List CellElemKind) (shape : CellShape) (n : ℕ) → front ≡ parts_of names at → above ≡ front → shape ≡ Array n
    → Grows old mid (λ path. IsPrefix path front) → Grows mid new (IsRowElement above n) → Grows old new (IsPartsOf names (IsOf at shape))
Grows-array names old mid new front above at shape n same end is a b =
    let parts = parts_of names at in
    subst (λ (d : CellShape). Grows old new (IsPartsOf names (IsOf at d))) (sym is)
    (Grows-same old new (λ path. IsPrefix path parts ⊎ IsRowElement parts n path) (IsPartsOf names (IsOf at (Array n)))
    (Grows-append old mid new (λ path. IsPrefix path parts) (IsRowElement parts n)
    (subst (λ (p : List Part). Grows old mid (λ path. IsPrefix path p)) same a)
    (subst (λ (p : List Part). Grows mid new (IsRowElement p n)) (end ∙ same) b))
    (of-array names at n))

pub Grows-grid_of : (names : List (List ℕ)) (old mid new : List (List Part)) (front above : List Part) (at : List CellElemKind) (shape : CellShape) (rows columns : ℕ) → front ≡ parts_of names at → above ≡ front → shape ≡ Grid rows columns
    → Grows old mid (λ path. IsPrefix path front) → Grows mid new (IsGridElement above rows columns) → Grows old new (IsPartsOf names (IsOf at shape))
Grows-grid_of names old mid new front above at shape rows columns same end is a b =
    let parts = parts_of names at in
    subst (λ (d : CellShape). Grows old new (IsPartsOf names (IsOf at d))) (sym is)
    (Grows-same old new (λ path. IsPrefix path parts ⊎ IsGridElement parts rows columns path) (IsPartsOf names (IsOf at (Grid rows columns)))
    (Grows-append old mid new (λ path. IsPrefix path parts) (IsGridElement parts rows columns)
    (subst (λ (p : List Part). Grows old mid (λ path. IsPrefix path p)) same a)
    (subst (λ (p : List Part). Grows mid new (IsGridElement p rows columns)) (end ∙ same) b))
    (of-grid names at rows columns))
