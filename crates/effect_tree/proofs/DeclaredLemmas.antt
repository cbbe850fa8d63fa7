-- What a cell adds to the tree: the prefixes of the paths that it declares.
use Rattle.std.proofs.Common.{◌≡◌, ℕ, pos, ◌<◌, ◌↔◌, List, [], ◌∷◌, ◌++◌, map, refl, sym, ap, subst, ◌∙◌, ◌⊎◌, inl, inr, ⊎_elim, arith}
use Rattle.std.proofs.Math.Seq.{append_snoc}
use Rattle.region_paths.specs.declared.elements.Elem.{Elem}
use Rattle.region_paths.specs.declared.elements.Elem.TheVariants.{Index}
use Rattle.prefix_tree.specs.declared.part.Part.{Part}
use Rattle.prefix_tree.specs.declared.part.Part.TheVariants as part
use Rattle.prefix_tree.specs.Prefix.{IsPrefix}
use Rattle.prefix_tree.specs.Growth.{Grows, IsRowElement, IsGridElement}
use Rattle.prefix_tree.proofs.PrefixLemmas.{IsPrefix-refl, IsPrefix-snoc}
use Rattle.prefix_tree.proofs.GrowthLemmas.{Grows-append, Grows-same}
use Rattle.twe_program.specs.declared.program.Dims.{Dims}
use Rattle.twe_program.specs.declared.program.Dims.TheVariants.{Scalar, Row, Grid}
use Rattle.twe_program.specs.Nodes.{PathBeginsWith, IsPrefixOfDeclared}
use Rattle.effect_tree.specs.inner.Parts.{elem_of}
use Rattle.effect_tree.proofs.PartPaths.{elem_of-same, elems-snoc}

-- the elements of a path begin with those of its prefixes, and with those of no other path

begins : (whole parts : List Part) → IsPrefix parts whole → PathBeginsWith (map elem_of whole) (map elem_of parts)
begins whole [] h = (map elem_of whole, refl)
begins [] (p ∷ ps) h = absurd h
begins (w ∷ ws) (p ∷ ps) h =
    let rest = begins ws ps h.1 in
    (rest.0, ap (λ (xs : List Elem). elem_of w ∷ xs) rest.1 ∙ ap (λ (q : Part). elem_of q ∷ (map elem_of ps ++ rest.0)) (sym h.0))

pub prefix-of : (whole parts : List Part) → PathBeginsWith (map elem_of whole) (map elem_of parts) → IsPrefix parts whole
prefix-of whole [] h = tt
prefix-of [] (p ∷ ps) h = let e = h.1 in cc
prefix-of (w ∷ ws) (p ∷ ps) h =
    let e = h.1 in
    let head : elem_of w ≡ elem_of p = cc in
    let tail : map elem_of ws ≡ map elem_of ps ++ h.0 = cc in
    (sym (elem_of-same w p head), prefix-of ws ps (h.0, tail))

as-begins : (whole parts : List Part) (declared : List Elem) → map elem_of whole ≡ declared → IsPrefix parts whole → PathBeginsWith declared (map elem_of parts)
as-begins whole parts declared is h = let b = begins whole parts h in (b.0, sym is ∙ b.1)

as-prefix : (declared : List Elem) (whole parts : List Part) → declared ≡ map elem_of whole → PathBeginsWith declared (map elem_of parts) → IsPrefix parts whole
as-prefix declared whole parts is h = prefix-of whole parts (h.0, sym is ∙ h.1)

itself : (parts whole : List Part) → parts ≡ whole → IsPrefix parts whole
itself parts whole e = subst (λ (p : List Part). IsPrefix parts p) e (IsPrefix-refl parts)

-- by the shape of the cell

pub two_more : (front : List Part) (i j : ℕ) → map elem_of ((front ++ part.Index (pos i) ∷ []) ++ part.Index (pos j) ∷ []) ≡ map elem_of front ++ Index (pos i) ∷ Index (pos j) ∷ []
two_more front i j =
    elems-snoc (front ++ part.Index (pos i) ∷ []) (part.Index (pos j))
    ∙ ap (λ (xs : List Elem). xs ++ Index (pos j) ∷ []) (elems-snoc front (part.Index (pos i)))
    ∙ append_snoc (map elem_of front) (Index (pos i)) (Index (pos j) ∷ [])

of_scalar : (front parts : List Part) → IsPrefix parts front ↔ IsPrefixOfDeclared (map elem_of front) Scalar (map elem_of parts)
of_scalar front parts = (λ h. (map elem_of front, refl, begins front parts h), λ d. as-prefix d.0 front parts d.1 d.2)

of_row : (front : List Part) (n : ℕ) (parts : List Part) → (IsPrefix parts front ⊎ IsRowElement front n parts) ↔ IsPrefixOfDeclared (map elem_of front) (Row n) (map elem_of parts)
of_row front n parts = (
  λ h.
      ⊎_elim
      (λ p. (map elem_of front, inl refl, begins front parts p))
      (λ r.
      let last = part.Index (pos r.0) in (
        map elem_of front ++ Index (pos r.0) ∷ [],
        inr (r.0, r.1, refl),
        as-begins (front ++ last ∷ []) parts _ (elems-snoc front last) (itself parts (front ++ last ∷ []) r.2),
      ))
      h,
  λ d.
      ⊎_elim
      (λ e. inl (as-prefix d.0 front parts e d.2))
      (λ r.
      let last = part.Index (pos r.0) in
      ⊎_elim (λ p. inl p) (λ e. inr (r.0, r.1, e))
      ((IsPrefix-snoc parts front last).0 (as-prefix d.0 (front ++ last ∷ []) parts (r.2 ∙ sym (elems-snoc front last)) d.2)))
      d.1,
)

of_grid : (front : List Part) (rows cols : ℕ) (parts : List Part) → (IsPrefix parts front ⊎ IsGridElement front rows cols parts) ↔ IsPrefixOfDeclared (map elem_of front) (Grid rows cols) (map elem_of parts)
of_grid front rows cols parts = (
  λ h.
      ⊎_elim
      (λ p. (map elem_of front, inl refl, begins front parts p))
      (λ g.
      let i = g.1.0 in
      let row = front ++ part.Index (pos i) ∷ [] in
      ⊎_elim
      (λ (e : parts ≡ row). (
        map elem_of front ++ Index (pos i) ∷ Index (pos 0) ∷ [],
        inr (i, 0, g.1.1, g.0, refl),
        as-begins (row ++ part.Index (pos 0) ∷ []) parts _ (two_more front i 0) ((IsPrefix-snoc parts row (part.Index (pos 0))).1 (inl (itself parts row e))),
      ))
      (λ (r : IsRowElement row cols parts). (
        map elem_of front ++ Index (pos i) ∷ Index (pos r.0) ∷ [],
        inr (i, r.0, g.1.1, r.1, refl),
        as-begins (row ++ part.Index (pos r.0) ∷ []) parts _ (two_more front i r.0) (itself parts (row ++ part.Index (pos r.0) ∷ []) r.2),
      ))
      g.1.2)
      h,
  λ d.
      ⊎_elim
      (λ e. inl (as-prefix d.0 front parts e d.2))
      (λ g.
      let i = g.0 in
      let j = g.1 in
      let row = front ++ part.Index (pos i) ∷ [] in
      let column = g.3 in
      let some : 0 < cols = omega arith in
      ⊎_elim
      (λ p. ⊎_elim (λ q. inl q) (λ e. inr (some, (i, g.2, inl e))) ((IsPrefix-snoc parts front (part.Index (pos i))).0 p))
      (λ e. inr (some, (i, g.2, inr (j, column, e))))
      ((IsPrefix-snoc parts row (part.Index (pos j))).0 (as-prefix d.0 (row ++ part.Index (pos j) ∷ []) parts (g.4 ∙ sym (two_more front i j)) d.2)))
      d.1,
)

-- what a cell adds whose path has these parts
abbrev pub GrowsByCell : List (List Part) → List (List Part) → List Elem → Dims → Type 0
GrowsByCell old new at dims = Grows old new (λ (parts : List Part). IsPrefixOfDeclared at dims (map elem_of parts))

pub Grows-scalar : (old new : List (List Part)) (front : List Part) (at : List Elem) (dims : Dims) → map elem_of front ≡ at → dims ≡ Scalar → Grows old new (λ parts. IsPrefix parts front) → GrowsByCell old new at dims
Grows-scalar old new front at dims same is a =
    subst (λ (d : Dims). GrowsByCell old new at d) (sym is)
    (subst (λ (p : List Elem). GrowsByCell old new p Scalar) same
    (Grows-same old new (λ parts. IsPrefix parts front) (λ parts. IsPrefixOfDeclared (map elem_of front) Scalar (map elem_of parts)) a (of_scalar front)))

pub Grows-row_of : (old mid new : List (List Part)) (front above : List Part) (at : List Elem) (dims : Dims) (n : ℕ) → map elem_of front ≡ at → above ≡ front → dims ≡ Row n → Grows old mid (λ parts. IsPrefix parts front) → Grows mid new (IsRowElement above n) → GrowsByCell old new at dims
Grows-row_of old mid new front above at dims n same end is a b =
    subst (λ (d : Dims). GrowsByCell old new at d) (sym is)
    (subst (λ (p : List Elem). GrowsByCell old new p (Row n)) same
    (Grows-same old new (λ parts. IsPrefix parts front ⊎ IsRowElement front n parts) (λ parts. IsPrefixOfDeclared (map elem_of front) (Row n) (map elem_of parts))
    (Grows-append old mid new (λ parts. IsPrefix parts front) (IsRowElement front n) a (subst (λ (p : List Part). Grows mid new (IsRowElement p n)) end b))
    (of_row front n)))

pub Grows-grid_of : (old mid new : List (List Part)) (front above : List Part) (at : List Elem) (dims : Dims) (rows cols : ℕ) → map elem_of front ≡ at → above ≡ front → dims ≡ Grid rows cols → Grows old mid (λ parts. IsPrefix parts front) → Grows mid new (IsGridElement above rows cols) → GrowsByCell old new at dims
Grows-grid_of old mid new front above at dims rows cols same end is a b =
    subst (λ (d : Dims). GrowsByCell old new at d) (sym is)
    (subst (λ (p : List Elem). GrowsByCell old new p (Grid rows cols)) same
    (Grows-same old new (λ parts. IsPrefix parts front ⊎ IsGridElement front rows cols parts) (λ parts. IsPrefixOfDeclared (map elem_of front) (Grid rows cols) (map elem_of parts))
    (Grows-append old mid new (λ parts. IsPrefix parts front) (IsGridElement front rows cols) a (subst (λ (p : List Part). Grows mid new (IsGridElement p rows cols)) end b))
    (of_grid front rows cols)))
