-- Rows and grids that grow by one element, and by one row.
use Rattle.std.proofs.Common.{◌≡◌, ℕ, pos, ◌+◌, ◌<◌, ◌≤◌, ◌↔◌, List, [], ◌∷◌, ◌++◌, ap, subst, ◌∙◌, ◌⊎◌, inl, inr, ⊎_elim, arith}
use Rattle.std.proofs.lemmas.Bool.{cases_lt}
use Rattle.prefix_tree.specs.declared.part.Part.{Part}
use Rattle.prefix_tree.specs.declared.part.Part.TheVariants.{Index}
use Rattle.prefix_tree.specs.Growth.{Grows, IsRowElement, IsGridElement}
use Rattle.prefix_tree.proofs.GrowthLemmas.{Grows-none, Grows-append, Grows-same}

-- no element, and one more
pub Grows-empty_row : (nodes : List (List Part)) (above : List Part) → Grows nodes nodes (IsRowElement above 0)
Grows-empty_row nodes above = Grows-none nodes (IsRowElement above 0) (λ path h. let none = h.1 in absurd (omega arith))

row_more : (above : List Part) (k : ℕ) (path : List Part) → (IsRowElement above k path ⊎ (path ≡ above ++ Index (pos k) ∷ [])) ↔ IsRowElement above (k + 1) path
row_more above k path = (
  λ h. ⊎_elim (λ r. let below = r.1 in (r.0, omega arith, r.2)) (λ e. (k, omega arith, e)) h,
  λ r.
      let below = r.1 in
      ⊎_elim
      (λ (earlier : r.0 < k). inl (r.0, earlier, r.2))
      (λ (past : k ≤ r.0). let last : r.0 ≡ k = omega arith in inr (r.2 ∙ ap (λ (i : ℕ). above ++ Index (pos i) ∷ []) last))
      (cases_lt r.0 k),
)

pub Grows-row : (old mid new : List (List Part)) (above : List Part) (k : ℕ) → Grows old mid (IsRowElement above k) → Grows mid new (λ path. path ≡ above ++ Index (pos k) ∷ []) → Grows old new (IsRowElement above (k + 1))
Grows-row old mid new above k a b =
    Grows-same old new (λ path. IsRowElement above k path ⊎ (path ≡ above ++ Index (pos k) ∷ [])) (IsRowElement above (k + 1))
    (Grows-append old mid new (IsRowElement above k) (λ path. path ≡ above ++ Index (pos k) ∷ []) a b)
    (row_more above k)

-- no row, and one more with all its elements
pub Grows-empty_grid : (nodes : List (List Part)) (above : List Part) (cols : ℕ) → Grows nodes nodes (IsGridElement above 0 cols)
Grows-empty_grid nodes above cols = Grows-none nodes (IsGridElement above 0 cols) (λ path h. let none = h.1.1 in absurd (omega arith))

pub Grows-no_columns : (nodes : List (List Part)) (above : List Part) (rows cols : ℕ) → cols ≡ 0 → Grows nodes nodes (IsGridElement above rows cols)
Grows-no_columns nodes above rows cols e = Grows-none nodes (IsGridElement above rows cols) (λ path h. let some = h.0 in absurd (omega arith))

-- a row and its elements
abbrev IsInRow : List Part → ℕ → List Part → Type 0
IsInRow row cols path = (path ≡ row) ⊎ IsRowElement row cols path

grid_more : (above : List Part) (k cols : ℕ) → 0 < cols → (path : List Part) → (IsGridElement above k cols path ⊎ IsInRow (above ++ Index (pos k) ∷ []) cols path) ↔ IsGridElement above (k + 1) cols path
grid_more above k cols some path = (
  λ h.
      ⊎_elim
      (λ g. let below = g.1.1 in (some, (g.1.0, omega arith, g.1.2)))
      (λ r. (some, (k, omega arith, r)))
      h,
  λ g.
      let below = g.1.1 in
      ⊎_elim
      (λ (earlier : g.1.0 < k). inl (some, (g.1.0, earlier, g.1.2)))
      (λ (past : k ≤ g.1.0).
      let last : g.1.0 ≡ k = omega arith in
      inr (subst (λ (i : ℕ). IsInRow (above ++ Index (pos i) ∷ []) cols path) last g.1.2))
      (cases_lt g.1.0 k),
)

pub Grows-grid : (old mid row new : List (List Part)) (above : List Part) (k cols : ℕ) → 0 < cols → Grows old mid (IsGridElement above k cols) → Grows mid row (λ path. path ≡ above ++ Index (pos k) ∷ []) → Grows row new (IsRowElement (above ++ Index (pos k) ∷ []) cols) → Grows old new (IsGridElement above (k + 1) cols)
Grows-grid old mid row new above k cols some a b c =
    let At = above ++ Index (pos k) ∷ [] in
    Grows-same old new (λ path. IsGridElement above k cols path ⊎ IsInRow At cols path) (IsGridElement above (k + 1) cols)
    (Grows-append old mid new (IsGridElement above k cols) (IsInRow At cols) a
    (Grows-append mid row new (λ path. path ≡ At) (IsRowElement At cols) b c))
    (grid_more above k cols some)
