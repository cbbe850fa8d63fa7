-- One element more: what leads to what, and paths that cover it.
use Rattle.std.proofs.Common.{◌≡◌, ◌<◌, ◌⊎◌, inl, inr, ℕ, List, [], ◌∷◌, ◌++◌, length, Some, sym, ◌∙◌, subst, arith}
use Rattle.std.specs.Prelude.{slice_get}
use Rattle.std.proofs.lemmas.Option.{slice_get_within}
use Rattle.held_span.proofs.Longer.{get-cases, get-kept, get-last}
use Rattle.span_profile.specs.heaviest_chain.Chains.{Leads}
use Rattle.held_span.specs.inner.Paths.{IsPath}
use Rattle.held_span.proofs.Paths.{path-map}

module _ {X : Type 0} (R : X → X → Type 0) (xs : List X) (y : X) where
  -- what leads on leads on in the longer list
  pub leads_kept : (i j : ℕ) → Leads R xs i j → Leads R (xs ++ y ∷ []) i j
  leads_kept i j l = record {
    before = l.before;
    first = l.first;
    second = l.second;
    at_first = get-kept xs y i l.first l.at_first;
    at_second = get-kept xs y j l.second l.at_second;
    leads = l.leads;
  }

  pub leads_last : (i : ℕ) (x : X) → slice_get xs i ≡ Some x → R x y → Leads R (xs ++ y ∷ []) i (length xs)
  leads_last i x at r = record {
    before = slice_get_within xs i x at;
    first = x;
    second = y;
    at_first = get-kept xs y i x at;
    at_second = get-last xs y;
    leads = r;
  }

  -- and nothing else does
  abbrev pub LeadsToLast : ℕ → ℕ → Type 0
  LeadsToLast i j = (j ≡ length xs) × ((x : X) × (slice_get xs i ≡ Some x) × R x y)

  by_first : (i j : ℕ) (x z : X) → i < j → j < length xs → slice_get xs j ≡ Some z → R x z → (slice_get xs i ≡ Some x) ⊎ ((i ≡ length xs) × (x ≡ y)) → Leads R xs i j
  by_first i j x z before below at r (inl old) = record { before = before; first = x; second = z; at_first = old; at_second = at; leads = r }
  by_first i j x z before below at r (inr new) = absurd (let last = new.0 in omega (arith, before, below, last))

  pub leads_cases : (i j : ℕ) → Leads R (xs ++ y ∷ []) i j → Leads R xs i j ⊎ LeadsToLast i j
  leads_cases i j l = elim (get-cases xs y j l.second l.at_second) [
    | inl old ↦
        let below = slice_get_within xs j l.second old in
        inl (by_first i j l.first l.second l.before below old l.leads (get-cases xs y i l.first l.at_first))
    | inr new ↦ elim (get-cases xs y i l.first l.at_first) [
      | inl old ↦ inr (new.0, (l.first, old, subst (R l.first) new.1 l.leads))
      | inr both ↦ let one = new.0 in let other = both.0 in let before = l.before in absurd (omega (arith, one, other, before))
    ]
  ]

module _ {X Y : Type 0} (R : X → X → Type 0) (S : Y → Y → Type 0) (xs : List X) (ys : List Y) (x : X) (y : Y) (many : length xs ≡ length ys) where
  -- each edge of the first lists is one of the second
  pub sound_more : ((i j : ℕ) → Leads R xs i j → Leads S ys i j)
      → ((i : ℕ) (a : X) → slice_get xs i ≡ Some a → R a x → (b : Y) × (slice_get ys i ≡ Some b) × S b y)
      → (i j : ℕ) → Leads R (xs ++ x ∷ []) i j → Leads S (ys ++ y ∷ []) i j
  sound_more sound new i j l = elim (leads_cases R xs x i j l) [
    | inl old ↦ leads_kept S ys y i j (sound i j old)
    | inr last ↦
        let found = new i last.1.0 last.1.1 last.1.2 in
        subst (λ (n : ℕ). Leads S (ys ++ y ∷ []) i n) (sym (last.0 ∙ many)) (leads_last S ys y i found.0 found.1 found.2)
  ]

  -- each edge of the second lists is covered by a path of the first
  pub covers_more : ((i j : ℕ) → Leads S ys i j → (between : List ℕ) × IsPath (Leads R xs) i between j)
      → ((i : ℕ) (b : Y) → slice_get ys i ≡ Some b → S b y → (between : List ℕ) × IsPath (Leads R (xs ++ x ∷ [])) i between (length xs))
      → (i j : ℕ) → Leads S (ys ++ y ∷ []) i j → (between : List ℕ) × IsPath (Leads R (xs ++ x ∷ [])) i between j
  covers_more covers new i j l = elim (leads_cases S ys y i j l) [
    | inl old ↦ (let path = covers i j old in (path.0, path-map (Leads R xs) (Leads R (xs ++ x ∷ [])) (leads_kept R xs x) i path.0 j path.1))
    | inr last ↦
        let path = new i last.1.0 last.1.1 last.1.2 in
        (path.0, subst (IsPath (Leads R (xs ++ x ∷ [])) i path.0) (many ∙ sym last.0) path.1)
  ]
