-- Which paths are in a list after effects were put into it, each in its place.
use Rattle.std.proofs.Common.{◌≡◌, ◌⊎◌, ℕ, Bool, true, false, List, [], ◌∷◌, take, drop, insert, if◌then◌else◌, inl, inr, refl, sym, ap, ◌∙◌, subst, take-append-drop}
use Rattle.std.proofs.lemmas.Bool.{false≢true}
use Rattle.region_paths.specs.declared.elements.Elem.{Elem}
use Rattle.effect_sets.specs.declared.effects.Effect.{Effect}
use Rattle.twe_base.proofs.Members.{IsIn, in-cases, in-left, in-right}
use Rattle.summary_texts.specs.Order.{is_same, place_in, with_path, with_paths}

-- a path more, in its place
pub inserted-in : (i : ℕ) (paths : List (List Elem)) (path its : List Elem) → IsIn its (insert paths i path) → (its ≡ path) ⊎ IsIn its paths
inserted-in i paths path its h =
    elim (in-cases its (take i paths) (path ∷ drop i paths) h) [
      | inl front ↦ inr (subst (IsIn its) (take-append-drop i paths) (in-left its (take i paths) (drop i paths) front))
      | inr (inl e) ↦ inl e
      | inr (inr back) ↦ inr (subst (IsIn its) (take-append-drop i paths) (in-right its (take i paths) (drop i paths) back))
    ]

in-inserted : (i : ℕ) (paths : List (List Elem)) (path its : List Elem) → (its ≡ path) ⊎ IsIn its paths → IsIn its (insert paths i path)
in-inserted i paths path its (inl e) = in-right its (take i paths) (path ∷ drop i paths) (inl e)
in-inserted i paths path its (inr h) =
    elim (in-cases its (take i paths) (drop i paths) (subst (IsIn its) (sym (take-append-drop i paths)) h)) [
      | inl front ↦ in-left its (take i paths) (path ∷ drop i paths) front
      | inr back ↦ in-right its (take i paths) (path ∷ drop i paths) (inr back)
    ]

pub same-is : (b c : Bool) → is_same b c ≡ true → b ≡ c
same-is true true h = refl
same-is true false h = absurd (false≢true h)
same-is false true h = absurd (false≢true h)
same-is false false h = refl

is-same : (b : Bool) → is_same b b ≡ true
is-same true = refl
is-same false = refl

module _ (write : Bool) where
  -- the effect has this path
  abbrev pub Has : List Effect → List Elem → Type 0
  Has effects path = (effect : Effect) × IsIn effect effects × (effect.write ≡ write) × (effect.path.elems ≡ path)

  one-step : (b : Bool) (effect : Effect) (paths : List (List Elem)) (path : List Elem) → is_same effect.write write ≡ b
      → IsIn path (if b then with_path paths effect.path.elems else paths) → IsIn path paths ⊎ ((effect.write ≡ write) × (effect.path.elems ≡ path))
  one-step true effect paths path is h = elim (inserted-in (place_in paths effect.path.elems) paths effect.path.elems path h) [
    | inl e ↦ inr (same-is effect.write write is, sym e)
    | inr old ↦ inl old
  ]
  one-step false effect paths path is h = inl h

  pub paths-from : (paths : List (List Elem)) (effects : List Effect) (path : List Elem) → IsIn path (with_paths write paths effects) → IsIn path paths ⊎ Has effects path
  paths-from paths [] path h = inl h
  paths-from paths (effect ∷ effects) path h =
      elim (paths-from (if is_same effect.write write then with_path paths effect.path.elems else paths) effects path h) [
        | inl old ↦ elim (one-step (is_same effect.write write) effect paths path refl old) [ inl there ↦ inl there | inr here ↦ inr (effect, inl refl, here.0, here.1) ]
        | inr later ↦ inr (later.0, inr later.1, later.2, later.3)
      ]

  kept-step : (b : Bool) (effect : Effect) (paths : List (List Elem)) (path : List Elem) → IsIn path paths → IsIn path (if b then with_path paths effect.path.elems else paths)
  kept-step true effect paths path h = in-inserted (place_in paths effect.path.elems) paths effect.path.elems path (inr h)
  kept-step false effect paths path h = h

  paths-kept : (paths : List (List Elem)) (effects : List Effect) (path : List Elem) → IsIn path paths → IsIn path (with_paths write paths effects)
  paths-kept paths [] path h = h
  paths-kept paths (effect ∷ effects) path h =
      paths-kept (if is_same effect.write write then with_path paths effect.path.elems else paths) effects path (kept-step (is_same effect.write write) effect paths path h)

  new-step : (b : Bool) (effect : Effect) (paths : List (List Elem)) → b ≡ true → IsIn effect.path.elems (if b then with_path paths effect.path.elems else paths)
  new-step true effect paths is = in-inserted (place_in paths effect.path.elems) paths effect.path.elems effect.path.elems (inl refl)
  new-step false effect paths is = absurd (false≢true is)

  pub in-paths : (paths : List (List Elem)) (effects : List Effect) (effect : Effect) → effect.write ≡ write → IsIn effect effects → IsIn effect.path.elems (with_paths write paths effects)
  in-paths paths [] effect is h = absurd h
  in-paths paths (first ∷ effects) effect is (inl e) =
      let here : is_same first.write write ≡ true = ap (λ (x : Effect). is_same x.write write) (sym e) ∙ ap (λ b. is_same b write) is ∙ is-same write in
      let there = new-step (is_same first.write write) first paths here in
      subst (λ (x : Effect). IsIn x.path.elems (with_paths write paths (first ∷ effects))) (sym e)
      (paths-kept (if is_same first.write write then with_path paths first.path.elems else paths) effects first.path.elems there)
  in-paths paths (first ∷ effects) effect is (inr h) =
      in-paths (if is_same first.write write then with_path paths first.path.elems else paths) effects effect is h
