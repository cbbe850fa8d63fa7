-- Paths that others begin with.
use Rattle.std.proofs.Common.{◌≡◌, ◌↔◌, List, [], ◌∷◌, ◌++◌, refl, ap, ◌∙◌, ◌⊎◌, inl, inr, ⊎_elim}
use Rattle.prefix_tree.specs.Prefix.{IsPrefix}

pub IsPrefix-refl : {A : Type 0} (a : List A) → IsPrefix a a
IsPrefix-refl [] = tt
IsPrefix-refl (x ∷ xs) = (refl, IsPrefix-refl xs)

pub IsPrefix-trans : {A : Type 0} (a b c : List A) → IsPrefix a b → IsPrefix b c → IsPrefix a c
IsPrefix-trans [] b c h k = tt
IsPrefix-trans (x ∷ xs) [] c h k = absurd h
IsPrefix-trans (x ∷ xs) (y ∷ ys) [] h k = absurd k
IsPrefix-trans (x ∷ xs) (y ∷ ys) (z ∷ zs) h k = (h.0 ∙ k.0, IsPrefix-trans xs ys zs h.1 k.1)

pub IsPrefix-antisym : {A : Type 0} (a b : List A) → IsPrefix a b → IsPrefix b a → a ≡ b
IsPrefix-antisym [] [] h k = refl
IsPrefix-antisym [] (y ∷ ys) h k = absurd k
IsPrefix-antisym (x ∷ xs) [] h k = absurd h
IsPrefix-antisym (x ∷ xs) (y ∷ ys) h k = let first = h.0 in let others = IsPrefix-antisym xs ys h.1 k.1 in cc

-- what is a prefix of a path and one element more is one of the path, or all of it
pub IsPrefix-snoc : {A : Type 0} (a b : List A) (e : A) → IsPrefix a (b ++ e ∷ []) ↔ (IsPrefix a b ⊎ (a ≡ b ++ e ∷ []))
IsPrefix-snoc [] b e = (λ h. inl tt, λ h. tt)
IsPrefix-snoc {A} (x ∷ []) [] e = (λ h. inr (ap (λ (y : A). y ∷ []) h.0), λ h. ⊎_elim (λ k. absurd k) (λ same. (let whole = same in cc, tt)) h)
IsPrefix-snoc (x ∷ y ∷ ys) [] e = (λ h. absurd h.1, λ h. ⊎_elim (λ k. absurd k) (λ same. cc) h)
IsPrefix-snoc (x ∷ xs) (y ∷ ys) e =
    let rest = IsPrefix-snoc xs ys e in (
      λ h. ⊎_elim (λ k. inl (h.0, k)) (λ same. inr (let first = h.0 in cc)) (rest.0 h.1),
      λ h. ⊎_elim (λ k. (k.0, rest.1 (inl k.1))) (λ same. (let whole = same in cc, rest.1 (inr (let whole = same in cc)))) h,
    )

pub IsPrefix-nil : {A : Type 0} (path : List A) → IsPrefix path [] → path ≡ []
IsPrefix-nil [] h = refl
IsPrefix-nil (e ∷ es) h = absurd h
