-- Beginnings of a journal.
use Rattle.std.proofs.Common.{◌≡◌, ◌<◌, List, [], ◌∷◌, ◌++◌, length, refl, ap, sym, subst, ◌∙◌, arith, append_assoc, length-append}
use Rattle.std.proofs.lemmas.List.{append-nil}
use mathlib.Core.List.{IsPrefix}

module _ {A : Type 0} where
  -- each list begins with itself
  pub prefix_self : (xs : List A) → IsPrefix xs xs
  prefix_self xs = ([], append-nil xs)

  pub prefix_trans : (xs ys zs : List A) → IsPrefix xs ys → IsPrefix ys zs → IsPrefix xs zs
  prefix_trans xs ys zs p q = (p.0 ++ q.0, sym (append_assoc xs p.0 q.0) ∙ (ap (λ w. w ++ q.0) p.1 ∙ q.1))

  -- a list with a new last item goes on from it
  pub prefix_more : (xs ys : List A) (x : A) → IsPrefix xs ys → IsPrefix xs (ys ++ x ∷ [])
  prefix_more xs ys x p = (p.0 ++ x ∷ [], sym (append_assoc xs p.0 (x ∷ [])) ∙ ap (λ w. w ++ x ∷ []) p.1)

  -- what goes on from a list with a new last item is longer than the list
  pub prefix_longer : (xs zs : List A) (x : A) → IsPrefix (xs ++ x ∷ []) zs → length xs < length zs
  prefix_longer xs zs x p =
      let whole = sym (ap length p.1) ∙ length-append (xs ++ x ∷ []) p.0 in
      omega (arith, whole, length-append xs (x ∷ []))

  -- what goes on from a list with a new last item goes on from the list, and is longer
  pub begins_by_one : (xs ys zs : List A) (x : A) → ys ≡ xs ++ x ∷ [] → IsPrefix ys zs → IsPrefix xs zs
  begins_by_one xs ys zs x is p = prefix_trans xs (xs ++ x ∷ []) zs (x ∷ [], refl) (subst (λ (l : List A). IsPrefix l zs) is p)

  pub longer_by_one : (xs ys zs : List A) (x : A) → ys ≡ xs ++ x ∷ [] → IsPrefix ys zs → length xs < length zs
  longer_by_one xs ys zs x is p = prefix_longer xs zs x (subst (λ (l : List A). IsPrefix l zs) is p)
