-- Lists and one item more.
use Rattle.std.proofs.Common.{◌≡◌, List, [], ◌∷◌, ◌++◌, refl}

pub nil-snoc : {A : Type 0} (xs : List A) (x : A) → ¬ ([] ≡ xs ++ x ∷ [])
nil-snoc [] x h = cc
nil-snoc (y ∷ ys) x h = cc

pub snoc-same : {A : Type 0} (xs ys : List A) (x y : A) → xs ++ x ∷ [] ≡ ys ++ y ∷ [] → (xs ≡ ys) × (x ≡ y)
snoc-same [] [] x y h = (refl, cc)
snoc-same [] (z ∷ zs) x y h = absurd (nil-snoc zs y (cc))
snoc-same (z ∷ zs) [] x y h = absurd (nil-snoc zs x (cc))
snoc-same {A} (v ∷ vs) (w ∷ ws) x y h =
    let tail : vs ++ x ∷ [] ≡ ws ++ y ∷ [] = cc in
    let head : v ≡ w = cc in
    let others = snoc-same vs ws x y tail in
    let rest = others.0 in
    (cc, others.1)
