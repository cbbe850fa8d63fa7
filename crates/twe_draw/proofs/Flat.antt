-- What is written of a list, with one element more.
use Rattle.std.proofs.Common.{◌≡◌, ◌<◌, ◌+◌, ◌++◌, ℕ, List, [], ◌∷◌, length, take, get_or, sym, ap, ◌∙◌, append_assoc}
use Rattle.std.specs.List.{flat_map}
use Rattle.std.proofs.lemmas.Grind.{flat_map-append}
use Rattle.std.proofs.lemmas.List.{append-nil, take_more}

-- what is written of one element more
pub flat_more : {X : Type 0} (f : X → List ℕ) (xs : List X) (i : ℕ) (x : X) (begun text new : List ℕ) → i < length xs
    → x ≡ get_or xs i x
    → text ≡ begun ++ flat_map f (take i xs) → new ≡ text ++ f x → new ≡ begun ++ flat_map f (take (i + 1) xs)
flat_more f xs i x begun text new below is so_far pushed =
    let more : flat_map f (take (i + 1) xs) ≡ flat_map f (take i xs) ++ f (get_or xs i x) =
    ap (flat_map f) (take_more xs i x below)
    ∙ (flat_map-append f (take i xs) (get_or xs i x ∷ [])
    ∙ ap (λ (l : List ℕ). flat_map f (take i xs) ++ l) (append-nil (f (get_or xs i x)))) in
    pushed
    ∙ (ap (λ (l : List ℕ). l ++ f x) so_far
    ∙ (append_assoc begun (flat_map f (take i xs)) (f x)
    ∙ ap (λ (l : List ℕ). begun ++ l) (ap (λ y. flat_map f (take i xs) ++ f y) is ∙ sym more)))
