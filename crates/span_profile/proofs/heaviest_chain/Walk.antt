-- The walk from the last node of a chain back to its first.
use Rattle.std.proofs.Common.{◌≡◌, ◌<◌, ◌++◌, ℕ, List, [], ◌∷◌, length, reverse, get_or, Option, None, Some, refl, sym, ap, ◌∙◌, subst, arith, append_assoc}
use Rattle.std.proofs.lemmas.List.{append-nil, reverse-append}
use Rattle.std.proofs.lemmas.Option.{slice_get-get_or}
use Rattle.span_profile.specs.declared.heaviest_chain.top.Best.{Best}
use Rattle.span_profile.specs.heaviest_chain.inner.Following.{Follows}
use Rattle.span_profile.specs.heaviest_chain.inner.Tops.{PreviousAreLower}

-- one node further back
pub walks_below : (bests items : List Best) (node next : ℕ) (d : Best) → PreviousAreLower bests → items ≡ bests → node < length bests → (get_or items node d).previous ≡ Some next
    → next < length bests
walks_below bests items node next d lower same below is =
    let here : (get_or bests node d).previous ≡ Some next = ap (λ (l : List Best). (get_or l node d).previous) (sym same) ∙ is in
    let less = lower node next (get_or bests node d) (slice_get-get_or bests node d below) here in
    omega (arith, less, below)

pub walks_on : (bests items : List Best) (last node : ℕ) (d : Best) (at : Option ℕ) (chain new : List ℕ) → items ≡ bests → node < length bests → at ≡ Some node → new ≡ node ∷ chain
    → ((others : List ℕ) → Follows bests at others → Follows bests (Some last) (reverse chain ++ others))
    → (others : List ℕ) → Follows bests (get_or items node d).previous others → Follows bests (Some last) (reverse new ++ others)
walks_on bests items last node d at chain new same below is pushed so_far others follows =
    let here : Follows bests (get_or bests node d).previous others = subst (λ (l : List Best). Follows bests (get_or l node d).previous others) same follows in
    let from : Follows bests (Some node) (node ∷ others) = (refl, (get_or bests node d, slice_get-get_or bests node d below, here)) in
    let all : Follows bests (Some last) (reverse chain ++ node ∷ others) = so_far (node ∷ others) (subst (λ (o : Option ℕ). Follows bests o (node ∷ others)) (sym is) from) in
    let turned : reverse new ++ others ≡ reverse chain ++ node ∷ others =
    ap (λ (l : List ℕ). reverse l ++ others) pushed
    ∙ (ap (λ (l : List ℕ). l ++ others) (reverse-append (node ∷ []) chain) ∙ append_assoc (reverse chain) (node ∷ []) others) in
    subst (Follows bests (Some last)) (sym turned) all

-- at the first node
pub walked : (bests : List Best) (last : ℕ) (at : Option ℕ) (chain list : List ℕ) → at ≡ None → list ≡ chain
    → ((others : List ℕ) → Follows bests at others → Follows bests (Some last) (reverse chain ++ others)) → Follows bests (Some last) (reverse list)
walked bests last at chain list none same so_far =
    let all : Follows bests (Some last) (reverse chain ++ []) = so_far [] (subst (λ (o : Option ℕ). Follows bests o []) (sym none) tt) in
    subst (Follows bests (Some last)) (append-nil (reverse chain) ∙ sym (ap (λ (l : List ℕ). reverse l) same)) all
