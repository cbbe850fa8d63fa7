-- The heaviest chain is the one that is followed from the highest node.
use Rattle.std.proofs.Common.{◌≡◌, ◌<◌, ◌≤◌, ◌⊎◌, inl, inr, ℕ, List, [], ◌∷◌, ◌++◌, length, reverse, None, Some, refl, sym, ap, ◌∙◌, subst, arith, append_assoc}
use Rattle.std.specs.Prelude.{sum_by}
use Rattle.std.proofs.lemmas.Bool.{cases_order}
use Rattle.std.proofs.lemmas.List.{reverse-append, reverse-reverse}
use Rattle.std.proofs.lemmas.List.Sums.{sum_by-append, sum_by-cons}
use Rattle.std.proofs.lemmas.Option.{slice_get_within}
use Rattle.span_profile.specs.declared.heaviest_chain.top.Top.{Top}
use Rattle.span_profile.specs.heaviest_chain.BestChains.{BestChains}
use Rattle.span_profile.specs.heaviest_chain.Built.{FrontHolds}
use Rattle.span_profile.specs.heaviest_chain.Chains.{IsChain, IsHeaviest, IsLowerFromEnd, Leads, chain_weight, weight_at}
use Rattle.span_profile.specs.heaviest_chain.Nodes.{Node, SharesKey, weight_of}
use Rattle.span_profile.specs.heaviest_chain.inner.Following.{Follows}
use Rattle.span_profile.specs.heaviest_chain.inner.Tops.{IsHighest, IsTopOf, best_at}
use Rattle.span_profile.proofs.heaviest_chain.Back.{Back, IsFollowed, IsLowerFromStart, best_heavy, bound, followed, lowest, weight}

reverse_cons : {X : Type 0} (x : X) (xs : List X) → reverse (x ∷ xs) ≡ reverse xs ++ x ∷ []
reverse_cons x xs = reverse-append (x ∷ []) xs

-- a chain from its other end is one of the turned relation
turned : (R S : ℕ → ℕ → Type 0) (n : ℕ) → ((i j : ℕ) → R i j → S j i) → (i : ℕ) (acc others : List ℕ) → IsChain S n (i ∷ acc) → IsChain R n (i ∷ others) → IsChain S n (reverse others ++ i ∷ acc)
turned R S n turn i acc [] back chain = back
turned R S n turn i acc (j ∷ others) back chain =
    subst (IsChain S n) (sym (ap (λ (xs : List ℕ). xs ++ i ∷ acc) (reverse_cons j others) ∙ append_assoc (reverse others) (j ∷ []) (i ∷ acc)))
    (turned R S n turn j (i ∷ acc) others (turn i j chain.0, back) chain.1)

reversed : (R S : ℕ → ℕ → Type 0) (n : ℕ) → ((i j : ℕ) → R i j → S j i) → ((i j : ℕ) → R i j → i < n) → (chain : List ℕ) → IsChain R n chain → IsChain S n (reverse chain)
reversed R S n turn below [] is = tt
reversed R S n turn below (i ∷ []) is = is
reversed R S n turn below (i ∷ j ∷ others) is =
    subst (IsChain S n) (sym (reverse_cons i (j ∷ others))) (turned R S n turn i [] (j ∷ others) (below i j is.0) is)

sum_by_reverse : (f : ℕ → ℕ) (xs : List ℕ) → sum_by f (reverse xs) ≡ sum_by f xs
sum_by_reverse f [] = refl
sum_by_reverse f (x ∷ xs) =
    let append = sum_by-append f (reverse xs) (x ∷ []) in
    let others = sum_by_reverse f xs in
    let cons = sum_by-cons f x xs in
    let one = sum_by-cons f x [] in
    ap (sum_by f) (reverse_cons x xs) ∙ (append ∙ omega (arith, others, cons, one))

-- lower from the start is lower from the end of the reversed lists
turn_lower : (chain other : List ℕ) → IsLowerFromStart (reverse chain) (reverse other) → IsLowerFromEnd chain other
turn_lower chain other l = record {
  lower = l.lower;
  higher = l.higher;
  less = l.less;
  front = reverse l.rest;
  other_front = reverse l.other_rest;
  common = reverse l.common;
  this_is = parts chain l.lower l.common l.rest l.this_is;
  other_is = parts other l.higher l.common l.other_rest l.other_is;
} where
  parts : (xs : List ℕ) (n : ℕ) (common rest : List ℕ) → reverse xs ≡ common ++ n ∷ rest → xs ≡ reverse rest ++ n ∷ reverse common
  parts xs n common rest e =
      sym (reverse-reverse xs)
      ∙ (ap (λ (ys : List ℕ). reverse ys) e
      ∙ (reverse-append common (n ∷ rest)
      ∙ (ap (λ (ys : List ℕ). ys ++ reverse common) (reverse_cons n rest) ∙ append_assoc (reverse rest) (n ∷ []) (reverse common))))

module _ (nodes : List Node) (chains : BestChains) (h : FrontHolds nodes chains) where
  back_of : (chain : List ℕ) → IsChain (Leads SharesKey nodes) (length nodes) chain → IsChain (Back nodes chains h) (length nodes) (reverse chain)
  back_of chain is = reversed (Leads SharesKey nodes) (Back nodes chains h) (length nodes) (λ i j leads. leads) (λ i j leads. slice_get_within nodes i leads.first leads.at_first) chain is

  forth_of : (back : List ℕ) → IsChain (Back nodes chains h) (length nodes) back → IsChain (Leads SharesKey nodes) (length nodes) (reverse back)
  forth_of back is = reversed (Back nodes chains h) (Leads SharesKey nodes) (length nodes) (λ i j leads. leads) (λ i j leads. slice_get_within nodes i leads.second leads.at_second) back is

  -- without nodes there is only the empty chain
  pub heaviest_of_none : IsHighest chains.bests None → IsHeaviest SharesKey weight_of nodes chains.work 0 []
  heaviest_of_none none = record {
    work_is = h.work;
    chain_is = tt;
    span_is = refl;
    heaviest = λ other is. by_chain other is;
    lowest = λ other is weighs. inl (empty other is);
  } where
    nobody : (i : ℕ) → i < length nodes → ⊥
    nobody i below = none i (omega (arith, h.count, below))

    empty : (other : List ℕ) → IsChain (Leads SharesKey nodes) (length nodes) other → [] ≡ other
    empty [] is = refl
    empty (i ∷ []) is = absurd (nobody i is)
    empty (i ∷ j ∷ others) is = absurd (nobody i (slice_get_within nodes i is.0.first is.0.at_first))

    by_chain : (other : List ℕ) → IsChain (Leads SharesKey nodes) (length nodes) other → chain_weight weight_of nodes other ≤ 0
    by_chain other is = let e = ap (chain_weight weight_of nodes) (empty other is) in omega (arith, e)

  module _ (top : Top) (is : IsTopOf chains.bests (λ node. node < length chains.bests) top) (chain : List ℕ) (follows : Follows chains.bests (Some top.node) (reverse chain)) where
    below : top.node < length nodes
    below = let has = is.has in omega (arith, has, h.count)

    this : IsFollowed nodes chains h top.node (reverse chain)
    this = followed nodes chains h top.node (reverse chain) below follows

    weight_back : (other : List ℕ) → weight nodes chains h (reverse other) ≡ chain_weight weight_of nodes other
    weight_back other = sum_by_reverse (weight_at weight_of nodes) other

    span : chain_weight weight_of nodes chain ≡ top.weight
    span = sym (weight_back chain) ∙ (ap (weight nodes chains h) this.back_is ∙ (this.weighs ∙ is.weight_is))

    there : (i : ℕ) (others : List ℕ) → IsChain (Back nodes chains h) (length nodes) (i ∷ others) → i < length chains.bests
    there i [] c = omega (arith, c, h.count)
    there i (j ∷ rest) c = let at = slice_get_within nodes i c.0.second c.0.at_second in omega (arith, at, h.count)

    within : (other back : List ℕ) → reverse other ≡ back → IsChain (Back nodes chains h) (length nodes) back → chain_weight weight_of nodes other ≤ top.weight
    within other [] e chain_is = let w = sym (weight_back other) ∙ ap (weight nodes chains h) e in omega (arith, w)
    within other (i ∷ others) e chain_is =
        let w = sym (weight_back other) ∙ ap (weight nodes chains h) e in
        let most = bound nodes chains h i others chain_is in
        elim (is.highest i (there i others chain_is)) [ inl less ↦ omega (arith, w, most, less) | inr same ↦ omega (arith, w, most, same.0) ]

    -- the chain is one
    chain_so : IsChain (Leads SharesKey nodes) (length nodes) chain
    chain_so =
        subst (IsChain (Leads SharesKey nodes) (length nodes)) (reverse-reverse chain)
        (forth_of (reverse chain) (subst (IsChain (Back nodes chains h) (length nodes)) (sym this.back_is) this.chain))

    same_turned : (other : List ℕ) → reverse chain ≡ reverse other → chain ≡ other
    same_turned other e = sym (reverse-reverse chain) ∙ (ap (λ (xs : List ℕ). reverse xs) e ∙ reverse-reverse other)

    -- a chain that is as heavy and ends at the same node
    lowest_same : (other : List ℕ) (i : ℕ) (others : List ℕ) → reverse other ≡ i ∷ others → (reverse chain ≡ i ∷ others) ⊎ IsLowerFromStart (reverse chain) (i ∷ others)
        → (chain ≡ other) ⊎ IsLowerFromEnd chain other
    lowest_same other i others e (inl same) = inl (same_turned other (same ∙ sym e))
    lowest_same other i others e (inr lower) = inr (turn_lower chain other (subst (IsLowerFromStart (reverse chain)) (sym e) lower))

    lowest_by : (other back : List ℕ) → reverse other ≡ back → IsChain (Back nodes chains h) (length nodes) back → chain_weight weight_of nodes other ≡ top.weight
        → (chain ≡ other) ⊎ IsLowerFromEnd chain other
    lowest_by other [] e chain_is weighs =
        let heavy = best_heavy nodes chains h top.node below in
        let w = sym (weight_back other) ∙ ap (weight nodes chains h) e in
        absurd (omega (arith, heavy, is.weight_is, w, weighs))
    lowest_by other (i ∷ others) e chain_is weighs =
        let w : weight nodes chains h (i ∷ others) ≡ top.weight = sym (ap (weight nodes chains h) e) ∙ (weight_back other ∙ weighs) in
        let most = bound nodes chains h i others chain_is in
        elim (is.highest i (there i others chain_is)) [ inl less ↦ absurd (omega (arith, w, most, less)) | inr same ↦ by_number w same.0 same.1 (cases_order top.node i) ]
      where
        by_number : weight nodes chains h (i ∷ others) ≡ top.weight → best_at chains.bests i ≡ top.weight → top.node ≤ i → (top.node ≡ i) ⊎ ((top.node < i) ⊎ (i < top.node))
            → (chain ≡ other) ⊎ IsLowerFromEnd chain other
        by_number w best le (inl same) =
            lowest_same other i others e
            (lowest nodes chains h i others (reverse chain) chain_is (subst (λ (n : ℕ). Follows chains.bests (Some n) (reverse chain)) same follows) (w ∙ sym best))
        by_number w best le (inr (inl less)) =
            lowest_same other i others e
            (inr (record { lower = top.node; higher = i; less = less; common = []; rest = this.others; other_rest = others; this_is = this.back_is; other_is = refl }))
        by_number w best le (inr (inr more)) = absurd (omega (arith, le, more))

    pub heaviest_followed : IsHeaviest SharesKey weight_of nodes chains.work top.weight chain
    heaviest_followed = record {
      work_is = h.work;
      chain_is = chain_so;
      span_is = span;
      heaviest = λ other chain_is. within other (reverse other) refl (back_of other chain_is);
      lowest = λ other chain_is weighs. lowest_by other (reverse other) refl (back_of other chain_is) weighs;
    }
