-- Chains from their ends, the last node first: no chain is heavier than the one that is followed from its last node, and of
-- those that are as heavy that one is the lowest.
use Rattle.std.proofs.Common.{◌≡◌, ◌<◌, ◌≤◌, ◌+◌, ◌⊎◌, inl, inr, ℕ, zero, suc, List, [], ◌∷◌, ◌++◌, length, Option, None, Some, refl, sym, ap, ◌∙◌, subst, arith}
use Rattle.std.specs.Prelude.{slice_get}
use Rattle.std.proofs.lemmas.Bool.{cases_order}
use Rattle.std.proofs.lemmas.List.Sums.{sum_by-cons}
use Rattle.std.proofs.lemmas.Option.{slice_get_within}
use Rattle.span_profile.specs.declared.heaviest_chain.top.Best.{Best}
use Rattle.span_profile.specs.declared.heaviest_chain.top.Top.{Top}
use Rattle.span_profile.specs.heaviest_chain.BestChains.{BestChains}
use Rattle.span_profile.specs.heaviest_chain.Built.{FrontHolds, IsBest}
use Rattle.span_profile.specs.heaviest_chain.Chains.{IsChain, Leads, chain_weight, weight_at, weight_of_found}
use Rattle.span_profile.specs.heaviest_chain.Nodes.{Node, SharesKey, weight_of}
use Rattle.span_profile.specs.heaviest_chain.inner.Following.{Follows}
use Rattle.span_profile.specs.heaviest_chain.inner.Tops.{IsTop, PreviousAreLower, best_after, best_at, weight_before, weight_of_best}

-- an element below the length is there
pub found_below : {X : Type 0} (xs : List X) (i : ℕ) → i < length xs → (x : X) × (slice_get xs i ≡ Some x)
found_below [] i below = absurd (omega (arith, below))
found_below (x ∷ xs) zero below = (x, refl)
found_below (x ∷ xs) (suc i) below = found_below xs i (omega (arith, below))

-- At the first position at which two lists of numbers differ, the first has the lower number.
pub record IsLowerFromStart (chain other : List ℕ) : Type 0 where
  pub lower : ℕ
  pub higher : ℕ
  pub less : lower < higher
  pub common : List ℕ
  pub rest : List ℕ
  pub other_rest : List ℕ
  pub this_is : chain ≡ common ++ lower ∷ rest
  pub other_is : other ≡ common ++ higher ∷ other_rest

lower_after : (i : ℕ) (back other : List ℕ) → IsLowerFromStart back other → IsLowerFromStart (i ∷ back) (i ∷ other)
lower_after i back other l = record {
  lower = l.lower;
  higher = l.higher;
  less = l.less;
  common = i ∷ l.common;
  rest = l.rest;
  other_rest = l.other_rest;
  this_is = ap (λ (xs : List ℕ). i ∷ xs) l.this_is;
  other_is = ap (λ (xs : List ℕ). i ∷ xs) l.other_is;
}

-- the weight of the heaviest chain to a node that goes on from the highest node before it
pub weight_after : (top : Option Top) (weight : ℕ) → (best_after top weight).weight ≡ weight_before top + weight
weight_after None weight = omega arith
weight_after (Some top) weight = refl

-- a node is no heavier than the highest of its set
pub no_heavier : (bests : List Best) (P : ℕ → Type 0) (top : Option Top) (node : ℕ) → IsTop bests P top → P node → best_at bests node ≤ weight_before top
no_heavier bests P None node none has = absurd (none node has)
no_heavier bests P (Some top) node is has = elim (is.highest node has) [ inl less ↦ omega (arith, less) | inr same ↦ omega (arith, same.0) ]

module _ (nodes : List Node) (chains : BestChains) (h : FrontHolds nodes chains) where
  abbrev bests : List Best
  bests = chains.bests

  -- backwards
  abbrev pub Back : ℕ → ℕ → Type 0
  Back i j = Leads SharesKey nodes j i

  abbrev pub weight : List ℕ → ℕ
  weight chain = chain_weight weight_of nodes chain

  pub cons_weight : (i : ℕ) (others : List ℕ) → weight (i ∷ others) ≡ weight_at weight_of nodes i + weight others
  cons_weight i others = sum_by-cons (weight_at weight_of nodes) i others

  -- the heaviest chain to a node
  record ToNode (i : ℕ) : Type 0 where
    best : Best
    found : slice_get bests i ≡ Some best
    is : IsBest nodes bests i best
    -- its weight is that of the highest node before it and that of the node
    weighs : best_at bests i ≡ weight_before is.top + weight_at weight_of nodes i
    heavy : 0 < weight_at weight_of nodes i

  to_node : (i : ℕ) → i < length nodes → ToNode i
  to_node i below =
      let got = found_below bests i (omega (arith, h.count, below)) in
      let is : IsBest nodes bests i got.0 = h.bests i got.0 got.1 in
      let node : weight_at weight_of nodes i ≡ is.node.weight = ap (weight_of_found weight_of) is.there in
      record {
        best = got.0;
        found = got.1;
        is = is;
        weighs = ap weight_of_best got.1 ∙ (ap (λ (b : Best). b.weight) is.best_is ∙ (weight_after is.top is.node.weight ∙ ap (λ (n : ℕ). weight_before is.top + n) (sym node)));
        heavy = subst (λ (n : ℕ). 0 < n) (sym node) is.some;
      }

  -- the last node but one comes before the last
  pub previous_lower : PreviousAreLower bests
  previous_lower number previous best found is = by_top mine.top refl
    where
      mine : IsBest nodes bests number best
      mine = h.bests number best found

      by_top : (top : Option Top) → mine.top ≡ top → previous < number
      by_top None e =
          let none : best.previous ≡ None = ap (λ (b : Best). b.previous) mine.best_is ∙ ap (λ (t : Option Top). (best_after t mine.node.weight).previous) e in
          let never : Some previous ≡ None = sym is ∙ none in
          absurd (cc)
      by_top (Some top) e =
          let has : best.previous ≡ Some top.node = ap (λ (b : Best). b.previous) mine.best_is ∙ ap (λ (t : Option Top). (best_after t mine.node.weight).previous) e in
          let found_previous : Some previous ≡ Some top.node = sym is ∙ has in
          let same : previous ≡ top.node = cc in
          let is_top : IsTop bests (λ before. Leads SharesKey nodes before number) (Some top) = subst (IsTop bests (λ before. Leads SharesKey nodes before number)) e mine.is_top in
          let leads : Leads SharesKey nodes top.node number = is_top.has in
          let earlier = leads.before in
          omega (arith, same, earlier)

  -- the first of a chain is there
  first_below : (i : ℕ) (others : List ℕ) → IsChain Back (length nodes) (i ∷ others) → i < length nodes
  first_below i [] is = is
  first_below i (j ∷ others) is = slice_get_within nodes i is.0.second is.0.at_second

  -- no chain is heavier
  pub bound : (i : ℕ) (others : List ℕ) → IsChain Back (length nodes) (i ∷ others) → weight (i ∷ others) ≤ best_at bests i
  bound i [] is = let to = to_node i is in omega (arith, to.weighs, cons_weight i [])
  bound i (j ∷ others) is =
      let to = to_node i (first_below i (j ∷ others) is) in
      let rest = bound j others is.1 in
      let most = no_heavier bests (λ before. Leads SharesKey nodes before i) to.is.top j to.is.is_top is.0 in
      omega (arith, to.weighs, rest, most, cons_weight i (j ∷ others))

  -- the chain that is followed from a node
  pub record IsFollowed (i : ℕ) (back : List ℕ) : Type 0 where
    pub others : List ℕ
    pub back_is : back ≡ i ∷ others
    pub chain : IsChain Back (length nodes) (i ∷ others)
    pub weighs : weight (i ∷ others) ≡ best_at bests i

  followed_by : (i : ℕ) → i < length nodes → (to : ToNode i) (others : List ℕ) (top : Option Top) → to.is.top ≡ top → Follows bests (best_after top to.is.node.weight).previous others
      → ((j : ℕ) → j < length nodes → Follows bests (Some j) others → IsFollowed j others) → IsFollowed i (i ∷ others)
  followed_by i below to [] None e follows again = record {
    others = [];
    back_is = refl;
    chain = below;
    weighs = let none = ap weight_before e in omega (arith, none, to.weighs, cons_weight i []);
  }
  followed_by i below to (first ∷ others) None e follows again = absurd follows
  followed_by i below to [] (Some top) e follows again = absurd follows
  followed_by i below to (first ∷ others) (Some top) e follows again =
      let is : IsTop bests (λ before. Leads SharesKey nodes before i) (Some top) = subst (IsTop bests (λ before. Leads SharesKey nodes before i)) e to.is.is_top in
      let leads : Leads SharesKey nodes top.node i = is.has in
      let before : IsFollowed top.node (first ∷ others) = again top.node (slice_get_within nodes top.node leads.first leads.at_first) follows in
      let weighs_before : weight_before to.is.top ≡ best_at bests top.node = ap weight_before e ∙ sym is.weight_is in
      let same : first ≡ top.node = follows.0 in
      record {
        others = top.node ∷ before.others;
        back_is = ap (λ (xs : List ℕ). i ∷ xs) before.back_is;
        chain = (leads, before.chain);
        weighs = let w = before.weighs in let sum = cons_weight i (top.node ∷ before.others) in omega (arith, weighs_before, w, to.weighs, sum);
      }

  -- what follows the node is what follows the highest node before it
  unfollow : (i first : ℕ) (others : List ℕ) → (to : ToNode i) → Follows bests (Some i) (first ∷ others) → Follows bests (best_after to.is.top to.is.node.weight).previous others
  unfollow i first others to follows =
      let found : Some follows.1.0 ≡ Some to.best = sym follows.1.1 ∙ to.found in
      let same : follows.1.0 ≡ to.best = cc in
      let previous : Follows bests to.best.previous others = subst (λ (b : Best). Follows bests b.previous others) same follows.1.2 in
      subst (λ (b : Best). Follows bests b.previous others) to.is.best_is previous

  pub followed : (i : ℕ) (back : List ℕ) → i < length nodes → Follows bests (Some i) back → IsFollowed i back
  followed i [] below follows = absurd follows
  followed i (first ∷ others) below follows =
      let to = to_node i below in
      subst (λ (n : ℕ). IsFollowed i (n ∷ others)) (sym follows.0)
      (followed_by i below to others to.is.top refl (unfollow i first others to follows) (λ j less f. followed j others less f))

  -- of the chains that end at a node and are as heavy as this one, it is the lowest
  abbrev pub IsLowest : List ℕ → List ℕ → Type 0
  IsLowest back other = (back ≡ other) ⊎ IsLowerFromStart back other

  lowest_after : (i : ℕ) (back other : List ℕ) → IsLowest back other → IsLowest (i ∷ back) (i ∷ other)
  lowest_after i back other (inl same) = inl (ap (λ (xs : List ℕ). i ∷ xs) same)
  lowest_after i back other (inr lower) = inr (lower_after i back other lower)

  -- a node has weight
  pub best_heavy : (i : ℕ) → i < length nodes → 0 < best_at bests i
  best_heavy i below = let to = to_node i below in omega (arith, to.weighs, to.heavy)

  lowest_alone : (i : ℕ) → i < length nodes → (to : ToNode i) (back : List ℕ) (top : Option Top) → to.is.top ≡ top → Follows bests (best_after top to.is.node.weight).previous back
      → weight (i ∷ []) ≡ best_at bests i → IsLowest (i ∷ back) (i ∷ [])
  lowest_alone i below to [] None e follows weighs = inl refl
  lowest_alone i below to (first ∷ others) None e follows weighs = absurd follows
  lowest_alone i below to back (Some top) e follows weighs =
      let is : IsTop bests (λ before. Leads SharesKey nodes before i) (Some top) = subst (IsTop bests (λ before. Leads SharesKey nodes before i)) e to.is.is_top in
      let leads : Leads SharesKey nodes top.node i = is.has in
      let heavy = best_heavy top.node (slice_get_within nodes top.node leads.first leads.at_first) in
      let weighs_before : weight_before to.is.top ≡ best_at bests top.node = ap weight_before e ∙ sym is.weight_is in
      absurd (omega (arith, heavy, weighs_before, weighs, to.weighs, cons_weight i []))

  lowest_from : (i : ℕ) → i < length nodes → (to : ToNode i) (back : List ℕ) (j : ℕ) (others : List ℕ) (top : Option Top) → to.is.top ≡ top
      → Follows bests (best_after top to.is.node.weight).previous back → Back i j → IsChain Back (length nodes) (j ∷ others) → weight (i ∷ j ∷ others) ≡ best_at bests i
      → (Follows bests (Some j) back → weight (j ∷ others) ≡ best_at bests j → IsLowest back (j ∷ others)) → IsLowest (i ∷ back) (i ∷ j ∷ others)
  lowest_from i below to back j others None e follows leads chain weighs again =
      let none : IsTop bests (λ before. Leads SharesKey nodes before i) None = subst (IsTop bests (λ before. Leads SharesKey nodes before i)) e to.is.is_top in
      absurd (none j leads)
  lowest_from i below to [] j others (Some top) e follows leads chain weighs again = absurd follows
  lowest_from i below to (first ∷ rest) j others (Some top) e follows leads chain weighs again =
      let is : IsTop bests (λ before. Leads SharesKey nodes before i) (Some top) = subst (IsTop bests (λ before. Leads SharesKey nodes before i)) e to.is.is_top in
      let most = bound j others chain in
      let before : weight_before to.is.top ≡ top.weight = ap weight_before e in
      let as_heavy : weight (j ∷ others) ≡ top.weight = omega (arith, before, weighs, to.weighs, cons_weight i (j ∷ others)) in
      elim (is.highest j leads) [
        | inl less ↦ absurd (omega (arith, less, most, as_heavy))
        | inr same ↦ by_number (same.0) (same.1) as_heavy (cases_order top.node j)
      ]
    where
      by_number : best_at bests j ≡ top.weight → top.node ≤ j → weight (j ∷ others) ≡ top.weight → (top.node ≡ j) ⊎ ((top.node < j) ⊎ (j < top.node))
          → IsLowest (i ∷ first ∷ rest) (i ∷ j ∷ others)
      by_number best le as_heavy (inl same) =
          lowest_after i (first ∷ rest) (j ∷ others) (again (subst (λ (n : ℕ). Follows bests (Some n) (first ∷ rest)) same follows) (as_heavy ∙ sym best))
      by_number best le as_heavy (inr (inl less)) = inr (record {
        lower = first;
        higher = j;
        less = let at = follows.0 in omega (arith, at, less);
        common = i ∷ [];
        rest = rest;
        other_rest = others;
        this_is = refl;
        other_is = refl;
      })
      by_number best le as_heavy (inr (inr more)) = absurd (omega (arith, le, more))

  pub lowest : (i : ℕ) (others back : List ℕ) → IsChain Back (length nodes) (i ∷ others) → Follows bests (Some i) back → weight (i ∷ others) ≡ best_at bests i → IsLowest back (i ∷ others)
  lowest i others [] chain follows weighs = absurd follows
  lowest i [] (first ∷ rest) chain follows weighs =
      let to = to_node i chain in
      subst (λ (n : ℕ). IsLowest (n ∷ rest) (i ∷ [])) (sym follows.0) (lowest_alone i chain to rest to.is.top refl (unfollow i first rest to follows) weighs)
  lowest i (j ∷ others) (first ∷ rest) chain follows weighs =
      let below = first_below i (j ∷ others) chain in
      let to = to_node i below in
      subst (λ (n : ℕ). IsLowest (n ∷ rest) (i ∷ j ∷ others)) (sym follows.0)
      (lowest_from i below to rest j others to.is.top refl (unfollow i first rest to follows) chain.0 chain.1 weighs (λ f w. lowest j others rest chain.1 f w))
