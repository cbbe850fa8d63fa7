-- How the highest nodes of two sets make that of both, and what a further node changes.
use Rattle.std.proofs.Common.{◌≡◌, ◌<◌, ◌≤◌, ◌⊎◌, inl, inr, ℕ, zero, suc, Bool, true, false, List, [], ◌∷◌, ◌++◌, length, Option, None, Some, refl, ap, ◌∙◌, arith}
use Rattle.std.specs.Prelude.{◌==◌, ◌&&◌, nat_lt, slice_get, if◌then◌else◌}
use Rattle.std.proofs.lemmas.Bool.{ltb-true, ltb-false, eqb-true, eqb-false, or_cases, or_parts, and_parts, and_cases}
use Rattle.span_profile.specs.declared.heaviest_chain.top.Best.{Best}
use Rattle.span_profile.specs.declared.heaviest_chain.top.Top.{Top}
use Rattle.span_profile.specs.heaviest_chain.inner.Tops.{IsNoHigher, IsTop, IsTopOf, best_at, weight_of_best, higher, is_topped}

-- the heavier one is higher, or the one of the lower number
topped_so : (a b : Top) → is_topped a b ≡ true → (a.weight < b.weight) ⊎ ((a.weight ≡ b.weight) × (b.node < a.node))
topped_so a b e =
    elim (or_cases (nat_lt a.weight b.weight) ((a.weight == b.weight) && nat_lt b.node a.node) e) [
      | inl less ↦ inl (ltb-true a.weight b.weight less)
      | inr same ↦
          let both = and_parts (a.weight == b.weight) (nat_lt b.node a.node) same in inr (eqb-true a.weight b.weight both.0, ltb-true b.node a.node both.1)
    ]

not_topped : (a b : Top) → is_topped a b ≡ false → (b.weight < a.weight) ⊎ ((b.weight ≡ a.weight) × (a.node ≤ b.node))
not_topped a b e =
    let parts = or_parts (nat_lt a.weight b.weight) ((a.weight == b.weight) && nat_lt b.node a.node) e in
    let no_less : b.weight ≤ a.weight = ltb-false a.weight b.weight parts.0 in
    elim (and_cases (a.weight == b.weight) (nat_lt b.node a.node) parts.1) [
      | inl differ ↦ inl (less no_less (eqb-false a.weight b.weight differ))
      | inr lower ↦ by_weight no_less (ltb-false b.node a.node lower)
    ]
  where
    less : b.weight ≤ a.weight → ¬ (a.weight ≡ b.weight) → b.weight < a.weight
    less le ne = omega (arith, ne)

    by_weight : b.weight ≤ a.weight → a.node ≤ b.node → (b.weight < a.weight) ⊎ ((b.weight ≡ a.weight) × (a.node ≤ b.node))
    by_weight le lower = grind arith

-- what is no higher than the lower of two is no higher than the higher
no_higher : (bests : List Best) (a b : Top) (node : ℕ) → (a.weight < b.weight) ⊎ ((a.weight ≡ b.weight) × (b.node ≤ a.node))
    → IsNoHigher bests a node → IsNoHigher bests b node
no_higher bests a b node (inl less) (inl below) = inl (omega (arith, less, below))
no_higher bests a b node (inl less) (inr same) = inl (omega (arith, less, same.0))
no_higher bests a b node (inr equal) (inl below) = inl (omega (arith, equal.0, below))
no_higher bests a b node (inr equal) (inr same) = inr (same.0 ∙ equal.0, omega (arith, equal.1, same.1))

weaker : (a b : Top) → (a.weight < b.weight) ⊎ ((a.weight ≡ b.weight) × (b.node < a.node)) → (a.weight < b.weight) ⊎ ((a.weight ≡ b.weight) × (b.node ≤ a.node))
weaker a b (inl less) = inl less
weaker a b (inr same) = inr (same.0, omega (arith, same.1))

module _ (bests : List Best) where
  -- the same set
  pub top_same : (P Q : ℕ → Type 0) → ((node : ℕ) → P node → Q node) → ((node : ℕ) → Q node → P node) → (top : Option Top) → IsTop bests P top → IsTop bests Q top
  top_same P Q to from None none = λ node has. none node (from node has)
  top_same P Q to from (Some top) is = record {
    has = to top.node is.has;
    weight_is = is.weight_is;
    highest = λ node has. is.highest node (from node has);
  }

  both_by : (P Q : ℕ → Type 0) (a b : Top) (t : Bool) → is_topped a b ≡ t → IsTopOf bests P a → IsTopOf bests Q b
      → IsTop bests (λ node. P node ⊎ Q node) (if t then Some b else Some a)
  both_by P Q a b true e first second = record {
    has = inr second.has;
    weight_is = second.weight_is;
    highest = λ node has. elim has [
      | inl p ↦ no_higher bests a b node (weaker a b (topped_so a b e)) (first.highest node p)
      | inr q ↦ second.highest node q
    ];
  }
  both_by P Q a b false e first second = record {
    has = inl first.has;
    weight_is = first.weight_is;
    highest = λ node has. elim has [
      | inl p ↦ first.highest node p
      | inr q ↦ no_higher bests b a node (not_topped a b e) (second.highest node q)
    ];
  }

  -- the higher of the highest nodes of two sets is the highest of both
  pub top_both : (P Q : ℕ → Type 0) (a b : Option Top) → IsTop bests P a → IsTop bests Q b → IsTop bests (λ node. P node ⊎ Q node) (higher a b)
  top_both P Q None None first second = λ node has. elim has [ inl p ↦ first node p | inr q ↦ second node q ]
  top_both P Q None (Some b) first second = record {
    has = inr second.has;
    weight_is = second.weight_is;
    highest = λ node has. elim has [ inl p ↦ absurd (first node p) | inr q ↦ second.highest node q ];
  }
  top_both P Q (Some a) None first second = record {
    has = inl first.has;
    weight_is = first.weight_is;
    highest = λ node has. elim has [ inl p ↦ first.highest node p | inr q ↦ absurd (second node q) ];
  }
  top_both P Q (Some a) (Some b) first second = both_by P Q a b (is_topped a b) refl first second

  -- a single node
  pub top_one : (top : Top) → best_at bests top.node ≡ top.weight → IsTop bests (λ node. node ≡ top.node) (Some top)
  top_one top is = record {
    has = refl;
    weight_is = is;
    highest = λ node same. inr (ap (best_at bests) same ∙ is, omega (arith, same));
  }

-- a further node changes nothing below it
pub get_below : {X : Type 0} (xs : List X) (x : X) (n : ℕ) → n < length xs → slice_get (xs ++ x ∷ []) n ≡ slice_get xs n
get_below [] x n below = absurd (omega (arith, below))
get_below (y ∷ ys) x zero below = refl
get_below (y ∷ ys) x (suc n) below = get_below ys x n (omega (arith, below))

pub get_last : {X : Type 0} (xs : List X) (x : X) → slice_get (xs ++ x ∷ []) (length xs) ≡ Some x
get_last [] x = refl
get_last (y ∷ ys) x = get_last ys x

pub best_below : (bests : List Best) (best : Best) (n : ℕ) → n < length bests → best_at (bests ++ best ∷ []) n ≡ best_at bests n
best_below bests best n below = ap weight_of_best (get_below bests best n below)

pub best_last : (bests : List Best) (best : Best) → best_at (bests ++ best ∷ []) (length bests) ≡ best.weight
best_last bests best = ap weight_of_best (get_last bests best)

no_higher_more : (bests : List Best) (best : Best) (top : Top) (n : ℕ) → n < length bests → IsNoHigher bests top n → IsNoHigher (bests ++ best ∷ []) top n
no_higher_more bests best top n below (inl less) = inl (omega (arith, best_below bests best n below, less))
no_higher_more bests best top n below (inr same) = inr (best_below bests best n below ∙ same.0, same.1)

pub top_more : (bests : List Best) (best : Best) (P : ℕ → Type 0) → ((node : ℕ) → P node → node < length bests) → (top : Option Top)
    → IsTop bests P top → IsTop (bests ++ best ∷ []) P top
top_more bests best P below None none = none
top_more bests best P below (Some top) is = record {
  has = is.has;
  weight_is = best_below bests best top.node (below top.node is.has) ∙ is.weight_is;
  highest = λ node has. no_higher_more bests best top node (below node has) (is.highest node has);
}
