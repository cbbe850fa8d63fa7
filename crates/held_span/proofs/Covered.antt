-- If some edges cover all edges, the chains of them are as heavy as all chains: an edge which a path of others covers can be left
-- out.
use Rattle.std.proofs.Common.{◌≤◌, ℕ, List, [], ◌∷◌, ◌++◌, arith}
use Rattle.std.specs.Prelude.{sum_by}
use Rattle.std.proofs.lemmas.List.Sums.{sum_by-append, sum_by-cons}
use Rattle.span_profile.specs.heaviest_chain.Chains.{IsChain}
use Rattle.held_span.specs.inner.Paths.{IsPath}

-- each edge is covered by a path of kept ones
abbrev pub Covers : (ℕ → ℕ → Type 0) → (ℕ → ℕ → Type 0) → Type 0
Covers Kept All = (i j : ℕ) → All i j → (between : List ℕ) × IsPath Kept i between j

-- a path to where a chain begins makes a longer chain
path-chain : (Kept : ℕ → ℕ → Type 0) (count i : ℕ) (between : List ℕ) (j : ℕ) (others : List ℕ) → IsPath Kept i between j → IsChain Kept count (j ∷ others) → IsChain Kept count (i ∷ (between ++ j ∷ others))
path-chain Kept count i [] j others path chain = (path, chain)
path-chain Kept count i (k ∷ between) j others path chain = (path.0, path-chain Kept count k between j others path.1 chain)

module _ (All Kept : ℕ → ℕ → Type 0) (covers : Covers Kept All) (count : ℕ) (weight : ℕ → ℕ) where
  covered-from : (i : ℕ) (others : List ℕ) → IsChain All count (i ∷ others) → (rest : List ℕ) × IsChain Kept count (i ∷ rest) × (sum_by weight others ≤ sum_by weight rest)
  covered-from i [] is = ([], is, omega arith)
  covered-from i (j ∷ others) is =
      let cover = covers i j is.0 in
      let later = covered-from j others is.1 in
      let chain = path-chain Kept count i cover.0 j later.0 cover.1 later.1 in
      let one = sum_by-cons weight j others in
      let other = sum_by-cons weight j later.0 in
      let both = sum_by-append weight cover.0 (j ∷ later.0) in
      (cover.0 ++ j ∷ later.0, chain, omega (arith, one, other, both, later.2))

  pub kept-as-heavy : (most : ℕ) → ((other : List ℕ) → IsChain Kept count other → sum_by weight other ≤ most) → (other : List ℕ) → IsChain All count other → sum_by weight other ≤ most
  kept-as-heavy most bound [] is = bound [] tt
  kept-as-heavy most bound (i ∷ others) is =
      let kept = covered-from i others is in
      let within = bound (i ∷ kept.0) kept.1 in
      let one = sum_by-cons weight i others in
      let other = sum_by-cons weight i kept.0 in
      omega (arith, one, other, within, kept.2)
