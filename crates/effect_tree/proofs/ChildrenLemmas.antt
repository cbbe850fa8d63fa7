-- The lists of the nodes right below each node, as one node more is put into them.
use Rattle.std.proofs.Common.{◌≡◌, ◌≢◌, ℕ, zero, suc, ◌+◌, ◌<◌, ◌≤◌, ◌↔◌, List, [], ◌∷◌, ◌++◌, length, length-append, length-set, get_or, get_or-set_same, get_or-set_other, replicate, refl, sym, ap, subst, ◌∙◌, ⊎_elim, arith}
use Rattle.std.specs.Prelude.{Contains}
use Rattle.std.specs.List.Sorted.{IsStrictlyIncreasing}
use Rattle.std.proofs.Math.Seq.{get_or-append_seam}
use Rattle.std.proofs.lemmas.Bool.{cases_lt, cases_eq}
use Rattle.std.proofs.lemmas.List.{get_or_append_left, length-replicate}
use Rattle.std.proofs.lemmas.List.Elements.{Contains-get_or, Contains-append_left, Contains-append_right, Contains-append_cases}
use Rattle.prefix_tree.specs.Nodes.{IsParent, IsTreeOfPaths}
use Rattle.prefix_tree.proofs.SnocLemmas.{nil-snoc, snoc-same}
use Rattle.effect_tree.specs.inner.Children.{with_pushed, HasChildrenBelow}

Contains-one : (x y : ℕ) → Contains (x ∷ []) y → y ≡ x
Contains-one x y (zero, h, e) = sym e
Contains-one x y (suc k, h, e) = absurd (omega arith)

-- a list that rises goes on rising by a number that is larger than all others
rises-more : (xs : List ℕ) (m : ℕ) → IsStrictlyIncreasing xs → ((x : ℕ) → Contains xs x → x < m) → IsStrictlyIncreasing (xs ++ m ∷ [])
rises-more xs m rises below k within =
    let all : length (xs ++ m ∷ []) ≡ length xs + 1 = length-append xs (m ∷ []) in
    let first : k < length xs = omega arith in
    let left = get_or_append_left xs (m ∷ []) 0 k first in
    ⊎_elim
    (λ (inner : k + 1 < length xs).
    let right = get_or_append_left xs (m ∷ []) 0 (k + 1) inner in
    let less = rises k inner in
    omega arith)
    (λ (past : length xs ≤ k + 1).
    let last : k + 1 ≡ length xs = omega arith in
    let right = ap (λ (j : ℕ). get_or (xs ++ m ∷ []) j 0) last ∙ get_or-append_seam xs m [] 0 in
    let less = below (get_or xs k 0) (Contains-get_or xs k 0 first) in
    omega arith)
    (cases_lt (k + 1) (length xs))

abbrev no-numbers : List ℕ
no-numbers = []

empty-at : (count k : ℕ) → get_or (replicate count no-numbers) k no-numbers ≡ no-numbers
empty-at zero zero = refl
empty-at zero (suc k) = refl
empty-at (suc count) zero = refl
empty-at (suc count) (suc k) = empty-at count k

module _ {A : Type 0} (nodes : List (List A)) (t : IsTreeOfPaths nodes) where
  -- a node has one node right above it, and the root has none

  parent-one : (k m n : ℕ) → IsParent nodes k n → IsParent nodes m n → k ≡ m
  parent-one k m n p q = t.once k m p.0 q.0 (snoc-same _ _ _ _ (sym p.2.1 ∙ q.2.1)).0

  root-alone : (k : ℕ) → ¬ IsParent nodes k 0
  root-alone k p = nil-snoc _ _ (sym t.root ∙ p.2.1)

  -- no node was put into the lists yet
  pub children-none : (lists : List (List ℕ)) → lists ≡ replicate (length nodes) [] → HasChildrenBelow nodes lists 1
  children-none lists is =
      let at : (k : ℕ) → get_or lists k [] ≡ [] = λ k. ap (λ (ls : List (List ℕ)). get_or ls k []) is ∙ empty-at (length nodes) k in
      record {
        counted = ap length is ∙ length-replicate (length nodes) [];
        each = λ n m. (
          λ c. let none = (subst (λ (xs : List ℕ). Contains xs m) (at n) c).1 in absurd (omega arith),
          λ h. let low = h.0 in let first : m ≡ 0 = omega arith in absurd (root-alone n (subst (λ (i : ℕ). IsParent nodes n i) first h.1)),
        );
        in_order = λ n. subst IsStrictlyIncreasing (sym (at n)) (λ k h. absurd (omega arith));
      }

  -- one node more
  module _ (lists : List (List ℕ)) (m above : ℕ) (has : HasChildrenBelow nodes lists m) (parent : IsParent nodes above m) where
    at-same : (k : ℕ) → k ≡ above → get_or (with_pushed lists above m) k [] ≡ get_or lists k [] ++ m ∷ []
    at-same k same =
        let counted = has.counted in
        let there : above < length lists = let upper = parent.0 in omega arith in
        ap (λ (j : ℕ). get_or (with_pushed lists above m) j []) same
        ∙ get_or-set_same lists above (get_or lists above [] ++ m ∷ []) [] there
        ∙ ap (λ (j : ℕ). get_or lists j [] ++ m ∷ []) (sym same)

    at-other : (k : ℕ) → k ≢ above → get_or (with_pushed lists above m) k [] ≡ get_or lists k []
    at-other k other = get_or-set_other lists above k (get_or lists above [] ++ m ∷ []) [] other

    each-same : (k x : ℕ) → k ≡ above → Contains (get_or lists k [] ++ m ∷ []) x ↔ ((x < m + 1) × IsParent nodes k x)
    each-same k x same = (
      λ c.
          ⊎_elim
          (λ old. let was = (has.each k x).0 old in let low = was.0 in (omega arith, was.1))
          (λ new.
          let is = Contains-one m x new in
          (omega arith, subst (λ (j : ℕ). IsParent nodes j x) (sym same) (subst (λ (j : ℕ). IsParent nodes above j) (sym is) parent)))
          (Contains-append_cases (get_or lists k []) (m ∷ []) x c),
      λ h.
          let low = h.0 in
          ⊎_elim
          (λ (older : x < m). Contains-append_left (get_or lists k []) (m ∷ []) x ((has.each k x).1 (older, h.1)))
          (λ (past : m ≤ x).
          let is : m ≡ x = omega arith in
          Contains-append_right (get_or lists k []) (m ∷ []) x (0, omega arith, is))
          (cases_lt x m),
    )

    each-other : (k x : ℕ) → k ≢ above → Contains (get_or lists k []) x ↔ ((x < m + 1) × IsParent nodes k x)
    each-other k x other = (
      λ c. let was = (has.each k x).0 c in let low = was.0 in (omega arith, was.1),
      λ h.
          let low = h.0 in
          ⊎_elim
          (λ (older : x < m). (has.each k x).1 (older, h.1))
          (λ (past : m ≤ x).
          let is : x ≡ m = omega arith in
          absurd (other (parent-one k above m (subst (λ (j : ℕ). IsParent nodes k j) is h.1) parent)))
          (cases_lt x m),
    )

    pub children-more : HasChildrenBelow nodes (with_pushed lists above m) (m + 1)
    children-more = record {
      counted = length-set lists above (get_or lists above [] ++ m ∷ []) ∙ has.counted;
      each = λ k x.
          ⊎_elim
          (λ (same : k ≡ above). subst (λ (xs : List ℕ). Contains xs x ↔ ((x < m + 1) × IsParent nodes k x)) (sym (at-same k same)) (each-same k x same))
          (λ (other : k ≢ above). subst (λ (xs : List ℕ). Contains xs x ↔ ((x < m + 1) × IsParent nodes k x)) (sym (at-other k other)) (each-other k x other))
          (cases_eq k above);
      in_order = λ k.
          ⊎_elim
          (λ (same : k ≡ above).
          subst IsStrictlyIncreasing (sym (at-same k same)) (rises-more (get_or lists k []) m (has.in_order k) (λ x c. ((has.each k x).0 c).0)))
          (λ (other : k ≢ above). subst IsStrictlyIncreasing (sym (at-other k other)) (has.in_order k))
          (cases_eq k above);
    }
