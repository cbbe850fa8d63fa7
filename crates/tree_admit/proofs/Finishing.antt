-- Walking below a node: the children that were walked are finished, nothing at or below the next ones is, and the others are apart
-- from the effect.
use Rattle.std.proofs.Common.{◌≡◌, ◌≢◌, ◌⊎◌, ◌<◌, ◌+◌, ◌-◌, ℕ, zero, suc, List, ◌∷◌, length, get_or, refl, sym, ap, subst, ◌∙◌, inl, inr, ⊎_elim, arith}
use Rattle.std.specs.Prelude.{Contains}
use Rattle.std.specs.List.Sorted.{IsStrictlyIncreasing}
use Rattle.std.proofs.lemmas.Bool.{cases_eq}
use Rattle.std.proofs.lemmas.List.Elements.{Contains-get_or}
use Rattle.std.proofs.lemmas.Option.{get_or_from_slice_get, slice_get-get_or}
use Rattle.region_paths.specs.declared.elements.Elem.{Elem}
use Rattle.effect_sets.specs.declared.effects.Effect.{Effect}
use Rattle.prefix_tree.specs.Nodes.{IsParent, IsTreeOfPaths}
use Rattle.floor_laws.specs.admission.admission_core.States.{IsAbove, IsAmong, IsApartBelow}
use Rattle.floor_laws.proofs.admission.admission_core.TreeLemmas.{above_refl, over_above, parent_over}
use Rattle.tree_admit.proofs.ways.WayLemmas.{siblings}
use Rattle.tree_admit.specs.ways.Ways.{AreReached}
use Rattle.tree_admit.specs.Descents.{HasFinishedBelow, NoneBelow}

-- the first k children are finished, the nodes that were finished are so still, and each other one lies at or below one of the first k children
pub record HasWalked (nodes : List (List Elem)) (children : List ℕ) (k : ℕ) (before after : List ℕ) : Type 0 where
  pub each : (j : ℕ) → j < k → IsAmong (get_or children j 0) after
  pub kept : (m : ℕ) → IsAmong m before → IsAmong m after
  pub below : (m : ℕ) → IsAmong m after → IsAmong m before ⊎ ((j : ℕ) × (j < k) × IsAbove nodes (get_or children j 0) m)

module _ (nodes : List (List Elem)) (tree : IsTreeOfPaths nodes) (e : Effect) (n : ℕ) (children : List ℕ) (each : AreReached nodes e n children)
    (rising : IsStrictlyIncreasing children) (before : List ℕ) (none : NoneBelow nodes n before) where
  pub child_at : (k : ℕ) → k < length children → IsParent nodes n (get_or children k 0)
  child_at k within = (each (get_or children k 0)).0 (Contains-get_or children k 0 within)

  pub nothing_walked : HasWalked nodes children 0 before before
  nothing_walked = record { each = λ j h. absurd (omega arith); kept = λ m h. h; below = λ m h. inl h }

  -- children with different places in the list differ
  later : (d j k : ℕ) → j + d + 1 ≡ k → k < length children → get_or children j 0 < get_or children k 0
  later zero j k is within =
      let one : j + 1 ≡ k = omega (arith, is) in
      subst (λ (i : ℕ). get_or children j 0 < get_or children i 0) one (rising j (omega (arith, is)))
  later (suc d) j k is within =
      let first = later d j (j + d + 1) refl (omega (arith, is)) in
      let one : j + d + 1 + 1 ≡ k = omega (arith, is) in
      let next = subst (λ (i : ℕ). get_or children (j + d + 1) 0 < get_or children i 0) one (rising (j + d + 1) (omega (arith, is))) in
      omega (arith, first, next)

  children_differ : (j k : ℕ) → j < k → k < length children → get_or children j 0 ≢ get_or children k 0
  children_differ j k before_k within same =
      let less = later (k - j - 1) j k (omega arith) within in
      omega (arith, less, same)

  module _ (k : ℕ) (within : k < length children) (after : List ℕ) (walked : HasWalked nodes children k before after) where
    -- nothing at or below the next child is finished
    pub next_unfinished : (m : ℕ) → IsAbove nodes (get_or children k 0) m → ¬ IsAmong m after
    next_unfinished m above among =
        let parent = child_at k within in
        ⊎_elim
        (λ was. none m (over_above nodes tree n (get_or children k 0) m (parent_over nodes tree n (get_or children k 0) parent) above) was)
        (λ (j, earlier, upper).
        children_differ j k earlier within
        (siblings nodes tree n (get_or children j 0) (get_or children k 0) m (child_at j (omega arith)) parent upper above))
        (walked.below m among)

    pub next_is_unfinished : ¬ IsAmong (get_or children k 0) after
    next_is_unfinished = next_unfinished (get_or children k 0) (above_refl nodes tree (get_or children k 0) (child_at k within).1)

    pub none_below_next : NoneBelow nodes (get_or children k 0) after
    none_below_next m over = next_unfinished m over.above

    -- one child more is finished
    pub walked_more : (then : List ℕ) → HasFinishedBelow nodes e (get_or children k 0) after then → HasWalked nodes children (k + 1) before (get_or children k 0 ∷ then)
    walked_more then finished = record {
      each = λ j h.
          ⊎_elim
          (λ (same : j ≡ k). inl (ap (λ (i : ℕ). get_or children i 0) same))
          (λ (other : j ≢ k). inr (finished.kept (get_or children j 0) (walked.each j (omega arith))))
          (cases_eq j k);
      kept = λ m h. inr (finished.kept m (walked.kept m h));
      below = λ m h.
          ⊎_elim
          (λ (same : m ≡ get_or children k 0).
          inr (k, omega arith, subst (λ (i : ℕ). IsAbove nodes (get_or children k 0) i) (sym same) (above_refl nodes tree (get_or children k 0) (child_at k within).1)))
          (λ among.
          ⊎_elim
          (λ was. ⊎_elim (λ old. inl old) (λ (j, earlier, upper). inr (j, omega arith, upper)) (walked.below m was))
          (λ over. inr (k, omega arith, over.above)) (finished.below m among)) h;
    }

  -- once all children were walked, the node may be left
  pub all_walked : (after : List ℕ) → HasWalked nodes children (length children) before after → HasFinishedBelow nodes e n before after
  all_walked after walked = record {
    all = λ c parent.
        ⊎_elim
        (λ (there : Contains children c).
        let same = get_or_from_slice_get children there.0 (get_or children there.0 c) 0 (slice_get-get_or children there.0 c there.1) in
        inl (subst (λ (m : ℕ). IsAmong m after) (same ∙ there.2) (walked.each there.0 there.1)))
        (λ (apart : IsApartBelow nodes e c). inr apart)
        ((each c).1 parent);
    kept = walked.kept;
    below = λ m among.
        ⊎_elim
        (λ old. inl old)
        (λ (j, earlier, upper).
        inr (over_above nodes tree n (get_or children j 0) m (parent_over nodes tree n (get_or children j 0) (child_at j earlier)) upper))
        (walked.below m among);
  }
