-- The stack of a walk holds each node from the place to its last node.
use Rattle.std.proofs.Common.{◌≡◌, ℕ, ◌<◌, List, [], ◌∷◌, length, sym, subst, inl, inr, ⊎_elim}
use Rattle.std.proofs.lemmas.Bool.{cases_eq}
use Rattle.region_paths.specs.declared.elements.Elem.{Elem}
use Rattle.prefix_tree.specs.Nodes.{IsTreeOfPaths}
use Rattle.floor_laws.specs.admission.admission_core.States.{IsAmong, IsAbove}
use Rattle.floor_laws.proofs.admission.admission_core.TreeLemmas.{above_refl, above_trans, above_antisym, parent_above, above_parent}
use Rattle.floor_laws.proofs.admission.admission_core.Invariant.{IsStack}

module _ (nodes : List (List Elem)) (tree : IsTreeOfPaths nodes) (place : ℕ) (there : place < length nodes) where
  pub stack_below : (n : ℕ) (rest : List ℕ) → IsStack nodes place (n ∷ rest) → IsAbove nodes place n
  stack_below n [] h = subst (λ (x : ℕ). IsAbove nodes place x) (sym h) (above_refl nodes tree place there)
  stack_below n (m ∷ rest) h = above_trans nodes tree place m n (stack_below m rest h.1) (parent_above nodes tree m n h.0)

  pub stack_has : (n : ℕ) (rest : List ℕ) (x : ℕ) → IsStack nodes place (n ∷ rest) → IsAbove nodes place x → IsAbove nodes x n → IsAmong x (n ∷ rest)
  stack_has n [] x h low high = inl (sym (subst (λ (y : ℕ). y ≡ x) (sym h) (above_antisym nodes tree place x low (subst (λ (y : ℕ). IsAbove nodes x y) h high))))
  stack_has n (m ∷ rest) x h low high =
      ⊎_elim
      (λ same. inl same)
      (λ other. inr (stack_has m rest x h.1 low (above_parent nodes tree x m n h.0 high other)))
      (cases_eq x n)

  pub stack_above : (n : ℕ) (rest : List ℕ) (x : ℕ) → IsStack nodes place (n ∷ rest) → IsAmong x (n ∷ rest) → IsAbove nodes x n
  stack_above n [] x h (inl same) = subst (λ (y : ℕ). IsAbove nodes y n) (sym same) (above_refl nodes tree n (stack_below n [] h).lower)
  stack_above n [] x h (inr none) = absurd none
  stack_above n (m ∷ rest) x h (inl same) = subst (λ (y : ℕ). IsAbove nodes y n) (sym same) (above_refl nodes tree n (parent_above nodes tree m n h.0).lower)
  stack_above n (m ∷ rest) x h (inr others) = above_trans nodes tree x m n (stack_above m rest x h.1 others) (parent_above nodes tree m n h.0)
