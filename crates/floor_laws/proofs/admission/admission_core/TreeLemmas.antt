-- How nodes of a tree lie above one another.
use Rattle.std.proofs.Common.{◌≡◌, ◌≢◌, ℕ, ◌<◌, List, [], ◌∷◌, ◌++◌, length, refl, sym, ap, subst, ◌∙◌, ◌⊎◌, inl, inr, ⊎_elim}
use Rattle.std.proofs.lemmas.Bool.{cases_eq}
use Rattle.region_paths.specs.declared.elements.Elem.{Elem}
use Rattle.prefix_tree.specs.Prefix.{IsPrefix}
use Rattle.prefix_tree.specs.Nodes.{path_of, IsParent, IsTreeOfPaths}
use Rattle.prefix_tree.proofs.PrefixLemmas.{IsPrefix-refl, IsPrefix-trans, IsPrefix-antisym, IsPrefix-snoc}
use Rattle.effect_sets.specs.declared.effects.Effect.{Effect}
use Rattle.floor_laws.specs.admission.admission_core.States.{IsAbove, ActivityIsOver, IsApartBelow}

module _ (nodes : List (List Elem)) (tree : IsTreeOfPaths nodes) where
  pub above_refl : (n : ℕ) → n < length nodes → IsAbove nodes n n
  above_refl n h = record { upper = h; lower = h; prefix = IsPrefix-refl (path_of nodes n) }

  pub above_trans : (a b c : ℕ) → IsAbove nodes a b → IsAbove nodes b c → IsAbove nodes a c
  above_trans a b c h k = record { upper = h.upper; lower = k.lower; prefix = IsPrefix-trans (path_of nodes a) (path_of nodes b) (path_of nodes c) h.prefix k.prefix }

  pub above_antisym : (a b : ℕ) → IsAbove nodes a b → IsAbove nodes b a → a ≡ b
  above_antisym a b h k = tree.once a b h.upper h.lower (IsPrefix-antisym (path_of nodes a) (path_of nodes b) h.prefix k.prefix)

  -- what is apart from an effect with all that lies below it has nothing below it that is not
  pub apart_lower : (e : Effect) (m n : ℕ) → IsAbove nodes m n → IsApartBelow nodes e m → IsApartBelow nodes e n
  apart_lower e m n above apart d k at low = apart d k at (above_trans m n k above low)

  pub parent_above : (m n : ℕ) → IsParent nodes m n → IsAbove nodes m n
  parent_above m n h = record {
    upper = h.0;
    lower = h.1;
    prefix = subst (λ (p : List Elem). IsPrefix (path_of nodes m) p) (sym h.2.1) ((IsPrefix-snoc (path_of nodes m) (path_of nodes m) h.2.0).1 (inl (IsPrefix-refl (path_of nodes m))));
  }

  -- what lies strictly above a node lies above its parent
  pub above_parent : (x m n : ℕ) → IsParent nodes m n → IsAbove nodes x n → x ≢ n → IsAbove nodes x m
  above_parent x m n h k other =
      let prefix = subst (λ (p : List Elem). IsPrefix (path_of nodes x) p) h.2.1 k.prefix in
      ⊎_elim
      (λ up. record { upper = k.upper; lower = h.0; prefix = up })
      (λ same. absurd (other (tree.once x n k.upper k.lower (same ∙ sym h.2.1))))
      ((IsPrefix-snoc (path_of nodes x) (path_of nodes m) h.2.0).0 prefix)

  not_longer : (xs : List Elem) (e : Elem) → xs ≢ xs ++ e ∷ []
  not_longer [] e h = cc
  not_longer (x ∷ xs) e h = not_longer xs e (let same = h in cc)

  pub parent_other : (m n : ℕ) → IsParent nodes m n → m ≢ n
  parent_other m n h same = not_longer (path_of nodes m) h.2.0 (ap (path_of nodes) same ∙ h.2.1)

  pub parent_over : (m n : ℕ) → IsParent nodes m n → ActivityIsOver nodes m n
  parent_over m n h = record { above = parent_above m n h; other = parent_other m n h }

  pub parent_one : (m k n : ℕ) → IsParent nodes m n → IsParent nodes k n → m ≡ k
  parent_one m k n h l =
      above_antisym m k
      (above_parent m k n l (parent_above m n h) (parent_other m n h))
      (above_parent k m n h (parent_above k n l) (parent_other k n l))

  pub root_above : (n : ℕ) → n < length nodes → IsAbove nodes 0 n
  root_above n h = record { upper = tree.some; lower = h; prefix = subst (λ (p : List Elem). IsPrefix p (path_of nodes n)) (sym tree.root) tt }

  pub root_lowest : (n : ℕ) → IsAbove nodes n 0 → n ≡ 0
  root_lowest n h = above_antisym n 0 h (root_above n h.upper)

  not_nil : (xs : List Elem) (e : Elem) → [] ≢ xs ++ e ∷ []
  not_nil [] e h = cc
  not_nil (x ∷ xs) e h = cc

  pub root_alone : (m : ℕ) → ¬ IsParent nodes m 0
  root_alone m h = not_nil (path_of nodes m) h.2.0 (sym tree.root ∙ h.2.1)

  -- the first element of the second path after the first path
  next_part : (a b : List Elem) → IsPrefix a b → a ≢ b → (e : Elem) × IsPrefix (a ++ e ∷ []) b
  next_part [] [] h other = absurd (other refl)
  next_part [] (y ∷ ys) h other = (y, (refl, tt))
  next_part (x ∷ xs) [] h other = absurd h
  next_part (x ∷ xs) (y ∷ ys) h other =
      let rest = next_part xs ys h.1 (λ same. other (let first = h.0 in let others = same in cc)) in
      (rest.0, (h.0, rest.1))

  -- from a node that lies strictly above x a child leads to x
  pub child_toward : (m x : ℕ) → ActivityIsOver nodes m x → (c : ℕ) × IsParent nodes m c × IsAbove nodes c x
  child_toward m x h =
      let part = next_part (path_of nodes m) (path_of nodes x) h.above.prefix (λ same. h.other (tree.once m x h.above.upper h.above.lower same)) in
      let node = tree.closed (path_of nodes x) (path_of nodes m ++ part.0 ∷ []) part.1 (x, h.above.lower, refl) in (
        node.0,
        (h.above.upper, node.1, (part.0, node.2)),
        record {
          upper = node.1;
          lower = h.above.lower;
          prefix = subst (λ (p : List Elem). IsPrefix p (path_of nodes x)) (sym node.2) part.1;
        },
      )

  pub over_parent : (x m n : ℕ) → IsParent nodes m n → ActivityIsOver nodes x n → (x ≡ m) ⊎ ActivityIsOver nodes x m
  over_parent x m n h k =
      ⊎_elim (λ same. inl same) (λ other. inr (record { above = above_parent x m n h k.above k.other; other = other })) (cases_eq x m)

  pub over_above : (a b c : ℕ) → ActivityIsOver nodes a b → IsAbove nodes b c → ActivityIsOver nodes a c
  over_above a b c h k = record {
    above = above_trans a b c h.above k;
    other = λ same. h.other (above_antisym a b h.above (subst (λ (x : ℕ). IsAbove nodes b x) (sym same) k));
  }

  pub above_over : (a b c : ℕ) → IsAbove nodes a b → ActivityIsOver nodes b c → ActivityIsOver nodes a c
  above_over a b c h k = record {
    above = above_trans a b c h k.above;
    other = λ same. k.other (above_antisym b c k.above (subst (λ (x : ℕ). IsAbove nodes x b) same h));
  }
