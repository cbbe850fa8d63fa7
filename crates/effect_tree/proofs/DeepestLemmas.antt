-- If a walk down the tree ends, no node lies deeper on the way.
use Rattle.std.proofs.Common.{◌≡◌, ℕ, ◌<◌, List, [], ◌∷◌, ◌++◌, length, refl, sym, subst, ◌⊎◌, inl, inr, ⊎_elim}
use Rattle.region_paths.specs.declared.elements.Elem.{Elem}
use Rattle.prefix_tree.specs.Prefix.{IsPrefix}
use Rattle.prefix_tree.specs.Nodes.{path_of, IsNode, IsTreeOfPaths}
use Rattle.prefix_tree.proofs.PrefixLemmas.{IsPrefix-refl}
use Rattle.effect_tree.specs.Place.{IsDeepest}

-- a path is a prefix of itself and more
IsPrefix-more : (a b : List Elem) → IsPrefix a (a ++ b)
IsPrefix-more [] b = tt
IsPrefix-more (x ∷ xs) b = (refl, IsPrefix-more xs b)

-- what is a prefix of a path, of an element and of more is one of the path, or has that element
prefix_split : (other at rest : List Elem) (e : Elem) → IsPrefix other (at ++ e ∷ rest) → IsPrefix other at ⊎ IsPrefix (at ++ e ∷ []) other
prefix_split [] at rest e h = inl tt
prefix_split (x ∷ xs) [] rest e h = inr (sym h.0, tt)
prefix_split (x ∷ xs) (y ∷ ys) rest e h =
    ⊎_elim (λ k. inl (h.0, k)) (λ k. inr (sym h.0, k)) (prefix_split xs ys rest e h.1)

-- the node that has the whole path
pub IsDeepest-whole : (nodes : List (List Elem)) (n : ℕ) (front : List Elem) → n < length nodes → path_of nodes n ≡ front → IsDeepest nodes front (path_of nodes n)
IsDeepest-whole nodes n front there same = record {
  node = (n, there, refl);
  above = subst (λ (p : List Elem). IsPrefix (path_of nodes n) p) same (IsPrefix-refl (path_of nodes n));
  deepest = λ other node h. subst (λ (p : List Elem). IsPrefix other p) (sym same) h;
}

-- the node below which the next element has none
pub IsDeepest-stop : (nodes : List (List Elem)) → IsTreeOfPaths nodes → (n : ℕ) (e : Elem) (front rest : List Elem) → n < length nodes → path_of nodes n ++ e ∷ rest ≡ front → ¬ IsNode nodes (path_of nodes n ++ e ∷ []) → IsDeepest nodes front (path_of nodes n)
IsDeepest-stop nodes t n e front rest there same absent =
    let at = path_of nodes n in
    record {
      node = (n, there, refl);
      above = subst (λ (p : List Elem). IsPrefix at p) same (IsPrefix-more at (e ∷ rest));
      deepest = λ other node h.
          ⊎_elim (λ k. k) (λ k. absurd (absent (t.closed other (at ++ e ∷ []) k node)))
          (prefix_split other at rest e (subst (λ (p : List Elem). IsPrefix other p) (sym same) h));
    }
