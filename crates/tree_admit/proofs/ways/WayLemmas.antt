-- What lies above what, and why two nodes right below one do not lie above the same node.
use Rattle.std.proofs.Common.{◌≡◌, ◌≢◌, ℕ, zero, suc, ◌+◌, ◌<◌, ◌≤◌, List, [], ◌∷◌, ◌++◌, length, length-append, sym, ap, subst, ◌∙◌, ⊎_elim, arith}
use Rattle.region_paths.specs.declared.elements.Elem.{Elem}
use Rattle.prefix_tree.specs.Prefix.{IsPrefix}
use Rattle.prefix_tree.specs.Nodes.{path_of, IsParent, IsTreeOfPaths}
use Rattle.floor_laws.specs.admission.admission_core.States.{IsAbove, ActivityIsOver}
use Rattle.floor_laws.proofs.admission.admission_core.TreeLemmas.{above_refl, above_trans, over_parent, parent_above, root_lowest}
use Rattle.tree_admit.specs.ways.Ways.{longest, room_below}

module _ (nodes : List (List Elem)) (tree : IsTreeOfPaths nodes) where
  -- from a node that lies strictly below another, the parent is that one or lies strictly below it
  pub still_over : (n m c : ℕ) → IsParent nodes m c → ActivityIsOver nodes n c → n ≢ m → ActivityIsOver nodes n m
  still_over n m c parent over other = ⊎_elim (λ same. absurd (other same)) (λ more. more) (over_parent nodes tree n m c parent over)

  pub up_above : (m c end : ℕ) → IsParent nodes m c → IsAbove nodes c end → IsAbove nodes m end
  up_above m c end parent above = above_trans nodes tree m c end (parent_above nodes tree m c parent) above

  pub not_over_root : (n : ℕ) → ¬ ActivityIsOver nodes n 0
  not_over_root n over = over.other (root_lowest nodes tree n over.above)

  pub over_end : (n end : ℕ) → ActivityIsOver nodes n end → IsAbove nodes end end
  over_end n end over = above_refl nodes tree end over.above.lower

  -- two prefixes of one path that end in one element more than a third are one
  same_next : (a path : List Elem) (e f : Elem) → IsPrefix (a ++ e ∷ []) path → IsPrefix (a ++ f ∷ []) path → e ≡ f
  same_next [] [] e f h k = absurd h
  same_next [] (x ∷ xs) e f h k = h.0 ∙ sym k.0
  same_next (y ∷ ys) [] e f h k = absurd h
  same_next (y ∷ ys) (x ∷ xs) e f h k = same_next ys xs e f h.1 k.1

  pub siblings : (n c d m : ℕ) → IsParent nodes n c → IsParent nodes n d → IsAbove nodes c m → IsAbove nodes d m → c ≡ d
  siblings n c d m p q h k =
      let first = subst (λ (a : List Elem). IsPrefix a (path_of nodes m)) p.2.1 h.prefix in
      let second = subst (λ (a : List Elem). IsPrefix a (path_of nodes m)) q.2.1 k.prefix in
      let same = same_next (path_of nodes n) (path_of nodes m) p.2.0 q.2.0 first second in
      tree.once c d p.1 q.1 (p.2.1 ∙ ap (λ (e : Elem). path_of nodes n ++ e ∷ []) same ∙ sym q.2.1)

below_longest : (nodes : List (List Elem)) (n : ℕ) → length (path_of nodes n) ≤ longest nodes
below_longest [] zero = omega arith
below_longest [] (suc n) = omega arith
below_longest (path ∷ paths) zero = omega arith
below_longest (path ∷ paths) (suc n) = let rest = below_longest paths n in omega (arith, rest)

pub room_shrinks : (nodes : List (List Elem)) (n c : ℕ) → IsParent nodes n c → room_below nodes c < room_below nodes n
room_shrinks nodes n c h =
    let longer : length (path_of nodes c) ≡ length (path_of nodes n) + 1 = ap length h.2.1 ∙ length-append (path_of nodes n) (h.2.0 ∷ []) in
    let within = below_longest nodes c in
    omega (arith, longer, within)
