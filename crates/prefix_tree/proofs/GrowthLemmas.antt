-- Trees that grow: by one path, by several of them, one after the other.
use Rattle.std.proofs.Common.{◌≡◌, ◌+◌, ◌<◌, ◌≤◌, ◌↔◌, List, [], ◌∷◌, ◌++◌, length, length-append, refl, sym, ap, subst, ◌∙◌, ◌⊎◌, inl, inr, ⊎_elim, arith}
use Rattle.std.proofs.Math.Seq.{get_or-append_seam}
use Rattle.std.proofs.lemmas.Bool.{cases_lt}
use Rattle.std.proofs.lemmas.List.{get_or_append_left}
use Rattle.prefix_tree.specs.Nodes.{path_of, IsNode}
use Rattle.prefix_tree.specs.Prefix.{IsPrefix}
use Rattle.prefix_tree.specs.Growth.{Grows}
use Rattle.prefix_tree.proofs.PrefixLemmas.{IsPrefix-snoc, IsPrefix-nil}

-- paths that are there already add nothing
pub Grows-none : {A : Type 0} (nodes : List (List A)) (IsAdded : List A → Type 0) → ((path : List A) → IsAdded path → IsNode nodes path) → Grows nodes nodes IsAdded
Grows-none nodes IsAdded there = record {
  longer = omega arith;
  kept = λ n h. refl;
  exact = λ path. (λ h. inl h, λ h. ⊎_elim (λ k. k) (λ a. there path a) h);
}

-- two growths are one
pub Grows-append : {A : Type 0} (old mid new : List (List A)) (First Second : List A → Type 0) → Grows old mid First → Grows mid new Second → Grows old new (λ path. First path ⊎ Second path)
Grows-append old mid new First Second a b = record {
  longer = let x = a.longer in let y = b.longer in omega arith;
  kept = λ n h. let x = a.longer in b.kept n (omega arith) ∙ a.kept n h;
  exact = λ path. (
    λ h. ⊎_elim (λ k. ⊎_elim (λ l. inl l) (λ l. inr (inl l)) ((a.exact path).0 k)) (λ k. inr (inr k)) ((b.exact path).0 h),
    λ h.
        ⊎_elim
        (λ k. (b.exact path).1 (inl ((a.exact path).1 (inl k))))
        (λ k. ⊎_elim (λ l. (b.exact path).1 (inl ((a.exact path).1 (inr l)))) (λ l. (b.exact path).1 (inr l)) k)
        h,
  );
}

-- the same paths, said otherwise
pub Grows-same : {A : Type 0} (old new : List (List A)) (First Second : List A → Type 0) → Grows old new First → ((path : List A) → First path ↔ Second path) → Grows old new Second
Grows-same old new First Second a same = record {
  longer = a.longer;
  kept = a.kept;
  exact = λ path. (
    λ h. ⊎_elim (λ k. inl k) (λ k. inr ((same path).0 k)) ((a.exact path).0 h),
    λ h. (a.exact path).1 (⊎_elim (λ k. inl k) (λ k. inr ((same path).1 k)) h),
  );
}

-- one path after the others
pub Grows-push : {A : Type 0} (old : List (List A)) (added : List A) → Grows old (old ++ added ∷ []) (λ path. path ≡ added)
Grows-push old added =
    let one : length (old ++ added ∷ []) ≡ length old + 1 = length-append old (added ∷ []) in
    record {
      longer = omega arith;
      kept = λ n h. get_or_append_left old (added ∷ []) [] n h;
      exact = λ path. (
        λ node.
            let there = node.1 in
            ⊎_elim
            (λ (below : node.0 < length old). inl (node.0, below, sym (get_or_append_left old (added ∷ []) [] node.0 below) ∙ node.2))
            (λ (past : length old ≤ node.0).
            let last : node.0 ≡ length old = omega arith in
            inr (sym node.2 ∙ ap (path_of (old ++ added ∷ [])) last ∙ get_or-append_seam old added [] []))
            (cases_lt node.0 (length old)),
        λ h.
            ⊎_elim
            (λ node. let there = node.1 in (node.0, omega arith, get_or_append_left old (added ∷ []) [] node.0 there ∙ node.2))
            (λ e. (length old, omega arith, get_or-append_seam old added [] [] ∙ sym e))
            h,
      );
    }

-- a list with one path more grows by that path
pub Grows-pushed : {A : Type 0} (old new : List (List A)) (added : List A) → new ≡ old ++ added ∷ [] → Grows old new (λ path. path ≡ added)
Grows-pushed {A} old new added e = subst (λ (nodes : List (List A)). Grows old nodes (λ path. path ≡ added)) (sym e) (Grows-push old added)

-- the prefixes of a path and of one element more
pub Grows-longer : {A : Type 0} (old mid new : List (List A)) (at next : List A) (e : A) → Grows old mid (λ path. IsPrefix path at) → Grows mid new (λ path. path ≡ at ++ e ∷ []) → next ≡ at ++ e ∷ [] → Grows old new (λ path. IsPrefix path next)
Grows-longer {A} old mid new at next e a b same =
    subst (λ (p : List A). Grows old new (λ path. IsPrefix path p)) (sym same)
    (Grows-same old new (λ path. IsPrefix path at ⊎ (path ≡ at ++ e ∷ [])) (λ path. IsPrefix path (at ++ e ∷ []))
    (Grows-append old mid new (λ path. IsPrefix path at) (λ path. path ≡ at ++ e ∷ []) a b)
    (λ path. let snoc = IsPrefix-snoc path at e in (snoc.1, snoc.0)))

-- the prefixes of a root's path are there
pub Grows-root : {A : Type 0} (nodes : List (List A)) → 0 < length nodes → path_of nodes 0 ≡ [] → Grows nodes nodes (λ path. IsPrefix path (path_of nodes 0))
Grows-root {A} nodes some root =
    Grows-none nodes (λ path. IsPrefix path (path_of nodes 0))
    (λ path h. (0, some, root ∙ sym (IsPrefix-nil path (subst (λ (p : List A). IsPrefix path p) root h))))
