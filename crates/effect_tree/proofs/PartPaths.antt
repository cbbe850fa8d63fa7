-- Paths of parts, and the paths of elements that they stand for.
use Rattle.std.proofs.Common.{◌≡◌, ℕ, zero, suc, ◌↔◌, List, [], ◌∷◌, ◌++◌, map, length, None, Some, refl, sym, ap, subst, ◌∙◌, arith}
use Rattle.std.proofs.lemmas.List.{map-append, length-map}
use Rattle.region_paths.specs.declared.elements.Elem.{Elem}
use Rattle.prefix_tree.specs.declared.part.Part.{Part}
use Rattle.prefix_tree.specs.declared.part.Part.TheVariants as part
use Rattle.prefix_tree.specs.Prefix.{IsPrefix}
use Rattle.prefix_tree.specs.Nodes.{path_of, IsNode, IsParent, IsTreeOfPaths}
use Rattle.effect_tree.specs.inner.Parts.{part_of, elem_of, elem_paths}

-- parts with one element are one
pub elem_of-same : (p q : Part) → elem_of p ≡ elem_of q → p ≡ q
elem_of-same (part.Name n) (part.Name m) h = cc
elem_of-same (part.Name n) (part.Index j) h = cc
elem_of-same (part.Index i) (part.Name m) h = cc
elem_of-same (part.Index i) (part.Index j) h = cc

pub elems-same : (xs ys : List Part) → map elem_of xs ≡ map elem_of ys → xs ≡ ys
elems-same [] [] e = refl
elems-same [] (y ∷ ys) e = cc
elems-same (x ∷ xs) [] e = cc
elems-same (x ∷ xs) (y ∷ ys) e =
    let head : elem_of x ≡ elem_of y = cc in
    let tail : map elem_of xs ≡ map elem_of ys = cc in
    let first = elem_of-same x y head in
    let rest = elems-same xs ys tail in
    cc

pub elems-snoc : (xs : List Part) (p : Part) → map elem_of (xs ++ p ∷ []) ≡ map elem_of xs ++ elem_of p ∷ []
elems-snoc xs p = map-append elem_of xs (p ∷ [])

-- what has the elements of a path and one more is that path and one part more
snoc-parts : (xs ys : List Part) (e : Elem) → map elem_of xs ≡ map elem_of ys ++ e ∷ [] → (p : Part) × (xs ≡ ys ++ p ∷ [])
snoc-parts [] [] e h = cc
snoc-parts [] (y ∷ ys) e h = cc
snoc-parts (x ∷ []) [] e h = (x, refl)
snoc-parts (x ∷ z ∷ zs) [] e h = cc
snoc-parts (x ∷ xs) (y ∷ ys) e h =
    let head : elem_of x ≡ elem_of y = cc in
    let tail : map elem_of xs ≡ map elem_of ys ++ e ∷ [] = cc in
    let first = elem_of-same x y head in
    let rest = snoc-parts xs ys e tail in
    let same = rest.1 in
    (rest.0, cc)

-- what the elements of a path begin with are the elements of a prefix of it
front-parts : (whole : List Part) (front : List Elem) → IsPrefix front (map elem_of whole) → (parts : List Part) × IsPrefix parts whole × (map elem_of parts ≡ front)
front-parts whole [] h = ([], tt, refl)
front-parts [] (e ∷ es) h = absurd h
front-parts (p ∷ ps) (e ∷ es) h =
    let rest = front-parts ps es h.1 in
    (p ∷ rest.0, (refl, rest.1), ap (λ (xs : List Elem). elem_of p ∷ xs) rest.2 ∙ ap (λ (f : Elem). f ∷ es) (sym h.0))

-- the nodes of a tree

pub path_of-elems : (nodes : List (List Part)) (n : ℕ) → path_of (elem_paths nodes) n ≡ map elem_of (path_of nodes n)
path_of-elems [] zero = refl
path_of-elems [] (suc n) = refl
path_of-elems (x ∷ xs) zero = refl
path_of-elems (x ∷ xs) (suc n) = path_of-elems xs n

pub length-elems : (nodes : List (List Part)) → length (elem_paths nodes) ≡ length nodes
length-elems nodes = length-map nodes (λ (path : List Part). map elem_of path)

pub node-to : (nodes : List (List Part)) (path : List Part) → IsNode nodes path → IsNode (elem_paths nodes) (map elem_of path)
node-to nodes path h =
    let all = length-elems nodes in
    let there = h.1 in
    (h.0, omega arith, path_of-elems nodes h.0 ∙ ap (map elem_of) h.2)

pub node-from : (nodes : List (List Part)) (path : List Part) → IsNode (elem_paths nodes) (map elem_of path) → IsNode nodes path
node-from nodes path h =
    let all = length-elems nodes in
    let there = h.1 in
    (h.0, omega arith, elems-same _ _ (sym (path_of-elems nodes h.0) ∙ h.2))

pub node-parts : (nodes : List (List Part)) (path : List Elem) → IsNode (elem_paths nodes) path → (parts : List Part) × IsNode nodes parts × (map elem_of parts ≡ path)
node-parts nodes path h =
    let all = length-elems nodes in
    let there = h.1 in
    (path_of nodes h.0, (h.0, omega arith, refl), sym (path_of-elems nodes h.0) ∙ h.2)

pub IsTreeOfPaths-elems : (nodes : List (List Part)) → IsTreeOfPaths nodes → IsTreeOfPaths (elem_paths nodes)
IsTreeOfPaths-elems nodes t =
    let all = length-elems nodes in record {
      some = let some = t.some in omega arith;
      root = path_of-elems nodes 0 ∙ ap (map elem_of) t.root;
      once = λ m n m_there n_there same.
          t.once m n (omega arith) (omega arith) (elems-same _ _ (sym (path_of-elems nodes m) ∙ same ∙ path_of-elems nodes n));
      closed = λ path prefix h node.
          let parts = node-parts nodes path node in
          let front = front-parts parts.0 prefix (subst (λ (p : List Elem). IsPrefix prefix p) (sym parts.2) h) in
          subst (λ (p : List Elem). IsNode (elem_paths nodes) p) front.2 (node-to nodes front.0 (t.closed parts.0 front.0 front.1 parts.1));
    }

pub parent-elems : (nodes : List (List Part)) (m n : ℕ) → IsParent nodes m n ↔ IsParent (elem_paths nodes) m n
parent-elems nodes m n =
    let all = length-elems nodes in (
      λ p.
          let upper = p.0 in
          let lower = p.1 in
          let last = elem_of p.2.0 in (
            omega arith,
            omega arith,
            (last, path_of-elems nodes n ∙ ap (map elem_of) p.2.1 ∙ elems-snoc (path_of nodes m) p.2.0 ∙ ap (λ (xs : List Elem). xs ++ last ∷ []) (sym (path_of-elems nodes m))),
          ),
      λ p.
          let upper = p.0 in
          let lower = p.1 in
          (omega arith, omega arith, snoc-parts (path_of nodes n) (path_of nodes m) p.2.0 (sym (path_of-elems nodes n) ∙ p.2.1 ∙ ap (λ (xs : List Elem). xs ++ p.2.0 ∷ []) (path_of-elems nodes m))),
    )

child-path : (nodes : List (List Part)) (at : ℕ) (p : Part) → map elem_of (path_of nodes at ++ p ∷ []) ≡ path_of (elem_paths nodes) at ++ elem_of p ∷ []
child-path nodes at p = elems-snoc (path_of nodes at) p ∙ ap (λ (xs : List Elem). xs ++ elem_of p ∷ []) (sym (path_of-elems nodes at))

-- the node right below by a part has that element last
pub child-elems : (nodes : List (List Part)) (at n : ℕ) (p : Part) → path_of nodes n ≡ path_of nodes at ++ p ∷ [] → path_of (elem_paths nodes) n ≡ path_of (elem_paths nodes) at ++ elem_of p ∷ []
child-elems nodes at n p e = path_of-elems nodes n ∙ ap (map elem_of) e ∙ child-path nodes at p

-- if there is none by a part, there is none by its element
pub absent-elems : (nodes : List (List Part)) (at : ℕ) (p : Part) → ¬ IsNode nodes (path_of nodes at ++ p ∷ []) → ¬ IsNode (elem_paths nodes) (path_of (elem_paths nodes) at ++ elem_of p ∷ [])
absent-elems nodes at p absent h =
    absent (node-from nodes (path_of nodes at ++ p ∷ []) (subst (λ (path : List Elem). IsNode (elem_paths nodes) path) (sym (child-path nodes at p)) h))

-- the last element of the elements of parts is that of a part
last_part : (xs : List Part) (ys : List Elem) (e : Elem) → map elem_of xs ≡ ys ++ e ∷ [] → (p : Part) × (elem_of p ≡ e)
last_part [] [] e h = cc
last_part [] (y ∷ ys) e h = cc
last_part (x ∷ xs) [] e h = (x, let same = h in cc)
last_part (x ∷ xs) (y ∷ ys) e h = last_part xs ys e (let same = h in cc)

elem_part : (p : Part) → part_of (elem_of p) ≡ Some p
elem_part (part.Name n) = refl
elem_part (part.Index i) = refl

-- by an element that is no part there is no node
pub no_part-elems : (nodes : List (List Part)) (at : ℕ) (e : Elem) → part_of e ≡ None → ¬ IsNode (elem_paths nodes) (path_of (elem_paths nodes) at ++ e ∷ [])
no_part-elems nodes at e none h =
    let parts = node-parts nodes (path_of (elem_paths nodes) at ++ e ∷ []) h in
    let last = last_part parts.0 (path_of (elem_paths nodes) at) e parts.2 in
    let some = sym (ap part_of last.1) ∙ elem_part last.0 in
    absurd (let no = sym none ∙ some in cc)
