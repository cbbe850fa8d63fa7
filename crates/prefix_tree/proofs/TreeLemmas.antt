-- What the paths of the nodes of a tree are, and which node has a path.
use Rattle.std.proofs.Common.{◌≡◌, ℕ, zero, suc, ◌+◌, ◌<◌, List, [], ◌∷◌, ◌++◌, length, Option, Some, None, IsSome, MatchOption, refl, sym, ap, subst, ◌∙◌, ◌⊎◌, inl, inr, ⊎_elim, arith, zero-add}
use Rattle.std.proofs.lemmas.Bool.{cases_lt, cases_eq}
use Rattle.std.proofs.lemmas.List.{get_or_past}
use Rattle.std.specs.HashMap.{get}
use Rattle.prefix_tree.specs.declared.step.Step.{Step}
use Rattle.prefix_tree.specs.declared.part.Part.{Part}
use Rattle.prefix_tree.specs.Prefix.{IsPrefix}
use Rattle.prefix_tree.specs.Nodes.{path_of, IsNode, IsParent, IsTreeOfPaths}
use Rattle.prefix_tree.specs.inner.Same.{step_eq}
use Rattle.prefix_tree.specs.inner.Tables.{Tables, step_of, path_by, paths_after, paths, IsTree}
use Rattle.prefix_tree.proofs.StepLemmas.{step_is}
use Rattle.prefix_tree.proofs.PrefixLemmas.{IsPrefix-snoc, IsPrefix-nil}
use Rattle.prefix_tree.proofs.SnocLemmas.{nil-snoc, snoc-same}
use Rattle.prefix_tree.proofs.PathsLemmas.{length-paths_after, paths_after-push, path_of-first, path_of-step}

pub length-paths : (tree : Tables) → length (paths tree) ≡ length tree.steps
length-paths tree = length-paths_after [] tree.steps ∙ zero-add (length tree.steps)

some_is : {A : Type 0} (o : Option A) → IsSome o → (x : A) × (o ≡ Some x)
some_is None h = cc
some_is (Some x) h = (x, refl)

-- a step leads to a node that is there
pub step_there : (steps : List (Option Step)) (n : ℕ) (s : Step) → step_of steps n ≡ Some s → n < length steps
step_there steps n s e =
    ⊎_elim (λ there. there) (λ past. let none_there = get_or_past steps n None past in cc) (cases_lt n (length steps))

-- a node is the root, or a step leads to it
pub step_cases : (tree : Tables) → IsTree tree → (n : ℕ) → n < length tree.steps → (n ≡ 0) ⊎ ((s : Step) × (step_of tree.steps n ≡ Some s))
step_cases tree t n there =
    ⊎_elim (λ e. inl e) (λ ne. inr (some_is _ (t.others n (omega arith) there))) (cases_eq n 0)

pub path_of-node : (tree : Tables) → IsTree tree → (n : ℕ) (s : Step) → step_of tree.steps n ≡ Some s → path_of (paths tree) n ≡ path_of (paths tree) s.from ++ s.part ∷ []
path_of-node tree t n s e =
    let P : ℕ → Type 0 = λ m. path_of (paths tree) m ≡ path_of (paths tree) s.from ++ s.part ∷ [] in
    let lower = t.down n s e in
    let at : length {A = List Part} [] + n ≡ n = zero-add n in
    subst P at (path_of-step [] tree.steps n s e (subst (λ (m : ℕ). s.from < m) (sym at) lower))

root_path : (steps : List (Option Step)) → 0 < length steps → step_of steps 0 ≡ None → path_of (paths_after [] steps) 0 ≡ []
root_path [] h e = absurd (omega arith)
root_path (s ∷ ss) h e = path_of-first [] s ss ∙ ap (path_by []) e

pub path_of-root : (tree : Tables) → IsTree tree → path_of (paths tree) 0 ≡ []
path_of-root tree t = root_path tree.steps t.some t.root

-- no two steps lead to one node's path
same_step : (tree : Tables) → IsTree tree → (m n : ℕ) (s t : Step) → step_of tree.steps m ≡ Some s → step_of tree.steps n ≡ Some t → s.from ≡ t.from → s.part ≡ t.part → m ≡ n
same_step tree tree_is m n s t a b from part =
    let whole = step_is s t from part in
    let to_m = (tree_is.found m s).1 a in
    let to_n = (tree_is.found n t).1 b in
    let same = subst (λ (u : Step). get step_eq tree.children u ≡ Some m) whole to_m in
    cc

once_below : (tree : Tables) → IsTree tree → (bound m n : ℕ) → m < bound → m < length tree.steps → n < length tree.steps → path_of (paths tree) m ≡ path_of (paths tree) n → m ≡ n
once_below tree t zero m n below m_there n_there same = absurd (omega arith)
once_below tree t (suc bound) m n below m_there n_there same =
    ⊎_elim
    (λ (m_root : m ≡ 0).
    ⊎_elim
    (λ (n_root : n ≡ 0). m_root ∙ sym n_root)
    (λ at_n.
    let root = path_of-root tree t in
    let root_m = ap (path_of (paths tree)) m_root in
    let step_n = path_of-node tree t n at_n.0 at_n.1 in
    absurd (nil-snoc (path_of (paths tree) at_n.0.from) (at_n.0.part) (sym root ∙ sym root_m ∙ same ∙ step_n)))
    (step_cases tree t n n_there))
    (λ at_m.
    ⊎_elim
    (λ (n_root : n ≡ 0).
    let root = path_of-root tree t in
    let root_n = ap (path_of (paths tree)) n_root in
    let step_m = path_of-node tree t m at_m.0 at_m.1 in
    absurd (nil-snoc (path_of (paths tree) at_m.0.from) (at_m.0.part) (sym root ∙ sym root_n ∙ sym same ∙ step_m)))
    (λ at_n.
    let step_m = path_of-node tree t m at_m.0 at_m.1 in
    let step_n = path_of-node tree t n at_n.0 at_n.1 in
    let both = snoc-same _ _ _ _ (sym step_m ∙ same ∙ step_n) in
    let lower_m = t.down m at_m.0 at_m.1 in
    let lower_n = t.down n at_n.0 at_n.1 in
    let from = once_below tree t bound at_m.0.from at_n.0.from (omega arith) (omega arith) (omega arith) both.0 in
    same_step tree t m n at_m.0 at_n.0 at_m.1 at_n.1 from both.1)
    (step_cases tree t n n_there))
    (step_cases tree t m m_there)

-- two nodes have different paths
pub path_of-once : (tree : Tables) → IsTree tree → (m n : ℕ) → m < length (paths tree) → n < length (paths tree) → path_of (paths tree) m ≡ path_of (paths tree) n → m ≡ n
path_of-once tree t m n m_there n_there same =
    let all = length-paths tree in
    once_below tree t (suc m) m n (omega arith) (omega arith) (omega arith) same

closed_below : (tree : Tables) → IsTree tree → (bound n : ℕ) → n < bound → n < length tree.steps → (prefix : List Part) → IsPrefix prefix (path_of (paths tree) n) → IsNode (paths tree) prefix
closed_below tree t zero n below there prefix h = absurd (omega arith)
closed_below tree t (suc bound) n below there prefix h =
    let all = length-paths tree in
    ⊎_elim
    (λ (n_root : n ≡ 0).
    let root = ap (path_of (paths tree)) n_root ∙ path_of-root tree t in
    (n, omega arith, root ∙ sym (IsPrefix-nil prefix (subst (λ (p : List Part). IsPrefix prefix p) root h))))
    (λ at_n.
    let step = path_of-node tree t n at_n.0 at_n.1 in
    let lower = t.down n at_n.0 at_n.1 in
    ⊎_elim
    (λ up. closed_below tree t bound at_n.0.from (omega arith) (omega arith) prefix up)
    (λ whole. (n, omega arith, step ∙ sym whole))
    ((IsPrefix-snoc prefix (path_of (paths tree) at_n.0.from) (at_n.0.part)).0 (subst (λ (p : List Part). IsPrefix prefix p) step h)))
    (step_cases tree t n there)

-- above each node there is one for each prefix of its path
pub IsNode-closed : (tree : Tables) → IsTree tree → (path prefix : List Part) → IsPrefix prefix path → IsNode (paths tree) path → IsNode (paths tree) prefix
IsNode-closed tree t path prefix h node =
    let all = length-paths tree in
    let inside = node.1 in
    closed_below tree t (suc node.0) node.0 (omega arith) (omega arith) prefix (subst (λ (p : List Part). IsPrefix prefix p) (sym node.2) h)

pub IsTreeOfPaths-paths : (tree : Tables) → IsTree tree → IsTreeOfPaths (paths tree)
IsTreeOfPaths-paths tree t = record {
  some = let all = length-paths tree in let some = t.some in omega arith;
  root = path_of-root tree t;
  once = path_of-once tree t;
  closed = IsNode-closed tree t;
}

-- a step's node is the only one with its path
pub child_path : (tree : Tables) → IsTree tree → (s : Step) (n : ℕ) → get step_eq tree.children s ≡ Some n → (n < length (paths tree)) × (path_of (paths tree) n ≡ path_of (paths tree) s.from ++ s.part ∷ [])
child_path tree t s n e =
    let all = length-paths tree in
    let step = (t.found n s).0 e in
    let there = step_there tree.steps n s step in
    (omega arith, path_of-node tree t n s step)

-- a step that leads to the path of another leads from the same node by the same part
same_end : (tree : Tables) → IsTree tree → (n : ℕ) (s t : Step) → step_of tree.steps n ≡ Some t → s.from < length (paths tree) → path_of (paths tree) n ≡ path_of (paths tree) s.from ++ s.part ∷ [] → t ≡ s
same_end tree tree_is n s t at there same =
    let all = length-paths tree in
    let inside = step_there tree.steps n t at in
    let lower = tree_is.down n t at in
    let both = snoc-same _ _ _ _ (sym (path_of-node tree tree_is n t at) ∙ same) in
    step_is t s (path_of-once tree tree_is t.from s.from (omega arith) there both.0) both.1

-- where no step leads to a path, it is no node's
pub no_child : (tree : Tables) → IsTree tree → (s : Step) → s.from < length (paths tree) → get step_eq tree.children s ≡ None → ¬ IsNode (paths tree) (path_of (paths tree) s.from ++ s.part ∷ [])
no_child tree t s there absent node =
    let all = length-paths tree in
    let inside = node.1 in
    ⊎_elim
    (λ (n_root : node.0 ≡ 0).
    let root = ap (path_of (paths tree)) n_root ∙ path_of-root tree t in
    nil-snoc _ _ (sym root ∙ node.2))
    (λ at_n.
    let to_n = (t.found node.0 at_n.0).1 at_n.1 in
    let same = ap (get step_eq tree.children) (same_end tree t node.0 s at_n.0 at_n.1 there node.2) in
    cc)
    (step_cases tree t node.0 (omega arith))

-- n lies right below m exactly where a step from m leads to it
pub IsParent-step : (tree : Tables) → IsTree tree → (m n : ℕ) → n < length tree.steps → IsParent (paths tree) m n → (s : Step) × (step_of tree.steps n ≡ Some s) × (s.from ≡ m)
IsParent-step tree t m n there parent =
    let all = length-paths tree in
    ⊎_elim
    (λ (n_root : n ≡ 0).
    let root = ap (path_of (paths tree)) n_root ∙ path_of-root tree t in
    absurd (nil-snoc _ _ (sym root ∙ parent.2.1)))
    (λ at_n.
    let step = path_of-node tree t n at_n.0 at_n.1 in
    let both = snoc-same _ _ _ _ (sym step ∙ parent.2.1) in
    let lower = t.down n at_n.0 at_n.1 in
    (at_n.0, at_n.1, path_of-once tree t at_n.0.from m (omega arith) parent.0 both.0))
    (step_cases tree t n there)

pub step-IsParent : (tree : Tables) → IsTree tree → (n : ℕ) (s : Step) → step_of tree.steps n ≡ Some s → IsParent (paths tree) s.from n
step-IsParent tree t n s e =
    let all = length-paths tree in
    let there = step_there tree.steps n s e in
    let lower = t.down n s e in
    (omega arith, omega arith, (s.part, path_of-node tree t n s e))

-- a node to which no step leads is the root
pub none-root : (tree : Tables) → IsTree tree → (n : ℕ) → n < length tree.steps → step_of tree.steps n ≡ None → n ≡ 0
none-root tree t n there none = ⊎_elim (λ root. root) (λ at. let step = at.1 in cc) (step_cases tree t n there)

-- what the map has for a step is the node right below by its part
pub child-matches : (tree : Tables) → IsTree tree → (nodes : List (List Part)) → paths tree ≡ nodes → (s : Step) → s.from < length nodes → (o : Option ℕ) → o ≡ get step_eq tree.children s
    → MatchOption o (¬ IsNode nodes (path_of nodes s.from ++ s.part ∷ [])) (λ n. (n < length nodes) × (path_of nodes n ≡ path_of nodes s.from ++ s.part ∷ []))
child-matches tree t nodes is s there None e =
    let all = ap length is in
    subst (λ (ns : List (List Part)). ¬ IsNode ns (path_of ns s.from ++ s.part ∷ [])) is (no_child tree t s (omega arith) (sym e))
child-matches tree t nodes is s there (Some n) e =
    subst (λ (ns : List (List Part)). (n < length ns) × (path_of ns n ≡ path_of ns s.from ++ s.part ∷ [])) is (child_path tree t s n (sym e))

-- one step more leads to one path more
pub paths-added : (tree : Tables) (nodes : List (List Part)) → paths tree ≡ nodes → (s : Step) (steps : List (Option Step)) → steps ≡ tree.steps ++ Some s ∷ []
    → paths_after [] steps ≡ nodes ++ (path_of nodes s.from ++ s.part ∷ []) ∷ []
paths-added tree nodes is s steps e =
    ap (paths_after []) e
    ∙ paths_after-push [] tree.steps (Some s)
    ∙ ap (λ (ns : List (List Part)). ns ++ (path_of ns s.from ++ s.part ∷ []) ∷ []) is
