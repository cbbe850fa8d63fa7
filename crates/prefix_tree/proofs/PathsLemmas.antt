-- The paths of the nodes to which a list of steps leads.
use Rattle.std.proofs.Common.{◌≡◌, ℕ, zero, suc, ◌+◌, ◌<◌, List, [], ◌∷◌, ◌++◌, length, length-append, Option, Some, refl, sym, ap, subst, ◌∙◌, arith}
use Rattle.std.proofs.Math.Seq.{get_or-append_seam}
use Rattle.std.proofs.lemmas.List.{get_or_append_left}
use Rattle.prefix_tree.specs.declared.step.Step.{Step}
use Rattle.prefix_tree.specs.declared.part.Part.{Part}
use Rattle.prefix_tree.specs.Nodes.{path_of}
use Rattle.prefix_tree.specs.inner.Tables.{step_of, path_by, paths_after}

length-snoc : {A : Type 0} (xs : List A) (x : A) → length (xs ++ x ∷ []) ≡ length xs + 1
length-snoc xs x = length-append xs (x ∷ [])

pub length-paths_after : (before : List (List Part)) (steps : List (Option Step)) → length (paths_after before steps) ≡ length before + length steps
length-paths_after before [] = omega arith
length-paths_after before (s ∷ ss) =
    let more = length-paths_after (before ++ path_by before s ∷ []) ss in
    let one = length-snoc before (path_by before s) in
    let all : length (s ∷ ss) ≡ suc (length ss) = refl in
    omega arith

-- one step more
pub paths_after-push : (before : List (List Part)) (steps : List (Option Step)) (s : Option Step) → paths_after before (steps ++ s ∷ []) ≡ paths_after before steps ++ path_by (paths_after before steps) s ∷ []
paths_after-push before [] s = refl
paths_after-push before (t ∷ ts) s = paths_after-push (before ++ path_by before t ∷ []) ts s

-- the nodes before keep their paths
pub path_of-before : (before : List (List Part)) (steps : List (Option Step)) (n : ℕ) → n < length before → path_of (paths_after before steps) n ≡ path_of before n
path_of-before before [] n h = refl
path_of-before before (s ∷ ss) n h =
    let one = length-snoc before (path_by before s) in
    path_of-before (before ++ path_by before s ∷ []) ss n (omega arith)
    ∙ get_or_append_left before (path_by before s ∷ []) [] n h

-- the node to which the first step leads
pub path_of-first : (before : List (List Part)) (s : Option Step) (ss : List (Option Step)) → path_of (paths_after before (s ∷ ss)) (length before) ≡ path_by before s
path_of-first before s ss =
    let one = length-snoc before (path_by before s) in
    path_of-before (before ++ path_by before s ∷ []) ss (length before) (omega arith)
    ∙ get_or-append_seam before (path_by before s) [] []

-- a step leads from the path of its node to that path and one element more
pub path_of-step : (before : List (List Part)) (steps : List (Option Step)) (k : ℕ) (s : Step) → step_of steps k ≡ Some s → s.from < length before + k → path_of (paths_after before steps) (length before + k) ≡ path_of (paths_after before steps) s.from ++ s.part ∷ []
path_of-step before [] k s e h = cc
path_of-step before (t ∷ ts) zero s e h =
    let P : ℕ → Type 0 = λ n. path_of (paths_after before (t ∷ ts)) n ≡ path_of (paths_after before (t ∷ ts)) s.from ++ s.part ∷ [] in
    let here : length before ≡ length before + 0 = omega arith in
    let lower : s.from < length before = omega arith in
    subst P here
    (path_of-first before t ts ∙ ap (path_by before) e
    ∙ ap (λ (p : List Part). p ++ s.part ∷ []) (sym (path_of-before before (t ∷ ts) s.from lower)))
path_of-step before (t ∷ ts) (suc k) s e h =
    let one = length-snoc before (path_by before t) in
    let P : ℕ → Type 0 = λ n. path_of (paths_after before (t ∷ ts)) n ≡ path_of (paths_after before (t ∷ ts)) s.from ++ s.part ∷ [] in
    let there : length (before ++ path_by before t ∷ []) + k ≡ length before + suc k = omega arith in
    subst P there (path_of-step (before ++ path_by before t ∷ []) ts k s e (omega arith))
