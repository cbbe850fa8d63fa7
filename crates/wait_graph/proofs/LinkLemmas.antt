-- The links of each task once one task's links were set, and once a task was added.
use Rattle.std.proofs.Common.{◌≡◌, ◌≢◌, ℕ, ◌<◌, ◌≤◌, List, [], ◌∷◌, ◌++◌, length, length-append, set, None, sym, ap, subst, ◌∙◌, ⊎_elim, arith, get_or-set_same, get_or-set_other}
use Rattle.std.proofs.Math.Seq.{set_out, get_or-append_seam}
use Rattle.std.proofs.lemmas.Bool.{cases_eq, cases_lt}
use Rattle.std.proofs.lemmas.List.{get_or_past, get_or_append_left}
use Rattle.wait_graph.specs.declared.tasks.Link.{Link}
use Rattle.wait_graph.specs.Link.{new_link, link_of}

-- what t has once its links were set
pub link_of-set_same : (links : List Link) (t : ℕ) (link : Link) → t < length links → link_of (set links t link) t ≡ link
link_of-set_same links t link there = get_or-set_same links t link (new_link None) there

-- each other task has what it had
pub link_of-set_other : (links : List Link) (t : ℕ) (link : Link) (x : ℕ) → x ≢ t → link_of (set links t link) x ≡ link_of links x
link_of-set_other links t link x other = get_or-set_other links t x link (new_link None) other

-- what the new links of t have as it had it before, each task has as before
pub kept_by_set : {A : Type 0} (f : Link → A) (links : List Link) (t : ℕ) (link : Link) → f link ≡ f (link_of links t) → (x : ℕ) → f (link_of (set links t link) x) ≡ f (link_of links x)
kept_by_set f links t link same x =
    ⊎_elim
    (λ e.
    subst (λ (y : ℕ). f (link_of (set links t link) y) ≡ f (link_of links y)) (sym e)
    (⊎_elim
    (λ there. ap f (link_of-set_same links t link there) ∙ same)
    (λ past. ap (λ ls. f (link_of ls t)) (set_out links t link past))
    (cases_lt t (length links))))
    (λ other. ap f (link_of-set_other links t link x other))
    (cases_eq x t)

-- a task that isn't there has the links of a new one
pub link_of-past : (links : List Link) (x : ℕ) → length links ≤ x → link_of links x ≡ new_link None
link_of-past links x past = get_or_past links x (new_link None) past

-- what an added task has
pub link_of-append_same : (links : List Link) (link : Link) → link_of (links ++ link ∷ []) (length links) ≡ link
link_of-append_same links link = get_or-append_seam links link [] (new_link None)

-- each other task has what it had
pub link_of-append_other : (links : List Link) (link : Link) (x : ℕ) → x ≢ length links → link_of (links ++ link ∷ []) x ≡ link_of links x
link_of-append_other links link x other =
    ⊎_elim
    (λ there. get_or_append_left links (link ∷ []) (new_link None) x there)
    (λ (past : length links ≤ x).
    let beyond : length (links ++ link ∷ []) ≤ x = simp length-append (omega arith) in
    link_of-past (links ++ link ∷ []) x beyond ∙ sym (link_of-past links x past))
    (cases_lt x (length links))

-- what the added links have as those of a new task, each task has as before
pub kept_by_append : {A : Type 0} (f : Link → A) (links : List Link) (link : Link) → f link ≡ f (new_link None) → (x : ℕ) → f (link_of (links ++ link ∷ []) x) ≡ f (link_of links x)
kept_by_append f links link same x =
    ⊎_elim
    (λ e.
    subst (λ (y : ℕ). f (link_of (links ++ link ∷ []) y) ≡ f (link_of links y)) (sym e)
    (ap f (link_of-append_same links link) ∙ same ∙ ap f (sym (link_of-past links (length links) (omega arith)))))
    (λ other. ap f (link_of-append_other links link x other))
    (cases_eq x (length links))
