-- The lowest task that isn't done, and where the walk goes from such a task.
use Rattle.std.proofs.Common.{◌≡◌, ℕ, ◌<◌, Bool, not, cond, List, length, Some, None, unwrap_or, sym, ap, ◌∙◌, subst, ⊎_elim, arith}
use Rattle.std.specs.List.{position_or_len}
use Rattle.std.proofs.lemmas.Bool.{cases_lt, lt-ltb, not-true, not_from_false, false≢true}
use Rattle.std.proofs.lemmas.List.Sums.{passes_at_first, fails_before_first}
use Rattle.wait_graph.specs.declared.tasks.Link.{Link}
use Rattle.wait_graph.specs.Link.{new_link, link_of}
use Rattle.wait_graph.specs.StuckCycle.{IsUndone, lowest_undone}

-- if some task isn't done, the lowest such task is there and isn't done
pub IsUndone-lowest : (links : List Link) (t : ℕ) → IsUndone links t → IsUndone links (lowest_undone links)
IsUndone-lowest links t some =
    let p : Link → Bool = λ link. not link.done in
    let n = position_or_len p links in
    let found : n < length links =
    ⊎_elim (λ h. h)
    (λ h. absurd (false≢true
    (sym (fails_before_first p links t (new_link None) (let k = some.there in omega arith))
    ∙ not_from_false (link_of links t).done some.undone)))
    (cases_lt n (length links)) in
    let value : lowest_undone links ≡ n = ap (λ b. unwrap_or (cond b (Some n) None) 0) (lt-ltb n (length links) found) in
    let undone = not-true (link_of links n).done (passes_at_first p links (new_link None) found) in
    subst (λ (k : ℕ). IsUndone links k) (sym value) (record { there = found; undone = undone })
