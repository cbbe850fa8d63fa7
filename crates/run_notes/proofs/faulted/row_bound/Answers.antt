use Rattle.std.proofs.Common.{◌≡◌, ◌++◌, ℕ, List, ap, ◌∙◌}
use Rattle.std.specs.Prelude.{codes, decimal}
use Rattle.explain_pages.proofs.Appended.{then_two}
use Rattle.run_notes.proofs.faulted.row_bound.Goals as goal

-- the parts in their order
pub returns : goal.returns
returns c =
    let name : List ℕ = c.args.name.now in
    let digits : c.as_bytes.result.now ≡ decimal c.args.count = c.as_bytes.ensures.value ∙ c.format.ensures.text in
    then_two (codes "an index of `") name (codes "` is at least 0, and less than ") (decimal c.args.count)
    c.push_all.new.self c.push_all-2.new.self c.push_all-3.new.self
    (c.in_ok-push_all.ensures.ok ∙ ap (λ (l : List ℕ). l ++ name) c.in_ok-text.ensures)
    c.in_ok-push_all-2.ensures.ok
    (c.in_ok-push_all-3.ensures.ok ∙ ap (λ (l : List ℕ). c.push_all-2.new.self ++ l) digits)
