use Rattle.std.proofs.Common.{◌≡◌, ◌++◌, List, ℕ, ap, ◌∙◌}
use Rattle.std.specs.Prelude.{codes}
use Rattle.std.specs.Fmt.{decimal}
use Rattle.std.proofs.lemmas.Result.{on_ok_weaker}
use Rattle.explain_pages.proofs.Appended.{then_two}
use Rattle.explain_pages.proofs.names.needed.push_counts.Goals as goal

-- one piece after the other
pub returns : goal.returns
returns c =
    let digits : c.as_bytes.result.now ≡ decimal c.args.args = c.as_bytes.ensures.value ∙ c.format.ensures.text in
    on_ok_weaker c.push_parameters.result
    (then_two c.args.text.now (codes "arguments: ") (decimal c.args.args) (codes ", parameters: " ++ decimal c.args.params)
    c.push_all.new.self c.push_all-2.new.self c.push_parameters.new.text c.in_ok-push_all.ensures.ok
    (c.in_ok-push_all-2.ensures.ok ∙ ap (λ (t : List ℕ). c.push_all.new.self ++ t) digits))
    c.push_parameters.ensures
