use Rattle.std.proofs.Common.{◌≡◌, ◌++◌, List, ℕ, ap, ◌∙◌}
use Rattle.std.specs.Prelude.{codes}
use Rattle.std.specs.Fmt.{decimal}
use Rattle.std.proofs.lemmas.Result.{on_ok_weaker}
use Rattle.explain_pages.proofs.Appended.{then_one}
use Rattle.explain_pages.proofs.names.needed.push_parameters.Goals as goal

-- one piece after the other
pub returns : goal.returns
returns c =
    let digits : c.as_bytes.result.now ≡ decimal c.args.params = c.as_bytes.ensures.value ∙ c.format.ensures.text in
    on_ok_weaker c.push_all-2.result
    (λ is. then_one c.args.text.now (codes ", parameters: ") (decimal c.args.params) c.push_all.new.self c.push_all-2.new.self
    c.in_ok-push_all.ensures.ok (is ∙ ap (λ (t : List ℕ). c.push_all.new.self ++ t) digits))
    c.push_all-2.ensures.ok
