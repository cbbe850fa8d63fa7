use Rattle.std.proofs.Common.{List, Option, Some, ap, ◌∙◌}
use Rattle.std.specs.Prelude.{◌==◌, slice_set}
use Rattle.span_profile.specs.declared.heaviest_chain.top.Top.{Top}
use Rattle.span_profile.specs.heaviest_chain.inner.Fronts.{front_after, top_in}
use Rattle.span_profile.specs.heaviest_chain.inner.Tops.{higher}
use Rattle.span_profile.proofs.heaviest_chain.FrontLemmas.{given_at}
use Rattle.span_profile.proofs.heaviest_chain.fronts.give_at.Goals as goal

-- there is room for the number, and its highest node changes
pub returns : goal.returns
returns c = λ n.
    let tops = c.reach.new.tops in
    let kept = c.in_ok-reach.ensures.kept in
    ap (λ (l : List (Option Top)). top_in l n) c.set.ensures
    ∙ (ap (λ (new : Option Top). top_in (slice_set tops c.args.at new) n) (c.higher-higher.ensures ∙ ap (λ (old : Option Top). higher old (Some c.args.top)) c.top_in.ensures)
    ∙ (given_at tops c.args.at n c.args.top c.in_ok-reach.ensures.there ∙ ap (λ (old : Option Top). front_after (n == c.args.at) old c.args.top) (kept n)))
