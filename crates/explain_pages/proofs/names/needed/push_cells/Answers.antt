use Rattle.std.proofs.Common.{◌≡◌, ◌++◌, List, ℕ, Bool, true, false, if◌then◌else◌, sym, ap, ◌∙◌}
use Rattle.std.specs.Prelude.{codes, nat_lt}
use Rattle.std.proofs.lemmas.Result.{on_ok_weaker}
use Rattle.twe_base.specs.Language.{max_cells}
use Rattle.explain_pages.specs.names.Needed.{over_words}
use Rattle.explain_pages.proofs.names.needed.push_cells.Goals as goal

-- there are too many cells
pub returns-then-has_many_cells : goal.returns-then-has_many_cells
returns-then-has_many_cells c =
    let text = c.args.text.now in
    let count = c.args.count in
    let many : nat_lt max_cells count ≡ true = sym c.has_many_cells.ensures ∙ c.if-has_many_cells.true in
    let nodes = codes "nodes up to here: more than 131072" in
    on_ok_weaker c.push_over_words.result
    (λ is. is ∙ (ap (λ (most : ℕ). text ++ over_words (codes "cells up to here") count most) c.from.ensures
    ∙ ap (λ (b : Bool). text ++ (if b then over_words (codes "cells up to here") count max_cells else nodes)) (sym many)))
    c.push_over_words.ensures

-- there are not
pub returns-else-has_many_cells : goal.returns-else-has_many_cells
returns-else-has_many_cells c =
    let text = c.args.text.now in
    let count = c.args.count in
    let few : nat_lt max_cells count ≡ false = sym c.has_many_cells.ensures ∙ c.if-has_many_cells.false in
    let nodes = codes "nodes up to here: more than 131072" in
    on_ok_weaker c.push_all.result
    (λ is. is ∙ ap (λ (b : Bool). text ++ (if b then over_words (codes "cells up to here") count max_cells else nodes)) (sym few))
    c.push_all.ensures.ok
