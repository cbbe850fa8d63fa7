use Rattle.std.proofs.Common.{◌≡◌, sym, ◌∙◌}
use Rattle.summary_comparing.proofs.SameEffects.{elems-eq}
use Rattle.summary_comparing.proofs.differing.is_call.Goals as goal

-- the method and the arguments are equal
pub returns-then-its-method : goal.returns-then-its-method
returns-then-its-method c = λ h.
    let same : c.as_slice.result.now ≡ c.args.args.now = elems-eq c.as_slice.result.now c.args.args.now (sym c.are_same_elems.ensures ∙ h) in
    let elems = c.as_slice.ensures in
    let method = c.if-its-method.true in
    let is = c.in-Call.is in
    cc
