use Rattle.std.proofs.Common.{◌↔◌, Bool, List, IsTrue, sym, ap, ◌∙◌, subst}
use Rattle.std.specs.List.{list_all}
use Rattle.effect_meeting.specs.declared.equality.Equality.{Equality}
use Rattle.effect_meeting.specs.Always.{AlwaysInterfere, is_always_equal}
use Rattle.effect_meeting.proofs.OneCall.{always-exact}
use Rattle.effect_meeting.proofs.always.always_interfere.Goals as goal

-- the equalities of the effects always hold exactly if the effects always interfere
pub returns : goal.returns
returns c =
    let shared = c.args.shared in
    let first = c.args.first.now in
    let second = c.args.second.now in
    subst (λ (b : Bool). IsTrue b ↔ AlwaysInterfere shared first second)
    (sym (c.are_always_equal.ensures ∙ ap (λ (es : List Equality). list_all (is_always_equal shared) es) (c.as_slice.ensures ∙ c.in_ok-equalities.ensures)))
    (always-exact shared first second)
