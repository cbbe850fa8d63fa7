use Rattle.std.proofs.Common.{length, sym, subst}
use Rattle.effect_infer.specs.declared.needs.need.Need.{Need}
use Rattle.effect_infer.specs.Rows.{row}
use Rattle.effect_infer.specs.Covered.{SummaryGrows, IsHandedBy}
use Rattle.effect_infer.proofs.Finding.{spread-start, spread-more, spread-end, get-none}
use Rattle.effect_infer.proofs.spread.hand_on_from.Goals as goal

pub loop-at-init : goal.loop-at-init
loop-at-init c = spread-start (length c.args.callers.now) c.args.calls.now c.args.all.now c.args.from c.requires.inside c.requires.before

-- all were handed on
pub returns-in_default : goal.returns-in_default
returns-in_default c =
    spread-end (length c.args.callers.now) c.args.calls.now c.args.all.now c.loop-at.all c.loop-at.at (get-none c.loop-at.all c.loop-at.at (sym c.in_default.ensures)) c.loop-at.invariant

-- one need more
pub loop-at-preserved : goal.loop-at-preserved
loop-at-preserved c =
    let found = c.in-Some.found.now in
    spread-more (length c.args.callers.now) c.args.calls.now c.args.callers.now c.args.all.now c.loop-at.all c.hand_to_callers.new.all c.loop-at.at found
    c.requires.listed c.loop-at.invariant (sym c.in-Some.ensures)
    (subst (λ (n : Need). SummaryGrows c.loop-at.all c.hand_to_callers.new.all (IsHandedBy c.args.calls.now (row c.args.callers.now found.method) found.method n)) c.in_ok-need.ensures c.in_ok-hand_to_callers.ensures)
