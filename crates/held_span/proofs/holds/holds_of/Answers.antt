use Rattle.std.proofs.Common.{◌+◌, arith, sym, subst}
use Rattle.span_profile.proofs.Lists.{zip_length}
use Rattle.held_span.specs.inner.Told.{Did, HoldsBelow}
use Rattle.held_span.proofs.Told.{holds_all, holds_on, no_holds}
use Rattle.held_span.proofs.holds.holds_of.Goals as goal

pub loop-number-init : goal.loop-number-init
loop-number-init c = λ rows stages told.
    let times = c.args.times.now in
    subst (HoldsBelow rows stages times.starts times.ends 0) (sym c.new-holds.ensures) (no_holds rows stages times.starts times.ends)

pub loop-number-preserved : goal.loop-number-preserved
loop-number-preserved c = λ rows stages told.
    let times = c.args.times.now in
    let n = c.loop-number.number in
    subst (HoldsBelow rows stages times.starts times.ends (n + 1)) (sym c.in_ok-push_found.ensures)
    (holds_on rows stages times.starts times.ends n c.loop-number.holds (c.loop-number.invariant rows stages told) c.hold_at-found.result (c.hold_at-found.ensures rows stages told))

pub returns : goal.returns
returns c = λ rows stages told.
    let times = c.args.times.now in
    let many = zip_length Did stages c.args.journal.now told.entries in
    let past = c.loop-number-test.false in
    holds_all rows stages times.starts times.ends c.loop-number.number c.loop-number.holds (omega (arith, many, past)) (c.loop-number.invariant rows stages told)
