use Rattle.std.proofs.Common.{◌≡◌, subst, rules}
use Rattle.seg_meaning.specs.Segment.{segment}
use Rattle.seq_elide.specs.declared.turn.Turn.{Turn}
use Rattle.seq_elide.specs.Answers.{elided_with}
use Rattle.determinism_laws.specs.elision.Elision.{elided}
use Rattle.seq_elide.specs.inner.Turns.{IsTurn, goes_to, ended, turn_after}
use Rattle.seq_elide.proofs.Whole.{fails_alike, goes_on_less, has_ended, has_failed, has_gone_on}
use Rattle.seq_elide.proofs.execution.elide.Goals as goal

pub returns-in_err-next-clause-failed : goal.returns-in_err-next-clause-failed
returns-in_err-next-clause-failed c =
    let p = c.args.p.now in
    let why = c.in_err-next.field-0.0 in
    fails_alike c.from_residual-in_err-next.result why (elided p c.args.lim c.args.task c.args.args.now c.args.cells.now) c.from_residual-in_err-next.ensures.1
    (has_failed p c.args.lim c.args.task c.args.args.now c.args.cells.now c.turns.callers c.turns.frame c.turns.progress c.turns.invariant why c.in_err-next.ensures.fails)

pub turns-smaller : goal.turns-smaller
turns-smaller c =
    let p = c.args.p.now in
    let next = turn_after c.args.lim c.turns.callers c.turns.progress (segment p c.turns.frame c.turns.progress.cells) in
    let goes : next ≡ goes_to c.take_turn.new.callers c.in-Goes.next c.take_turn.new.progress =
    subst (λ (t : Turn). IsTurn next t c.take_turn.new.callers c.take_turn.new.progress) c.in-Goes.is c.in_ok-next.ensures.goes in
    goes_on_less p c.args.lim c.args.task c.args.args.now c.args.cells.now c.turns.callers c.turns.frame c.turns.progress c.turns.invariant c.take_turn.new.callers c.in-Goes.next c.take_turn.new.progress goes

pub turns-preserved : goal.turns-preserved
turns-preserved c =
    let p = c.args.p.now in
    let next = turn_after c.args.lim c.turns.callers c.turns.progress (segment p c.turns.frame c.turns.progress.cells) in
    let goes : next ≡ goes_to c.take_turn.new.callers c.in-Goes.next c.take_turn.new.progress =
    subst (λ (t : Turn). IsTurn next t c.take_turn.new.callers c.take_turn.new.progress) c.in-Goes.is c.in_ok-next.ensures.goes in
    has_gone_on p c.args.lim c.args.task c.args.args.now c.args.cells.now c.turns.callers c.turns.frame c.turns.progress c.turns.invariant c.take_turn.new.callers c.in-Goes.next c.take_turn.new.progress goes

pub returns-in-Ended-clause-ended : goal.returns-in-Ended-clause-ended
returns-in-Ended-clause-ended c =
    let p = c.args.p.now in
    let next = turn_after c.args.lim c.turns.callers c.turns.progress (segment p c.turns.frame c.turns.progress.cells) in
    let ends : next ≡ ended c.in-Ended.value c.take_turn.new.progress =
    subst (λ (t : Turn). IsTurn next t c.take_turn.new.callers c.take_turn.new.progress) c.in-Ended.is c.in_ok-next.ensures.goes in
    let gives : c.result_of.result ≡ elided_with c.in-Ended.value c.take_turn.new.progress = search rules in
    has_ended p c.args.lim c.args.task c.args.args.now c.args.cells.now c.turns.callers c.turns.frame c.turns.progress c.turns.invariant c.in-Ended.value c.take_turn.new.progress c.result_of.result ends gives
