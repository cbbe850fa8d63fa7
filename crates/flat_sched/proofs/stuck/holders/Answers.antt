use Rattle.std.proofs.Common.{◌≡◌, length, arith}
use Rattle.flat_sched.proofs.HeldUp.{linked}
use Rattle.flat_sched.proofs.stuck.holders.Goals as goal

-- a holder for each task
pub returns : goal.returns
returns c =
    let st = c.args.st.now in
    let agree = c.links_agree.ensures c.requires.0 st c.requires.2 in
    let count : c.loop-t.t ≡ length st.tasks = omega (arith, linked st agree) in
    record { count = omega (arith, c.loop-t.invariant.0, count); each = λ t below. c.loop-t.invariant.1 t (omega arith) }
