use Rattle.flat_sched.proofs.NotedMoves.{noted_mover}
use Rattle.flat_sched.proofs.noting.note_mover.Goals as goal

pub returns-clause-noted : goal.returns-clause-noted
returns-clause-noted c =
    noted_mover c.args.st.now c.args.mv c.args.books.now c.note_wait.new.books c.wake_waiters.new.books c.free_held.new.books c.requires.linked
    c.in_ok-note_wait.ensures.grown c.in_ok-note_wait.ensures.waits c.in_ok-note_wait.ensures.end
    c.in_ok-wake_waiters.ensures c.in_ok-free_held.ensures
