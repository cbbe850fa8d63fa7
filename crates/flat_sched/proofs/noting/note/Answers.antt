use Rattle.flat_sched.proofs.NotedMoves.{noted_then}
use Rattle.flat_sched.proofs.noting.note.Goals as goal

pub returns-clause-noted : goal.returns-clause-noted
returns-clause-noted c =
    noted_then c.args.st.now c.args.mv c.args.before c.args.books.now c.enroll_new.new.books c.note_mover.new.books c.note.new.self c.requires.linked c.requires.one
    c.in_ok-enroll_new.ensures.grown c.in_ok-enroll_new.ensures.ready c.in_ok-enroll_new.ensures.waits c.in_ok-note_mover.ensures.noted
