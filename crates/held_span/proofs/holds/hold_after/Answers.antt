use Rattle.std.proofs.Common.{sym}
use Rattle.held_span.proofs.Told.{no_wait}
use Rattle.held_span.proofs.holds.hold_after.Goals as goal

pub returns-in-None : goal.returns-in-None
returns-in-None c = λ rows stages told there by.
    no_wait rows stages c.args.journal.now c.args.notes.now c.args.times.now told c.args.number c.args.entry there (sym c.in-None.ensures)

pub returns-in-Some : goal.returns-in-Some
returns-in-Some c = λ rows stages told there by. c.hold_since.ensures rows stages told there by (sym c.in-Some.ensures)
