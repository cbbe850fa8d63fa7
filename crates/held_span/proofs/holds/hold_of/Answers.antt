use Rattle.std.proofs.Common.{sym}
use Rattle.held_span.proofs.Told.{no_maker}
use Rattle.held_span.proofs.holds.hold_of.Goals as goal

pub returns-in-None : goal.returns-in-None
returns-in-None c = λ rows stages told there.
    no_maker rows stages c.args.journal.now c.args.notes.now c.args.times.now told c.args.number c.args.entry there (sym c.in-None.ensures)

pub returns-in-Some : goal.returns-in-Some
returns-in-Some c = λ rows stages told there. c.hold_after.ensures rows stages told there (sym c.in-Some.ensures)
