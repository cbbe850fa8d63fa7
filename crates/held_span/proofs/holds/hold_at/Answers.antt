use Rattle.std.proofs.Common.{sym}
use Rattle.held_span.proofs.Told.{no_entry}
use Rattle.held_span.proofs.holds.hold_at.Goals as goal

pub returns-in-None : goal.returns-in-None
returns-in-None c = λ rows stages told.
    no_entry rows stages c.args.journal.now c.args.notes.now c.args.times.now told c.args.number (sym c.in-None.ensures)

pub returns-in-Some : goal.returns-in-Some
returns-in-Some c = λ rows stages told. c.hold_of.ensures rows stages told (sym c.in-Some.ensures)
