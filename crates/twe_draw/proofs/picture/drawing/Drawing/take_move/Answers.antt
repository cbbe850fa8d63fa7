use Rattle.std.proofs.Common.{ap, refl, subst}
use Rattle.seg_journal.specs.declared.journal.End.{End}
use Rattle.twe_program.specs.WellFormed.{IsWellFormed}
use Rattle.machine_state.specs.declared.state.State.{State}
use Rattle.machine_state.specs.Legal.{MayMove}
use Rattle.twe_machine.proofs.listing.Listed.{was_listed}
use Rattle.twe_draw.proofs.picture.Drawn.{drawn_on, drawn_over}
use Rattle.twe_draw.proofs.picture.drawing.Drawing.take_move.Goals as goal

-- the list was that of the state before the move
pub note-requires : goal.note-requires
note-requires c =
    let may : MayMove c.args.self.now.st c.args.mv = c.in_default.ensures.legal.0 refl in
    let run = c.requires.is_run in
    was_listed c.args.p.now c.args.lim c.args.self.now.st c.take.new.st c.args.mv c.task_count-before.result c.args.self.now.enabled (subst IsWellFormed c.p.view_is c.p.invariant)
    (record { journal = c.args.self.now.journal; legal = run.legal; same = run.same }) may (ap (λ (x : State × End). x.0) c.in_ok-bar.ensures.moved) c.task_count-before.ensures.count c.requires.listing

-- after a fault there is no bar
pub returns-then-self-clause-drawn : goal.returns-then-self-clause-drawn
returns-then-self-clause-drawn c =
    drawn_over c.args.p.now c.args.lim c.args.times.now.starts c.args.times.now.ends c.args.self.now c.requires c.args.mv c.in_ok-bar.bar (c.in_default.ensures.legal.0 refl) c.take.new.st
    c.in_ok-bar.ensures.moved c.in_ok-bar.ensures.bar c.if-self.true _ refl c.in_ok-push.ensures.ok c.in_ok-note.ensures refl refl

pub returns-clause-drawn : goal.returns-clause-drawn
returns-clause-drawn c =
    drawn_on c.args.p.now c.args.lim c.args.times.now.starts c.args.times.now.ends c.args.self.now c.requires c.args.mv c.in_ok-bar.bar (c.in_default.ensures.legal.0 refl) c.take.new.st
    c.in_ok-bar.ensures.moved c.in_ok-bar.ensures.bar c.if-self.false _ refl c.in_ok-push.ensures.ok c.in_ok-note.ensures c.is_fault-self.ensures c.in_ok-add.ensures.marks
    c.in_ok-add.ensures.known
