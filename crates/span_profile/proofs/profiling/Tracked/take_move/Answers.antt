use Rattle.std.proofs.Common.{ap, ◌∙◌, refl, subst}
use Rattle.seg_journal.specs.declared.journal.End.{End}
use Rattle.twe_base.specs.Limits.{Bounds, IsWithin}
use Rattle.twe_program.specs.Program.{Program}
use Rattle.twe_program.specs.WellFormed.{IsWellFormed}
use Rattle.machine_state.specs.declared.state.State.{State}
use Rattle.machine_state.specs.Legal.{MayMove}
use Rattle.twe_machine.proofs.listing.Listed.{was_listed}
use Rattle.span_profile.specs.inner.Sets.{no_cells}
use Rattle.span_profile.proofs.Tracking.{has_room, mover_row, noted, tracked_on}
use Rattle.span_profile.proofs.profiling.Tracked.take_move.Goals as goal

pub count_entry-requires-clause-some : goal.count_entry-requires-clause-some
count_entry-requires-clause-some c =
    let may : MayMove c.args.self.now.st c.args.mv = c.in_default.ensures.legal.0 refl in
    let row = mover_row c.args.self.now.st c.args.mv.kind c.args.mv.task may in
    (noted c.args.p.now c.args.self.now.st c.args.mv.kind c.args.mv.task row.0 row.1 c.in_ok-deed.deed c.advance.new.watched c.in_ok-deed.ensures.did).some

pub count_entry-requires-clause-room : goal.count_entry-requires-clause-room
count_entry-requires-clause-room c = λ going.
    let well = subst (λ (p : Program). IsWellFormed p) c.p.view_is c.p.invariant in
    let within = subst (λ (lim : Bounds). IsWithin lim.fuel lim.tasks) c.lim.view_is c.lim.invariant in
    let may : MayMove c.args.self.now.st c.args.mv = c.in_default.ensures.legal.0 refl in
    let row = mover_row c.args.self.now.st c.args.mv.kind c.args.mv.task may in
    has_room c.args.p.now c.args.lim well within c.args.self.now c.requires c.args.mv c.in_ok-deed.deed c.advance.new.watched c.advance.new.st
    (record { may = may; row = row.0; there = row.1; moved = c.in_ok-deed.ensures.moved; did = c.in_ok-deed.ensures.did }) going

-- the list was that of the state before the move
pub note-requires : goal.note-requires
note-requires c =
    let well = subst (λ (p : Program). IsWellFormed p) c.p.view_is c.p.invariant in
    let may : MayMove c.args.self.now.st c.args.mv = c.in_default.ensures.legal.0 refl in
    let run = c.requires.is_run in
    was_listed c.args.p.now c.args.lim c.args.self.now.st c.advance.new.st c.args.mv c.task_count-before.result c.args.self.now.enabled well
    (record { journal = c.args.self.now.journal; legal = run.legal; same = run.same }) may (ap (λ (x : State × End). x.0) c.in_ok-deed.ensures.moved) c.task_count-before.ensures.count c.requires.listing

pub returns-clause-tracked : goal.returns-clause-tracked
returns-clause-tracked c =
    let well = subst (λ (p : Program). IsWellFormed p) c.p.view_is c.p.invariant in
    let within = subst (λ (lim : Bounds). IsWithin lim.fuel lim.tasks) c.lim.view_is c.lim.invariant in
    let may : MayMove c.args.self.now.st c.args.mv = c.in_default.ensures.legal.0 refl in
    let row = mover_row c.args.self.now.st c.args.mv.kind c.args.mv.task may in
    let did = noted c.args.p.now c.args.self.now.st c.args.mv.kind c.args.mv.task row.0 row.1 c.in_ok-deed.deed c.advance.new.watched c.in_ok-deed.ensures.did in
    tracked_on c.args.p.now c.args.lim well within c.args.self.now c.requires c.args.mv c.in_ok-deed.deed c.advance.new.watched c.advance.new.st
    (record { may = may; row = row.0; there = row.1; moved = c.in_ok-deed.ensures.moved; did = c.in_ok-deed.ensures.did })
    c.count_entry.new.chains c.in_ok-self.field-0 c.in_ok-self.ensures.over c.in_ok-self.ensures.kept (c.in_ok-self.ensures.added c.requires.nodes c.requires.holds) _ refl c.in_ok-push.ensures.ok refl refl
    (c.clear.ensures ∙ ap no_cells did.reads) (c.clear-2.ensures ∙ ap no_cells did.writes) refl c.in_ok-note.ensures
    c.follow.new.self c.len-number.result c.len-number.ensures refl c.in_ok-follow.ensures.kept (λ strands b. c.in_ok-follow.ensures.trail c.args.p.now c.requires.places strands b)
