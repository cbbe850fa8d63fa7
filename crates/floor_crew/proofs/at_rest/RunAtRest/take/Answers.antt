use Rattle.std.proofs.Common.{ap, subst}
use Rattle.seg_journal.specs.declared.journal.End.{End}
use Rattle.twe_program.specs.WellFormed.{IsWellFormed}
use Rattle.machine_state.specs.declared.state.State.{State}
use Rattle.twe_machine.proofs.listing.Listed.{was_listed}
use Rattle.floor_crew.proofs.StillRuns.{longer_by_entry, reached, run_after}
use Rattle.floor_crew.proofs.at_rest.RunAtRest.take.Goals as goal

-- the state of a run is reached
pub step-requires-clause-reached : goal.step-requires-clause-reached
step-requires-clause-reached c = reached c.args.p.now c.args.lim c.args.self.now.rest.journal c.args.self.now.rest.state c.requires.sound.run_is

-- its list was that of the state before the move
pub note-requires : goal.note-requires
note-requires c =
    let old = c.args.self.now in
    was_listed c.args.p.now c.args.lim old.rest.state c.step.new.st c.args.mv c.task_count-before.result old.enabled (subst IsWellFormed c.p.view_is c.p.invariant)
    (reached c.args.p.now c.args.lim old.rest.journal old.rest.state c.requires.sound.run_is) c.requires.legal
    (ap (λ (x : State × End). x.0) c.in_ok-end.ensures) c.task_count-before.ensures.count c.requires.sound.listing

-- the run stays sound
pub returns-clause-sound : goal.returns-clause-sound
returns-clause-sound c =
    let old = c.args.self.now in
    record {
      run_is = run_after c.args.p.now c.args.lim old.rest.journal c.push.new.self old.rest.state c.step.new.st c.args.mv c.in_ok-end.end c.requires.sound.run_is c.requires.legal
          c.in_ok-end.ensures c.in_ok-push.ensures.ok;
      listing = c.in_ok-note.ensures;
    }

pub returns-clause-journal : goal.returns-clause-journal
returns-clause-journal c =
    let old = c.args.self.now in
    longer_by_entry c.args.p.now c.args.lim old.rest.journal c.push.new.self old.rest.state c.step.new.st c.args.mv c.in_ok-end.end c.in_ok-end.ensures c.in_ok-push.ensures.ok
