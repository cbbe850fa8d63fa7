use Rattle.std.proofs.Common.{◌<◌, ap, arith, length, ◌∙◌}
use Rattle.std.proofs.lemmas.List.{length-map}
use Rattle.seg_journal.specs.declared.moves.Kind.TheVariants.{Admit}
use Rattle.machine_state.specs.declared.state.TaskRow.{TaskRow}
use Rattle.machine_state.specs.Rows.{link_of_row}
use Rattle.machine_state.proofs.links.LinksAgree.{reached_linked}
use Rattle.machine_state.proofs.tasks.Movers.{mover_there}
use Rattle.all_runs.proofs.Growing.{admitted_more, grows_on}
use Rattle.all_runs.proofs.exploring.Exploration.take_admissions.Goals as goal

-- the admission of one more task was taken
pub loop-task-preserved : goal.loop-task-preserved
loop-task-preserved c =
    let p = c.args.p.now in
    let lim = c.args.lim in
    let old = c.args.self.now in
    let a = c.loop-task.self in
    let b = c.take.new.self in
    let so_far = c.loop-task.invariant in
    record {
      found = c.take.ensures.found;
      grows = grows_on old.going old.ended a.going a.ended b.going b.ended so_far.grows c.take.ensures.grows;
      taken = λ run is.
          admitted_more p lim a.going a.ended b.going b.ended run.state c.loop-task.task (so_far.taken run is) c.take.ensures.grows
          (c.in_ok-take.ensures.taken run (so_far.grows.going_stay c.args.at run is));
    }

-- each legal admission is of a task that is there
pub returns-clause-taken : goal.returns-clause-taken
returns-clause-taken c run t is may =
    let can = c.requires.found.going_runs c.args.at run is in
    let linked = reached_linked c.args.p.now c.args.lim run.state (record { journal = run.journal; legal = can.is_run.legal; same = can.is_run.same }) in
    let links = ap length linked.links ∙ length-map run.state.tasks (λ (row : TaskRow). link_of_row row) in
    let there = mover_there run.state Admit t may in
    let count = c.task_count-tasks.ensures run is in
    let below : t < c.loop-task.task = omega (arith, links, there, count, c.loop-task-test.false, c.loop-task.auto.task-end) in
    c.loop-task.invariant.taken run is t below may
