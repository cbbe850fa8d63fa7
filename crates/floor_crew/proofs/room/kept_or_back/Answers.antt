use Rattle.std.proofs.Common.{◌<◌, rules, arith, subst}
use Rattle.twe_base.specs.Limits.{Bounds}
use Rattle.machine_state.specs.Runs.{IsRun}
use Rattle.floor_crew.proofs.TaskLimits.{run_same}
use Rattle.floor_crew.proofs.room.kept_or_back.Goals as goal

-- a run under the lower limit is one under the limit itself, if fewer tasks were asked for
pub returns-then-after-room-clause-run : goal.returns-then-after-room-clause-run
returns-then-after-room-clause-run g c =
    let lim = c.args.setup.now.lim in
    let fits : c.args.after.state.asked < c.args.room = search rules in
    run_same c.args.setup.now.p.now lim.fuel c.args.room lim.tasks c.args.after.journal c.args.after.state fits (let lower = c.requires.lower in omega (arith, lower, fits)) c.requires.run
