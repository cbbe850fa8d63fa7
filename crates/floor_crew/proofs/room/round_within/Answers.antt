use Rattle.std.proofs.Common.{◌<◌, rules, arith, sym, subst}
use Rattle.twe_base.specs.Limits.{Bounds}
use Rattle.machine_state.specs.Runs.{IsRun, Legal}
use Rattle.floor_crew.proofs.Discarding.{begins_kept, taken_back}
use Rattle.floor_crew.proofs.TaskLimits.{run_same}
use Rattle.floor_crew.proofs.room.round_within.Goals as goal

-- so far fewer tasks were asked for than there is room for
pub on_own_floor-requires-2-clause-run : goal.on_own_floor-requires-2-clause-run
on_own_floor-requires-2-clause-run g c κs within =
    let rest = c.args.rest in
    let lim = c.lim.inside in
    let allowed : c.args.room < lim.tasks = search rules in
    let fits : rest.state.asked < c.args.room = search rules in
    run_same c.args.setup.now.p.now lim.fuel lim.tasks c.args.room rest.journal rest.state (omega (arith, allowed, fits)) fits
    (subst (λ (l : Bounds). IsRun c.args.setup.now.p.now l rest.journal rest.state) (sym c.lim.view_is) c.requires.run)

-- the round was one under the lower limit
pub kept_or_back-requires-clause-run : goal.kept_or_back-requires-clause-run
kept_or_back-requires-clause-run g c =
    subst (λ (l : Bounds). IsRun c.args.setup.now.p.now (record l { tasks = c.args.room }) c.in_ok-after.after.journal c.in_ok-after.after.state) c.lim.view_is c.in_ok-after.ensures.run

-- the first entries after the round are those from before it
pub kept_or_back-requires-clause-legal : goal.kept_or_back-requires-clause-legal
kept_or_back-requires-clause-legal g c =
    let taken = taken_back c.args.rest.journal c.in_ok-after.after.journal c.len-before.result c.len-before.ensures c.in_ok-after.ensures.begins in
    subst (Legal c.args.setup.now.p.now c.args.setup.now.lim) (sym taken) c.requires.run.legal

-- the run from before the round begins with its own journal
pub returns-clause-begins : goal.returns-clause-begins
returns-clause-begins g c =
    begins_kept c.args.rest.journal c.in_ok-after.after c.len-before.result c.args.room c.kept_or_back.result c.len-before.ensures c.in_ok-after.ensures.begins c.kept_or_back.ensures.kept c.kept_or_back.ensures.back
