use Rattle.floor_crew.proofs.StillRuns.{begins_sound}
use Rattle.floor_crew.proofs.at_rest.RunAtRest.begin.Goals as goal

pub returns-clause-sound : goal.returns-clause-sound
returns-clause-sound c = begins_sound c.args.p.now c.args.lim _ c.new.ensures c.in_ok-start.ensures (c.in_ok-new.ensures.start c.args.p.now c.args.lim)
