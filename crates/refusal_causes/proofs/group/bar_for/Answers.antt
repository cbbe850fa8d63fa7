use Rattle.effect_check.specs.Acts.{acts_in_all}
use Rattle.refusal_causes.specs.Seeking.{needs_of}
use Rattle.refusal_causes.proofs.Covering.{in_range}
use Rattle.refusal_causes.proofs.Kept.{makes_done, makes_followed, none_bars}
use Rattle.refusal_causes.proofs.group.bar_for.Goals as goal

-- no future may be out
pub returns-then-not-some_may-clause-none : goal.returns-then-not-some_may-clause-none
returns-then-not-some_may-clause-none c =
    let p = c.args.p.now in
    let task = c.args.task.now in
    let act = c.args.act.now in
    let points = c.args.points.now in
    none_bars p task c.requires.fits points c.requires.group.facts act.point
    (in_range p task c.requires.fits act.point act.kind c.requires.done).0 (c.some_may.ensures c.if-not-some_may.true) (needs_of act.kind)
    c.args.makes.now (makes_done p task points.first c.args.makes.now c.requires.group.are)
    (makes_followed points.first (acts_in_all p task.body.block) c.args.makes.now c.requires.group.are)

-- the body has the point
pub bar_in_group-requires-clause-here : goal.bar_in_group-requires-clause-here
bar_in_group-requires-clause-here c =
    (in_range c.args.p.now c.args.task.now c.requires.fits c.args.act.now.point c.args.act.now.kind c.requires.done).0

-- the spawns are the task's
pub bar_in_group-requires-clause-done : goal.bar_in_group-requires-clause-done
bar_in_group-requires-clause-done c =
    makes_done c.args.p.now c.args.task.now c.args.points.now.first c.args.makes.now c.requires.group.are

-- their futures are followed
pub bar_in_group-requires-clause-followed : goal.bar_in_group-requires-clause-followed
bar_in_group-requires-clause-followed c =
    makes_followed c.args.points.now.first (acts_in_all c.args.p.now c.args.task.now.body.block) c.args.makes.now c.requires.group.are
