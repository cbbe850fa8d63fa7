use Rattle.effect_check.proofs.Groups.{free-none}
use Rattle.effect_check.proofs.cover.is_free.Goals as goal

pub returns-else-some_may : goal.returns-else-some_may
returns-else-some_may c = free-none c.args.futures.now c.args.point c.args.effect.now (c.some_may.ensures c.if-some_may.false)
