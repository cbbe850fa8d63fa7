use Rattle.floor_laws.proofs.rule.LastTouches.{load_last}
use Rattle.floor_laws.proofs.rule.touch_laws.loads_find_what_was_touched_last.Goals as goal

pub returns : goal.returns
returns c p lim log f i t cell value known well keeps rule below found may is = load_last p well keeps lim log f rule i t cell value known below found may is
