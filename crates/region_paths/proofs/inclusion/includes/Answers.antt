use Rattle.region_paths.proofs.Exactness.{inside-exact}
use Rattle.region_paths.proofs.inclusion.includes.Goals as goal

pub returns : goal.returns
returns c = record {
  exact = c.is_inside.ensures;
  sets = inside-exact c.args.inner.now c.args.outer.now c.is_inside.result c.is_inside.ensures;
}
