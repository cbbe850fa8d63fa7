use Rattle.region_paths.proofs.Exactness.{apart-exact, meet-exact}
use Rattle.region_paths.proofs.disjointness.disjoint.Goals as goal

pub returns : goal.returns
returns c = record {
  exact = c.are_apart.ensures;
  sets = apart-exact c.args.p.now c.args.q.now c.are_apart.result c.are_apart.ensures;
  meet = meet-exact c.args.p.now c.args.q.now c.are_apart.result c.are_apart.ensures;
}
