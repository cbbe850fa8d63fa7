use Rattle.std.proofs.Common.{◌-◌}
use Rattle.twe_draw.specs.picture.inner.Chosen.{AreChosen}
use Rattle.twe_draw.proofs.picture.choosing.choose_rows.Given as goal

abbrev pub invariant-choosing : goal.invariant-choosing
invariant-choosing l = AreChosen l.most l.works l.needed l.shown l.count

abbrev pub decreases-choosing : goal.decreases-choosing
decreases-choosing l = l.most - l.count
