-- Without a `*` there is no tail.
use Rattle.twe_names.proofs.Stars.{no_tail}
use Rattle.twe_names.proofs.paths.effect_path.Goals as goal

pub new-requires : goal.new-requires
new-requires c = no_tail c.args.globals.now c.args.params.now c.as_slice-written.result.now _ _ _ c.in_ok-tail.ensures c.count_before_star-before.ensures c.has_star.ensures
