-- The point at the end of a body can be numbered.
use Rattle.std.proofs.Common.{arith}
use Rattle.twe_names.proofs.Closing.{points_fit}
use Rattle.twe_names.proofs.decls.body.Goals as goal

pub overflow_add-result : goal.overflow_add-result
overflow_add-result c =
    omega (arith, points_fit c.args.globals.now c.args.written.now c.args.start c.statements.new.scope c.requires.small c.requires.start c.in_ok-block.ensures.walked)
