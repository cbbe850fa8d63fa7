-- A tree that fails no rule of names means a well-formed program.
use Rattle.std.proofs.Common.{subst}
use Rattle.name_check.specs.Checked.{IsCheckOf}
use Rattle.twe_names.proofs.WellFormed.{well_formed}
use Rattle.twe_names.proofs.resolver.resolve.Goals as goal

pub program-requires-clause-well_formed : goal.program-requires-clause-well_formed
program-requires-clause-well_formed c =
    let accepted = subst (IsCheckOf c.args.ast.now) c.in-Accepted.is c.in_ok-globals.ensures in
    well_formed c.args.ast.now c.requires accepted.1
