-- A name that was found stands in the list.
use Rattle.std.proofs.Common.{IsSome, subst, arith}
use Rattle.name_check.proofs.cell_limits.Positions.{Contains-from_position}
use Rattle.name_check.proofs.cell_limits.names.Names.add.Goals as goal

pub returns-else-is_none-clause-known : goal.returns-else-is_none-clause-known
returns-else-is_none-clause-known c =
    Contains-from_position c.args.name.now c.args.self.now (subst IsSome c.find.ensures (grind arith))
