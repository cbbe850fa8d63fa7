use Rattle.std.proofs.Common.{refl}
use Rattle.cover_flow.specs.declared.answers.Points.{Points}
use Rattle.cover_flow.proofs.Table.{rows-flow}
use Rattle.cover_flow.proofs.answers.flow.Goals as goal

pub returns : goal.returns
returns c =
    let points : Points = record { first = c.args.first; rows = c.in_ok-rows.rows } in
    record { first = refl; exact = rows-flow points c.args.body.now c.in_ok-rows.ensures }
