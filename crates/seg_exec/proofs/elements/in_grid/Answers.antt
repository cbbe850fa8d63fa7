use Rattle.std.proofs.Common.{◌*◌, ◌≡◌, ap}
use Rattle.twe_program.specs.Program.{size_of}
use Rattle.seg_meaning.proofs.CellNumbers.{grid_within}
use Rattle.seg_exec.proofs.elements.in_grid.Goals as goal

pub returns-in-Some-Some-clause-within : goal.returns-in-Some-Some-clause-within
returns-in-Some-Some-clause-within c =
    let size : size_of c.args.dims ≡ c.in-Grid.rows * c.in-Grid.cols = ap size_of c.in-Grid.is in
    let within = grid_within c.in-Grid.rows c.in-Grid.cols c.in-Some-Some.row c.in-Some-Some.column c.in-Some-Some.ensures.within c.in-Some-Some.ensures'.within in
    rw (c.from.ensures, c.from-in-Some-Some.ensures, c.from-in-Some-Some-2.ensures, size) within
