-- What single statements do, those that store into cells and all that have no others inside them.
use Rattle.std.specs.Prelude.{List, []}
use Rattle.twe_program.specs.declared.program.CellDecl.{CellDecl}
use Rattle.twe_program.specs.Statement.{Statement, Block, SetCell, SetArray, SetGrid, If, While}
use Rattle.effect_infer.specs.declared.needs.need.BodyStep.{BodyStep}
use Rattle.effect_infer.specs.needs.Steps.{steps_in}

-- what a statement does that stores into a cell; all others are left out
abbrev pub store_steps : List CellDecl → Statement → List BodyStep
store_steps cells (SetCell point cell value place) = steps_in cells (SetCell point cell value place)
store_steps cells (SetArray point array index value place) = steps_in cells (SetArray point array index value place)
store_steps cells (SetGrid point array row column value place) = steps_in cells (SetGrid point array row column value place)
store_steps cells _ = []

-- what a statement does that has no others inside it; all others are left out
abbrev pub simple_steps : List CellDecl → Statement → List BodyStep
simple_steps cells (Block point body) = []
simple_steps cells (If point arms) = []
simple_steps cells (While point condition body place) = []
simple_steps cells s = steps_in cells s
