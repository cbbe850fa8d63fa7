-- What single statements do, those that store into cells and all that have no others inside them.
use Rattle.std.specs.Prelude.{List, []}
use Rattle.twe_program.specs.Program.{Program}
use Rattle.twe_program.specs.Statement.{Statement, Block, SetCell, SetArray, SetGrid, If, While}
use Rattle.effect_check.specs.declared.act.Act.{Act}
use Rattle.effect_check.specs.Acts.{acts_in}

-- what a statement does that stores into a cell; all others are left out
abbrev pub store_acts : Program → Statement → List Act
store_acts p (SetCell point cell value place) = acts_in p (SetCell point cell value place)
store_acts p (SetArray point array index value place) = acts_in p (SetArray point array index value place)
store_acts p (SetGrid point array row column value place) = acts_in p (SetGrid point array row column value place)
store_acts p _ = []

-- what a statement does that has no others inside it; all others are left out
abbrev pub simple_acts : Program → Statement → List Act
simple_acts p (Block point body) = []
simple_acts p (If point arms) = []
simple_acts p (While point condition body place) = []
simple_acts p s = acts_in p s
