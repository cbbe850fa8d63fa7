-- What an element of a path needs.
use Rattle.std.specs.Prelude.{List}
use Rattle.twe_ast.specs.declared.path.CellElem.{CellElem}
use Rattle.twe_ast.specs.declared.path.PathElem.{PathElem}
use Rattle.name_check.specs.Asks.{Ask}
use Rattle.name_check.specs.Sites.{asks_of_cell_kind, asks_of_kind}

-- what an element of an effect's path needs, at its place
abbrev pub asks_of_elem : PathElem → List Ask
asks_of_elem elem = asks_of_kind elem.kind elem.place

-- what an element of a cell's path needs, at its place
abbrev pub asks_of_cell_elem : CellElem → List Ask
asks_of_cell_elem elem = asks_of_cell_kind elem.kind elem.place
