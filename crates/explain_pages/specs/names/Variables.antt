-- The names of the variables of a body, by their numbers.
use Rattle.std.specs.Prelude.{Bool, List, [], ◌∷◌, ◌++◌, ◌==◌, ◌&&◌, if◌then◌else◌}
use Rattle.twe_base.specs.declared.place.Place.{Place}
use Rattle.twe_ast.specs.declared.item.Decl.{Decl}
use Rattle.twe_ast.specs.declared.item.Item.{Item}
use Rattle.twe_ast.specs.declared.item.Item.TheVariants.{Regions, Cell, Method, Task}
use Rattle.twe_ast.specs.declared.name.Name.{Name}
use Rattle.twe_ast.specs.Statement.{Statement, Block, Let, If, While, LetWait, Statements, end_of_block, statement, Arms, arm, otherwise, no_else}

-- the places are the same
abbrev pub is_same_place : Place → Place → Bool
is_same_place place other = (place.line == other.line) && (place.col == other.col)

-- the names of the locals that statements declare, in the order of the text
abbrev mutual
  pub locals_named : Statement → List Name
  locals_named (Block body) = locals_named_in body
  locals_named (Let is_final local_type name value) = name ∷ []
  locals_named (If arms) = locals_named_by arms
  locals_named (While place condition body) = locals_named_in body
  locals_named (LetWait is_final name wait) = name ∷ []
  locals_named _ = []

  pub locals_named_in : Statements → List Name
  locals_named_in (end_of_block close) = []
  locals_named_in (statement first others) = locals_named first ++ locals_named_in others

  pub locals_named_by : Arms → List Name
  locals_named_by (arm condition body others) = locals_named_in body ++ locals_named_by others
  locals_named_by (otherwise body) = locals_named_in body
  locals_named_by no_else = []

-- the names of the parameters, and then those of the locals
abbrev pub variables_of : Decl → List Name
variables_of decl = decl.params ++ locals_named_in decl.body

-- those of the declaration, if its name is at the place, or else these
abbrev pub variables_if_at : Decl → Place → List Name → List Name
variables_if_at decl place others = if is_same_place decl.name.place place then variables_of decl else others

-- those of the first declaration whose name is at the place
abbrev pub variables_at : List Item → Place → List Name
variables_at [] place = []
variables_at (Regions names ∷ items) place = variables_at items place
variables_at (Cell cell ∷ items) place = variables_at items place
variables_at (Method decl ∷ items) place = variables_if_at decl place (variables_at items place)
variables_at (Task deterministic decl ∷ items) place = variables_if_at decl place (variables_at items place)
