-- The kinds of statements, by what the walk over a body does with them.
use Rattle.std.specs.Prelude.{Bool, true, false}
use Rattle.twe_ast.specs.Statement.{Statement, Block, Let, If, While, Make, LetWait}

-- the statement declares a local or a future
abbrev pub declares : Statement → Bool
declares (Let is_final local_type name value) = true
declares (Make future task spawned args) = true
declares (LetWait is_final name wait) = true
declares _ = false

-- the statement has no others inside it, and declares nothing
abbrev pub is_simple : Statement → Bool
is_simple (Block body) = false
is_simple (Let is_final local_type name value) = false
is_simple (If arms) = false
is_simple (While place condition body) = false
is_simple (Make future task spawned args) = false
is_simple (LetWait is_final name wait) = false
is_simple _ = true
