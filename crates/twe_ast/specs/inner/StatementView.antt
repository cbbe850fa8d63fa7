-- The statement that a node of the tree is seen as.
use Rattle.std.specs.Prelude.{List, [], ◌∷◌, Option, None, Some}
use Rattle.twe_base.specs.declared.place.Place.{Place}
use Rattle.twe_ast.specs.Statement as seen
use Rattle.twe_ast.specs.Statement.{Statement, Statements, end_of_block, statement, Arms, arm, otherwise, no_else}
use Rattle.twe_ast.specs.declared.stmt.Arm.{Arm}
use Rattle.twe_ast.specs.declared.stmt.StmtKind.{StmtKind}
use Rattle.twe_ast.specs.declared.stmt.StmtKind.TheVariants as kinds

-- these statements, as a block whose closing brace is at this place
abbrev pub statements_of : List Statement → Place → Statements
statements_of [] close = end_of_block close
statements_of (first ∷ others) close = statement first (statements_of others close)

-- the end of the arms: the last `else` with its block, if there is one
abbrev pub last_of : Option Statements → Arms
last_of None = no_else
last_of (Some body) = otherwise body

-- these arms, followed by the last `else`, if there is one
abbrev pub arms_of : List Arm → Option Statements → Arms
arms_of [] last = last_of last
arms_of (first ∷ others) last = arm first.condition first.body (arms_of others last)

-- the statement that a kind of statement in memory is seen as
abbrev pub statement_of : StmtKind → Statement
statement_of (kinds.Block body) = seen.Block body
statement_of (kinds.Let is_final local_type name value) = seen.Let is_final local_type name value
statement_of (kinds.Set name value) = seen.Set name value
statement_of (kinds.SetAt array index None value) = seen.SetArray array index value
statement_of (kinds.SetAt array index (Some second) value) = seen.SetGrid array index second value
statement_of (kinds.If arms) = seen.If arms
statement_of (kinds.While place condition body) = seen.While place condition body
statement_of (kinds.Return place value) = seen.Return place value
statement_of (kinds.Print place value) = seen.Print place value
statement_of (kinds.Call method args) = seen.Call method args
statement_of (kinds.Make future task spawned args) = seen.Make future task spawned args
statement_of (kinds.Wait wait) = seen.Wait wait
statement_of (kinds.LetWait is_final name wait) = seen.LetWait is_final name wait
