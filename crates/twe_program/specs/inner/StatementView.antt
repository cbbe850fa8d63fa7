-- The tree that contracts see of a statement in memory.
use Rattle.std.specs.Prelude.{ℕ, List, [], ◌∷◌, Option, None, Some}
use Rattle.twe_program.specs.Statement as seen
use Rattle.twe_program.specs.Statement.{Statement, Statements, Arms, arm, otherwise, no_else}
use Rattle.twe_program.specs.declared.stmt.Arm.{Arm}
use Rattle.twe_program.specs.declared.stmt.StmtKind.{StmtKind}
use Rattle.twe_program.specs.declared.stmt.StmtKind.TheVariants as kinds

-- the end of the arms: the last `else` with its block, if there is one
abbrev pub last_of : Option Statements → Arms
last_of None = no_else
last_of (Some body) = otherwise body

-- these arms, followed by the last `else`, if there is one
abbrev pub arms_of : List Arm → Option Statements → Arms
arms_of [] last = last_of last
arms_of (first ∷ others) last = arm first.condition first.body (arms_of others last)

-- the statement that a kind of statement in memory is seen as, with the number of the point before it
abbrev pub statement_of : ℕ → StmtKind → Statement
statement_of point (kinds.Block body) = seen.Block point body
statement_of point (kinds.Let var value) = seen.Let point var value
statement_of point (kinds.Set var value) = seen.Set point var value
statement_of point (kinds.SetCell cell value place) = seen.SetCell point cell value place
statement_of point (kinds.SetAt array index None value place) = seen.SetArray point array index value place
statement_of point (kinds.SetAt array index (Some second) value place) = seen.SetGrid point array index second value place
statement_of point (kinds.If arms) = seen.If point arms
statement_of point (kinds.While condition body place) = seen.While point condition body place
statement_of point (kinds.Return value) = seen.Return point value
statement_of point (kinds.Print value place) = seen.Print point value place
statement_of point (kinds.Call method args place) = seen.Call point method args place
statement_of point (kinds.Make future task args spawned future_place place) =
    seen.Make point future task args spawned future_place place
statement_of point (kinds.Wait future join into place) = seen.Wait point future join into place
