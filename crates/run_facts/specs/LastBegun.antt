-- The statement of a body that began last, and the task operation that a task has come to.
use Rattle.std.specs.Prelude.{List, [], ◌∷◌, Option, None, Some, slice_get}
use Rattle.twe_base.specs.declared.place.Place.{Place}
use Rattle.twe_program.specs.declared.program.Decl.{Decl}
use Rattle.twe_program.specs.Program.{Program}
use Rattle.twe_program.specs.Statement.{Statement, Make, Wait, Statements}
use Rattle.seg_meaning.specs.declared.frame.OpenBody.{OpenBody}
use Rattle.seg_meaning.specs.declared.frame.Position.{Position}
use Rattle.seg_meaning.specs.Meaning.{body_of}
use Rattle.seg_meaning.specs.Remaining.{block_of, last_of_first}
use Rattle.machine_state.specs.declared.state.TaskRow.{TaskRow}

-- the statement that began last in these open blocks, the first of which is a block of this statement, and each further one of
-- the statement that began last in the block before it
abbrev pub last_begun_inside : Option Statement → List Position → Option Statement
last_begun_inside stmt [] = stmt
last_begun_inside stmt (position ∷ inner) =
    last_begun_inside (last_of_first position.after (block_of position.block stmt)) inner

-- the statement of a body that began last, in the innermost of its open blocks
abbrev pub last_begun : Statements → List Position → Option Statement
last_begun body [] = None
last_begun body (position ∷ inner) = last_begun_inside (last_of_first position.after body) inner

-- the place of the name of the task that the statement makes, or of the future that it waits for
abbrev pub operation_place : Option Statement → Option Place
operation_place (Some (Make point future task args spawned future_place place)) = Some place
operation_place (Some (Wait point future join into place)) = Some place
operation_place _ = None

-- the place of the closing brace of a declaration
abbrev pub closing_place : Option Decl → Option Place
closing_place None = None
closing_place (Some decl) = Some decl.body.close

-- the place of the task operation that the body of a declaration has come to, or that of its closing brace if it has ended
abbrev pub stands_in : Option Decl → Option OpenBody → Option Place
stands_in decl None = closing_place decl
stands_in decl (Some body) = operation_place (last_begun (body_of decl) body.open_blocks)

-- The place of the task operation that the task of this row has come to, or that of the closing brace of its body if that has
-- ended. Before its first task operation it has come to none.
abbrev pub stands_at : Program → TaskRow → Option Place
stands_at p row = stands_in (slice_get p.tasks row.frame.decl) row.frame.body
