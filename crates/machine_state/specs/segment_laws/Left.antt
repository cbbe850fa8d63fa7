-- The rest of a body: what is left to be executed, as statements.
use Rattle.std.specs.Prelude.{ℕ, List, [], ◌∷◌, Option, Some, slice_get, None}
use Rattle.twe_program.specs.Program.{Program}
use Rattle.twe_program.specs.Statement.{Statement, While, Statements, no_more, statement}
use Rattle.cover_flow.specs.Steps.{followed_by}
use Rattle.seg_meaning.specs.declared.frame.OpenBody.{OpenBody}
use Rattle.seg_meaning.specs.declared.frame.Frame.{Frame}
use Rattle.seg_meaning.specs.declared.frame.Position.{Position}
use Rattle.seg_meaning.specs.Meaning.{body_of}
use Rattle.seg_meaning.specs.Remaining.{after_first, block_at, block_of, last_of_first}

-- after the rest of a statement: the statement again if it is a `while`, and nothing otherwise
abbrev pub again : List Position → Option Statement → Statements → Statements
again (position ∷ inner) (Some (While point condition body place)) inside =
    followed_by inside (statement (While point condition body place) no_more)
again _ _ inside = inside

-- the rest of a block by the positions, from the inside out: first the rest of the statement before the first position,
-- then the statements after it
abbrev pub left_in : Statements → List Position → Statements
left_in stmts [] = no_more
left_in stmts (position ∷ inner) =
    let stmt = last_of_first position.after stmts in
    followed_by (again inner stmt (left_in (block_of (block_at inner) stmt) inner)) (after_first position.after stmts)

-- the rest of the body of a task; nothing if the body has ended
abbrev pub body_left : Program → ℕ → Option OpenBody → Statements
body_left p decl None = no_more
body_left p decl (Some body) = left_in (body_of (slice_get p.tasks decl)) body.open_blocks

-- the rest of the body of a frame's task
abbrev pub left_of : Program → Frame → Statements
left_of p frame = body_left p frame.decl frame.body
