-- The continuation for what remains of a body.
use Rattle.std.specs.Prelude.{List, [], ◌∷◌, Option, None, Some, slice_get}
use Rattle.twe_program.specs.Statement.{Statement, While, Statements}
use Rattle.twe_program.specs.Program.{Program}
use Rattle.seg_meaning.specs.declared.frame.OpenBody.{OpenBody}
use Rattle.seg_meaning.specs.declared.frame.Frame.{Frame}
use Rattle.seg_meaning.specs.declared.frame.Position.{Position}
use Rattle.seg_meaning.specs.Meaning.{body_of}
use Rattle.seg_meaning.specs.Remaining.{after_first, last_of_first, block_of, block_at}
use Rattle.seg_exec.specs.inner.steps.Continuations.{Config, Continuation, Execute, Rest}

-- after what remains of the body of a loop, its condition is tested again
abbrev pub again_of : List Position → Option Statement → List Continuation → List Continuation
again_of (position ∷ inner) (Some (While point condition body place)) work = Execute (While point condition body place) ∷ work
again_of _ _ work = work

-- the frames for the open blocks, the innermost on top
abbrev pub unfolded : Statements → List Position → List Continuation → List Continuation
unfolded stmts [] work = work
unfolded stmts (position ∷ inner) work =
    let stmt = last_of_first position.after stmts in
    unfolded (block_of (block_at inner) stmt) inner
    (again_of inner stmt (Rest position.block position.after (after_first position.after stmts) ∷ work))

-- the same in a configuration
abbrev pub again_in : List Position → Option Statement → Config → Config
again_in inner stmt c = record c { work = again_of inner stmt c.work }

-- the frames for the open blocks of these statements are pushed onto the continuation
abbrev pub with_unfolded : Statements → List Position → Config → Config
with_unfolded stmts positions c = record c { work = unfolded stmts positions c.work }

-- the evaluator at what remains of an open body of a frame
abbrev pub body_config : Program → Frame → OpenBody → Config
body_config p frame body =
    with_unfolded (body_of (slice_get p.tasks frame.decl)) body.open_blocks
    (record { work = []; operands = []; vars = body.vars; fuel = frame.fuel; calls = [] })

-- the evaluator at what remains of a frame, if the frame is not at its end
abbrev pub config_at : Program → Frame → Option OpenBody → Option Config
config_at p frame None = None
config_at p frame (Some body) = Some (body_config p frame body)
