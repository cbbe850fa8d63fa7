-- How a run of the evaluator ends at a task operation.
use Rattle.std.specs.Prelude.{List}
use Rattle.seg_meaning.specs.declared.frame.Position.{Position}
use Rattle.seg_meaning.specs.declared.operation.Operation.{Operation}
use Rattle.seg_exec.specs.declared.steps.request.Ending.{Ending}
use Rattle.seg_exec.specs.declared.steps.request.Ending.TheVariants.{Suspended}

-- the run is suspended at this operation; the positions of the open blocks say what remains of the body
abbrev pub suspended_at : Operation → List Position → Ending
suspended_at operation positions = Suspended (record { operation = operation; positions = positions })
