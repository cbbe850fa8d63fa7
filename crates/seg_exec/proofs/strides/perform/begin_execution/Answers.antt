use Rattle.std.proofs.Common.{ap, sym, ◌∙◌}
use Rattle.twe_program.specs.Statement.{Statement}
use Rattle.twe_program.specs.inner.StatementView.{statement_of}
use Rattle.seg_meaning.specs.Access.{ways_of}
use Rattle.seg_exec.specs.inner.steps.Continuations.{Evaluate, Execute, Turn, to_do}
use Rattle.seg_exec.specs.inner.steps.Reached.{standing}
use Rattle.seg_exec.specs.inner.steps.Steps.{executed, on}
use Rattle.seg_exec.specs.inner.steps.Views.{config_of}
use Rattle.seg_exec.specs.inner.strides.Moving.{course}
use Rattle.seg_exec.proofs.strides.Moving.{moves_silent}
use Rattle.seg_exec.proofs.strides.Performing.{may_silent}
use Rattle.seg_meaning.proofs.Results.{if_ok_map}
use Rattle.seg_exec.proofs.strides.perform.begin_execution.Goals as goal

pub turn-requires-clause-again : goal.turn-requires-clause-again
turn-requires-clause-again g c config =
    (ap (λ (s : Statement). executed s config) (sym c.stmt.view_is ∙ ap (λ kind. statement_of c.stmt.inside.point kind) c.in-While.is)) ∙ ap (λ (s : Statement). on (to_do (Evaluate c.in-While.condition) (to_do (Turn s c.in-While.body c.in-While.place) config))) (sym (sym c.stmt.view_is ∙ ap (λ kind. statement_of c.stmt.inside.point kind) c.in-While.is))

pub turn-requires-clause-may : goal.turn-requires-clause-may
turn-requires-clause-may g c = may_silent c.args.p.now (ways_of g.C.Cells.known g.C.Cells.may_read g.C.Cells.may_write g.C.Cells.rule) (Execute c.args.stmt.now) (config_of c.args.machine.now) (to_do (Evaluate c.in-While.condition) (to_do (Turn c.args.stmt.now c.in-While.body c.in-While.place) (config_of c.args.machine.now))) c.args.cells.now c.args.prints.now ((ap (λ (s : Statement). executed s (config_of c.args.machine.now)) (sym c.stmt.view_is ∙ ap (λ kind. statement_of c.stmt.inside.point kind) c.in-While.is)) ∙ ap (λ (s : Statement). on (to_do (Evaluate c.in-While.condition) (to_do (Turn s c.in-While.body c.in-While.place) (config_of c.args.machine.now)))) (sym (sym c.stmt.view_is ∙ ap (λ kind. statement_of c.stmt.inside.point kind) c.in-While.is))) c.requires

pub returns-in-While : goal.returns-in-While
returns-in-While g c =
    if_ok_map c.turn.result (λ onward rest. moves_silent c.args.p.now (ways_of g.C.Cells.known g.C.Cells.may_read g.C.Cells.may_write g.C.Cells.rule) (Execute c.args.stmt.now) (config_of c.args.machine.now) (to_do (Evaluate c.in-While.condition) (to_do (Turn c.args.stmt.now c.in-While.body c.in-While.place) (config_of c.args.machine.now))) c.args.cells.now c.args.prints.now (course onward c.turn.new.machine)
    (standing c.turn.new.machine c.turn.new.cells c.turn.new.prints) ((ap (λ (s : Statement). executed s (config_of c.args.machine.now)) (sym c.stmt.view_is ∙ ap (λ kind. statement_of c.stmt.inside.point kind) c.in-While.is)) ∙ ap (λ (s : Statement). on (to_do (Evaluate c.in-While.condition) (to_do (Turn s c.in-While.body c.in-While.place) (config_of c.args.machine.now)))) (sym (sym c.stmt.view_is ∙ ap (λ kind. statement_of c.stmt.inside.point kind) c.in-While.is))) rest) c.turn.ensures
