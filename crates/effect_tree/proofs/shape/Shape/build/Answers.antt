-- The paths of a program's cells are solid, and a program has few nodes.
use Rattle.std.proofs.Common.{ap, subst, ◌∙◌}
use Rattle.std.proofs.lemmas.Result.{IfOk-weaker}
use Rattle.twe_program.specs.Program.{Program}
use Rattle.twe_program.specs.WellFormed.{IsWellFormed}
use Rattle.effect_tree.proofs.Outcomes.{ok_both}
use Rattle.effect_tree.proofs.ProgramLemmas.{HasPaths-whole, few-nodes}
use Rattle.effect_tree.proofs.shape.Shape.build.Goals as goal

pub returns-clause-exact : goal.returns-clause-exact
returns-clause-exact c =
    let cells = c.as_slice.ensures ∙ ap (λ (p : Program). p.cells) c.p.view_is in
    let fits = subst IsWellFormed c.p.view_is c.p.invariant in
    IfOk-weaker c.of_cells.result _ _ (λ shape has. HasPaths-whole shape c.args.p.now c.as_slice.result.now fits cells has) c.of_cells.ensures.exact

pub returns-clause-few : goal.returns-clause-few
returns-clause-few c =
    let cells = c.as_slice.ensures ∙ ap (λ (p : Program). p.cells) c.p.view_is in
    let fits = subst IsWellFormed c.p.view_is c.p.invariant in
    ok_both c.of_cells.result _ _ _
    (λ shape has tree. few-nodes shape c.args.p.now fits (HasPaths-whole shape c.args.p.now c.as_slice.result.now fits cells has) tree)
    c.of_cells.ensures.exact c.of_cells.ensures.tree
