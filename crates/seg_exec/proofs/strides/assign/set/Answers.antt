use Rattle.std.proofs.Common.{ℕ, ℤ, Ok, Err, List, SFits, w32, to_z, of_z, ap, rules, sym, subst, ◌∙◌}
use Rattle.std.proofs.lemmas.Int.{to_z-of_z}
use Rattle.std.specs.Prelude.{slice_set}
use Rattle.seg_exec.specs.declared.strides.assign.Carried.TheVariants.{Done}
use Rattle.seg_exec.specs.declared.strides.assign.Target.{Target}
use Rattle.seg_exec.specs.declared.strides.assign.Target.TheVariants.{Var}
use Rattle.seg_meaning.specs.Access.{HasWritten, ways_of}
use Rattle.seg_meaning.specs.Cells.{cell_number}
use Rattle.seg_exec.specs.inner.steps.Bodies.{Bodies}
use Rattle.seg_exec.specs.inner.strides.Assignments.{Does, MayDo, to_target}
use Rattle.seg_exec.proofs.strides.Assigning.{at_vars, cell_done, cell_may_write, target_fault, var_done}
use Rattle.seg_exec.proofs.strides.assign.set.Goals as goal

pub returns-in-Err-clause-does : goal.returns-in-Err-clause-does
returns-in-Err-clause-does g c =
    let ways = ways_of g.C.Cells.known g.C.Cells.may_read g.C.Cells.may_write g.C.Cells.rule in
    target_fault c.args.p.now ways c.args.value.now c.args.target c.args.vars.now.active c.args.cells.now c.value_of.new.cells c.in-Err.fault
    (at_vars c.args.p.now ways c.args.value.now c.as_slice.result.now c.args.vars.now.active c.args.cells.now c.value_of.new.cells (Err c.in-Err.fault) c.as_slice.ensures c.in-Err.ensures)

pub returns-in-Var-clause-does : goal.returns-in-Var-clause-does
returns-in-Var-clause-does g c =
    let ways = ways_of g.C.Cells.known g.C.Cells.may_read g.C.Cells.may_write g.C.Cells.rule in
    let fits : SFits w32 c.in-Ok.value = search rules in
    subst (λ (target : Target). Does c.args.p.now ways (to_target c.args.value.now target) c.args.vars.now.active c.args.cells.now Done c.put_var.new.vars.active c.value_of.new.cells)
    (sym c.in-Var.is)
    (subst (λ (vs : List ℤ). Does c.args.p.now ways (to_target c.args.value.now (Var c.in-Var.var)) c.args.vars.now.active c.args.cells.now Done vs c.value_of.new.cells)
    (sym (ap (λ (b : Bodies). b.active) c.put_var.ensures ∙ ap (λ (v : ℤ). slice_set c.args.vars.now.active c.in-Var.var v) (to_z-of_z w32 c.in-Ok.value fits)))
    (var_done c.args.p.now ways c.args.value.now c.in-Var.var c.args.vars.now.active c.args.cells.now c.value_of.new.cells c.in-Ok.value
    (at_vars c.args.p.now ways c.args.value.now c.as_slice.result.now c.args.vars.now.active c.args.cells.now c.value_of.new.cells (Ok c.in-Ok.value) c.as_slice.ensures c.in-Ok.ensures)))

pub set-requires : goal.set-requires
set-requires g c =
    let ways = ways_of g.C.Cells.known g.C.Cells.may_read g.C.Cells.may_write g.C.Cells.rule in
    let may = subst (λ (target : Target). MayDo c.args.p.now ways (to_target c.args.value.now target) c.args.vars.now.active c.args.cells.now) c.in-Cell.is c.requires in
    subst (λ (k : ℕ). g.C.Cells.may_write c.value_of.new.cells k) (sym c.cell_number.ensures)
    (cell_may_write c.args.p.now ways c.args.value.now c.in-Cell.cell c.args.vars.now.active c.args.cells.now c.value_of.new.cells c.in-Ok.value may
    (at_vars c.args.p.now ways c.args.value.now c.as_slice.result.now c.args.vars.now.active c.args.cells.now c.value_of.new.cells (Ok c.in-Ok.value) c.as_slice.ensures c.in-Ok.ensures))

pub returns-in-Cell-clause-does : goal.returns-in-Cell-clause-does
returns-in-Cell-clause-does g c =
    let ways = ways_of g.C.Cells.known g.C.Cells.may_read g.C.Cells.may_write g.C.Cells.rule in
    let fits : SFits w32 c.in-Ok.value = search rules in
    subst (λ (target : Target). Does c.args.p.now ways (to_target c.args.value.now target) c.args.vars.now.active c.args.cells.now Done c.args.vars.now.active c.set.new.self)
    (sym c.in-Cell.is)
    (cell_done c.args.p.now ways c.args.value.now c.in-Cell.cell c.args.vars.now.active c.args.cells.now c.value_of.new.cells c.set.new.self c.in-Ok.value
    (at_vars c.args.p.now ways c.args.value.now c.as_slice.result.now c.args.vars.now.active c.args.cells.now c.value_of.new.cells (Ok c.in-Ok.value) c.as_slice.ensures c.in-Ok.ensures)
    (subst (λ (v : ℤ). HasWritten ways c.value_of.new.cells (cell_number c.args.p.now c.in-Cell.cell) v c.set.new.self) (to_z-of_z w32 c.in-Ok.value fits)
    (subst (λ (k : ℕ). HasWritten ways c.value_of.new.cells k (to_z w32 (of_z w32 c.in-Ok.value)) c.set.new.self) c.cell_number.ensures c.set.ensures)))
