use Rattle.std.proofs.Common.{ℤ, Ok, Err, SFits, w32, to_z, of_z, ap, rules, sym, subst, ◌∙◌}
use Rattle.std.proofs.lemmas.Int.{to_z-of_z}
use Rattle.seg_meaning.specs.Access.{ways_of}
use Rattle.seg_meaning.specs.Cells.{element_number}
use Rattle.seg_meaning.specs.declared.fault.FaultCause.TheVariants.{Index}
use Rattle.seg_exec.specs.inner.strides.Assignments.{MayWriteAt, WritesAt}
use Rattle.seg_exec.proofs.strides.Assigning.{at_vars, element_done, element_may_write, index_fault, may_at_vars, value_fault, value_may}
use Rattle.seg_exec.proofs.strides.assign.set_element.Goals as goal

pub value_of-requires-in-Ok-clause-may : goal.value_of-requires-in-Ok-clause-may
value_of-requires-in-Ok-clause-may g c =
    let ways = ways_of g.C.Cells.known g.C.Cells.may_read g.C.Cells.may_write g.C.Cells.rule in
    may_at_vars c.args.p.now ways c.args.value.now c.as_slice-in-Ok.result.now c.args.vars.now.active c.value_of.new.cells c.as_slice-in-Ok.ensures
    (value_may c.args.p.now ways c.args.index.now c.args.value.now c.args.array c.args.place c.args.vars.now.active c.args.cells.now c.value_of.new.cells c.in-Ok.index c.requires
    (at_vars c.args.p.now ways c.args.index.now c.as_slice.result.now c.args.vars.now.active c.args.cells.now c.value_of.new.cells (Ok c.in-Ok.index) c.as_slice.ensures c.in-Ok.ensures))

pub write-requires : goal.write-requires
write-requires g c =
    let ways = ways_of g.C.Cells.known g.C.Cells.may_read g.C.Cells.may_write g.C.Cells.rule in
    let fits : SFits w32 c.in-Ok.index = search rules in
    subst (λ cell. MayWriteAt ways c.value_of-in-Ok.new.cells cell) (sym (c.element_number.ensures ∙ ap (element_number c.args.p.now c.args.array) (to_z-of_z w32 c.in-Ok.index fits)))
    (element_may_write c.args.p.now ways c.args.index.now c.args.value.now c.args.array c.args.place c.args.vars.now.active c.args.cells.now c.value_of.new.cells c.value_of-in-Ok.new.cells c.in-Ok.index c.in-Ok-value_of.value c.requires
    (at_vars c.args.p.now ways c.args.index.now c.as_slice.result.now c.args.vars.now.active c.args.cells.now c.value_of.new.cells (Ok c.in-Ok.index) c.as_slice.ensures c.in-Ok.ensures)
    (at_vars c.args.p.now ways c.args.value.now c.as_slice-in-Ok.result.now c.args.vars.now.active c.value_of.new.cells c.value_of-in-Ok.new.cells (Ok c.in-Ok-value_of.value) c.as_slice-in-Ok.ensures c.in-Ok-value_of.ensures))

pub returns-in-Err-clause-does : goal.returns-in-Err-clause-does
returns-in-Err-clause-does g c =
    let ways = ways_of g.C.Cells.known g.C.Cells.may_read g.C.Cells.may_write g.C.Cells.rule in
    index_fault c.args.p.now ways c.args.index.now c.args.value.now c.args.array c.args.place c.args.vars.now.active c.args.cells.now c.value_of.new.cells c.in-Err.fault
    (at_vars c.args.p.now ways c.args.index.now c.as_slice.result.now c.args.vars.now.active c.args.cells.now c.value_of.new.cells (Err c.in-Err.fault) c.as_slice.ensures c.in-Err.ensures)

pub returns-in-Err-value_of-clause-does : goal.returns-in-Err-value_of-clause-does
returns-in-Err-value_of-clause-does g c =
    let ways = ways_of g.C.Cells.known g.C.Cells.may_read g.C.Cells.may_write g.C.Cells.rule in
    value_fault c.args.p.now ways c.args.index.now c.args.value.now c.args.array c.args.place c.args.vars.now.active c.args.cells.now c.value_of.new.cells c.value_of-in-Ok.new.cells c.in-Ok.index c.in-Err-value_of.fault
    (at_vars c.args.p.now ways c.args.index.now c.as_slice.result.now c.args.vars.now.active c.args.cells.now c.value_of.new.cells (Ok c.in-Ok.index) c.as_slice.ensures c.in-Ok.ensures)
    (at_vars c.args.p.now ways c.args.value.now c.as_slice-in-Ok.result.now c.args.vars.now.active c.value_of.new.cells c.value_of-in-Ok.new.cells (Err c.in-Err-value_of.fault) c.as_slice-in-Ok.ensures c.in-Err-value_of.ensures)

pub returns-in-Ok-value_of-clause-does : goal.returns-in-Ok-value_of-clause-does
returns-in-Ok-value_of-clause-does g c =
    let ways = ways_of g.C.Cells.known g.C.Cells.may_read g.C.Cells.may_write g.C.Cells.rule in
    let index_fits : SFits w32 c.in-Ok.index = search rules in
    let value_fits : SFits w32 c.in-Ok-value_of.value = search rules in
    element_done c.args.p.now ways c.args.index.now c.args.value.now c.args.array c.args.place c.args.vars.now.active c.args.cells.now c.value_of.new.cells c.value_of-in-Ok.new.cells c.write.new.cells c.in-Ok.index c.in-Ok-value_of.value c.write.result
    (at_vars c.args.p.now ways c.args.index.now c.as_slice.result.now c.args.vars.now.active c.args.cells.now c.value_of.new.cells (Ok c.in-Ok.index) c.as_slice.ensures c.in-Ok.ensures)
    (at_vars c.args.p.now ways c.args.value.now c.as_slice-in-Ok.result.now c.args.vars.now.active c.value_of.new.cells c.value_of-in-Ok.new.cells (Ok c.in-Ok-value_of.value) c.as_slice-in-Ok.ensures c.in-Ok-value_of.ensures)
    (subst (λ (v : ℤ). WritesAt ways (element_number c.args.p.now c.args.array c.in-Ok.index) (Index c.in-Ok.index) v c.args.place c.value_of-in-Ok.new.cells c.write.result c.write.new.cells) (to_z-of_z w32 c.in-Ok-value_of.value value_fits)
    (subst (λ (i : ℤ). WritesAt ways (element_number c.args.p.now c.args.array i) (Index i) (to_z w32 (of_z w32 c.in-Ok-value_of.value)) c.args.place c.value_of-in-Ok.new.cells c.write.result c.write.new.cells) (to_z-of_z w32 c.in-Ok.index index_fits)
    (subst (λ cell. WritesAt ways cell (Index (to_z w32 (of_z w32 c.in-Ok.index))) (to_z w32 (of_z w32 c.in-Ok-value_of.value)) c.args.place c.value_of-in-Ok.new.cells c.write.result c.write.new.cells) c.element_number.ensures c.write.ensures)))
