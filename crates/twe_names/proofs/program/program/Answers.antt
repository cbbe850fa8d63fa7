-- The parts together are the program that the tree means.
use Rattle.twe_names.proofs.Parts.{few-cells, program-made, small-items, well-formed-made}
use Rattle.twe_names.proofs.program.program.Goals as goal

pub cells-requires : goal.cells-requires
cells-requires c = record {
  small = small-items c.args.ast.now c.as_slice-items.result.now c.args.globals.now c.as_slice-items.ensures c.requires.text;
  few = few-cells c.args.ast.now c.as_slice-items.result.now c.args.globals.now c.as_slice-items.ensures c.requires.names c.requires.well_formed;
}

pub methods-requires : goal.methods-requires
methods-requires c = small-items c.args.ast.now c.as_slice-items.result.now c.args.globals.now c.as_slice-items.ensures c.requires.text

pub tasks-requires : goal.tasks-requires
tasks-requires c = small-items c.args.ast.now c.as_slice-items.result.now c.args.globals.now c.as_slice-items.ensures c.requires.text

pub invariant_of-result : goal.invariant_of-result
invariant_of-result c =
    well-formed-made c.args.ast.now c.as_slice-items.result.now c.args.globals.now c.as_slice-items.ensures c.requires.names
    c.in_ok-regions.field-0 c.in_ok-cells.field-0 c.in_ok-methods.field-0 c.in_ok-tasks.field-0 c.in_ok-main_task.field-0
    c.in_ok-regions.ensures c.in_ok-cells.ensures c.in_ok-methods.ensures c.in_ok-tasks.ensures c.in_ok-main_task.ensures c.requires.well_formed

pub returns : goal.returns
returns c =
    program-made c.args.ast.now c.as_slice-items.result.now c.args.globals.now c.as_slice-items.ensures c.requires.names
    c.in_ok-regions.field-0 c.in_ok-cells.field-0 c.in_ok-methods.field-0 c.in_ok-tasks.field-0 c.in_ok-main_task.field-0
    c.in_ok-regions.ensures c.in_ok-cells.ensures c.in_ok-methods.ensures c.in_ok-tasks.ensures c.in_ok-main_task.ensures
