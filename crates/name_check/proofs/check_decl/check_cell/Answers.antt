use Rattle.std.proofs.Common.{[]}
use Rattle.twe_ast.specs.declared.item.ReturnType.TheVariants as return_types
use Rattle.name_check.proofs.FirstSites.{first_of_cell_path}
use Rattle.name_check.proofs.check_decl.check_cell.Goals as goal

pub returns : goal.returns
returns c =
    let path = first_of_cell_path c.args.globals.now [] return_types.Void c.args.first.now c.args.cell.now.path.elems in
    cc
