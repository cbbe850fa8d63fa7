use Rattle.std.proofs.Common.{◌<◌, ◌+◌, ap, sym, ◌∙◌, arith}
use Rattle.std.specs.Prelude.{option_copied}
use Rattle.seg_meaning.proofs.CellNumbers.{number_below}
use Rattle.seg_exec.proofs.elements.grid_element_number.Goals as goal

pub overflow_cast-result : goal.overflow_cast-result
overflow_cast-result c =
    let below : c.in_ok-decl.decl.now.first + c.in_ok-place.place < 65536 = number_below c.p.inside.cells c.args.array c.in_ok-decl.decl.now c.in_ok-place.place c.p.invariant.numbered c.p.invariant.few_cells (sym c.get.ensures ∙ ap option_copied c.in_ok-decl.was) c.in_ok-place.ensures.within in
    omega arith

pub overflow_add-result : goal.overflow_add-result
overflow_add-result c =
    let below : c.in_ok-decl.decl.now.first + c.in_ok-place.place < 65536 = number_below c.p.inside.cells c.args.array c.in_ok-decl.decl.now c.in_ok-place.place c.p.invariant.numbered c.p.invariant.few_cells (sym c.get.ensures ∙ ap option_copied c.in_ok-decl.was) c.in_ok-place.ensures.within in
    omega arith
