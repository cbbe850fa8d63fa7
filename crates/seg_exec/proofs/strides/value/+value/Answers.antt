use Rattle.std.proofs.Common.{◌≡◌, ℕ, ℤ, Option, Some, Ok, Err, SFits, w32, to_z, of_z, rules, refl, ap, sym, ◌∙◌, subst}
use Rattle.std.proofs.lemmas.Int.{to_z-of_z}
use Rattle.std.specs.Prelude.{slice_get}
use Rattle.twe_program.specs.Expression.{ArrayElement, Binary, CellValue, GridElement, Literal, Negation, Negative, Truth, Variable}
use Rattle.twe_program.specs.inner.ExpressionView.{expression_of}
use Rattle.seg_meaning.specs.Access.{HasRead, value_in, ways_of}
use Rattle.seg_meaning.specs.Arithmetic.{decided, is_true, negation, negative, number_of, operated}
use Rattle.seg_meaning.specs.Cells.{element_number, grid_element_number}
use Rattle.seg_exec.specs.inner.strides.Leaves.{leaf_value, pair_value}
use Rattle.twe_program.specs.Expression.{is_plain}
use Rattle.seg_meaning.specs.declared.fault.FaultCause.TheVariants.{Index, GridIndex}
use Rattle.seg_exec.specs.inner.strides.Strides.{MayReadAt, ReadsAt, quotient_or}
use Rattle.seg_exec.proofs.strides.Evaluating.{both_first, both_second, cell_may, cell_read, column_fault, column_may, element_fault, element_may, element_may_read, element_read, evaluates_as, grid_may_read, grid_read, leaf, left_decides, left_fault, left_may, literal, may_as, negation_fault, negation_may, negation_value, negative_fault, negative_may, negative_value, operator_value, pair, passed_on, plain_as, right_fault, right_may, row_fault, row_may, truth, variable}
use Rattle.seg_exec.proofs.strides.value.+value.Goals as goal

pub value_of-returns-in-Some : goal.value_of-returns-in-Some
value_of-returns-in-Some g t c =
    let is : leaf_value c.args.expr.now c.args.vars.now ≡ Some c.in-Some.value = search rules in
    let fits : SFits w32 c.in-Some.value = search rules in
    evaluates_as c.args.p.now (ways_of g.C.Cells.known g.C.Cells.may_read g.C.Cells.may_write g.C.Cells.rule) c.args.vars.now c.args.expr.now c.args.expr.now c.args.cells.now c.args.cells.now (Ok (to_z w32 (of_z w32 c.in-Some.value))) (Ok c.in-Some.value) refl (ap Ok (to_z-of_z w32 c.in-Some.value fits))
    (leaf c.args.p.now (ways_of g.C.Cells.known g.C.Cells.may_read g.C.Cells.may_write g.C.Cells.rule) c.args.vars.now c.args.expr.now c.in-Some.value c.args.cells.now is)

pub value_of-returns-in-Some-pair_value : goal.value_of-returns-in-Some-pair_value
value_of-returns-in-Some-pair_value g t c =
    let is : pair_value c.args.expr.now c.args.vars.now ≡ Some c.in-Some-pair_value.value = search rules in
    let fits : SFits w32 c.in-Some-pair_value.value = search rules in
    evaluates_as c.args.p.now (ways_of g.C.Cells.known g.C.Cells.may_read g.C.Cells.may_write g.C.Cells.rule) c.args.vars.now c.args.expr.now c.args.expr.now c.args.cells.now c.args.cells.now (Ok (to_z w32 (of_z w32 c.in-Some-pair_value.value))) (Ok c.in-Some-pair_value.value) refl (ap Ok (to_z-of_z w32 c.in-Some-pair_value.value fits))
    (pair c.args.p.now (ways_of g.C.Cells.known g.C.Cells.may_read g.C.Cells.may_write g.C.Cells.rule) c.args.vars.now c.args.expr.now c.in-Some-pair_value.value c.args.cells.now is)

pub value_by_parts-returns-in-Lit : goal.value_by_parts-returns-in-Lit
value_by_parts-returns-in-Lit g t c =
    evaluates_as c.args.p.now (ways_of g.C.Cells.known g.C.Cells.may_read g.C.Cells.may_write g.C.Cells.rule) c.args.vars.now c.args.expr.now (Literal c.in-Lit.value) c.args.cells.now c.args.cells.now (Ok (to_z w32 (of_z w32 c.in-Lit.value))) (Ok c.in-Lit.value) (sym c.expr.view_is ∙ ap expression_of c.in-Lit.is) (ap Ok (let fits : SFits w32 c.in-Lit.value = search rules in to_z-of_z w32 c.in-Lit.value fits)) (literal c.args.p.now (ways_of g.C.Cells.known g.C.Cells.may_read g.C.Cells.may_write g.C.Cells.rule) c.args.vars.now c.in-Lit.value c.args.cells.now)

pub value_by_parts-returns-in-Truth : goal.value_by_parts-returns-in-Truth
value_by_parts-returns-in-Truth g t c =
    evaluates_as c.args.p.now (ways_of g.C.Cells.known g.C.Cells.may_read g.C.Cells.may_write g.C.Cells.rule) c.args.vars.now c.args.expr.now (Truth c.in-Truth.value) c.args.cells.now c.args.cells.now (Ok (to_z w32 (of_z w32 c.number_of.result))) (Ok (number_of c.in-Truth.value)) (sym c.expr.view_is ∙ ap expression_of c.in-Truth.is) (ap Ok ((let fits : SFits w32 c.number_of.result = search rules in to_z-of_z w32 c.number_of.result fits) ∙ c.number_of.ensures)) (truth c.args.p.now (ways_of g.C.Cells.known g.C.Cells.may_read g.C.Cells.may_write g.C.Cells.rule) c.args.vars.now c.in-Truth.value c.args.cells.now)

pub value_by_parts-returns-in-Var : goal.value_by_parts-returns-in-Var
value_by_parts-returns-in-Var g t c =
    evaluates_as c.args.p.now (ways_of g.C.Cells.known g.C.Cells.may_read g.C.Cells.may_write g.C.Cells.rule) c.args.vars.now c.args.expr.now (Variable c.in-Var.var c.in-Var.fixed) c.args.cells.now c.args.cells.now (Ok (to_z w32 (of_z w32 c.var_in.result))) (Ok (value_in (slice_get c.args.vars.now c.in-Var.var))) (sym c.expr.view_is ∙ ap expression_of c.in-Var.is) (ap Ok ((let fits : SFits w32 c.var_in.result = search rules in to_z-of_z w32 c.var_in.result fits) ∙ c.var_in.ensures)) (variable c.args.p.now (ways_of g.C.Cells.known g.C.Cells.may_read g.C.Cells.may_write g.C.Cells.rule) c.args.vars.now c.in-Var.var c.in-Var.fixed c.args.cells.now)

pub value_by_parts-get-requires : goal.value_by_parts-get-requires
value_by_parts-get-requires g t c =
    subst (λ (k : ℕ). g.C.Cells.may_read c.args.cells.now k) (sym c.cell_number.ensures) (cell_may c.args.p.now (ways_of g.C.Cells.known g.C.Cells.may_read g.C.Cells.may_write g.C.Cells.rule) c.args.vars.now c.in-Cell.cell c.in-Cell.place c.args.cells.now (may_as c.args.p.now (ways_of g.C.Cells.known g.C.Cells.may_read g.C.Cells.may_write g.C.Cells.rule) c.args.vars.now (CellValue c.in-Cell.cell c.in-Cell.place) c.args.expr.now c.args.cells.now (sym (sym c.expr.view_is ∙ ap expression_of c.in-Cell.is)) c.requires.may))

pub value_by_parts-returns-in-Cell : goal.value_by_parts-returns-in-Cell
value_by_parts-returns-in-Cell g t c =
    evaluates_as c.args.p.now (ways_of g.C.Cells.known g.C.Cells.may_read g.C.Cells.may_write g.C.Cells.rule) c.args.vars.now c.args.expr.now (CellValue c.in-Cell.cell c.in-Cell.place) c.args.cells.now c.get.new.self (Ok (to_z w32 (of_z w32 c.get.result))) (Ok c.get.result) (sym c.expr.view_is ∙ ap expression_of c.in-Cell.is) (ap Ok (let fits : SFits w32 c.get.result = search rules in to_z-of_z w32 c.get.result fits)) (cell_read c.args.p.now (ways_of g.C.Cells.known g.C.Cells.may_read g.C.Cells.may_write g.C.Cells.rule) c.args.vars.now c.in-Cell.cell c.in-Cell.place c.args.cells.now c.get.new.self c.get.result (subst (λ (k : ℕ). HasRead (ways_of g.C.Cells.known g.C.Cells.may_read g.C.Cells.may_write g.C.Cells.rule) c.args.cells.now k c.get.result c.get.new.self) c.cell_number.ensures c.get.ensures))

pub value_by_parts-value_of-requires : goal.value_by_parts-value_of-requires
value_by_parts-value_of-requires g t c κs within =
    (search rules, (search (rules, within), (plain_as c.deref.result.now c.in-At-default-default-None-default.index.value c.deref.ensures (sym (ap is_plain (let shape : c.args.expr.now ≡ (ArrayElement c.in-At-default-default-None-default.array c.in-At-default-default-None-default.index.value c.in-At-default-default-None-default.place) = search rules in shape)) ∙ c.requires.plain), may_as c.args.p.now (ways_of g.C.Cells.known g.C.Cells.may_read g.C.Cells.may_write g.C.Cells.rule) c.args.vars.now c.deref.result.now c.in-At-default-default-None-default.index.value c.args.cells.now c.deref.ensures (element_may c.args.p.now (ways_of g.C.Cells.known g.C.Cells.may_read g.C.Cells.may_write g.C.Cells.rule) c.args.vars.now c.in-At-default-default-None-default.array c.in-At-default-default-None-default.index.value c.in-At-default-default-None-default.place c.args.cells.now (may_as c.args.p.now (ways_of g.C.Cells.known g.C.Cells.may_read g.C.Cells.may_write g.C.Cells.rule) c.args.vars.now (ArrayElement c.in-At-default-default-None-default.array c.in-At-default-default-None-default.index.value c.in-At-default-default-None-default.place) c.args.expr.now c.args.cells.now (sym (let shape : c.args.expr.now ≡ (ArrayElement c.in-At-default-default-None-default.array c.in-At-default-default-None-default.index.value c.in-At-default-default-None-default.place) = search rules in shape)) c.requires.may)))))

pub value_by_parts-returns-in_err-index-in-At-default-default-None-default : goal.value_by_parts-returns-in_err-index-in-At-default-default-None-default
value_by_parts-returns-in_err-index-in-At-default-default-None-default g t c =
    evaluates_as c.args.p.now (ways_of g.C.Cells.known g.C.Cells.may_read g.C.Cells.may_write g.C.Cells.rule) c.args.vars.now c.args.expr.now (ArrayElement c.in-At-default-default-None-default.array c.in-At-default-default-None-default.index.value c.in-At-default-default-None-default.place) c.args.cells.now c.value_of.new.cells c.from_residual.result (Err c.in_err-index-in-At-default-default-None-default.field-0.0) (let shape : c.args.expr.now ≡ (ArrayElement c.in-At-default-default-None-default.array c.in-At-default-default-None-default.index.value c.in-At-default-default-None-default.place) = search rules in shape) (passed_on c.from_residual.result c.in_err-index-in-At-default-default-None-default.field-0.0 c.from_residual.ensures.1) (element_fault c.args.p.now (ways_of g.C.Cells.known g.C.Cells.may_read g.C.Cells.may_write g.C.Cells.rule) c.args.vars.now c.in-At-default-default-None-default.array c.in-At-default-default-None-default.index.value c.in-At-default-default-None-default.place c.args.cells.now c.value_of.new.cells c.in_err-index-in-At-default-default-None-default.field-0.0 (evaluates_as c.args.p.now (ways_of g.C.Cells.known g.C.Cells.may_read g.C.Cells.may_write g.C.Cells.rule) c.args.vars.now c.in-At-default-default-None-default.index.value c.deref.result.now c.args.cells.now c.value_of.new.cells (Err c.in_err-index-in-At-default-default-None-default.field-0.0) (Err c.in_err-index-in-At-default-default-None-default.field-0.0) (sym c.deref.ensures) refl c.in_err-index-in-At-default-default-None-default.ensures))

pub value_by_parts-read-requires : goal.value_by_parts-read-requires
value_by_parts-read-requires g t c =
    subst (λ (cell : Option ℕ). MayReadAt (ways_of g.C.Cells.known g.C.Cells.may_read g.C.Cells.may_write g.C.Cells.rule) c.value_of.new.cells cell) (sym (c.element_number.ensures ∙ ap (element_number c.args.p.now c.in-At-default-default-None-default.array) (let fits : SFits w32 c.in_ok-index-in-At-default-default-None-default.index = search rules in to_z-of_z w32 c.in_ok-index-in-At-default-default-None-default.index fits))) (element_may_read c.args.p.now (ways_of g.C.Cells.known g.C.Cells.may_read g.C.Cells.may_write g.C.Cells.rule) c.args.vars.now c.in-At-default-default-None-default.array c.in-At-default-default-None-default.index.value c.in-At-default-default-None-default.place c.args.cells.now c.value_of.new.cells c.in_ok-index-in-At-default-default-None-default.index (may_as c.args.p.now (ways_of g.C.Cells.known g.C.Cells.may_read g.C.Cells.may_write g.C.Cells.rule) c.args.vars.now (ArrayElement c.in-At-default-default-None-default.array c.in-At-default-default-None-default.index.value c.in-At-default-default-None-default.place) c.args.expr.now c.args.cells.now (sym (let shape : c.args.expr.now ≡ (ArrayElement c.in-At-default-default-None-default.array c.in-At-default-default-None-default.index.value c.in-At-default-default-None-default.place) = search rules in shape)) c.requires.may) (evaluates_as c.args.p.now (ways_of g.C.Cells.known g.C.Cells.may_read g.C.Cells.may_write g.C.Cells.rule) c.args.vars.now c.in-At-default-default-None-default.index.value c.deref.result.now c.args.cells.now c.value_of.new.cells (Ok c.in_ok-index-in-At-default-default-None-default.index) (Ok c.in_ok-index-in-At-default-default-None-default.index) (sym c.deref.ensures) refl c.in_ok-index-in-At-default-default-None-default.ensures))

pub value_by_parts-returns-in_ok-index-in-At-default-default-None-default : goal.value_by_parts-returns-in_ok-index-in-At-default-default-None-default
value_by_parts-returns-in_ok-index-in-At-default-default-None-default g t c =
    evaluates_as c.args.p.now (ways_of g.C.Cells.known g.C.Cells.may_read g.C.Cells.may_write g.C.Cells.rule) c.args.vars.now c.args.expr.now (ArrayElement c.in-At-default-default-None-default.array c.in-At-default-default-None-default.index.value c.in-At-default-default-None-default.place) c.args.cells.now c.read.new.cells c.read.result c.read.result (let shape : c.args.expr.now ≡ (ArrayElement c.in-At-default-default-None-default.array c.in-At-default-default-None-default.index.value c.in-At-default-default-None-default.place) = search rules in shape) refl (element_read c.args.p.now (ways_of g.C.Cells.known g.C.Cells.may_read g.C.Cells.may_write g.C.Cells.rule) c.args.vars.now c.in-At-default-default-None-default.array c.in-At-default-default-None-default.index.value c.in-At-default-default-None-default.place c.args.cells.now c.value_of.new.cells c.read.new.cells c.in_ok-index-in-At-default-default-None-default.index c.read.result (evaluates_as c.args.p.now (ways_of g.C.Cells.known g.C.Cells.may_read g.C.Cells.may_write g.C.Cells.rule) c.args.vars.now c.in-At-default-default-None-default.index.value c.deref.result.now c.args.cells.now c.value_of.new.cells (Ok c.in_ok-index-in-At-default-default-None-default.index) (Ok c.in_ok-index-in-At-default-default-None-default.index) (sym c.deref.ensures) refl c.in_ok-index-in-At-default-default-None-default.ensures) (subst (λ (i : ℤ). ReadsAt (ways_of g.C.Cells.known g.C.Cells.may_read g.C.Cells.may_write g.C.Cells.rule) (element_number c.args.p.now c.in-At-default-default-None-default.array i) (Index i) c.in-At-default-default-None-default.place c.value_of.new.cells c.read.result c.read.new.cells) (let fits : SFits w32 c.in_ok-index-in-At-default-default-None-default.index = search rules in to_z-of_z w32 c.in_ok-index-in-At-default-default-None-default.index fits) (subst (λ (cell : Option ℕ). ReadsAt (ways_of g.C.Cells.known g.C.Cells.may_read g.C.Cells.may_write g.C.Cells.rule) cell (Index (to_z w32 (of_z w32 c.in_ok-index-in-At-default-default-None-default.index))) c.in-At-default-default-None-default.place c.value_of.new.cells c.read.result c.read.new.cells) c.element_number.ensures c.read.ensures)))

pub value_by_parts-value_of-requires-in-Neg : goal.value_by_parts-value_of-requires-in-Neg
value_by_parts-value_of-requires-in-Neg g t c κs within =
    (search rules, (search (rules, within), (plain_as c.deref-in-Neg.result.now c.in-Neg.operand.value c.deref-in-Neg.ensures (sym (ap is_plain (let shape : c.args.expr.now ≡ (Negative c.in-Neg.operand.value) = (sym c.expr.view_is ∙ ap expression_of c.in-Neg.is) in shape)) ∙ c.requires.plain), may_as c.args.p.now (ways_of g.C.Cells.known g.C.Cells.may_read g.C.Cells.may_write g.C.Cells.rule) c.args.vars.now c.deref-in-Neg.result.now c.in-Neg.operand.value c.args.cells.now c.deref-in-Neg.ensures (negative_may c.args.p.now (ways_of g.C.Cells.known g.C.Cells.may_read g.C.Cells.may_write g.C.Cells.rule) c.args.vars.now c.in-Neg.operand.value c.args.cells.now (may_as c.args.p.now (ways_of g.C.Cells.known g.C.Cells.may_read g.C.Cells.may_write g.C.Cells.rule) c.args.vars.now (Negative c.in-Neg.operand.value) c.args.expr.now c.args.cells.now (sym (let shape : c.args.expr.now ≡ (Negative c.in-Neg.operand.value) = (sym c.expr.view_is ∙ ap expression_of c.in-Neg.is) in shape)) c.requires.may)))))

pub value_by_parts-returns-in_err-value-in-Neg : goal.value_by_parts-returns-in_err-value-in-Neg
value_by_parts-returns-in_err-value-in-Neg g t c =
    evaluates_as c.args.p.now (ways_of g.C.Cells.known g.C.Cells.may_read g.C.Cells.may_write g.C.Cells.rule) c.args.vars.now c.args.expr.now (Negative c.in-Neg.operand.value) c.args.cells.now c.value_of-in-Neg.new.cells c.from_residual-in_err-value-in-Neg.result (Err c.in_err-value-in-Neg.field-0.0) (let shape : c.args.expr.now ≡ (Negative c.in-Neg.operand.value) = (sym c.expr.view_is ∙ ap expression_of c.in-Neg.is) in shape) (passed_on c.from_residual-in_err-value-in-Neg.result c.in_err-value-in-Neg.field-0.0 c.from_residual-in_err-value-in-Neg.ensures.1) (negative_fault c.args.p.now (ways_of g.C.Cells.known g.C.Cells.may_read g.C.Cells.may_write g.C.Cells.rule) c.args.vars.now c.in-Neg.operand.value c.args.cells.now c.value_of-in-Neg.new.cells c.in_err-value-in-Neg.field-0.0 (evaluates_as c.args.p.now (ways_of g.C.Cells.known g.C.Cells.may_read g.C.Cells.may_write g.C.Cells.rule) c.args.vars.now c.in-Neg.operand.value c.deref-in-Neg.result.now c.args.cells.now c.value_of-in-Neg.new.cells (Err c.in_err-value-in-Neg.field-0.0) (Err c.in_err-value-in-Neg.field-0.0) (sym c.deref-in-Neg.ensures) refl c.in_err-value-in-Neg.ensures))

pub value_by_parts-returns-in_ok-value-in-Neg : goal.value_by_parts-returns-in_ok-value-in-Neg
value_by_parts-returns-in_ok-value-in-Neg g t c =
    evaluates_as c.args.p.now (ways_of g.C.Cells.known g.C.Cells.may_read g.C.Cells.may_write g.C.Cells.rule) c.args.vars.now c.args.expr.now (Negative c.in-Neg.operand.value) c.args.cells.now c.value_of-in-Neg.new.cells (Ok (to_z w32 (of_z w32 c.negate.result))) (Ok (negative c.in_ok-value-in-Neg.value)) (let shape : c.args.expr.now ≡ (Negative c.in-Neg.operand.value) = (sym c.expr.view_is ∙ ap expression_of c.in-Neg.is) in shape) (ap Ok ((let fits : SFits w32 c.negate.result = search rules in to_z-of_z w32 c.negate.result fits) ∙ c.negate.ensures ∙ ap negative (let fits : SFits w32 c.in_ok-value-in-Neg.value = search rules in to_z-of_z w32 c.in_ok-value-in-Neg.value fits))) (negative_value c.args.p.now (ways_of g.C.Cells.known g.C.Cells.may_read g.C.Cells.may_write g.C.Cells.rule) c.args.vars.now c.in-Neg.operand.value c.args.cells.now c.value_of-in-Neg.new.cells c.in_ok-value-in-Neg.value (evaluates_as c.args.p.now (ways_of g.C.Cells.known g.C.Cells.may_read g.C.Cells.may_write g.C.Cells.rule) c.args.vars.now c.in-Neg.operand.value c.deref-in-Neg.result.now c.args.cells.now c.value_of-in-Neg.new.cells (Ok c.in_ok-value-in-Neg.value) (Ok c.in_ok-value-in-Neg.value) (sym c.deref-in-Neg.ensures) refl c.in_ok-value-in-Neg.ensures))

pub value_by_parts-value_of-requires-in-Not : goal.value_by_parts-value_of-requires-in-Not
value_by_parts-value_of-requires-in-Not g t c κs within =
    (search rules, (search (rules, within), (plain_as c.deref-in-Not.result.now c.in-Not.operand.value c.deref-in-Not.ensures (sym (ap is_plain (let shape : c.args.expr.now ≡ (Negation c.in-Not.operand.value) = (sym c.expr.view_is ∙ ap expression_of c.in-Not.is) in shape)) ∙ c.requires.plain), may_as c.args.p.now (ways_of g.C.Cells.known g.C.Cells.may_read g.C.Cells.may_write g.C.Cells.rule) c.args.vars.now c.deref-in-Not.result.now c.in-Not.operand.value c.args.cells.now c.deref-in-Not.ensures (negation_may c.args.p.now (ways_of g.C.Cells.known g.C.Cells.may_read g.C.Cells.may_write g.C.Cells.rule) c.args.vars.now c.in-Not.operand.value c.args.cells.now (may_as c.args.p.now (ways_of g.C.Cells.known g.C.Cells.may_read g.C.Cells.may_write g.C.Cells.rule) c.args.vars.now (Negation c.in-Not.operand.value) c.args.expr.now c.args.cells.now (sym (let shape : c.args.expr.now ≡ (Negation c.in-Not.operand.value) = (sym c.expr.view_is ∙ ap expression_of c.in-Not.is) in shape)) c.requires.may)))))

pub value_by_parts-returns-in_err-value-in-Not : goal.value_by_parts-returns-in_err-value-in-Not
value_by_parts-returns-in_err-value-in-Not g t c =
    evaluates_as c.args.p.now (ways_of g.C.Cells.known g.C.Cells.may_read g.C.Cells.may_write g.C.Cells.rule) c.args.vars.now c.args.expr.now (Negation c.in-Not.operand.value) c.args.cells.now c.value_of-in-Not.new.cells c.from_residual-in_err-value-in-Not.result (Err c.in_err-value-in-Not.field-0.0) (let shape : c.args.expr.now ≡ (Negation c.in-Not.operand.value) = (sym c.expr.view_is ∙ ap expression_of c.in-Not.is) in shape) (passed_on c.from_residual-in_err-value-in-Not.result c.in_err-value-in-Not.field-0.0 c.from_residual-in_err-value-in-Not.ensures.1) (negation_fault c.args.p.now (ways_of g.C.Cells.known g.C.Cells.may_read g.C.Cells.may_write g.C.Cells.rule) c.args.vars.now c.in-Not.operand.value c.args.cells.now c.value_of-in-Not.new.cells c.in_err-value-in-Not.field-0.0 (evaluates_as c.args.p.now (ways_of g.C.Cells.known g.C.Cells.may_read g.C.Cells.may_write g.C.Cells.rule) c.args.vars.now c.in-Not.operand.value c.deref-in-Not.result.now c.args.cells.now c.value_of-in-Not.new.cells (Err c.in_err-value-in-Not.field-0.0) (Err c.in_err-value-in-Not.field-0.0) (sym c.deref-in-Not.ensures) refl c.in_err-value-in-Not.ensures))

pub value_by_parts-returns-in_ok-value-in-Not : goal.value_by_parts-returns-in_ok-value-in-Not
value_by_parts-returns-in_ok-value-in-Not g t c =
    evaluates_as c.args.p.now (ways_of g.C.Cells.known g.C.Cells.may_read g.C.Cells.may_write g.C.Cells.rule) c.args.vars.now c.args.expr.now (Negation c.in-Not.operand.value) c.args.cells.now c.value_of-in-Not.new.cells (Ok (to_z w32 (of_z w32 c.invert.result))) (Ok (negation c.in_ok-value-in-Not.value)) (let shape : c.args.expr.now ≡ (Negation c.in-Not.operand.value) = (sym c.expr.view_is ∙ ap expression_of c.in-Not.is) in shape) (ap Ok ((let fits : SFits w32 c.invert.result = search rules in to_z-of_z w32 c.invert.result fits) ∙ c.invert.ensures ∙ ap negation (let fits : SFits w32 c.in_ok-value-in-Not.value = search rules in to_z-of_z w32 c.in_ok-value-in-Not.value fits))) (negation_value c.args.p.now (ways_of g.C.Cells.known g.C.Cells.may_read g.C.Cells.may_write g.C.Cells.rule) c.args.vars.now c.in-Not.operand.value c.args.cells.now c.value_of-in-Not.new.cells c.in_ok-value-in-Not.value (evaluates_as c.args.p.now (ways_of g.C.Cells.known g.C.Cells.may_read g.C.Cells.may_write g.C.Cells.rule) c.args.vars.now c.in-Not.operand.value c.deref-in-Not.result.now c.args.cells.now c.value_of-in-Not.new.cells (Ok c.in_ok-value-in-Not.value) (Ok c.in_ok-value-in-Not.value) (sym c.deref-in-Not.ensures) refl c.in_ok-value-in-Not.ensures))

pub value_by_parts-value_of-requires-in-Bin : goal.value_by_parts-value_of-requires-in-Bin
value_by_parts-value_of-requires-in-Bin g t c κs within =
    (search rules, (search (rules, within), (plain_as c.deref-in-Bin.result.now c.in-Bin.left.value c.deref-in-Bin.ensures (both_first (is_plain c.in-Bin.left.value) (is_plain c.in-Bin.right.value) (sym (ap is_plain (let shape : c.args.expr.now ≡ (Binary c.in-Bin.op c.in-Bin.left.value c.in-Bin.right.value c.in-Bin.place) = (sym c.expr.view_is ∙ ap expression_of c.in-Bin.is) in shape)) ∙ c.requires.plain)), may_as c.args.p.now (ways_of g.C.Cells.known g.C.Cells.may_read g.C.Cells.may_write g.C.Cells.rule) c.args.vars.now c.deref-in-Bin.result.now c.in-Bin.left.value c.args.cells.now c.deref-in-Bin.ensures (left_may c.args.p.now (ways_of g.C.Cells.known g.C.Cells.may_read g.C.Cells.may_write g.C.Cells.rule) c.args.vars.now c.in-Bin.op c.in-Bin.left.value c.in-Bin.right.value c.in-Bin.place c.args.cells.now (may_as c.args.p.now (ways_of g.C.Cells.known g.C.Cells.may_read g.C.Cells.may_write g.C.Cells.rule) c.args.vars.now (Binary c.in-Bin.op c.in-Bin.left.value c.in-Bin.right.value c.in-Bin.place) c.args.expr.now c.args.cells.now (sym (let shape : c.args.expr.now ≡ (Binary c.in-Bin.op c.in-Bin.left.value c.in-Bin.right.value c.in-Bin.place) = (sym c.expr.view_is ∙ ap expression_of c.in-Bin.is) in shape)) c.requires.may)))))

pub value_by_parts-returns-in_err-left-in-Bin : goal.value_by_parts-returns-in_err-left-in-Bin
value_by_parts-returns-in_err-left-in-Bin g t c =
    evaluates_as c.args.p.now (ways_of g.C.Cells.known g.C.Cells.may_read g.C.Cells.may_write g.C.Cells.rule) c.args.vars.now c.args.expr.now (Binary c.in-Bin.op c.in-Bin.left.value c.in-Bin.right.value c.in-Bin.place) c.args.cells.now c.value_of-in-Bin.new.cells c.from_residual-in_err-left-in-Bin.result (Err c.in_err-left-in-Bin.field-0.0) (let shape : c.args.expr.now ≡ (Binary c.in-Bin.op c.in-Bin.left.value c.in-Bin.right.value c.in-Bin.place) = (sym c.expr.view_is ∙ ap expression_of c.in-Bin.is) in shape) (passed_on c.from_residual-in_err-left-in-Bin.result c.in_err-left-in-Bin.field-0.0 c.from_residual-in_err-left-in-Bin.ensures.1) (left_fault c.args.p.now (ways_of g.C.Cells.known g.C.Cells.may_read g.C.Cells.may_write g.C.Cells.rule) c.args.vars.now c.in-Bin.op c.in-Bin.left.value c.in-Bin.right.value c.in-Bin.place c.args.cells.now c.value_of-in-Bin.new.cells c.in_err-left-in-Bin.field-0.0 (evaluates_as c.args.p.now (ways_of g.C.Cells.known g.C.Cells.may_read g.C.Cells.may_write g.C.Cells.rule) c.args.vars.now c.in-Bin.left.value c.deref-in-Bin.result.now c.args.cells.now c.value_of-in-Bin.new.cells (Err c.in_err-left-in-Bin.field-0.0) (Err c.in_err-left-in-Bin.field-0.0) (sym c.deref-in-Bin.ensures) refl c.in_err-left-in-Bin.ensures))

pub value_by_parts-returns-in-Some : goal.value_by_parts-returns-in-Some
value_by_parts-returns-in-Some g t c =
    evaluates_as c.args.p.now (ways_of g.C.Cells.known g.C.Cells.may_read g.C.Cells.may_write g.C.Cells.rule) c.args.vars.now c.args.expr.now (Binary c.in-Bin.op c.in-Bin.left.value c.in-Bin.right.value c.in-Bin.place) c.args.cells.now c.value_of-in-Bin.new.cells (Ok (to_z w32 (of_z w32 c.in-Some.value))) (Ok c.in-Some.value) (let shape : c.args.expr.now ≡ (Binary c.in-Bin.op c.in-Bin.left.value c.in-Bin.right.value c.in-Bin.place) = (sym c.expr.view_is ∙ ap expression_of c.in-Bin.is) in shape) (ap Ok (let fits : SFits w32 c.in-Some.value = search rules in to_z-of_z w32 c.in-Some.value fits)) (left_decides c.args.p.now (ways_of g.C.Cells.known g.C.Cells.may_read g.C.Cells.may_write g.C.Cells.rule) c.args.vars.now c.in-Bin.op c.in-Bin.left.value c.in-Bin.right.value c.in-Bin.place c.args.cells.now c.value_of-in-Bin.new.cells c.in_ok-left-in-Bin.left c.in-Some.value (evaluates_as c.args.p.now (ways_of g.C.Cells.known g.C.Cells.may_read g.C.Cells.may_write g.C.Cells.rule) c.args.vars.now c.in-Bin.left.value c.deref-in-Bin.result.now c.args.cells.now c.value_of-in-Bin.new.cells (Ok c.in_ok-left-in-Bin.left) (Ok c.in_ok-left-in-Bin.left) (sym c.deref-in-Bin.ensures) refl c.in_ok-left-in-Bin.ensures) (sym (c.decide.ensures ∙ ap (decided c.in-Bin.op) (c.is_true.ensures ∙ ap is_true (let fits : SFits w32 c.in_ok-left-in-Bin.left = search rules in to_z-of_z w32 c.in_ok-left-in-Bin.left fits))) ∙ c.in-Some.is))

pub value_by_parts-value_of-requires-in-None : goal.value_by_parts-value_of-requires-in-None
value_by_parts-value_of-requires-in-None g t c κs within =
    (search rules, (search (rules, within), (plain_as c.deref-in-None.result.now c.in-Bin.right.value c.deref-in-None.ensures (both_second (is_plain c.in-Bin.left.value) (is_plain c.in-Bin.right.value) (sym (ap is_plain (let shape : c.args.expr.now ≡ (Binary c.in-Bin.op c.in-Bin.left.value c.in-Bin.right.value c.in-Bin.place) = (sym c.expr.view_is ∙ ap expression_of c.in-Bin.is) in shape)) ∙ c.requires.plain)), may_as c.args.p.now (ways_of g.C.Cells.known g.C.Cells.may_read g.C.Cells.may_write g.C.Cells.rule) c.args.vars.now c.deref-in-None.result.now c.in-Bin.right.value c.value_of-in-Bin.new.cells c.deref-in-None.ensures (right_may c.args.p.now (ways_of g.C.Cells.known g.C.Cells.may_read g.C.Cells.may_write g.C.Cells.rule) c.args.vars.now c.in-Bin.op c.in-Bin.left.value c.in-Bin.right.value c.in-Bin.place c.args.cells.now c.value_of-in-Bin.new.cells c.in_ok-left-in-Bin.left (may_as c.args.p.now (ways_of g.C.Cells.known g.C.Cells.may_read g.C.Cells.may_write g.C.Cells.rule) c.args.vars.now (Binary c.in-Bin.op c.in-Bin.left.value c.in-Bin.right.value c.in-Bin.place) c.args.expr.now c.args.cells.now (sym (let shape : c.args.expr.now ≡ (Binary c.in-Bin.op c.in-Bin.left.value c.in-Bin.right.value c.in-Bin.place) = (sym c.expr.view_is ∙ ap expression_of c.in-Bin.is) in shape)) c.requires.may) (evaluates_as c.args.p.now (ways_of g.C.Cells.known g.C.Cells.may_read g.C.Cells.may_write g.C.Cells.rule) c.args.vars.now c.in-Bin.left.value c.deref-in-Bin.result.now c.args.cells.now c.value_of-in-Bin.new.cells (Ok c.in_ok-left-in-Bin.left) (Ok c.in_ok-left-in-Bin.left) (sym c.deref-in-Bin.ensures) refl c.in_ok-left-in-Bin.ensures) (sym (c.decide.ensures ∙ ap (decided c.in-Bin.op) (c.is_true.ensures ∙ ap is_true (let fits : SFits w32 c.in_ok-left-in-Bin.left = search rules in to_z-of_z w32 c.in_ok-left-in-Bin.left fits))) ∙ c.in-None.is)))))

pub value_by_parts-returns-in_err-right-in-None : goal.value_by_parts-returns-in_err-right-in-None
value_by_parts-returns-in_err-right-in-None g t c =
    evaluates_as c.args.p.now (ways_of g.C.Cells.known g.C.Cells.may_read g.C.Cells.may_write g.C.Cells.rule) c.args.vars.now c.args.expr.now (Binary c.in-Bin.op c.in-Bin.left.value c.in-Bin.right.value c.in-Bin.place) c.args.cells.now c.value_of-in-None.new.cells c.from_residual-in_err-right-in-None.result (Err c.in_err-right-in-None.field-0.0) (let shape : c.args.expr.now ≡ (Binary c.in-Bin.op c.in-Bin.left.value c.in-Bin.right.value c.in-Bin.place) = (sym c.expr.view_is ∙ ap expression_of c.in-Bin.is) in shape) (passed_on c.from_residual-in_err-right-in-None.result c.in_err-right-in-None.field-0.0 c.from_residual-in_err-right-in-None.ensures.1) (right_fault c.args.p.now (ways_of g.C.Cells.known g.C.Cells.may_read g.C.Cells.may_write g.C.Cells.rule) c.args.vars.now c.in-Bin.op c.in-Bin.left.value c.in-Bin.right.value c.in-Bin.place c.args.cells.now c.value_of-in-Bin.new.cells c.value_of-in-None.new.cells c.in_ok-left-in-Bin.left c.in_err-right-in-None.field-0.0 (evaluates_as c.args.p.now (ways_of g.C.Cells.known g.C.Cells.may_read g.C.Cells.may_write g.C.Cells.rule) c.args.vars.now c.in-Bin.left.value c.deref-in-Bin.result.now c.args.cells.now c.value_of-in-Bin.new.cells (Ok c.in_ok-left-in-Bin.left) (Ok c.in_ok-left-in-Bin.left) (sym c.deref-in-Bin.ensures) refl c.in_ok-left-in-Bin.ensures) (sym (c.decide.ensures ∙ ap (decided c.in-Bin.op) (c.is_true.ensures ∙ ap is_true (let fits : SFits w32 c.in_ok-left-in-Bin.left = search rules in to_z-of_z w32 c.in_ok-left-in-Bin.left fits))) ∙ c.in-None.is) (evaluates_as c.args.p.now (ways_of g.C.Cells.known g.C.Cells.may_read g.C.Cells.may_write g.C.Cells.rule) c.args.vars.now c.in-Bin.right.value c.deref-in-None.result.now c.value_of-in-Bin.new.cells c.value_of-in-None.new.cells (Err c.in_err-right-in-None.field-0.0) (Err c.in_err-right-in-None.field-0.0) (sym c.deref-in-None.ensures) refl c.in_err-right-in-None.ensures))

pub value_by_parts-returns-in_ok-right-in-None : goal.value_by_parts-returns-in_ok-right-in-None
value_by_parts-returns-in_ok-right-in-None g t c =
    evaluates_as c.args.p.now (ways_of g.C.Cells.known g.C.Cells.may_read g.C.Cells.may_write g.C.Cells.rule) c.args.vars.now c.args.expr.now (Binary c.in-Bin.op c.in-Bin.left.value c.in-Bin.right.value c.in-Bin.place) c.args.cells.now c.value_of-in-None.new.cells c.apply.result c.apply.result (let shape : c.args.expr.now ≡ (Binary c.in-Bin.op c.in-Bin.left.value c.in-Bin.right.value c.in-Bin.place) = (sym c.expr.view_is ∙ ap expression_of c.in-Bin.is) in shape) refl (operator_value c.args.p.now (ways_of g.C.Cells.known g.C.Cells.may_read g.C.Cells.may_write g.C.Cells.rule) c.args.vars.now c.in-Bin.op c.in-Bin.left.value c.in-Bin.right.value c.in-Bin.place c.args.cells.now c.value_of-in-Bin.new.cells c.value_of-in-None.new.cells c.in_ok-left-in-Bin.left c.in_ok-right-in-None.right c.apply.result (evaluates_as c.args.p.now (ways_of g.C.Cells.known g.C.Cells.may_read g.C.Cells.may_write g.C.Cells.rule) c.args.vars.now c.in-Bin.left.value c.deref-in-Bin.result.now c.args.cells.now c.value_of-in-Bin.new.cells (Ok c.in_ok-left-in-Bin.left) (Ok c.in_ok-left-in-Bin.left) (sym c.deref-in-Bin.ensures) refl c.in_ok-left-in-Bin.ensures) (sym (c.decide.ensures ∙ ap (decided c.in-Bin.op) (c.is_true.ensures ∙ ap is_true (let fits : SFits w32 c.in_ok-left-in-Bin.left = search rules in to_z-of_z w32 c.in_ok-left-in-Bin.left fits))) ∙ c.in-None.is) (evaluates_as c.args.p.now (ways_of g.C.Cells.known g.C.Cells.may_read g.C.Cells.may_write g.C.Cells.rule) c.args.vars.now c.in-Bin.right.value c.deref-in-None.result.now c.value_of-in-Bin.new.cells c.value_of-in-None.new.cells (Ok c.in_ok-right-in-None.right) (Ok c.in_ok-right-in-None.right) (sym c.deref-in-None.ensures) refl c.in_ok-right-in-None.ensures) (c.apply.ensures ∙ ap (λ (x : ℤ). quotient_or (operated c.in-Bin.op x (to_z w32 (of_z w32 c.in_ok-right-in-None.right))) c.in-Bin.place) (let fits : SFits w32 c.in_ok-left-in-Bin.left = search rules in to_z-of_z w32 c.in_ok-left-in-Bin.left fits) ∙ ap (λ (y : ℤ). quotient_or (operated c.in-Bin.op c.in_ok-left-in-Bin.left y) c.in-Bin.place) (let fits : SFits w32 c.in_ok-right-in-None.right = search rules in to_z-of_z w32 c.in_ok-right-in-None.right fits)))

pub value_by_parts-value_of-requires-in-At-default-default-Some-default : goal.value_by_parts-value_of-requires-in-At-default-default-Some-default
value_by_parts-value_of-requires-in-At-default-default-Some-default g t c κs within =
    (search rules, (search (rules, within), (plain_as c.deref-in-At-default-default-Some-default.result.now c.in-At-default-default-Some-default.index.value c.deref-in-At-default-default-Some-default.ensures (both_first (is_plain c.in-At-default-default-Some-default.index.value) (is_plain c.in-At-default-default-Some-default.column.value) (sym (ap is_plain (let shape : c.args.expr.now ≡ (GridElement c.in-At-default-default-Some-default.array c.in-At-default-default-Some-default.index.value c.in-At-default-default-Some-default.column.value c.in-At-default-default-Some-default.place) = search rules in shape)) ∙ c.requires.plain)), may_as c.args.p.now (ways_of g.C.Cells.known g.C.Cells.may_read g.C.Cells.may_write g.C.Cells.rule) c.args.vars.now c.deref-in-At-default-default-Some-default.result.now c.in-At-default-default-Some-default.index.value c.args.cells.now c.deref-in-At-default-default-Some-default.ensures (row_may c.args.p.now (ways_of g.C.Cells.known g.C.Cells.may_read g.C.Cells.may_write g.C.Cells.rule) c.args.vars.now c.in-At-default-default-Some-default.array c.in-At-default-default-Some-default.index.value c.in-At-default-default-Some-default.column.value c.in-At-default-default-Some-default.place c.args.cells.now (may_as c.args.p.now (ways_of g.C.Cells.known g.C.Cells.may_read g.C.Cells.may_write g.C.Cells.rule) c.args.vars.now (GridElement c.in-At-default-default-Some-default.array c.in-At-default-default-Some-default.index.value c.in-At-default-default-Some-default.column.value c.in-At-default-default-Some-default.place) c.args.expr.now c.args.cells.now (sym (let shape : c.args.expr.now ≡ (GridElement c.in-At-default-default-Some-default.array c.in-At-default-default-Some-default.index.value c.in-At-default-default-Some-default.column.value c.in-At-default-default-Some-default.place) = search rules in shape)) c.requires.may)))))

pub value_by_parts-returns-in_err-row-in-At-default-default-Some-default : goal.value_by_parts-returns-in_err-row-in-At-default-default-Some-default
value_by_parts-returns-in_err-row-in-At-default-default-Some-default g t c =
    evaluates_as c.args.p.now (ways_of g.C.Cells.known g.C.Cells.may_read g.C.Cells.may_write g.C.Cells.rule) c.args.vars.now c.args.expr.now (GridElement c.in-At-default-default-Some-default.array c.in-At-default-default-Some-default.index.value c.in-At-default-default-Some-default.column.value c.in-At-default-default-Some-default.place) c.args.cells.now c.value_of-in-At-default-default-Some-default.new.cells c.from_residual-in_err-row-in-At-default-default-Some-default.result (Err c.in_err-row-in-At-default-default-Some-default.field-0.0) (let shape : c.args.expr.now ≡ (GridElement c.in-At-default-default-Some-default.array c.in-At-default-default-Some-default.index.value c.in-At-default-default-Some-default.column.value c.in-At-default-default-Some-default.place) = search rules in shape) (passed_on c.from_residual-in_err-row-in-At-default-default-Some-default.result c.in_err-row-in-At-default-default-Some-default.field-0.0 c.from_residual-in_err-row-in-At-default-default-Some-default.ensures.1) (row_fault c.args.p.now (ways_of g.C.Cells.known g.C.Cells.may_read g.C.Cells.may_write g.C.Cells.rule) c.args.vars.now c.in-At-default-default-Some-default.array c.in-At-default-default-Some-default.index.value c.in-At-default-default-Some-default.column.value c.in-At-default-default-Some-default.place c.args.cells.now c.value_of-in-At-default-default-Some-default.new.cells c.in_err-row-in-At-default-default-Some-default.field-0.0 (evaluates_as c.args.p.now (ways_of g.C.Cells.known g.C.Cells.may_read g.C.Cells.may_write g.C.Cells.rule) c.args.vars.now c.in-At-default-default-Some-default.index.value c.deref-in-At-default-default-Some-default.result.now c.args.cells.now c.value_of-in-At-default-default-Some-default.new.cells (Err c.in_err-row-in-At-default-default-Some-default.field-0.0) (Err c.in_err-row-in-At-default-default-Some-default.field-0.0) (sym c.deref-in-At-default-default-Some-default.ensures) refl c.in_err-row-in-At-default-default-Some-default.ensures))

pub value_by_parts-value_of-requires-in-At-default-default-Some-default-2 : goal.value_by_parts-value_of-requires-in-At-default-default-Some-default-2
value_by_parts-value_of-requires-in-At-default-default-Some-default-2 g t c κs within =
    (search rules, (search (rules, within), (plain_as c.deref-in-At-default-default-Some-default-2.result.now c.in-At-default-default-Some-default.column.value (let e : c.deref-in-At-default-default-Some-default-2.result.now ≡ c.in-At-default-default-Some-default.column.value = search rules in e) (both_second (is_plain c.in-At-default-default-Some-default.index.value) (is_plain c.in-At-default-default-Some-default.column.value) (sym (ap is_plain (let shape : c.args.expr.now ≡ (GridElement c.in-At-default-default-Some-default.array c.in-At-default-default-Some-default.index.value c.in-At-default-default-Some-default.column.value c.in-At-default-default-Some-default.place) = search rules in shape)) ∙ c.requires.plain)), may_as c.args.p.now (ways_of g.C.Cells.known g.C.Cells.may_read g.C.Cells.may_write g.C.Cells.rule) c.args.vars.now c.deref-in-At-default-default-Some-default-2.result.now c.in-At-default-default-Some-default.column.value c.value_of-in-At-default-default-Some-default.new.cells (let e : c.deref-in-At-default-default-Some-default-2.result.now ≡ c.in-At-default-default-Some-default.column.value = search rules in e) (column_may c.args.p.now (ways_of g.C.Cells.known g.C.Cells.may_read g.C.Cells.may_write g.C.Cells.rule) c.args.vars.now c.in-At-default-default-Some-default.array c.in-At-default-default-Some-default.index.value c.in-At-default-default-Some-default.column.value c.in-At-default-default-Some-default.place c.args.cells.now c.value_of-in-At-default-default-Some-default.new.cells c.in_ok-row-in-At-default-default-Some-default.row (may_as c.args.p.now (ways_of g.C.Cells.known g.C.Cells.may_read g.C.Cells.may_write g.C.Cells.rule) c.args.vars.now (GridElement c.in-At-default-default-Some-default.array c.in-At-default-default-Some-default.index.value c.in-At-default-default-Some-default.column.value c.in-At-default-default-Some-default.place) c.args.expr.now c.args.cells.now (sym (let shape : c.args.expr.now ≡ (GridElement c.in-At-default-default-Some-default.array c.in-At-default-default-Some-default.index.value c.in-At-default-default-Some-default.column.value c.in-At-default-default-Some-default.place) = search rules in shape)) c.requires.may) (evaluates_as c.args.p.now (ways_of g.C.Cells.known g.C.Cells.may_read g.C.Cells.may_write g.C.Cells.rule) c.args.vars.now c.in-At-default-default-Some-default.index.value c.deref-in-At-default-default-Some-default.result.now c.args.cells.now c.value_of-in-At-default-default-Some-default.new.cells (Ok c.in_ok-row-in-At-default-default-Some-default.row) (Ok c.in_ok-row-in-At-default-default-Some-default.row) (sym c.deref-in-At-default-default-Some-default.ensures) refl c.in_ok-row-in-At-default-default-Some-default.ensures)))))

pub value_by_parts-returns-in_err-column-in-At-default-default-Some-default : goal.value_by_parts-returns-in_err-column-in-At-default-default-Some-default
value_by_parts-returns-in_err-column-in-At-default-default-Some-default g t c =
    evaluates_as c.args.p.now (ways_of g.C.Cells.known g.C.Cells.may_read g.C.Cells.may_write g.C.Cells.rule) c.args.vars.now c.args.expr.now (GridElement c.in-At-default-default-Some-default.array c.in-At-default-default-Some-default.index.value c.in-At-default-default-Some-default.column.value c.in-At-default-default-Some-default.place) c.args.cells.now c.value_of-in-At-default-default-Some-default-2.new.cells c.from_residual-in_err-column-in-At-default-default-Some-default.result (Err c.in_err-column-in-At-default-default-Some-default.field-0.0) (let shape : c.args.expr.now ≡ (GridElement c.in-At-default-default-Some-default.array c.in-At-default-default-Some-default.index.value c.in-At-default-default-Some-default.column.value c.in-At-default-default-Some-default.place) = search rules in shape) (passed_on c.from_residual-in_err-column-in-At-default-default-Some-default.result c.in_err-column-in-At-default-default-Some-default.field-0.0 c.from_residual-in_err-column-in-At-default-default-Some-default.ensures.1) (column_fault c.args.p.now (ways_of g.C.Cells.known g.C.Cells.may_read g.C.Cells.may_write g.C.Cells.rule) c.args.vars.now c.in-At-default-default-Some-default.array c.in-At-default-default-Some-default.index.value c.in-At-default-default-Some-default.column.value c.in-At-default-default-Some-default.place c.args.cells.now c.value_of-in-At-default-default-Some-default.new.cells c.value_of-in-At-default-default-Some-default-2.new.cells c.in_ok-row-in-At-default-default-Some-default.row c.in_err-column-in-At-default-default-Some-default.field-0.0 (evaluates_as c.args.p.now (ways_of g.C.Cells.known g.C.Cells.may_read g.C.Cells.may_write g.C.Cells.rule) c.args.vars.now c.in-At-default-default-Some-default.index.value c.deref-in-At-default-default-Some-default.result.now c.args.cells.now c.value_of-in-At-default-default-Some-default.new.cells (Ok c.in_ok-row-in-At-default-default-Some-default.row) (Ok c.in_ok-row-in-At-default-default-Some-default.row) (sym c.deref-in-At-default-default-Some-default.ensures) refl c.in_ok-row-in-At-default-default-Some-default.ensures) (evaluates_as c.args.p.now (ways_of g.C.Cells.known g.C.Cells.may_read g.C.Cells.may_write g.C.Cells.rule) c.args.vars.now c.in-At-default-default-Some-default.column.value c.deref-in-At-default-default-Some-default-2.result.now c.value_of-in-At-default-default-Some-default.new.cells c.value_of-in-At-default-default-Some-default-2.new.cells (Err c.in_err-column-in-At-default-default-Some-default.field-0.0) (Err c.in_err-column-in-At-default-default-Some-default.field-0.0) (sym (let e : c.deref-in-At-default-default-Some-default-2.result.now ≡ c.in-At-default-default-Some-default.column.value = search rules in e)) refl c.in_err-column-in-At-default-default-Some-default.ensures))

pub value_by_parts-read-requires-in-At-default-default-Some-default : goal.value_by_parts-read-requires-in-At-default-default-Some-default
value_by_parts-read-requires-in-At-default-default-Some-default g t c =
    subst (λ (cell : Option ℕ). MayReadAt (ways_of g.C.Cells.known g.C.Cells.may_read g.C.Cells.may_write g.C.Cells.rule) c.value_of-in-At-default-default-Some-default-2.new.cells cell) (sym (c.grid_element_number-cell.ensures ∙ ap (λ (i : ℤ). grid_element_number c.args.p.now c.in-At-default-default-Some-default.array i (to_z w32 (of_z w32 c.in_ok-column-in-At-default-default-Some-default.column))) (let fits : SFits w32 c.in_ok-row-in-At-default-default-Some-default.row = search rules in to_z-of_z w32 c.in_ok-row-in-At-default-default-Some-default.row fits) ∙ ap (λ (j : ℤ). grid_element_number c.args.p.now c.in-At-default-default-Some-default.array c.in_ok-row-in-At-default-default-Some-default.row j) (let fits : SFits w32 c.in_ok-column-in-At-default-default-Some-default.column = search rules in to_z-of_z w32 c.in_ok-column-in-At-default-default-Some-default.column fits))) (grid_may_read c.args.p.now (ways_of g.C.Cells.known g.C.Cells.may_read g.C.Cells.may_write g.C.Cells.rule) c.args.vars.now c.in-At-default-default-Some-default.array c.in-At-default-default-Some-default.index.value c.in-At-default-default-Some-default.column.value c.in-At-default-default-Some-default.place c.args.cells.now c.value_of-in-At-default-default-Some-default.new.cells c.value_of-in-At-default-default-Some-default-2.new.cells c.in_ok-row-in-At-default-default-Some-default.row c.in_ok-column-in-At-default-default-Some-default.column (may_as c.args.p.now (ways_of g.C.Cells.known g.C.Cells.may_read g.C.Cells.may_write g.C.Cells.rule) c.args.vars.now (GridElement c.in-At-default-default-Some-default.array c.in-At-default-default-Some-default.index.value c.in-At-default-default-Some-default.column.value c.in-At-default-default-Some-default.place) c.args.expr.now c.args.cells.now (sym (let shape : c.args.expr.now ≡ (GridElement c.in-At-default-default-Some-default.array c.in-At-default-default-Some-default.index.value c.in-At-default-default-Some-default.column.value c.in-At-default-default-Some-default.place) = search rules in shape)) c.requires.may) (evaluates_as c.args.p.now (ways_of g.C.Cells.known g.C.Cells.may_read g.C.Cells.may_write g.C.Cells.rule) c.args.vars.now c.in-At-default-default-Some-default.index.value c.deref-in-At-default-default-Some-default.result.now c.args.cells.now c.value_of-in-At-default-default-Some-default.new.cells (Ok c.in_ok-row-in-At-default-default-Some-default.row) (Ok c.in_ok-row-in-At-default-default-Some-default.row) (sym c.deref-in-At-default-default-Some-default.ensures) refl c.in_ok-row-in-At-default-default-Some-default.ensures) (evaluates_as c.args.p.now (ways_of g.C.Cells.known g.C.Cells.may_read g.C.Cells.may_write g.C.Cells.rule) c.args.vars.now c.in-At-default-default-Some-default.column.value c.deref-in-At-default-default-Some-default-2.result.now c.value_of-in-At-default-default-Some-default.new.cells c.value_of-in-At-default-default-Some-default-2.new.cells (Ok c.in_ok-column-in-At-default-default-Some-default.column) (Ok c.in_ok-column-in-At-default-default-Some-default.column) (sym (let e : c.deref-in-At-default-default-Some-default-2.result.now ≡ c.in-At-default-default-Some-default.column.value = search rules in e)) refl c.in_ok-column-in-At-default-default-Some-default.ensures))

pub value_by_parts-returns-in_ok-column-in-At-default-default-Some-default : goal.value_by_parts-returns-in_ok-column-in-At-default-default-Some-default
value_by_parts-returns-in_ok-column-in-At-default-default-Some-default g t c =
    evaluates_as c.args.p.now (ways_of g.C.Cells.known g.C.Cells.may_read g.C.Cells.may_write g.C.Cells.rule) c.args.vars.now c.args.expr.now (GridElement c.in-At-default-default-Some-default.array c.in-At-default-default-Some-default.index.value c.in-At-default-default-Some-default.column.value c.in-At-default-default-Some-default.place) c.args.cells.now c.read-in-At-default-default-Some-default.new.cells c.read-in-At-default-default-Some-default.result c.read-in-At-default-default-Some-default.result (let shape : c.args.expr.now ≡ (GridElement c.in-At-default-default-Some-default.array c.in-At-default-default-Some-default.index.value c.in-At-default-default-Some-default.column.value c.in-At-default-default-Some-default.place) = search rules in shape) refl (grid_read c.args.p.now (ways_of g.C.Cells.known g.C.Cells.may_read g.C.Cells.may_write g.C.Cells.rule) c.args.vars.now c.in-At-default-default-Some-default.array c.in-At-default-default-Some-default.index.value c.in-At-default-default-Some-default.column.value c.in-At-default-default-Some-default.place c.args.cells.now c.value_of-in-At-default-default-Some-default.new.cells c.value_of-in-At-default-default-Some-default-2.new.cells c.read-in-At-default-default-Some-default.new.cells c.in_ok-row-in-At-default-default-Some-default.row c.in_ok-column-in-At-default-default-Some-default.column c.read-in-At-default-default-Some-default.result (evaluates_as c.args.p.now (ways_of g.C.Cells.known g.C.Cells.may_read g.C.Cells.may_write g.C.Cells.rule) c.args.vars.now c.in-At-default-default-Some-default.index.value c.deref-in-At-default-default-Some-default.result.now c.args.cells.now c.value_of-in-At-default-default-Some-default.new.cells (Ok c.in_ok-row-in-At-default-default-Some-default.row) (Ok c.in_ok-row-in-At-default-default-Some-default.row) (sym c.deref-in-At-default-default-Some-default.ensures) refl c.in_ok-row-in-At-default-default-Some-default.ensures) (evaluates_as c.args.p.now (ways_of g.C.Cells.known g.C.Cells.may_read g.C.Cells.may_write g.C.Cells.rule) c.args.vars.now c.in-At-default-default-Some-default.column.value c.deref-in-At-default-default-Some-default-2.result.now c.value_of-in-At-default-default-Some-default.new.cells c.value_of-in-At-default-default-Some-default-2.new.cells (Ok c.in_ok-column-in-At-default-default-Some-default.column) (Ok c.in_ok-column-in-At-default-default-Some-default.column) (sym (let e : c.deref-in-At-default-default-Some-default-2.result.now ≡ c.in-At-default-default-Some-default.column.value = search rules in e)) refl c.in_ok-column-in-At-default-default-Some-default.ensures) (subst (λ (i : ℤ). ReadsAt (ways_of g.C.Cells.known g.C.Cells.may_read g.C.Cells.may_write g.C.Cells.rule) (grid_element_number c.args.p.now c.in-At-default-default-Some-default.array i c.in_ok-column-in-At-default-default-Some-default.column) (GridIndex i c.in_ok-column-in-At-default-default-Some-default.column) c.in-At-default-default-Some-default.place c.value_of-in-At-default-default-Some-default-2.new.cells c.read-in-At-default-default-Some-default.result c.read-in-At-default-default-Some-default.new.cells) (let fits : SFits w32 c.in_ok-row-in-At-default-default-Some-default.row = search rules in to_z-of_z w32 c.in_ok-row-in-At-default-default-Some-default.row fits) (subst (λ (j : ℤ). ReadsAt (ways_of g.C.Cells.known g.C.Cells.may_read g.C.Cells.may_write g.C.Cells.rule) (grid_element_number c.args.p.now c.in-At-default-default-Some-default.array (to_z w32 (of_z w32 c.in_ok-row-in-At-default-default-Some-default.row)) j) (GridIndex (to_z w32 (of_z w32 c.in_ok-row-in-At-default-default-Some-default.row)) j) c.in-At-default-default-Some-default.place c.value_of-in-At-default-default-Some-default-2.new.cells c.read-in-At-default-default-Some-default.result c.read-in-At-default-default-Some-default.new.cells) (let fits : SFits w32 c.in_ok-column-in-At-default-default-Some-default.column = search rules in to_z-of_z w32 c.in_ok-column-in-At-default-default-Some-default.column fits) (subst (λ (cell : Option ℕ). ReadsAt (ways_of g.C.Cells.known g.C.Cells.may_read g.C.Cells.may_write g.C.Cells.rule) cell (GridIndex (to_z w32 (of_z w32 c.in_ok-row-in-At-default-default-Some-default.row)) (to_z w32 (of_z w32 c.in_ok-column-in-At-default-default-Some-default.column))) c.in-At-default-default-Some-default.place c.value_of-in-At-default-default-Some-default-2.new.cells c.read-in-At-default-default-Some-default.result c.read-in-At-default-default-Some-default.new.cells) c.grid_element_number-cell.ensures c.read-in-At-default-default-Some-default.ensures))))
