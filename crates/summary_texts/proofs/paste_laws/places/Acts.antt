-- What the rules see of an expression and of a cell does not depend on places.
use Rattle.std.proofs.Common.{◌≡◌, ℕ, true, false, List, [], ◌∷◌, map, zero, suc, refl, ap, ◌∙◌}
use Rattle.std.specs.Prelude.{slice_get}
use Rattle.region_paths.specs.declared.elements.Elem.{Elem}
use Rattle.twe_program.specs.declared.program.CellDecl.{CellDecl}
use Rattle.twe_program.specs.Expression.{Expression, Literal, Truth, Variable, CellValue, ArrayElement, GridElement, CallValue, Negative, Negation, Binary, Arguments, argument}
use Rattle.twe_program.specs.Expression as args
use Rattle.effect_check.specs.Standing.{element_of_index, elements_of, elements_from}
use Rattle.summary_texts.specs.paste_laws.places.Places.{bare_expression, bare_arguments, placeless_cell}

-- what the rules see of an expression has no place
pub same_element : (e : Expression) → element_of_index (bare_expression e) ≡ element_of_index e
same_element (Literal value) = refl
same_element (Truth value) = refl
same_element (Variable var true) = refl
same_element (Variable var false) = refl
same_element (CellValue cell place) = refl
same_element (ArrayElement array index place) = refl
same_element (GridElement array row column place) = refl
same_element (CallValue method args place) = refl
same_element (Negative operand) = refl
same_element (Negation operand) = refl
same_element (Binary op left right place) = refl

pub same_elements : (es : Arguments) → elements_of (bare_arguments es) ≡ elements_of es
same_elements args.no_more = refl
same_elements (argument first others) =
    ap (λ (e : Elem). e ∷ elements_of (bare_arguments others)) (same_element first) ∙ ap (λ (es : List Elem). element_of_index first ∷ es) (same_elements others)

-- nor have the paths of cells
pub same_cell : (cells : List CellDecl) (n : ℕ) → elements_from (slice_get (map placeless_cell cells) n) ≡ elements_from (slice_get cells n)
same_cell [] n = refl
same_cell (cell ∷ cells) zero = refl
same_cell (cell ∷ cells) (suc n) = same_cell cells n
