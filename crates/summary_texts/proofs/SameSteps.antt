-- The steps of a body do not depend on places.
use Rattle.std.proofs.Common.{◌≡◌, ℕ, Bool, true, false, List, [], ◌∷◌, ◌++◌, map, Option, None, Some, refl, ap}
use Rattle.region_paths.specs.declared.elements.Elem.{Elem}
use Rattle.twe_program.specs.declared.program.CellDecl.{CellDecl}
use Rattle.twe_program.specs.Expression.{Expression, Literal, Truth, Variable, CellValue, ArrayElement, GridElement, CallValue, Negative, Negation, Binary, Arguments, argument}
use Rattle.twe_program.specs.Expression as args
use Rattle.twe_program.specs.Statement.{Statement, Block, Let, Set, SetCell, SetArray, SetGrid, If, While, Return, Print, Call, Make, Wait, Statements, no_more, statement, Arms, arm, otherwise, no_else}
use Rattle.effect_check.specs.Standing.{element_of_index}
use Rattle.effect_infer.specs.declared.needs.need.BodyStep.TheVariants as kinds
use Rattle.effect_infer.specs.needs.Steps.{declared_cell, touch_step, print, steps_of, steps_of_all, steps_of_value, steps_in, steps_in_all, steps_in_one}
use Rattle.summary_texts.specs.paste_laws.places.Places.{bare_expression, bare_arguments, placeless_value, bare_statement, bare_statements, bare_arms, placeless_cell}
use Rattle.summary_texts.proofs.paste_laws.places.Acts.{same_element, same_elements, same_cell}

module _ (cells : List CellDecl) where
  abbrev bare : List CellDecl
  bare = map placeless_cell cells

  -- what lies at the same indexes
  same-cell-at : (cell : ℕ) (xs ys : List Elem) → xs ≡ ys → declared_cell bare cell xs ≡ declared_cell cells cell ys
  same-cell-at cell xs ys e = λ i. same_cell cells cell i ++ e i

  abbrev one-index : Expression → List Elem
  one-index index = element_of_index index ∷ []

  abbrev two-indexes : Expression → Expression → List Elem
  two-indexes row column = element_of_index row ∷ element_of_index column ∷ []

  same-index : (index : Expression) → one-index (bare_expression index) ≡ one-index index
  same-index index = λ i. same_element index i ∷ []

  same-indexes : (row column : Expression) → two-indexes (bare_expression row) (bare_expression column) ≡ two-indexes row column
  same-indexes row column = λ i. same_element row i ∷ same_element column i ∷ []

  mutual
    of-expression : (e : Expression) → steps_of bare (bare_expression e) ≡ steps_of cells e
    of-expression (Literal value) = refl
    of-expression (Truth value) = refl
    of-expression (Variable var fixed) = refl
    of-expression (CellValue cell place) = λ i. touch_step false (same-cell-at cell [] [] refl i) ∷ []
    of-expression (ArrayElement array index place) =
        λ i. touch_step false (same-cell-at array (one-index (bare_expression index)) (one-index index) (same-index index) i) ∷ of-expression index i
    of-expression (GridElement array row column place) =
        λ i. touch_step false (same-cell-at array (two-indexes (bare_expression row) (bare_expression column)) (two-indexes row column) (same-indexes row column) i)
        ∷ (of-expression row i ++ of-expression column i)
    of-expression (CallValue method args place) = λ i. kinds.Call method (same_elements args i) ∷ of-arguments args i
    of-expression (Negative operand) = of-expression operand
    of-expression (Negation operand) = of-expression operand
    of-expression (Binary op left right place) = λ i. of-expression left i ++ of-expression right i

    of-arguments : (es : Arguments) → steps_of_all bare (bare_arguments es) ≡ steps_of_all cells es
    of-arguments args.no_more = refl
    of-arguments (argument first others) = λ i. of-expression first i ++ of-arguments others i

  of-value : (value : Option Expression) → steps_of_value bare (placeless_value value) ≡ steps_of_value cells value
  of-value None = refl
  of-value (Some value) = of-expression value

  mutual
    of-statement : (s : Statement) → steps_in bare (bare_statement s) ≡ steps_in cells s
    of-statement (Block point body) = of-statements body
    of-statement (Let point var value) = of-expression value
    of-statement (Set point var value) = of-expression value
    of-statement (SetCell point cell value place) = λ i. touch_step true (same-cell-at cell [] [] refl i) ∷ of-expression value i
    of-statement (SetArray point array index value place) =
        λ i. touch_step true (same-cell-at array (one-index (bare_expression index)) (one-index index) (same-index index) i) ∷ (of-expression index i ++ of-expression value i)
    of-statement (SetGrid point array row column value place) =
        λ i. touch_step true (same-cell-at array (two-indexes (bare_expression row) (bare_expression column)) (two-indexes row column) (same-indexes row column) i)
        ∷ (of-expression row i ++ (of-expression column i ++ of-expression value i))
    of-statement (If point arms) = of-arms arms
    of-statement (While point condition body place) = λ i. of-expression condition i ++ of-statements body i
    of-statement (Return point value) = of-value value
    of-statement (Print point value place) = λ i. print ∷ of-expression value i
    of-statement (Call point method args place) = λ i. kinds.Call method (same_elements args i) ∷ of-arguments args i
    of-statement (Make point future task args spawned future_place place) = of-arguments args
    of-statement (Wait point future join into place) = refl

    pub of-statements : (ss : Statements) → steps_in_all bare (bare_statements ss) ≡ steps_in_all cells ss
    of-statements no_more = refl
    of-statements (statement first others) = λ i. of-statement first i ++ of-statements others i

    of-arms : (arms : Arms) → steps_in_one bare (bare_arms arms) ≡ steps_in_one cells arms
    of-arms (arm condition body others) = λ i. of-expression condition i ++ (of-statements body i ++ of-arms others i)
    of-arms (otherwise body) = of-statements body
    of-arms no_else = refl
