-- What the bodies of a text mean moves with its places.
use Rattle.std.proofs.Common.{◌≡◌, ℕ, List, map, Option, None, Some, refl, ap, ◌∙◌}
use Rattle.twe_base.specs.declared.place.Place.{Place}
use Rattle.twe_ast.specs.Expression as ast
use Rattle.twe_ast.specs.Statement as ast_stmt
use Rattle.twe_program.specs.Expression.{Expression, ArrayElement, GridElement, CallValue, Negative, Negation, Binary, argument}
use Rattle.twe_program.specs.Statement as stmt
use Rattle.name_check.specs.declared.binding.Local.TheVariants as local_kinds
use Rattle.name_check.specs.declared.binding.Binding.{Binding}
use Rattle.name_check.specs.declared.binding.Binding.TheVariants as bindings
use Rattle.name_check.specs.declared.names.GlobalName.{GlobalName}
use Rattle.name_check.specs.declared.scope.LocalName.{LocalName}
use Rattle.name_check.specs.declared.scope.BodyScope.{BodyScope}
use Rattle.name_check.specs.Names.{binding_of}
use Rattle.name_check.specs.BodyScope.{counted_binding, leaving, after, after_block}
use Rattle.twe_names.specs.BodyMeaning.{cells_number, method_number, task_number, future_number, value_meaning, expression_of, shape_of, arguments_of, value_if, set_of, statement_of, statements_of, arms_of}
use Rattle.moved_places.specs.MovedExpression as trees
use Rattle.moved_places.specs.MovedStatement as trees_stmt
use Rattle.moved_places.specs.MovedProgram.{moved_expression, moved_arguments, moved_value, moved_statement, moved_statements, moved_arms}
use Rattle.moved_places.proofs.MovedNeeds.{moved_global}
use Rattle.moved_places.proofs.Bindings.{binding-same}
use Rattle.moved_places.proofs.Sites.{after-same, after_all-same}

module _ (to : Place → Place) where
  value-places : (o : Option Binding) (place : Place) → value_meaning o (to place) ≡ moved_expression to (value_meaning o place)
  value-places None place = refl
  value-places (Some (bindings.Global global)) place = refl
  value-places (Some (bindings.Local (local_kinds.Variable number type constant))) place = refl
  value-places (Some (bindings.Local (local_kinds.Future number spawned void))) place = refl

  set-places : (point : ℕ) (o : Option Binding) (value other : Expression) (place : Place) → value ≡ moved_expression to other
      → set_of point o value (to place) ≡ moved_statement to (set_of point o other place)
  set-places point None value other place e = ap (λ v. stmt.SetCell point 0 v (to place)) e
  set-places point (Some (bindings.Global global)) value other place e = ap (λ v. stmt.SetCell point (cells_number (Some (bindings.Global global))) v (to place)) e
  set-places point (Some (bindings.Local (local_kinds.Variable number type constant))) value other place e = ap (stmt.Set point number) e
  set-places point (Some (bindings.Local (local_kinds.Future number spawned void))) value other place e = ap (λ v. stmt.SetCell point 0 v (to place)) e

  module _ (globals : List GlobalName) where
    abbrev moved_globals : List GlobalName
    moved_globals = map (moved_global to) globals

    mutual
      expression-places : (locals : List LocalName) (e : ast.Expression)
          → expression_of moved_globals locals (trees.moved_expression to e) ≡ moved_expression to (expression_of globals locals e)
      expression-places locals (ast.expression place shape) = shape-places locals shape

      shape-places : (locals : List LocalName) (shape : ast.Shape) → shape_of moved_globals locals (trees.moved_shape to shape) ≡ moved_expression to (shape_of globals locals shape)
      shape-places locals (ast.Literal value) = refl
      shape-places locals (ast.Truth value) = refl
      shape-places locals (ast.Variable name) =
          ap (λ o. value_meaning o (to name.place)) (binding-same to globals locals name.text) ∙ value-places (binding_of globals locals name.text) name.place
      shape-places locals (ast.ArrayElement array index) =
          λ i. ArrayElement (cells_number (binding-same to globals locals array.text i)) (expression-places locals index i) (to array.place)
      shape-places locals (ast.GridElement array row column) =
          λ i. GridElement (cells_number (binding-same to globals locals array.text i)) (expression-places locals row i) (expression-places locals column i) (to array.place)
      shape-places locals (ast.CallValue method args) =
          λ i. CallValue (method_number (binding-same to globals locals method.text i)) (arguments-places locals args i) (to method.place)
      shape-places locals (ast.Negative operand) = ap Negative (expression-places locals operand)
      shape-places locals (ast.Negation operand) = ap Negation (expression-places locals operand)
      shape-places locals (ast.Binary op left right place) =
          λ i. Binary op (expression-places locals left i) (expression-places locals right i) (to place)

      arguments-places : (locals : List LocalName) (args : ast.Arguments)
          → arguments_of moved_globals locals (trees.moved_arguments to args) ≡ moved_arguments to (arguments_of globals locals args)
      arguments-places locals ast.no_more = refl
      arguments-places locals (ast.argument first others) = λ i. argument (expression-places locals first i) (arguments-places locals others i)

    value_if-places : (locals : List LocalName) (value : Option ast.Expression)
        → value_if moved_globals locals (trees_stmt.moved_value to value) ≡ moved_value to (value_if globals locals value)
    value_if-places locals None = refl
    value_if-places locals (Some value) = ap Some (expression-places locals value)

    mutual
      statement-places : (here : BodyScope) (s : ast_stmt.Statement)
          → statement_of moved_globals here (trees_stmt.moved_statement to s) ≡ moved_statement to (statement_of globals here s)
      statement-places here (ast_stmt.Block body) = ap (stmt.Block here.points) (statements-places (counted_binding here) body)
      statement-places here (ast_stmt.Let is_final local_type name value) = ap (stmt.Let here.points here.vars) (expression-places here.locals value)
      statement-places here (ast_stmt.Set name value) =
          ap (λ o. set_of here.points o (expression_of moved_globals here.locals (trees.moved_expression to value)) (to name.place)) (binding-same to globals here.locals name.text)
          ∙ set-places here.points (binding_of globals here.locals name.text) _ _ name.place (expression-places here.locals value)
      statement-places here (ast_stmt.SetArray array index value) =
          λ i. stmt.SetArray here.points (cells_number (binding-same to globals here.locals array.text i)) (expression-places here.locals index i) (expression-places here.locals value i) (to array.place)
      statement-places here (ast_stmt.SetGrid array row column value) =
          λ i. stmt.SetGrid here.points (cells_number (binding-same to globals here.locals array.text i)) (expression-places here.locals row i)
          (expression-places here.locals column i) (expression-places here.locals value i) (to array.place)
      statement-places here (ast_stmt.If arms) = ap (stmt.If here.points) (arms-places (counted_binding here) arms)
      statement-places here (ast_stmt.While place condition body) =
          λ i. stmt.While here.points (expression-places here.locals condition i) (statements-places (counted_binding here) body i) (to place)
      statement-places here (ast_stmt.Return place value) = ap (stmt.Return here.points) (value_if-places here.locals value)
      statement-places here (ast_stmt.Print place value) = ap (λ v. stmt.Print here.points v (to place)) (expression-places here.locals value)
      statement-places here (ast_stmt.Call method args) =
          λ i. stmt.Call here.points (method_number (binding-same to globals here.locals method.text i)) (arguments-places here.locals args i) (to method.place)
      statement-places here (ast_stmt.Make future task spawned args) =
          λ i. stmt.Make here.points here.futures (task_number (binding-same to globals here.locals task.text i)) (arguments-places here.locals args i) spawned (to future.place) (to task.place)
      statement-places here (ast_stmt.Wait wait) =
          ap (λ o. stmt.Wait here.points (future_number o) wait.join None (to wait.future.place)) (binding-same to globals here.locals wait.future.text)
      statement-places here (ast_stmt.LetWait is_final name wait) =
          ap (λ o. stmt.Wait here.points (future_number o) wait.join (Some here.vars) (to wait.future.place)) (binding-same to globals here.locals wait.future.text)

      pub statements-places : (here : BodyScope) (s : ast_stmt.Statements)
          → statements_of moved_globals here (trees_stmt.moved_block to s) ≡ moved_statements to (statements_of globals here s)
      statements-places here (ast_stmt.end_of_block close) = refl
      statements-places here (ast_stmt.statement first others) =
          (λ i. stmt.statement (statement-places here first i) (statements_of moved_globals (after-same to globals here first i) (trees_stmt.moved_block to others)))
          ∙ ap (stmt.statement (moved_statement to (statement_of globals here first))) (statements-places (after globals here first) others)

      arms-places : (here : BodyScope) (s : ast_stmt.Arms) → arms_of moved_globals here (trees_stmt.moved_arms to s) ≡ moved_arms to (arms_of globals here s)
      arms-places here (ast_stmt.arm condition body others) =
          (λ i. stmt.arm (expression-places here.locals condition i) (statements-places here body i)
          (arms_of moved_globals (leaving here (after_all-same to globals here body i)) (trees_stmt.moved_arms to others)))
          ∙ ap (stmt.arm (moved_expression to (expression_of globals here.locals condition)) (moved_statements to (statements_of globals here body)))
          (arms-places (after_block globals here body) others)
      arms-places here (ast_stmt.otherwise body) = ap stmt.otherwise (statements-places here body)
      arms-places here ast_stmt.no_else = refl
