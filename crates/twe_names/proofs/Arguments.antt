-- The arguments of a call, one by one.
use Rattle.std.proofs.Common.{◌≡◌, List, [], ◌∷◌, ℕ, ◌≤◌, length, take, map, refl, ap, ◌∙◌}
use Rattle.std.proofs.lemmas.List.{take_all}
use Rattle.twe_ast.specs.Expression as ast
use Rattle.twe_ast.specs.inner.ExpressionView as view
use Rattle.twe_program.specs.Expression.{Expression, argument, arguments_of}
use Rattle.name_check.specs.declared.names.GlobalName.{GlobalName}
use Rattle.name_check.specs.declared.scope.LocalName.{LocalName}
use Rattle.twe_names.specs.BodyMeaning as meaning

pub arguments_map : (globals : List GlobalName) (locals : List LocalName) (written : List ast.Expression)
    → arguments_of (map (meaning.expression_of globals locals) written) ≡ meaning.arguments_of globals locals (view.arguments_of written)
arguments_map globals locals [] = refl
arguments_map globals locals (first ∷ others) = ap (argument (meaning.expression_of globals locals first)) (arguments_map globals locals others)

-- what was made of all arguments
pub all_arguments : (globals : List GlobalName) (locals : List LocalName) (written : List ast.Expression) (args : ast.Arguments) (count : ℕ) (items : List Expression)
    → view.arguments_of written ≡ args → items ≡ map (meaning.expression_of globals locals) (take count written) → length written ≤ count
    → arguments_of items ≡ meaning.arguments_of globals locals args
all_arguments globals locals written args count items args-is items-is all =
    let e : items ≡ map (meaning.expression_of globals locals) written =
    items-is ∙ ap (map (meaning.expression_of globals locals)) (take_all count written all) in
    ap arguments_of e ∙ (arguments_map globals locals written ∙ ap (meaning.arguments_of globals locals) args-is)
