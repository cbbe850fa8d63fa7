-- What expressions need does not depend on places.
use Rattle.twe_base.specs.declared.place.Place.{Place}
use Rattle.std.proofs.Common.{◌≡◌, true, List, ◌∷◌, ◌++◌, map, Option, None, Some, refl, sym, ap, ◌∙◌}
use Rattle.std.proofs.lemmas.List.{map-append}
use Rattle.twe_ast.specs.declared.stmt.LocalType.{LocalType}
use Rattle.twe_ast.specs.declared.stmt.LocalType.TheVariants.{Int, Boolean}
use Rattle.twe_ast.specs.Expression.{Expression, expression, Shape, Literal, Truth, Variable, ArrayElement, GridElement, CallValue, Negative, Negation, Binary, Arguments, no_more, argument}
use Rattle.name_check.specs.declared.binding.NameUse.TheVariants as name_use
use Rattle.name_check.specs.declared.names.GlobalName.{GlobalName}
use Rattle.name_check.specs.declared.scope.LocalName.{LocalName}
use Rattle.name_check.specs.Types.{left_need, right_need, type_of}
use Rattle.name_check.specs.Asks.{Ask, uses, need, place_of, asks_of, asks_inside, asks_of_all}
use Rattle.moved_places.specs.MovedExpression.{moved_name, moved_expression, moved_shape, moved_arguments}
use Rattle.moved_places.proofs.MovedNeeds.{moved_global, moved_ask}
use Rattle.moved_places.proofs.Bindings.{type-same, same-arguments}

-- an ask and those after it
pub first-ask : (ask its : Ask) (asks theirs : List Ask) → ask ≡ its → asks ≡ theirs → ask ∷ asks ≡ its ∷ theirs
first-ask ask its asks theirs e f = λ i. e i ∷ f i

module _ (to : Place → Place) where
  -- two parts
  pub both-asks : (xs ys us vs : List Ask) → xs ≡ map (moved_ask to) us → ys ≡ map (moved_ask to) vs → xs ++ ys ≡ map (moved_ask to) (us ++ vs)
  both-asks xs ys us vs e f = (λ i. e i ++ f i) ∙ sym (map-append (moved_ask to) us vs)

  need-same : (type : Option LocalType) (e : Expression) → need type (moved_expression to e) ≡ map (moved_ask to) (need type e)
  need-same None e = refl
  need-same (Some type) e = refl

  pub place-moved : (e : Expression) → place_of (moved_expression to e) ≡ to (place_of e)
  place-moved (expression place shape) = refl

  module _ (globals : List GlobalName) where
    abbrev bare : List GlobalName
    bare = map (moved_global to) globals

    mutual
      pub asks-same : (locals : List LocalName) (type : Option LocalType) (e : Expression) → asks_of bare locals type (moved_expression to e) ≡ map (moved_ask to) (asks_of globals locals type e)
      asks-same locals type (expression place shape) =
          both-asks _ _ (asks_inside globals locals shape) (need type (expression place shape)) (inside-same locals shape) (need-same type (expression place shape))

      inside-same : (locals : List LocalName) (shape : Shape) → asks_inside bare locals (moved_shape to shape) ≡ map (moved_ask to) (asks_inside globals locals shape)
      inside-same locals (Literal value) = refl
      inside-same locals (Truth value) = refl
      inside-same locals (Variable name) = refl
      inside-same locals (ArrayElement array index) = first-ask _ _ _ _ refl (asks-same locals (Some Int) index)
      inside-same locals (GridElement array row column) =
          first-ask _ _ _ _ refl
          (both-asks _ _ (asks_of globals locals (Some Int) row) (asks_of globals locals (Some Int) column) (asks-same locals (Some Int) row) (asks-same locals (Some Int) column))
      inside-same locals (CallValue method args) =
          first-ask _ _ _ _ (ap (λ n. uses (moved_name to method) (name_use.Method n true)) (same-arguments to args)) (all-same locals args)
      inside-same locals (Negative operand) = asks-same locals (Some Int) operand
      inside-same locals (Negation operand) = asks-same locals (Some Boolean) operand
      inside-same locals (Binary op left right place) =
          both-asks _ _ (asks_of globals locals (left_need op) left) (asks_of globals locals (right_need op (type_of globals locals left)) right)
          (asks-same locals (left_need op) left)
          (ap (λ t. asks_of bare locals (right_need op t) (moved_expression to right)) (type-same to globals locals left)
          ∙ asks-same locals (right_need op (type_of globals locals left)) right)

      pub all-same : (locals : List LocalName) (args : Arguments) → asks_of_all bare locals (moved_arguments to args) ≡ map (moved_ask to) (asks_of_all globals locals args)
      all-same locals no_more = refl
      all-same locals (argument first others) =
          both-asks _ _ (asks_of globals locals (Some Int) first) (asks_of_all globals locals others) (asks-same locals (Some Int) first) (all-same locals others)
