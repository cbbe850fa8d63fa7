-- What names are bound to does not depend on places, nor do the types of expressions.
use Rattle.twe_base.specs.declared.place.Place.{Place}
use Rattle.std.proofs.Common.{◌≡◌, ℕ, ◌+◌, ◌&&◌, List, [], ◌∷◌, ◌++◌, map, Some, if◌then◌else◌, codes, refl, sym, ap, ◌∙◌}
use Rattle.std.specs.Prelude.{bytes_eq}
use Rattle.std.proofs.lemmas.List.{map-append, length-map}
use Rattle.twe_ast.specs.declared.item.Item.{Item}
use Rattle.twe_ast.specs.declared.item.Item.TheVariants as items
use Rattle.twe_ast.specs.declared.name.Name.{Name}
use Rattle.twe_ast.specs.declared.stmt.LocalType.TheVariants.{Int, Boolean}
use Rattle.twe_ast.specs.Expression.{Expression, expression, Shape, Literal, Truth, Variable, ArrayElement, GridElement, CallValue, Negative, Negation, Binary, Arguments, no_more, argument}
use Rattle.name_check.specs.declared.binding.Global.TheVariants as global_kinds
use Rattle.name_check.specs.declared.names.GlobalName.{GlobalName}
use Rattle.name_check.specs.declared.scope.LocalName.{LocalName}
use Rattle.name_check.specs.Names.{Before, regions_from, declared_by, past, globals_from, first_global, first_local, global_of, binding_of, either}
use Rattle.name_check.specs.Types.{argument_count, same_type, type_of_name, type_of_element, type_of_call, type_if, operands_agree, gives, type_of, type_of_shape, are_ints}
use Rattle.moved_places.specs.MovedExpression.{moved_name, moved_expression, moved_shape, moved_arguments}
use Rattle.moved_places.specs.MovedTree.{moved_item}
use Rattle.moved_places.proofs.MovedNeeds.{moved_global}

module _ (to : Place → Place) where
  pub same-regions : (number : ℕ) (names : List Name) → regions_from number (map (moved_name to) names) ≡ map (moved_global to) (regions_from number names)
  same-regions number [] = refl
  same-regions number (name ∷ names) =
      ap (λ (more : List GlobalName). record { text = name.text; place = to name.place; global = global_kinds.Region number } ∷ more) (same-regions (number + 1) names)

  same-declared : (before : Before) (item : Item) → declared_by before (moved_item to item) ≡ map (moved_global to) (declared_by before item)
  same-declared before (items.Regions names) = same-regions before.regions names
  same-declared before (items.Cell cell) = refl
  same-declared before (items.Method decl) =
      ap (λ n. record { text = decl.name.text; place = to decl.name.place; global = global_kinds.Method before.methods n decl.returns } ∷ []) (length-map decl.params (moved_name to))
  same-declared before (items.Task deterministic decl) =
      ap (λ n. record { text = decl.name.text; place = to decl.name.place; global = global_kinds.Task before.tasks n decl.returns } ∷ []) (length-map decl.params (moved_name to))

  same-past : (before : Before) (item : Item) → past before (moved_item to item) ≡ past before item
  same-past before (items.Regions names) = ap (λ n. record before { regions = before.regions + n }) (length-map names (moved_name to))
  same-past before (items.Cell cell) = refl
  same-past before (items.Method decl) = refl
  same-past before (items.Task deterministic decl) = refl

  pub same-globals : (before : Before) (all : List Item) → globals_from before (map (moved_item to) all) ≡ map (moved_global to) (globals_from before all)
  same-globals before [] = refl
  same-globals before (item ∷ others) =
      (λ i. same-declared before item i ++ globals_from (same-past before item i) (map (moved_item to) others))
      ∙ ap (λ more. map (moved_global to) (declared_by before item) ++ more) (same-globals (past before item) others)
      ∙ sym (map-append (moved_global to) (declared_by before item) (globals_from (past before item) others))

  pub same-arguments : (args : Arguments) → argument_count (moved_arguments to args) ≡ argument_count args
  same-arguments no_more = refl
  same-arguments (argument first others) = ap (λ n. n + 1) (same-arguments others)

  module _ (globals : List GlobalName) where
    first-same : (text : List ℕ) (names : List GlobalName) → first_global text (map (moved_global to) names) ≡ first_global text names
    first-same text [] = refl
    first-same text (name ∷ names) = ap (λ o. if bytes_eq text name.text then Some name.global else o) (first-same text names)

    pub global-same : (text : List ℕ) → global_of (map (moved_global to) globals) text ≡ global_of globals text
    global-same text = ap (λ o. if bytes_eq text (codes "Console") then Some (global_kinds.Region 0) else o) (first-same text globals)

    pub binding-same : (locals : List LocalName) (text : List ℕ) → binding_of (map (moved_global to) globals) locals text ≡ binding_of globals locals text
    binding-same locals text = ap (either (first_local text locals)) (global-same text)

    mutual
      pub type-same : (locals : List LocalName) (e : Expression) → type_of (map (moved_global to) globals) locals (moved_expression to e) ≡ type_of globals locals e
      type-same locals (expression place shape) = shape-same locals shape

      shape-same : (locals : List LocalName) (shape : Shape) → type_of_shape (map (moved_global to) globals) locals (moved_shape to shape) ≡ type_of_shape globals locals shape
      shape-same locals (Literal value) = refl
      shape-same locals (Truth value) = refl
      shape-same locals (Variable name) = ap type_of_name (binding-same locals name.text)
      shape-same locals (ArrayElement array index) =
          λ i. type_if (same_type (type-same locals index i) (Some Int)) (type_of_element (binding-same locals array.text i) 1)
      shape-same locals (GridElement array row column) =
          λ i. type_if (same_type (type-same locals row i) (Some Int) && same_type (type-same locals column i) (Some Int)) (type_of_element (binding-same locals array.text i) 2)
      shape-same locals (CallValue method args) =
          λ i. type_if (ints-same locals args i) (type_of_call (binding-same locals method.text i) (same-arguments args i))
      shape-same locals (Negative operand) = ap (λ t. type_if (same_type t (Some Int)) (Some Int)) (type-same locals operand)
      shape-same locals (Negation operand) = ap (λ t. type_if (same_type t (Some Boolean)) (Some Boolean)) (type-same locals operand)
      shape-same locals (Binary op left right place) = λ i. type_if (operands_agree op (type-same locals left i) (type-same locals right i)) (Some (gives op))

      ints-same : (locals : List LocalName) (args : Arguments) → are_ints (map (moved_global to) globals) locals (moved_arguments to args) ≡ are_ints globals locals args
      ints-same locals no_more = refl
      ints-same locals (argument first others) = λ i. same_type (type-same locals first i) (Some Int) && ints-same locals others i
