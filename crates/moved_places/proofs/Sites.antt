-- Nor do the scopes of bodies, and what statements need in them.
use Rattle.std.proofs.Common.{◌≡◌, ℕ, ◌+◌, Bool, true, false, ◌&&◌, ◌||◌, List, [], ◌∷◌, ◌++◌, map, Option, None, Some, refl, sym, ap, ◌∙◌}
use Rattle.std.proofs.lemmas.List.{map-append}
use Rattle.twe_base.specs.declared.place.Place.{Place}
use Rattle.twe_ast.specs.declared.item.ReturnType.{ReturnType}
use Rattle.twe_ast.specs.declared.name.Name.{Name}
use Rattle.twe_ast.specs.declared.stmt.LocalType.TheVariants.{Int, Boolean}
use Rattle.twe_ast.specs.Expression.{Expression, expression, Literal, Truth, Variable, ArrayElement, GridElement, CallValue, Negative, Negation, Binary}
use Rattle.twe_ast.specs.Statement.{Statement, Block, Let, Set, SetArray, SetGrid, If, While, Return, Print, Call, Make, Wait, LetWait, Statements, end_of_block, statement, Arms, arm, otherwise, no_else}
use Rattle.name_check.specs.declared.binding.NameUse.TheVariants as name_use
use Rattle.name_check.specs.declared.binding.Local.TheVariants as local_kinds
use Rattle.name_check.specs.declared.names.GlobalName.{GlobalName}
use Rattle.name_check.specs.declared.scope.LocalName.{LocalName}
use Rattle.name_check.specs.declared.scope.BodyScope.{BodyScope}
use Rattle.name_check.specs.Names.{binding_of}
use Rattle.name_check.specs.Types.{argument_count}
use Rattle.name_check.specs.BodyScope.{counted_binding, leaving, with_future, is_void, after, after_all, after_arms, after_block, params_from}
use Rattle.name_check.specs.Asks.{Ask, uses, declares, returns_value, returns_nothing, asks_of, asks_of_all}
use Rattle.name_check.specs.Sites.{Site, sites_at, target_type, asks_of_return, sites_in, sites_in_all, sites_in_arms, sites_of_params}
use Rattle.name_check.specs.Ends.{is_literal_true, always_returns, one_ends, all_end, close_of}
use Rattle.moved_places.specs.MovedExpression.{moved_name, moved_expression}
use Rattle.moved_places.specs.MovedStatement.{moved_value, moved_statement, moved_block, moved_arms}
use Rattle.moved_places.proofs.MovedNeeds.{moved_global, moved_ask, moved_site}
use Rattle.moved_places.proofs.Bindings.{binding-same, same-arguments}
use Rattle.moved_places.proofs.Asks.{first-ask, both-asks, place-moved, asks-same, all-same}

module _ (to : Place → Place) where
  pub at-same : (locals : List LocalName) (returns : ReturnType) (asks their : List Ask) → asks ≡ map (moved_ask to) their
      → sites_at locals returns asks ≡ map (moved_site to) (sites_at locals returns their)
  at-same locals returns asks their e = ap (sites_at locals returns) e ∙ bared their
    where
      bared : (their : List Ask) → sites_at locals returns (map (moved_ask to) their) ≡ map (moved_site to) (sites_at locals returns their)
      bared [] = refl
      bared (ask ∷ others) = ap (λ (more : List Site). record { locals = locals; returns = returns; ask = moved_ask to ask } ∷ more) (bared others)

  pub both-sites : (xs ys us vs : List Site) → xs ≡ map (moved_site to) us → ys ≡ map (moved_site to) vs → xs ++ ys ≡ map (moved_site to) (us ++ vs)
  both-sites xs ys us vs e f = (λ i. e i ++ f i) ∙ sym (map-append (moved_site to) us vs)

  -- the bodies that can't end without a `return` are the same
  true-same : (e : Expression) → is_literal_true (moved_expression to e) ≡ is_literal_true e
  true-same (expression place (Literal value)) = refl
  true-same (expression place (Truth true)) = refl
  true-same (expression place (Truth false)) = refl
  true-same (expression place (Variable name)) = refl
  true-same (expression place (ArrayElement array index)) = refl
  true-same (expression place (GridElement array row column)) = refl
  true-same (expression place (CallValue method args)) = refl
  true-same (expression place (Negative operand)) = refl
  true-same (expression place (Negation operand)) = refl
  true-same (expression place (Binary op left right its)) = refl

  mutual
    ends-same : (s : Statement) → always_returns (moved_statement to s) ≡ always_returns s
    ends-same (Block body) = one_ends-same body
    ends-same (Let is_final local_type name value) = refl
    ends-same (Set name value) = refl
    ends-same (SetArray array index value) = refl
    ends-same (SetGrid array row column value) = refl
    ends-same (If arms) = all_end-same arms
    ends-same (While place condition body) = true-same condition
    ends-same (Return place value) = refl
    ends-same (Print place value) = refl
    ends-same (Call method args) = refl
    ends-same (Make future task spawned args) = refl
    ends-same (Wait wait) = refl
    ends-same (LetWait is_final name wait) = refl

    pub one_ends-same : (s : Statements) → one_ends (moved_block to s) ≡ one_ends s
    one_ends-same (end_of_block close) = refl
    one_ends-same (statement first others) = λ i. ends-same first i || one_ends-same others i

    all_end-same : (s : Arms) → all_end (moved_arms to s) ≡ all_end s
    all_end-same (arm condition body others) = λ i. one_ends-same body i && all_end-same others i
    all_end-same (otherwise body) = one_ends-same body
    all_end-same no_else = refl

  -- the brace that closes a block is moved, too
  pub close-moved : (s : Statements) → close_of (moved_block to s) ≡ to (close_of s)
  close-moved (end_of_block close) = refl
  close-moved (statement first others) = close-moved others

  pub params-same : (number : ℕ) (names : List Name) → params_from number (map (moved_name to) names) ≡ params_from number names
  params-same number [] = refl
  params-same number (name ∷ names) = ap (λ (more : List LocalName). params_from number (name ∷ []) ++ more) (params-same (number + 1) names)

  pub sites_of_params-same : (returns : ReturnType) (before : List LocalName) (number : ℕ) (names : List Name)
      → sites_of_params returns before number (map (moved_name to) names) ≡ map (moved_site to) (sites_of_params returns before number names)
  sites_of_params-same returns before number [] = refl
  sites_of_params-same returns before number (name ∷ names) =
      ap (λ (more : List Site). record { locals = before; returns = returns; ask = declares (moved_name to name) } ∷ more)
      (sites_of_params-same returns (before ++ params_from number (name ∷ [])) (number + 1) names)

  module _ (globals : List GlobalName) where
    abbrev bare : List GlobalName
    bare = map (moved_global to) globals

    future-same : (here : BodyScope) (text task : List ℕ) (spawned : Bool) → with_future bare here text task spawned ≡ with_future globals here text task spawned
    future-same here text task spawned = ap (λ void. record here {
      locals = here.locals ++ record { text = text; local = local_kinds.Future here.futures spawned void } ∷ [];
      futures = here.futures + 1;
    }) (ap is_void (binding-same to globals here.locals task))

    mutual
      pub after-same : (here : BodyScope) (s : Statement) → after bare here (moved_statement to s) ≡ after globals here s
      after-same here (Block body) = ap (leaving (counted_binding here)) (after_all-same (counted_binding here) body)
      after-same here (Let is_final local_type name value) = refl
      after-same here (Set name value) = refl
      after-same here (SetArray array index value) = refl
      after-same here (SetGrid array row column value) = refl
      after-same here (If arms) = after_arms-same (counted_binding here) arms
      after-same here (While place condition body) = ap (leaving (counted_binding here)) (after_all-same (counted_binding here) body)
      after-same here (Return place value) = refl
      after-same here (Print place value) = refl
      after-same here (Call method args) = refl
      after-same here (Make future task spawned args) = future-same (counted_binding here) future.text task.text spawned
      after-same here (Wait wait) = refl
      after-same here (LetWait is_final name wait) = refl

      pub after_all-same : (here : BodyScope) (s : Statements) → after_all bare here (moved_block to s) ≡ after_all globals here s
      after_all-same here (end_of_block close) = refl
      after_all-same here (statement first others) = ap (λ next. after_all bare next (moved_block to others)) (after-same here first) ∙ after_all-same (after globals here first) others

      after_arms-same : (here : BodyScope) (s : Arms) → after_arms bare here (moved_arms to s) ≡ after_arms globals here s
      after_arms-same here (arm condition body others) =
          ap (λ next. after_arms bare (leaving here next) (moved_arms to others)) (after_all-same here body) ∙ after_arms-same (after_block globals here body) others
      after_arms-same here (otherwise body) = ap (leaving here) (after_all-same here body)
      after_arms-same here no_else = refl

    return-same : (locals : List LocalName) (place : Place) (value : Option Expression)
        → asks_of_return bare locals (moved_value to value) (returns_nothing (to place)) ≡ map (moved_ask to) (asks_of_return globals locals value (returns_nothing place))
    return-same locals place None = refl
    return-same locals place (Some value) = first-ask _ _ _ _ (ap returns_value (place-moved to value)) (asks-same to globals locals (Some Int) value)

    mutual
      pub sites-same : (returns : ReturnType) (here : BodyScope) (s : Statement)
          → sites_in bare returns here (moved_statement to s) ≡ map (moved_site to) (sites_in globals returns here s)
      sites-same returns here (Block body) = sites_all-same returns (counted_binding here) body
      sites-same returns here (Let is_final local_type name value) =
          at-same here.locals returns _ (declares name ∷ asks_of globals here.locals (Some local_type) value)
          (first-ask _ _ _ _ refl (asks-same to globals here.locals (Some local_type) value))
      sites-same returns here (Set name value) =
          at-same here.locals returns _ (uses name name_use.Target ∷ asks_of globals here.locals (Some (target_type (binding_of globals here.locals name.text))) value)
          (first-ask _ _ _ _ refl
          (ap (λ o. asks_of bare here.locals (Some (target_type o)) (moved_expression to value)) (binding-same to globals here.locals name.text)
          ∙ asks-same to globals here.locals (Some (target_type (binding_of globals here.locals name.text))) value))
      sites-same returns here (SetArray array index value) =
          at-same here.locals returns _ (uses array (name_use.Array 1) ∷ (asks_of globals here.locals (Some Int) index ++ asks_of globals here.locals (Some Int) value))
          (first-ask _ _ _ _ refl
          (both-asks to _ _ (asks_of globals here.locals (Some Int) index) (asks_of globals here.locals (Some Int) value)
          (asks-same to globals here.locals (Some Int) index) (asks-same to globals here.locals (Some Int) value)))
      sites-same returns here (SetGrid array row column value) =
          at-same here.locals returns _
          (uses array (name_use.Array 2) ∷ (asks_of globals here.locals (Some Int) row
          ++ (asks_of globals here.locals (Some Int) column ++ asks_of globals here.locals (Some Int) value)))
          (first-ask _ _ _ _ refl
          (both-asks to _ _ (asks_of globals here.locals (Some Int) row) (asks_of globals here.locals (Some Int) column ++ asks_of globals here.locals (Some Int) value)
          (asks-same to globals here.locals (Some Int) row)
          (both-asks to _ _ (asks_of globals here.locals (Some Int) column) (asks_of globals here.locals (Some Int) value)
          (asks-same to globals here.locals (Some Int) column) (asks-same to globals here.locals (Some Int) value))))
      sites-same returns here (If arms) = sites_arms-same returns (counted_binding here) arms
      sites-same returns here (While place condition body) =
          both-sites _ _ (sites_at here.locals returns (asks_of globals here.locals (Some Boolean) condition)) (sites_in_all globals returns (counted_binding here) body)
          (at-same here.locals returns _ (asks_of globals here.locals (Some Boolean) condition) (asks-same to globals here.locals (Some Boolean) condition))
          (sites_all-same returns (counted_binding here) body)
      sites-same returns here (Return place value) =
          at-same here.locals returns _ (asks_of_return globals here.locals value (returns_nothing place)) (return-same here.locals place value)
      sites-same returns here (Print place value) =
          at-same here.locals returns _ (asks_of globals here.locals (Some Int) value) (asks-same to globals here.locals (Some Int) value)
      sites-same returns here (Call method args) =
          at-same here.locals returns _ (uses method (name_use.Method (argument_count args) false) ∷ asks_of_all globals here.locals args)
          (first-ask _ _ _ _ (ap (λ n. uses (moved_name to method) (name_use.Method n false)) (same-arguments to args)) (all-same to globals here.locals args))
      sites-same returns here (Make future task spawned args) =
          at-same here.locals returns _ (declares future ∷ uses task (name_use.Task (argument_count args)) ∷ asks_of_all globals here.locals args)
          (first-ask _ _ _ _ refl
          (first-ask _ _ _ _ (ap (λ n. uses (moved_name to task) (name_use.Task n)) (same-arguments to args)) (all-same to globals here.locals args)))
      sites-same returns here (Wait wait) = refl
      sites-same returns here (LetWait is_final name wait) = refl

      pub sites_all-same : (returns : ReturnType) (here : BodyScope) (s : Statements)
          → sites_in_all bare returns here (moved_block to s) ≡ map (moved_site to) (sites_in_all globals returns here s)
      sites_all-same returns here (end_of_block close) = refl
      sites_all-same returns here (statement first others) =
          both-sites _ _ (sites_in globals returns here first) (sites_in_all globals returns (after globals here first) others) (sites-same returns here first)
          (ap (λ next. sites_in_all bare returns next (moved_block to others)) (after-same here first) ∙ sites_all-same returns (after globals here first) others)

      sites_arms-same : (returns : ReturnType) (here : BodyScope) (s : Arms)
          → sites_in_arms bare returns here (moved_arms to s) ≡ map (moved_site to) (sites_in_arms globals returns here s)
      sites_arms-same returns here (arm condition body others) =
          both-sites _ _ (sites_at here.locals returns (asks_of globals here.locals (Some Boolean) condition))
          (sites_in_all globals returns here body ++ sites_in_arms globals returns (after_block globals here body) others)
          (at-same here.locals returns _ (asks_of globals here.locals (Some Boolean) condition) (asks-same to globals here.locals (Some Boolean) condition))
          (both-sites _ _ (sites_in_all globals returns here body) (sites_in_arms globals returns (after_block globals here body) others)
          (sites_all-same returns here body)
          (ap (λ next. sites_in_arms bare returns (leaving here next) (moved_arms to others)) (after_all-same here body)
          ∙ sites_arms-same returns (after_block globals here body) others))
      sites_arms-same returns here (otherwise body) = sites_all-same returns here body
      sites_arms-same returns here no_else = refl
