-- What an expression means fits, where what it asks for is there.
use Rattle.std.proofs.Common.{◌≡◌, ℕ, ◌+◌, Bool, true, List, Option, None, Some, slice_get, refl, sym, ap, ◌∙◌, subst}
use Rattle.twe_base.specs.declared.place.Place.{Place}
use Rattle.twe_ast.specs.declared.item.ReturnType.{ReturnType}
use Rattle.twe_ast.specs.declared.item.ReturnType.TheVariants as return_types
use Rattle.twe_ast.specs.declared.stmt.LocalType.{LocalType}
use Rattle.twe_ast.specs.declared.stmt.LocalType.TheVariants as types
use Rattle.twe_ast.specs.Expression as ast
use Rattle.twe_program.specs.declared.program.Decl.{Decl}
use Rattle.twe_program.specs.Program.{Program}
use Rattle.twe_program.specs.Numbering.{Declared}
use Rattle.twe_program.specs.Fitting.{Scope, TakesIndexes, TakesArguments, ReturnsValue, ExpressionFits, ArgumentsFit, count_of}
use Rattle.name_check.specs.declared.binding.NameUse.TheVariants as name_use
use Rattle.name_check.specs.declared.binding.Global.TheVariants as global_kinds
use Rattle.name_check.specs.declared.binding.Local.TheVariants as local_kinds
use Rattle.name_check.specs.declared.binding.Binding.{Binding}
use Rattle.name_check.specs.declared.binding.Binding.TheVariants as bindings
use Rattle.name_check.specs.declared.names.GlobalName.{GlobalName}
use Rattle.name_check.specs.declared.scope.LocalName.{LocalName}
use Rattle.name_check.specs.Names.{binding_of}
use Rattle.name_check.specs.Types as names
use Rattle.name_check.specs.Types.{left_need, right_need, type_of}
use Rattle.name_check.specs.Asks.{need, asks_of, asks_inside, asks_of_all}
use Rattle.twe_names.specs.BodyMeaning.{cells_number, method_number, value_meaning, expression_of, shape_of, arguments_of}
use Rattle.twe_names.specs.Meaning.{returns_value}
use Rattle.twe_names.proofs.Lists.{all-front, all-back}
use Rattle.twe_names.proofs.Clean.{UseClean, AskClean, AsksClean}
use Rattle.twe_names.proofs.There.{DeclThere, SeenThere, GlobalsThere, AllLocalsThere, binding_of-there}

-- what a body stands in
abbrev pub scope_with : Program → ℕ → List Declared → Bool → Scope
scope_with p vars futures int = record { cells = p.cells; methods = p.methods; tasks = p.tasks; vars = vars; futures = futures; int = int }

pub arguments-there : (o : Option Decl) (params args : ℕ) (returns : ReturnType) → DeclThere o params returns → params ≡ args → TakesArguments o args
arguments-there None params args returns h e = h
arguments-there (Some decl) params args returns h e = h.0 ∙ e

pub value-there : (o : Option Decl) (params : ℕ) (returns : ReturnType) → DeclThere o params returns → returns ≡ return_types.Int → ReturnsValue o
value-there None params returns h e = h
value-there (Some decl) params returns h e = h.1 ∙ ap returns_value e

module _ (p : Program) (vars : ℕ) (futures : List Declared) (int : Bool) where
  abbrev scope : Scope
  scope = scope_with p vars futures int

  value-fits : (o : Option Binding) (place : Place) → UseClean name_use.Value o → SeenThere p vars futures o → ExpressionFits scope (value_meaning o place)
  value-fits None place h k = absurd h
  value-fits (Some (bindings.Local (local_kinds.Variable number type constant))) place h k = k
  value-fits (Some (bindings.Local (local_kinds.Future number spawned void))) place h k = absurd h
  value-fits (Some (bindings.Global (global_kinds.Region number))) place h k = absurd h
  value-fits (Some (bindings.Global (global_kinds.Cells number indexes))) place h k = subst (TakesIndexes (slice_get p.cells number)) h k
  value-fits (Some (bindings.Global (global_kinds.Method number params returns))) place h k = absurd h
  value-fits (Some (bindings.Global (global_kinds.Task number params returns))) place h k = absurd h

  pub indexes-fit : (given : ℕ) (o : Option Binding) → UseClean (name_use.Array given) o → SeenThere p vars futures o
      → TakesIndexes (slice_get p.cells (cells_number o)) given
  indexes-fit given None h k = absurd h
  indexes-fit given (Some (bindings.Local (local_kinds.Variable number type constant))) h k = absurd h
  indexes-fit given (Some (bindings.Local (local_kinds.Future number spawned void))) h k = absurd h
  indexes-fit given (Some (bindings.Global (global_kinds.Region number))) h k = absurd h
  indexes-fit given (Some (bindings.Global (global_kinds.Cells number indexes))) h k = subst (TakesIndexes (slice_get p.cells number)) h k
  indexes-fit given (Some (bindings.Global (global_kinds.Method number params returns))) h k = absurd h
  indexes-fit given (Some (bindings.Global (global_kinds.Task number params returns))) h k = absurd h

  pub call-fits : (args : ℕ) (valued : Bool) (o : Option Binding) → UseClean (name_use.Method args valued) o → SeenThere p vars futures o
      → TakesArguments (slice_get p.methods (method_number o)) args × (valued ≡ true → ReturnsValue (slice_get p.methods (method_number o)))
  call-fits args valued None h k = absurd h
  call-fits args valued (Some (bindings.Local (local_kinds.Variable number type constant))) h k = absurd h
  call-fits args valued (Some (bindings.Local (local_kinds.Future number spawned void))) h k = absurd h
  call-fits args valued (Some (bindings.Global (global_kinds.Region number))) h k = absurd h
  call-fits args valued (Some (bindings.Global (global_kinds.Cells number indexes))) h k = absurd h
  call-fits args valued (Some (bindings.Global (global_kinds.Method number params returns))) h k =
      (arguments-there (slice_get p.methods number) params args returns k h.0, λ e. value-there (slice_get p.methods number) params returns k (h.1 e))
  call-fits args valued (Some (bindings.Global (global_kinds.Task number params returns))) h k = absurd h

  module _ (globals : List GlobalName) (globals_there : GlobalsThere p globals) (locals : List LocalName) (locals_there : AllLocalsThere p vars futures locals) (returns : ReturnType) where
    there : (text : List ℕ) → SeenThere p vars futures (binding_of globals locals text)
    there text = binding_of-there p vars futures globals locals globals_there locals_there text

    pub arguments-counted : (args : ast.Arguments) → count_of (arguments_of globals locals args) ≡ names.argument_count args
    arguments-counted ast.no_more = refl
    arguments-counted (ast.argument first others) = ap (λ n. n + 1) (arguments-counted others)

    pub call-taken : (method : List ℕ) (args : ast.Arguments) (valued : Bool) → UseClean (name_use.Method (names.argument_count args) valued) (binding_of globals locals method)
        → TakesArguments (slice_get p.methods (method_number (binding_of globals locals method))) (count_of (arguments_of globals locals args))
        × (valued ≡ true → ReturnsValue (slice_get p.methods (method_number (binding_of globals locals method))))
    call-taken method args valued h =
        let o = binding_of globals locals method in
        let fit = call-fits (names.argument_count args) valued o h (there method) in
        (subst (TakesArguments (slice_get p.methods (method_number o))) (sym (arguments-counted args)) fit.0, fit.1)

    mutual
      pub expression-fits : (e : ast.Expression) (type : Option LocalType) → AsksClean globals locals returns (asks_of globals locals type e)
          → ExpressionFits scope (expression_of globals locals e)
      expression-fits (ast.expression place shape) type h =
          shape-fits shape (all-front (AskClean globals locals returns) (asks_inside globals locals shape) (need type (ast.expression place shape)) h)

      shape-fits : (e : ast.Shape) → AsksClean globals locals returns (asks_inside globals locals e) → ExpressionFits scope (shape_of globals locals e)
      shape-fits (ast.Literal value) h = tt
      shape-fits (ast.Truth value) h = tt
      shape-fits (ast.Variable name) h = value-fits (binding_of globals locals name.text) name.place h.0 (there name.text)
      shape-fits (ast.ArrayElement array index) h =
          (indexes-fit 1 (binding_of globals locals array.text) h.0 (there array.text), expression-fits index (Some types.Int) h.1)
      shape-fits (ast.GridElement array row column) h =
          let rows = asks_of globals locals (Some types.Int) row in
          let columns = asks_of globals locals (Some types.Int) column in (
            indexes-fit 2 (binding_of globals locals array.text) h.0 (there array.text),
            expression-fits row (Some types.Int) (all-front (AskClean globals locals returns) rows columns h.1),
            expression-fits column (Some types.Int) (all-back (AskClean globals locals returns) rows columns h.1),
          )
      shape-fits (ast.CallValue method args) h =
          let taken = call-taken method.text args true h.0 in
          (taken.0, taken.1 refl, arguments-fit args h.1)
      shape-fits (ast.Negative operand) h = expression-fits operand (Some types.Int) h
      shape-fits (ast.Negation operand) h = expression-fits operand (Some types.Boolean) h
      shape-fits (ast.Binary op left right place) h =
          let lefts = asks_of globals locals (left_need op) left in
          let rights = asks_of globals locals (right_need op (type_of globals locals left)) right in (
            expression-fits left (left_need op) (all-front (AskClean globals locals returns) lefts rights h),
            expression-fits right (right_need op (type_of globals locals left)) (all-back (AskClean globals locals returns) lefts rights h),
          )

      pub arguments-fit : (es : ast.Arguments) → AsksClean globals locals returns (asks_of_all globals locals es)
          → ArgumentsFit scope (arguments_of globals locals es)
      arguments-fit ast.no_more h = tt
      arguments-fit (ast.argument first others) h =
          let one = asks_of globals locals (Some types.Int) first in
          let more = asks_of_all globals locals others in (
            expression-fits first (Some types.Int) (all-front (AskClean globals locals returns) one more h),
            arguments-fit others (all-back (AskClean globals locals returns) one more h),
          )
