-- The failures at the places at which a text needs something, and the first of them.
use Rattle.std.specs.Prelude.{◌==◌, Bool, true, false, not, List, [], ◌∷◌, ◌++◌, Option, None, Some, is_some}
use Rattle.twe_base.specs.declared.place.Place.{Place}
use Rattle.twe_ast.specs.declared.item.ReturnType.{ReturnType}
use Rattle.twe_ast.specs.declared.item.ReturnType.TheVariants as return_types
use Rattle.twe_ast.specs.declared.stmt.LocalType.{LocalType}
use Rattle.name_check.specs.declared.rule.NRule.TheVariants.{N1, N2, N3, N4, N6}
use Rattle.name_check.specs.FailsName.{NameFailure}
use Rattle.name_check.specs.declared.binding.NameUse.{NameUse}
use Rattle.name_check.specs.declared.binding.NameUse.TheVariants as name_use
use Rattle.name_check.specs.declared.binding.Global.TheVariants as global_kinds
use Rattle.name_check.specs.declared.binding.Local.TheVariants as local_kinds
use Rattle.name_check.specs.declared.binding.Binding.{Binding}
use Rattle.name_check.specs.declared.binding.Binding.TheVariants as bindings
use Rattle.name_check.specs.declared.names.GlobalName.{GlobalName}
use Rattle.name_check.specs.declared.scope.LocalName.{LocalName}
use Rattle.name_check.specs.Names.{binding_of}
use Rattle.name_check.specs.Types.{same_type, type_of}
use Rattle.name_check.specs.Asks.{Ask, uses, needs, declares, returns_value, returns_nothing, place_of}
use Rattle.name_check.specs.Sites.{Site}
use Rattle.name_check.specs.FailsName.{binding_as, fits}
use Rattle.twe_base.specs.First.{failure_if}
use Rattle.name_check.specs.inner.First.{first_from}

-- a value is needed of a method or a task that returns nothing
abbrev pub lacks_value : NameUse → Binding → Bool
lacks_value (name_use.Method args true) (bindings.Global (global_kinds.Method number params return_types.Void)) = true
lacks_value (name_use.Future join true) (bindings.Local (local_kinds.Future number spawned true)) = true
lacks_value _ _ = false

-- a method or a task is given another number of arguments than it has parameters
abbrev pub has_other_count : NameUse → Binding → Bool
has_other_count (name_use.Method args valued) (bindings.Global (global_kinds.Method number params returns)) = not (params == args)
has_other_count (name_use.Task args) (bindings.Global (global_kinds.Task number params returns)) = not (params == args)
has_other_count _ _ = false

-- a parameter or a `final` local is assigned
abbrev pub assigns_constant : NameUse → Binding → Bool
assigns_constant name_use.Target (bindings.Local (local_kinds.Variable number local_type constant)) = constant
assigns_constant _ _ = false

-- the failures of the use of a name with this binding
abbrev pub failures_of_use : NameUse → Option Binding → Place → List NameFailure
failures_of_use asks None place = failure_if true N1 place
failures_of_use asks (Some other) place =
    failure_if (not (fits asks other)) N3 place
    ++ (failure_if (lacks_value asks other) N3 place
    ++ (failure_if (has_other_count asks other) N4 place ++ failure_if (assigns_constant asks other) N6 place))

-- there is a type, and it is not the one that is needed
abbrev pub differs : LocalType → Option LocalType → Bool
differs type None = false
differs type (Some other) = not (same_type (Some type) (Some other))

-- the failure of an expression of which this type is needed, if one is
abbrev pub failures_of_need : Option LocalType → Option LocalType → Place → List NameFailure
failures_of_need None found place = []
failures_of_need (Some type) found place = failure_if (differs type found) N3 place

-- the failures of what is needed, except for what is returned
abbrev pub failures_here : List GlobalName → List LocalName → Ask → List NameFailure
failures_here globals locals (uses name asks) = failures_of_use asks (binding_as globals locals asks name.text) name.place
failures_here globals locals (needs type value) = failures_of_need (Some type) (type_of globals locals value) (place_of value)
failures_here globals locals (declares name) = failure_if (is_some (binding_of globals locals name.text)) N2 name.place
failures_here globals locals (returns_value place) = []
failures_here globals locals (returns_nothing place) = []

-- the first of the failure so far, if there is one, and all failures of these needs
abbrev pub first_of_asks : List GlobalName → List LocalName → Option NameFailure → List Ask → Option NameFailure
first_of_asks globals locals first [] = first
first_of_asks globals locals first (ask ∷ asks) =
    first_of_asks globals locals (first_from first (failures_here globals locals ask)) asks

-- the declaration returns nothing
abbrev pub is_void : ReturnType → Bool
is_void return_types.Void = true
is_void return_types.Int = false

-- the failures of what is needed in a declaration that returns this
abbrev pub failures_by : List GlobalName → List LocalName → ReturnType → Ask → List NameFailure
failures_by globals locals returns (uses name asks) = failures_here globals locals (uses name asks)
failures_by globals locals returns (needs type value) = failures_here globals locals (needs type value)
failures_by globals locals returns (declares name) = failures_here globals locals (declares name)
failures_by globals locals returns (returns_value place) = failure_if (is_void returns) N3 place
failures_by globals locals returns (returns_nothing place) = failure_if (not (is_void returns)) N3 place

-- the failures of what is needed at a site
abbrev pub failures_at : List GlobalName → Site → List NameFailure
failures_at globals site = failures_by globals site.locals site.returns site.ask

-- the first of the failure so far, if there is one, and all failures at these sites
abbrev pub first_of_sites : List GlobalName → Option NameFailure → List Site → Option NameFailure
first_of_sites globals first [] = first
first_of_sites globals first (site ∷ sites) = first_of_sites globals (first_from first (failures_at globals site)) sites
