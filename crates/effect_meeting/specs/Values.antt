-- The parameters that stand in paths, with their values.
use Rattle.std.specs.Prelude.{ℕ, Bool, false, ◌==◌, ◌||◌, List, map}
use Rattle.std.specs.List.{filter, list_any, range_with_len}
use Rattle.region_paths.specs.declared.elements.Elem.{Elem}
use Rattle.region_paths.specs.declared.elements.Elem.TheVariants.{Name, Index, Var, AnyIndex}
use Rattle.region_paths.specs.Written.{WrittenPath}
use Rattle.region_paths.specs.Filled.{Valuation}
use Rattle.effect_meeting.specs.declared.values.ParamValue.{ParamValue}

-- the element is this variable
abbrev pub is_variable : ℕ → Elem → Bool
is_variable number (Name n) = false
is_variable number (Index i) = false
is_variable number (Var k) = k == number
is_variable number AnyIndex = false

-- the variable is one of the elements of the path, before its star or after it
abbrev pub has_variable : ℕ → WrittenPath → Bool
has_variable number p = list_any (is_variable number) p.elems || list_any (is_variable number) p.tail

-- a parameter and its value
abbrev pub param_with_value : Valuation → ℕ → ParamValue
param_with_value v number = record { param = number; value = v number }

-- The parameters that stand in one of the paths, in their order, each with its value. The parameters are the first variables, as
-- many as are shared; a local has no value here.
abbrev pub values_in : ℕ → WrittenPath → WrittenPath → Valuation → List ParamValue
values_in shared p q v =
    filter (λ (given : ParamValue). has_variable given.param p || has_variable given.param q)
    (map (param_with_value v) (range_with_len 0 shared))
