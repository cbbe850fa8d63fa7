-- The outcome of checking the names of a tree.
use Rattle.std.specs.Prelude.{◌≡◌}
use Rattle.twe_base.specs.declared.place.Place.{Place}
use Rattle.twe_ast.specs.declared.item.Ast.{Ast}
use Rattle.name_check.specs.declared.rule.NRule.{NRule}
use Rattle.name_check.specs.declared.whole.CheckedNames.{CheckedNames}
use Rattle.name_check.specs.declared.whole.CheckedNames.TheVariants.{Accepted, Refused}
use Rattle.name_check.specs.FailsName.{FailsName, IsFirstNameFailure}
use Rattle.name_check.specs.Names.{globals_of}

-- no rule of names fails and these are the global names, or this is the first failure
abbrev pub IsCheckOf : Ast → CheckedNames → Type 0
IsCheckOf ast (Accepted globals) = (globals ≡ globals_of ast) × ((rule : NRule) (place : Place) → ¬ FailsName ast rule place)
IsCheckOf ast (Refused failure) = IsFirstNameFailure ast failure.rule failure.place
