-- The causes of the resolver's errors.
use Rattle.twe_ast.specs.declared.item.Ast.{Ast}
use Rattle.name_check.specs.FailsName.{IsFirstNameFailure}
use Rattle.twe_names.specs.declared.fail.NameFail.{NameFail}
use Rattle.twe_names.specs.declared.fail.NameFail.TheVariants.{Names, OutOfMemory}

-- the cause of an error: the first failure; nothing is said of want of memory
abbrev pub ResolveHasCause : Ast → NameFail → Type 0
ResolveHasCause ast (Names rule place) = IsFirstNameFailure ast rule place
ResolveHasCause ast (OutOfMemory memory) = Unit {0}
