-- The first of several failures of rules of names.
use Rattle.std.specs.Prelude.{List, Option}
use Rattle.twe_base.specs.First as failures
use Rattle.name_check.specs.FailsName.{NameFailure, name_rule_number}

-- the first of all, of the first so far and these
abbrev pub first_from : Option NameFailure → List NameFailure → Option NameFailure
first_from first others = failures.first_from name_rule_number first others
