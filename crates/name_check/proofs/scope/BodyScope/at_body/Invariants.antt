use Rattle.std.proofs.Common.{◌≡◌, ◌++◌, drop}
use Rattle.name_check.specs.BodyScope.{params_from}
use Rattle.name_check.proofs.scope.BodyScope.at_body.Given as goal

-- the parameters so far and those that are left are all of them
abbrev pub invariant-loop-name : goal.invariant-loop-name
invariant-loop-name l = record {
  all : l.locals ++ params_from l.number (drop l.name-index l.name-items) ≡ params_from 0 l.decl.params;
  count : l.number ≡ l.name-index;
}
