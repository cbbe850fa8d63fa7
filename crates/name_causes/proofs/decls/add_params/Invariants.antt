use Rattle.std.proofs.Common.{◌≡◌, ◌++◌, [], drop}
use Rattle.name_check.specs.BodyScope.{params_from}
use Rattle.name_check.specs.Sites.{sites_of_params}
use Rattle.name_causes.specs.Needs.{needs_at_sites}
use Rattle.name_causes.proofs.decls.add_params.Given as goal

-- the parameters so far and those that are left are all of them
abbrev pub invariant-loop-name : goal.invariant-loop-name
invariant-loop-name l = record {
  params : l.scope.locals ++ params_from l.scope.vars (drop l.name-index l.name-items) ≡ params_from 0 l.decl.params;
  listed : l.needs ++ needs_at_sites l.globals (sites_of_params l.decl.returns l.scope.locals l.scope.vars (drop l.name-index l.name-items))
      ≡ l.fn.needs ++ needs_at_sites l.globals (sites_of_params l.decl.returns [] 0 l.decl.params);
  vars : l.scope.vars ≡ l.name-index;
  points : l.scope.points ≡ 0;
  futures : l.scope.futures ≡ 0;
}
