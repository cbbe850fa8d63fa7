use Rattle.std.proofs.Common.{◌≡◌, ◌++◌, [], drop}
use Rattle.name_check.specs.BodyScope.{params_from}
use Rattle.name_check.specs.Sites.{sites_of_params}
use Rattle.name_check.specs.inner.Failures.{first_of_sites}
use Rattle.name_check.proofs.check_decl.check_params.Given as goal

-- the parameters so far and those that are left are all of them
abbrev pub invariant-loop-name : goal.invariant-loop-name
invariant-loop-name l = record {
  params : l.locals ++ params_from l.number (drop l.name-index l.name-items) ≡ params_from 0 l.decl.params;
  reported : first_of_sites l.globals l.first (sites_of_params l.decl.returns l.locals l.number (drop l.name-index l.name-items))
      ≡ first_of_sites l.globals l.fn.first (sites_of_params l.decl.returns [] 0 l.decl.params);
  count : l.number ≡ l.name-index;
}
