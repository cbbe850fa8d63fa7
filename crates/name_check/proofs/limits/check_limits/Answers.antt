use Rattle.twe_ast.specs.declared.item.Decl.{Decl}
use Rattle.name_check.specs.declared.rule.NRule.TheVariants.{N5, N7}
use Rattle.name_check.specs.Ends.{close_of}
use Rattle.name_check.specs.Limits.{paths_of}
use Rattle.twe_base.specs.First.{failure_if}
use Rattle.name_check.specs.OtherFailures.{failures_of_place, parameter_over_limit, path_over_limit, clauses_failures, lacks_return}
use Rattle.name_check.proofs.FirstFailures.{first_of_four}
use Rattle.name_check.proofs.limits.check_limits.Goals as goal

pub returns : goal.returns
returns c =
    let decl : Decl = c.args.decl.now in
    let all = first_of_four c.args.first.now (failures_of_place N7 (parameter_over_limit decl.params)) (failures_of_place N7 (path_over_limit (paths_of decl)))
    (clauses_failures decl.effects) (failure_if (lacks_return decl) N5 (close_of decl.body)) in
    cc
