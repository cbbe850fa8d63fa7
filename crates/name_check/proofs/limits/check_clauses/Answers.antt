use Rattle.std.proofs.Common.{sym, ap, ◌∙◌}
use Rattle.name_check.specs.inner.First.{first_from}
use Rattle.name_check.specs.OtherFailures.{paths_failures}
use Rattle.name_check.proofs.PathsOver.{clauses_reported}
use Rattle.name_check.proofs.limits.check_clauses.Goals as goal

pub loop-clause-preserved : goal.loop-clause-preserved
loop-clause-preserved c =
    clauses_reported c.args.clauses.now c.loop-clause.clause-index c.clause-item.result c.loop-clause-test.true (sym c.clause-item.is) c.loop-clause.first c.check_paths.new.first _
    (c.check_paths.ensures ∙ ap (λ xs. first_from c.loop-clause.first (paths_failures xs)) c.as_slice.ensures) c.loop-clause.invariant
