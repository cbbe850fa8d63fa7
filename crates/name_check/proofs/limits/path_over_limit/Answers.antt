use Rattle.std.proofs.Common.{◌≡◌, ◌+◌, ◌-◌, drop, Some, None, arith, sym, ap, ◌∙◌}
use Rattle.std.specs.List.{slice_get}
use Rattle.std.specs.Option.{option_copied}
use Rattle.name_check.proofs.PathsOver.{all_paths, place_at, place_here, place_later, paths_fit}
use Rattle.name_check.proofs.limits.path_over_limit.Goals as goal

pub returns-in-Some : goal.returns-in-Some
returns-in-Some c =
    let got : slice_get c.clause-item.result.paths c.loop-clause.left ≡ Some c.in-Some.path.now = sym c.get.ensures ∙ ap (λ o. option_copied o) c.in-Some.is in
    sym (place_here c.args.clauses.now c.loop-clause.clause-index c.clause-item.result c.loop-clause-test.true (sym c.clause-item.is) c.loop-clause.left c.in-Some.path.now got)
    ∙ c.loop-clause.invariant

pub overflow_sub-left : goal.overflow_sub-left
overflow_sub-left c =
    let none : slice_get c.clause-item.result.paths c.loop-clause.left ≡ None = sym c.get.ensures ∙ ap (λ o. option_copied o) c.in-None.is in
    let fit = paths_fit c.args.clauses.now c.loop-clause.clause-index c.clause-item.result c.loop-clause-test.true (sym c.clause-item.is) c.loop-clause.left none in
    omega arith

pub loop-clause-preserved : goal.loop-clause-preserved
loop-clause-preserved c =
    let none : slice_get c.clause-item.result.paths c.loop-clause.left ≡ None = sym c.get.ensures ∙ ap (λ o. option_copied o) c.in-None.is in
    let later = place_later c.args.clauses.now c.loop-clause.clause-index c.clause-item.result c.loop-clause-test.true (sym c.clause-item.is) c.loop-clause.left none in
    ap (λ n. place_at (all_paths (drop (c.loop-clause.clause-index + 1) c.args.clauses.now)) (c.loop-clause.left - n)) c.len-left.ensures ∙ (sym later ∙ c.loop-clause.invariant)
