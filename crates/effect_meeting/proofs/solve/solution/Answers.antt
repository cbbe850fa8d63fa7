use Rattle.std.proofs.lemmas.Result.{IfOk-weaker}
use Rattle.std.specs.Prelude.{IfNone, IfSome}
use Rattle.effect_meeting.specs.Solutions.{AreSolvedBy, NeverHold}
use Rattle.effect_meeting.proofs.Solutions.{never-if, solved-if}
use Rattle.effect_meeting.proofs.solve.solution.Goals as goal

-- the steps that were found solve the equalities
pub returns-clause-found : goal.returns-clause-found
returns-clause-found c =
    let es = c.args.equalities.now in
    IfOk-weaker c.steps_for.result _ (λ found. IfSome found (AreSolvedBy es)) (solved-if es) c.steps_for.ensures

-- where there are none, nothing solves them
pub returns-clause-none : goal.returns-clause-none
returns-clause-none c =
    let es = c.args.equalities.now in
    IfOk-weaker c.steps_for.result _ (λ found. IfNone found (NeverHold es)) (never-if es) c.steps_for.ensures
