use Rattle.std.proofs.Common.{◌<◌, ◌≤◌, length, subst, arith}
use Rattle.std.proofs.lemmas.Option.{slice_get_within}
use Rattle.seg_journal.specs.declared.moves.Kind.TheVariants.{Admit}
use Rattle.machine_state.specs.declared.why.Why.{Why}
use Rattle.machine_state.specs.Legal.{Forbids}
use Rattle.opt_engine.proofs.judging.holder.Goals as goal

-- a task that there is not waits for nothing
pub returns-in-Err-NoTask-clause-none : goal.returns-in-Err-NoTask-clause-none
returns-in-Err-NoTask-clause-none c =
    λ made.
    let st = c.args.st.now in
    let past : length st.tasks ≤ c.args.t = subst (λ (w : Why). Forbids st Admit c.args.t w) c.in-Err-NoTask.field-0-is c.in-Err-NoTask.ensures.why in
    let there : c.args.t < length st.tasks = slice_get_within st.tasks c.args.t made.0 made.1 in
    absurd (omega arith)
