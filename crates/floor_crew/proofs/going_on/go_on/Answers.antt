use Rattle.std.proofs.Common.{◌<◌, ◌≤◌, length, rules, arith, subst}
use Rattle.std.proofs.lemmas.Result.{IfOk-weaker}
use mathlib.Core.List.{IsPrefix}
use Rattle.machine_state.specs.declared.ending.Outcome.TheVariants.{Unfinished}
use Rattle.machine_state.specs.declared.state.State.{State}
use Rattle.machine_state.specs.Runs.{IsOutcome}
use Rattle.twe_rounds.proofs.Beginnings.{prefix_trans}
use Rattle.floor_crew.specs.declared.at_rest.RunAtRest.{RunAtRest}
use Rattle.floor_crew.specs.inner.GoingOn.{HasGoneOn}
use Rattle.floor_crew.proofs.GoingOn.{prefix_length, stands_still}
use Rattle.floor_crew.proofs.going_on.go_on.Goals as goal

-- the run has not gone on, and cannot
pub returns-then-not-branch-clause-longer : goal.returns-then-not-branch-clause-longer
returns-then-not-branch-clause-longer g c = λ unfinished.
    let old = c.args.run in
    let first = c.in_ok-run.run' in
    let short : length first.rest.journal ≤ length old.rest.journal = search rules in
    let still = stands_still c.args.setup.now.p.now c.args.setup.now.lim old first c.requires.sound c.in_ok-run.ensures.gone short in
    absurd (c.in_ok-take_lowest.ensures.still c.if-not-branch.true (subst (λ (st : State). IsOutcome st Unfinished) still unfinished))

-- the run has gone on, has made the lowest move, and has gone on from there
pub returns-clause-begins : goal.returns-clause-begins
returns-clause-begins g c =
    let old = c.args.run in
    let first = c.in_ok-run.run' in
    let moved = c.take_lowest.new.run in
    let begins = prefix_trans old.rest.journal first.rest.journal moved.rest.journal c.in_ok-run.ensures.gone.begins c.in_ok-take_lowest.ensures.gone.begins in
    IfOk-weaker c.go_on_from-2.result (HasGoneOn c.args.setup.now.p.now c.args.setup.now.lim moved.rest.journal) (λ (after : RunAtRest). IsPrefix old.rest.journal after.rest.journal)
    (λ after gone. prefix_trans old.rest.journal moved.rest.journal after.rest.journal begins gone.begins) c.go_on_from-2.ensures.gone

pub returns-clause-longer : goal.returns-clause-longer
returns-clause-longer g c =
    let old = c.args.run in
    let first = c.in_ok-run.run' in
    let moved = c.take_lowest.new.run in
    let more = c.in_ok-take_lowest.ensures.moved c.if-not-branch.false in
    let least = prefix_length old.rest.journal first.rest.journal c.in_ok-run.ensures.gone.begins in
    IfOk-weaker c.go_on_from-2.result (HasGoneOn c.args.setup.now.p.now c.args.setup.now.lim moved.rest.journal)
    (λ (after : RunAtRest). IsOutcome old.rest.state Unfinished → length old.rest.journal < length after.rest.journal)
    (λ after gone unfinished. let most = prefix_length moved.rest.journal after.rest.journal gone.begins in omega (arith, more, least, most)) c.go_on_from-2.ensures.gone
