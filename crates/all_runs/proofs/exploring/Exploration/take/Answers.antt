use Rattle.std.proofs.Common.{◌≡◌, sym, ap, subst, ◌∙◌}
use Rattle.std.specs.Prelude.{slice_get}
use Rattle.machine_state.specs.declared.state.State.{State}
use Rattle.machine_state.specs.Moves.{move_result}
use Rattle.machine_state.proofs.lists.Places.{got_one}
use Rattle.all_runs.specs.declared.found.FoundRun.{FoundRun}
use Rattle.all_runs.specs.Explored.{IsKnown}
use Rattle.all_runs.proofs.Growing.{if_ok}
use Rattle.all_runs.proofs.exploring.Exploration.take.Goals as goal

pub may-requires : goal.may-requires
may-requires c =
    let run = c.in-Some.run'.now in
    let can = c.requires.found.going_runs c.args.at run (sym c.in-Some.ensures) in
    (c.args.lim, record { journal = run.journal; legal = can.is_run.legal; same = can.is_run.same })

pub with_move-requires-clause-goes_on : goal.with_move-requires-clause-goes_on
with_move-requires-clause-goes_on c = c.requires.found.going_runs c.args.at c.in-Some.run'.now (sym c.in-Some.ensures)

pub returns-clause-taken : goal.returns-clause-taken
returns-clause-taken c =
    let p = c.args.p.now in
    let lim = c.args.lim in
    let known : State → Type 0 = λ (st : State). IsKnown c.add.new.self.going c.add.new.self.ended st in
    if_ok c.add.result
    (λ (is : known c.in_ok-next.next.state). λ run there may.
    let same : c.in-Some.run'.now ≡ run = got_one (slice_get c.args.self.now.going c.args.at) (sym c.in-Some.ensures) there in
    subst known (c.in_ok-next.ensures.state ∙ ap (λ (r : FoundRun). (move_result p lim r.state c.args.mv).0) same) is)
    c.add.ensures.known
