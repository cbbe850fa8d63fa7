use Rattle.std.proofs.Common.{◌≡◌, Some, sym, subst}
use Rattle.std.specs.Prelude.{slice_get}
use Rattle.machine_state.proofs.lists.Places.{got_one}
use Rattle.reduction_laws.specs.Enough.{IsEnough}
use Rattle.all_runs.specs.declared.found.FoundRun.{FoundRun}
use Rattle.all_runs.proofs.exploring.Exploration.choice_at.Goals as goal

pub choice_in-requires : goal.choice_in-requires
choice_in-requires c =
    let run = c.in-Some.run'.now in
    let can = c.requires.found.1.going_runs c.args.at run (sym c.in-Some.ensures) in
    (c.requires.found.0, record { journal = run.journal; legal = can.is_run.legal; same = can.is_run.same })
