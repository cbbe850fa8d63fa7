use Rattle.std.proofs.Common.{sym}
use Rattle.all_runs.proofs.Successors.{faultless}
use Rattle.all_runs.proofs.exploring.Exploration.is_seen.Goals as goal

pub are_alike-requires : goal.are_alike-requires
are_alike-requires c =
    let r = c.requires in
    (r.0, r.1, faultless r.0 r.1 c.in-Some.run'.now r.2.well (r.3.going_runs _ c.in-Some.run'.now (sym c.in-Some.ensures)), r.2)
