use Rattle.std.proofs.Common.{subst}
use Rattle.twe_base.specs.Limits.{Bounds, IsWithin}
use Rattle.twe_program.specs.WellFormed.{IsWellFormed}
use Rattle.all_runs.proofs.ends.find_ends.Goals as goal

-- each move was taken
pub returns-clause-all : goal.returns-clause-all
returns-clause-all c whole =
    let p = c.args.p.now in
    let found = c.explore-extent.new.self in
    c.closed_explorations_show_all_runs.ensures p c.args.lim found.going found.ended (subst IsWellFormed c.p.view_is c.p.invariant) c.requires (subst (λ (b : Bounds). IsWithin b.fuel b.tasks) c.lim.view_is c.lim.invariant) c.explore-extent.ensures.explored
    (c.explore-extent.ensures.closed whole)
