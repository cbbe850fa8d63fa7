use Rattle.std.proofs.Common.{subst, arith}
use Rattle.twe_base.specs.Limits.{Bounds, IsWithin}
use Rattle.twe_program.specs.WellFormed.{IsWellFormed}
use Rattle.machine_state.proofs.standing.ReachedStands.{reached_stands}
use Rattle.machine_state.proofs.standing.SettlesNext.{may_settle}
use Rattle.span_profile.proofs.profiling.advance.Goals as goal

pub run-requires-clause-cells : goal.run-requires-clause-cells
run-requires-clause-cells c = (reached_stands c.args.p.now c.args.lim c.args.st.now (subst IsWellFormed c.p.view_is c.p.invariant) c.requires.reached).cells

pub run-requires-clause-settles : goal.run-requires-clause-settles
run-requires-clause-settles c =
    λ row here.
    let within = subst (λ (lim : Bounds). IsWithin lim.fuel lim.tasks) c.lim.view_is c.lim.invariant in
    may_settle c.args.p.now c.args.lim c.args.st.now c.args.mv.task row (subst IsWellFormed c.p.view_is c.p.invariant) within c.requires.reached here

-- a frame has no more fuel than the limit, and nothing printed that the run does not have
pub run-requires-clause-fuel : goal.run-requires-clause-fuel
run-requires-clause-fuel c =
    λ row here.
    let within = subst (λ (lim : Bounds). IsWithin lim.fuel lim.tasks) c.lim.view_is c.lim.invariant in
    let stands = reached_stands c.args.p.now c.args.lim c.args.st.now (subst IsWellFormed c.p.view_is c.p.invariant) c.requires.reached in
    let most = (stands.rows c.args.mv.task row here).frame.fuel in
    omega (arith, most, within.fuel_most)

pub run-requires-clause-prints : goal.run-requires-clause-prints
run-requires-clause-prints c =
    λ row here.
    let stands = reached_stands c.args.p.now c.args.lim c.args.st.now (subst IsWellFormed c.p.view_is c.p.invariant) c.requires.reached in
    (stands.rows c.args.mv.task row here).prints
