use Rattle.std.proofs.Common.{subst}
use Rattle.twe_base.specs.Limits.{Bounds, IsWithin}
use Rattle.twe_program.specs.WellFormed.{IsWellFormed}
use Rattle.machine_state.proofs.standing.ReachedStands.{reached_stands}
use Rattle.machine_state.proofs.standing.SettlesNext.{may_settle}
use Rattle.twe_machine.proofs.one_move.step.Goals as goal

-- there are as many values as cells
pub run-requires-clause-cells : goal.run-requires-clause-cells
run-requires-clause-cells c = (reached_stands c.args.p.now c.args.lim c.args.st.now (subst IsWellFormed c.p.view_is c.p.invariant) c.requires.reached).cells

-- and what the segment leaves may be settled
pub run-requires-clause-settles : goal.run-requires-clause-settles
run-requires-clause-settles c =
    λ row here.
    let within = subst (λ (lim : Bounds). IsWithin lim.fuel lim.tasks) c.lim.view_is c.lim.invariant in
    may_settle c.args.p.now c.args.lim c.args.st.now c.args.mv.task row (subst IsWellFormed c.p.view_is c.p.invariant) within c.requires.reached here
