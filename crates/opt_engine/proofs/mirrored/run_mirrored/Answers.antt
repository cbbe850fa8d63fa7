use Rattle.std.proofs.Common.{subst}
use Rattle.twe_base.specs.Limits.{Bounds, IsWithin}
use Rattle.twe_program.specs.WellFormed.{IsWellFormed}
use Rattle.seg_meaning.proofs.Results.{if_ok_map}
use Rattle.machine_state.proofs.standing.ReachedStands.{reached_stands}
use Rattle.machine_state.proofs.standing.SettlesNext.{may_settle}
use Rattle.machine_state.proofs.tasks.OneSegment.{run_settled, run_settles}
use Rattle.opt_engine.proofs.mirrored.run_mirrored.Goals as goal

-- there are as many values as cells
pub run_on-requires : goal.run_on-requires
run_on-requires c = (reached_stands c.args.p.now c.args.lim c.args.st.now (subst IsWellFormed c.p.view_is c.p.invariant) c.requires.reached).cells

-- what the segment leaves may be settled
pub settle-requires : goal.settle-requires
settle-requires c =
    let row = c.requires.may.0 in
    let within = subst (λ (lim : Bounds). IsWithin lim.fuel lim.tasks) c.lim.view_is c.lim.invariant in
    run_settles c.args.p.now c.args.lim c.args.st.now c.args.t row.0 c.take_ready-frame.new.rows c.take_ready-frame.result c.run_on.new.frame c.in_ok-stop.stop c.run_on.new.cells
    row.1 (c.take_ready-frame.ensures.rows row.0 row.1) (c.take_ready-frame.ensures.frame row.0 row.1) c.in_ok-stop.ensures
    (λ one here. may_settle c.args.p.now c.args.lim c.args.st.now c.args.t one (subst IsWellFormed c.p.view_is c.p.invariant) within c.requires.reached here)

-- and its settling is the move
pub returns : goal.returns
returns c =
    let row = c.requires.may.0 in
    if_ok_map c.settle.result
    (λ end settled. run_settled c.args.p.now c.args.lim c.args.st.now c.args.t row.0 c.take_ready-frame.new.rows c.take_ready-frame.result c.run_on.new.frame c.in_ok-stop.stop c.run_on.new.cells (c.settle.new.st, end)
    row.1 (c.take_ready-frame.ensures.rows row.0 row.1) (c.take_ready-frame.ensures.frame row.0 row.1) c.in_ok-stop.ensures settled)
    c.settle.ensures
