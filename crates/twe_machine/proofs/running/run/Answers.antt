use Rattle.seg_meaning.proofs.Results.{if_ok_map}
use Rattle.machine_state.proofs.tasks.OneSegment.{run_settled, run_settles}
use Rattle.machine_state.proofs.lists.Places.{below_there}
use Rattle.twe_machine.proofs.running.run.Goals as goal

-- what the segment leaves may be settled
pub settle-requires : goal.settle-requires
settle-requires c =
    let row = below_there c.args.st.now.tasks c.args.t c.requires.there in
    run_settles c.args.p.now c.args.lim c.args.st.now c.args.t row.0 c.take_ready-frame.new.rows c.take_ready-frame.result c.run_segment_over_list.new.frame c.in_ok-stop.stop c.run_segment_over_list.new.cells
    row.1 (c.take_ready-frame.ensures.rows row.0 row.1) (c.take_ready-frame.ensures.frame row.0 row.1) c.in_ok-stop.ensures.segment c.requires.settles

-- and its settling is the move
pub returns : goal.returns
returns c =
    let row = below_there c.args.st.now.tasks c.args.t c.requires.there in
    if_ok_map c.settle.result
    (λ end settled. run_settled c.args.p.now c.args.lim c.args.st.now c.args.t row.0 c.take_ready-frame.new.rows c.take_ready-frame.result c.run_segment_over_list.new.frame c.in_ok-stop.stop c.run_segment_over_list.new.cells (c.settle.new.st, end)
    row.1 (c.take_ready-frame.ensures.rows row.0 row.1) (c.take_ready-frame.ensures.frame row.0 row.1) c.in_ok-stop.ensures.segment settled)
    c.settle.ensures
