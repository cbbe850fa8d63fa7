use Rattle.std.proofs.Common.{subst}
use Rattle.twe_program.specs.Program.{Program}
use Rattle.twe_program.specs.WellFormed.{IsWellFormed}
use Rattle.seg_meaning.proofs.Accesses.{may_carry_out}
use Rattle.seg_meaning.proofs.PlainLists.{plain_length, plain_segment}
use Rattle.seg_meaning.proofs.Results.{if_ok_map}
use Rattle.seg_exec.proofs.segment.run_segment_over_list.Goals as goal

pub run_segment-requires : goal.run_segment-requires
run_segment-requires c =
    let well : IsWellFormed c.args.p.now = subst (λ (p : Program). IsWellFormed p) c.p.view_is c.p.invariant in
    may_carry_out c.args.p.now well c.args.cells.now c.requires c.args.frame.now

pub returns-clause-segment : goal.returns-clause-segment
returns-clause-segment c =
    if_ok_map c.run_segment.result (λ stop done. plain_segment c.args.p.now c.args.frame.now c.run_segment.new.frame c.args.cells.now c.run_segment.new.cells stop done) c.run_segment.ensures.segment

pub returns-clause-cells : goal.returns-clause-cells
returns-clause-cells c =
    if_ok_map c.run_segment.result (λ stop done. plain_length c.args.p.now c.args.frame.now c.run_segment.new.frame c.args.cells.now c.run_segment.new.cells stop done) c.run_segment.ensures.segment
