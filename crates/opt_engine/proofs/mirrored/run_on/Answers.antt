use Rattle.std.proofs.Common.{ℤ, List, sym, ◌∙◌, subst}
use Rattle.twe_program.specs.Program.{Program}
use Rattle.twe_program.specs.WellFormed.{IsWellFormed}
use Rattle.seg_meaning.specs.Plain.{ListFollows, list_ways}
use Rattle.seg_meaning.specs.Segment.{CarriesOut, IsSegment, MayCarryOut}
use Rattle.seg_meaning.proofs.Accesses.{may_carry_out}
use Rattle.seg_meaning.proofs.PlainLists.{plain_segment}
use Rattle.opt_engine.proofs.mirrored.run_on.Goals as goal

-- the segment accesses cells of the program alone
pub run_segment-requires : goal.run_segment-requires
run_segment-requires c =
    let well : IsWellFormed c.args.p.now = subst (λ (p : Program). IsWellFormed p) c.p.view_is c.p.invariant in
    subst (λ (cells : List ℤ). MayCarryOut c.args.p.now list_ways c.args.frame.now cells) (sym (c.new-mirrored.ensures ∙ c.replace.ensures.value))
    (may_carry_out c.args.p.now well c.args.cells.now c.requires c.args.frame.now)

-- and is that over the cells
pub returns : goal.returns
returns c =
    let carried = subst (λ (cells : List ℤ). CarriesOut c.args.p.now ListFollows c.args.frame.now cells c.in_ok-stop.stop c.run_segment.new.frame c.run_segment.new.cells)
    (c.new-mirrored.ensures ∙ c.replace.ensures.value) c.in_ok-stop.ensures.segment in
    let is : IsSegment c.args.p.now c.args.frame.now c.args.cells.now c.in_ok-stop.stop c.run_segment.new.frame c.run_segment.new.cells =
    plain_segment c.args.p.now c.args.frame.now c.run_segment.new.frame c.args.cells.now c.run_segment.new.cells c.in_ok-stop.stop carried in
    (is.0, is.1 ∙ sym c.into_cells.ensures, is.2)
