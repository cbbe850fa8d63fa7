use Rattle.std.proofs.Common.{length, ap, ◌∙◌}
use Rattle.seg_journal.proofs.Slots.{all_placed, collected, lying_length, part_placed, part_within}
use Rattle.seg_journal.specs.inner.Placing.{lying}
use Rattle.seg_journal.proofs.merging.merge.Goals as goal

pub place-requires : goal.place-requires
place-requires c =
    part_within c.args.parts.now c.loop-part.part-index c.part-item.result (length c.loop-part.slots) c.requires c.loop-part-test.true c.part-item.is c.loop-part.invariant.size

pub loop-part-preserved : goal.loop-part-preserved
loop-part-preserved c = record {
  size = c.place.ensures.size ∙ c.loop-part.invariant.size;
  placed = part_placed c.args.parts.now c.loop-part.part-index c.part-item.result (lying c.loop-part.slots) (lying c.place.new.slots) _ c.loop-part-test.true c.part-item.is c.place.ensures.placed c.loop-part.invariant.placed;
}

pub returns : goal.returns
returns c =
    collected c.collect.result c.args.parts.now (lying c.as_slice.result.now) (lying c.in_ok-slots.slots) c.requires (lying_length c.in_ok-slots.slots ∙ c.in_ok-slots.ensures)
    (ap lying c.as_slice.ensures ∙ all_placed c.args.parts.now c.loop-part.part-index (lying c.loop-part.slots) _ c.loop-part-test.false c.loop-part.invariant.placed)
    c.collect.ensures.journal
    c.collect.ensures.prints
