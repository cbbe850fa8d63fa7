use Rattle.std.proofs.Common.{List, arith, subst, ap, length, get_or, ◌∙◌, ◌≡◌, ◌<◌}
use Rattle.std.specs.Prelude.{Contains, option_copied}
use Rattle.std.proofs.lemmas.List.{length-set, map-set}
use Rattle.seg_journal.specs.inner.Placing.{lying}
use Rattle.seg_journal.specs.declared.numbered.NumberedEntry.{NumberedEntry}
use Rattle.seg_journal.proofs.Slots.{entry_placed, item_in}
use Rattle.seg_journal.proofs.merging.place.Goals as goal

pub set-requires : goal.set-requires
set-requires c =
    let items = c.as_slice-e-items.result.now in
    let here : Contains items c.e-item.result = item_in items c.loop-e.e-index c.e-item.result c.loop-e-test.true c.e-item.is in
    let has : Contains c.args.part.now c.e-item.result = subst (λ (l : List NumberedEntry). Contains l c.e-item.result) c.as_slice-e-items.ensures here in
    let within = c.requires c.e-item.result has in
    omega (arith, within, c.loop-e.invariant.size)

pub loop-e-preserved : goal.loop-e-preserved
loop-e-preserved c = record {
  size = ap length c.set.ensures ∙ (length-set c.loop-e.slots _ _ ∙ c.loop-e.invariant.size);
  placed = entry_placed c.args.part.now c.loop-e.e-index c.e-item.result c.loop-e.slots c.set.new.self _
      (subst (λ (l : List NumberedEntry). c.loop-e.e-index < length l) c.as_slice-e-items.ensures c.loop-e-test.true)
      (subst (λ (l : List NumberedEntry). c.e-item.result ≡ get_or l c.loop-e.e-index c.e-item.result) c.as_slice-e-items.ensures c.e-item.is)
      (ap lying c.set.ensures ∙ map-set option_copied c.loop-e.slots _ _) c.loop-e.invariant.placed;
}
