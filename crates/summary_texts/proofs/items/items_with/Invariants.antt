use Rattle.std.proofs.Common.{◌≡◌, ◌++◌, length, drop}
use Rattle.std.specs.Vec.Iter.{into_iter_items, into_iter_len}
use Rattle.summary_texts.specs.Items.{items_with}
use Rattle.summary_texts.proofs.items.items_with.Given as goal

-- the declarations so far, with those of what is left
abbrev pub invariant-loop-item : goal.invariant-loop-item
invariant-loop-item l = record {
  made : l.made ++ items_with l.regions (drop l.at l.each) (into_iter_items l.item-iterator) ≡ items_with l.regions l.each l.fn.items;
  count : into_iter_len l.item-iterator ≡ length (into_iter_items l.item-iterator);
}
