use Rattle.std.proofs.Common.{◌∙◌, ◌+◌, ◌∷◌, drop, sym, ap, arith}
use Rattle.std.proofs.lemmas.List.{drop_more}
use Rattle.std.proofs.lemmas.List.Sums.{sum_by-cons}
use Rattle.std.specs.List.{sum_by}
use Rattle.name_check.specs.Size.{size_of_item}
use Rattle.name_causes.specs.Others.{needs_of_item}
use Rattle.name_causes.proofs.Listing.{each_more}
use Rattle.name_causes.proofs.whole.add_items.Goals as goal

-- the item can be counted
pub add_item-requires : goal.add_item-requires
add_item-requires c =
    let items = c.args.items.now in
    let i = c.loop-item.item-index in
    let item = c.item-item.result in
    let next = drop_more items i item c.loop-item-test.true ∙ ap (λ x. x ∷ drop (i + 1) items) (sym c.item-item.is) in
    let sum = ap (sum_by size_of_item) next ∙ sum_by-cons size_of_item item (drop (i + 1) items) in
    omega (arith, sum, c.loop-item.invariant.room)

-- one item more
pub loop-item-preserved : goal.loop-item-preserved
loop-item-preserved c =
    let items = c.args.items.now in
    let i = c.loop-item.item-index in
    let item = c.item-item.result in
    let next = drop_more items i item c.loop-item-test.true ∙ ap (λ x. x ∷ drop (i + 1) items) (sym c.item-item.is) in
    let sum = ap (sum_by size_of_item) next ∙ sum_by-cons size_of_item item (drop (i + 1) items) in
    record {
      listed = each_more items i item c.loop-item-test.true (sym c.item-item.is) c.loop-item.needs c.add_item.new.needs _ (needs_of_item c.args.globals.now)
          c.in_ok-add_item.ensures c.loop-item.invariant.listed;
      room = omega (arith, sum, c.loop-item.invariant.room);
    }
