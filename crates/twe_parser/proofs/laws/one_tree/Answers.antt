use Rattle.std.proofs.Common.{◌≡◌, List, [], Option, None, Some, sym, ap, ◌∙◌}
use Rattle.twe_ast.specs.declared.item.Item.{Item}
use Rattle.twe_parser.specs.declared.value_stacks.ValueStacks.{ValueStacks}
use Rattle.twe_parser.proofs.CompleteItems.{items_taken, only_items}
use Rattle.twe_parser.proofs.laws.one_tree.Goals as goal

items_in : Option ValueStacks → List Item
items_in None = []
items_in (Some values) = values.items

-- the machine comes to both
pub returns : goal.returns
unfolding items_in
returns c tokens tree other writes writes_other =
    let same : ◌≡◌ {A = Option ValueStacks} (Some (only_items tree.items)) (Some (only_items other.items)) = sym (items_taken writes []) ∙ items_taken writes_other [] in ap items_in same
