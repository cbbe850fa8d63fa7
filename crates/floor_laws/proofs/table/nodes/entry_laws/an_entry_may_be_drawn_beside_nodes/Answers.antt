use Rattle.floor_laws.proofs.table.nodes.Entries.{draw_tree_entry}
use Rattle.floor_laws.specs.table.nodes.Layout.{tree_slot_count}
use Rattle.floor_laws.proofs.table.nodes.entry_laws.an_entry_may_be_drawn_beside_nodes.Goals as goal

pub returns : goal.returns
returns c nodes p lim id t v mine turn frame stop = draw_tree_entry nodes p lim (tree_slot_count nodes lim) id t v mine turn frame stop
