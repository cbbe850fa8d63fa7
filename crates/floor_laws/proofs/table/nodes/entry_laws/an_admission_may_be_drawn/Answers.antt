use Rattle.floor_laws.proofs.table.nodes.Admissions.{draw_admission}
use Rattle.floor_laws.specs.table.nodes.Layout.{tree_slot_count}
use Rattle.floor_laws.proofs.table.nodes.entry_laws.an_admission_may_be_drawn.Goals as goal

pub returns : goal.returns
returns c nodes p lim id t v mine turn = draw_admission nodes p lim (tree_slot_count nodes lim) id t v mine turn
