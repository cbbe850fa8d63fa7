-- What a table with nodes says that was closed at a quiet point.
use Rattle.std.specs.Prelude.{◌≡◌, ℕ, List, Option, length, map, take}
use Rattle.region_paths.specs.declared.elements.Elem.{Elem}
use Rattle.twe_base.specs.Limits.{Bounds}
use Rattle.twe_program.specs.Program.{Program}
use Rattle.floor_laws.specs.declared.rule.view.TaskSlot.{TaskSlot}
use Rattle.floor_laws.specs.table.Layout.{word_count}
use Rattle.floor_laws.specs.table.Shown.{EndedQuiet}
use Rattle.floor_laws.specs.declared.table.nodes.slot.TreeSlot.{TreeSlot}
use Rattle.floor_laws.specs.declared.table.nodes.slot.TreeSlot.TheVariants as kinds
use Rattle.floor_laws.specs.declared.table.nodes.view.TreeView.{TreeView}
use Rattle.floor_laws.specs.table.nodes.Layout.{tree_slot_count, tree_word_count}

-- The table has the words and slots of the program, the limits and the nodes. The first slots are those of these tasks. With the
-- words of the floor they show what the words and slots of a table of the floor do that was closed so: the journal and its state.
pub record EndedBesideNodes (nodes : List (List Elem)) (p : Program) (lim : Bounds) (v : TreeView) (words : List ℕ)
    (slots : List TreeSlot) : Type 0 where
  pub all_words : length words ≡ tree_word_count nodes p lim
  pub all_slots : length slots ≡ tree_slot_count nodes lim
  pub tasks : List (Option TaskSlot)
  pub task_slots : take lim.tasks slots ≡ map kinds.Task tasks
  pub floor : EndedQuiet p lim v.floor (take (word_count p lim) words) tasks
