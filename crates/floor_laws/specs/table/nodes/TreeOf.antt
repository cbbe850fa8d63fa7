-- The floor and the nodes that a table shows.
use Rattle.std.specs.Prelude.{◌==◌, ℕ, List, [], ◌∷◌, Option, None, Some, if◌then◌else◌, map, take}
use mathlib.Core.Option as core
use lib.ListN.{get_elem?}
use Rattle.atomic_table.specs.Table as table
use Rattle.twe_base.specs.Limits.{Bounds}
use Rattle.twe_program.specs.Program.{Program}
use Rattle.floor_laws.specs.declared.rule.view.TaskSlot.{TaskSlot}
use Rattle.floor_laws.specs.rule.Floors.{Floor}
use Rattle.floor_laws.specs.declared.table.view.View.{View}
use Rattle.floor_laws.specs.table.FloorOf.{Table, floor_of}
use Rattle.floor_laws.specs.table.Layout.{word_count}
use Rattle.floor_laws.specs.admission.admission_core.States.{Activity, Record}
use Rattle.floor_laws.specs.rule.nodes.Trees.{Tree, WaitFact}
use Rattle.floor_laws.specs.declared.table.nodes.slot.TreeSlot.{TreeSlot}
use Rattle.floor_laws.specs.declared.table.nodes.slot.TreeSlot.TheVariants as kinds
use Rattle.floor_laws.specs.declared.table.nodes.view.ContentChange.{ContentChange}
use Rattle.floor_laws.specs.declared.table.nodes.view.TreeView.{TreeView}
use Rattle.floor_laws.specs.table.nodes.Layout.{content_place, lock_at, lock_place}

-- a table of the floor with nodes
abbrev pub TreeTable : Type 0
TreeTable = table.State TreeSlot TreeView

-- The floor.

-- what the slot of a task shows; anything else shows nothing
abbrev pub task_home : core.Option TreeSlot → core.Option (Option TaskSlot)
task_home core.none = core.none
task_home (core.some (kinds.Task slot)) = core.some slot
task_home (core.some (kinds.Node records)) = core.none
task_home (core.some (kinds.Errand errand)) = core.none

-- what a seat knows of the floor
abbrev pub floor_view : TreeView → View
floor_view v = v.floor

-- The floor's part of the table is a table of the floor: its words, the slots of the tasks, and what the seats know of the floor.
abbrev pub floor_part : Program → Bounds → TreeTable → Table
floor_part p lim s = record {
  words = take (word_count p lim) s.words;
  homes = map task_home (take lim.tasks s.homes);
  views = map floor_view s.views;
}

-- the floor that a table with nodes shows
abbrev pub floor_shown : Program → Bounds → TreeTable → Floor
floor_shown p lim s = floor_of p (floor_part p lim s)

-- The nodes.

-- a content that was taken out is not there, and beyond the slots of the table none has records
abbrev pub content_at : core.Option (core.Option TreeSlot) → Option (List Record)
content_at core.none = Some []
content_at (core.some core.none) = None
content_at (core.some (core.some (kinds.Task slot))) = None
content_at (core.some (core.some (kinds.Node records))) = Some records
content_at (core.some (core.some (kinds.Errand errand))) = None

-- the latest change of a node's content says whether a worker has it
abbrev pub content_in : List ContentChange → ℕ → Option (List Record)
content_in [] n = None
content_in (change ∷ changes) n = if n == change.node then change.content else content_in changes n

-- What the view of a seat says, if the seat is there.

-- what it does in the tree, if it does something
abbrev pub activity_at : core.Option TreeView → Option Activity
activity_at core.none = None
activity_at (core.some v) = v.activity

-- the content of each node that it holds
abbrev pub kept_at : core.Option TreeView → ℕ → Option (List Record)
kept_at core.none = λ n. None
kept_at (core.some v) = content_in v.kept

-- the records that it has placed
abbrev pub placed_at : core.Option TreeView → List Record
placed_at core.none = []
placed_at (core.some v) = v.placed

-- the records that it has removed
abbrev pub removed_at : core.Option TreeView → List Record
removed_at core.none = []
removed_at (core.some v) = v.removed

-- the records that it has placed since it got their task's turn, and has not removed
abbrev pub fresh_at : core.Option TreeView → List Record
fresh_at core.none = []
fresh_at (core.some v) = v.fresh

-- the records of tasks whose turns it has that it knows not to stand
abbrev pub clear_at : core.Option TreeView → List Record
clear_at core.none = []
clear_at (core.some v) = v.clear

-- the waits that it knows
abbrev pub waits_at : core.Option TreeView → List WaitFact
waits_at core.none = []
waits_at (core.some v) = v.waits

-- the nodes that a table shows: its lock words and slots by their places, and what the views of its seats say
abbrev pub tree_of : Program → Bounds → TreeTable → Tree
tree_of p lim s = record {
  locks = λ n. lock_at (get_elem? s.words (lock_place p lim n));
  contents = λ n. content_at (get_elem? s.homes (content_place lim n));
  activities = λ i. activity_at (get_elem? s.views i);
  kept = λ i. kept_at (get_elem? s.views i);
  placed = λ i. placed_at (get_elem? s.views i);
  removed = λ i. removed_at (get_elem? s.views i);
  fresh = λ i. fresh_at (get_elem? s.views i);
  clear = λ i. clear_at (get_elem? s.views i);
  waits = λ i. waits_at (get_elem? s.views i);
}
