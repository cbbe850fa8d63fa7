-- The rule of the table, and how a table is laid out.
use Rattle.std.specs.Prelude.{◌≡◌, ◌<◌, ◌++◌, ℕ, List, [], Option, None, Some, length, map, take}
use mathlib.Core.Option as core
use lib.ListN.{get_elem?}
use Rattle.region_paths.specs.declared.elements.Elem.{Elem}
use Rattle.twe_base.specs.Limits.{Bounds}
use Rattle.twe_program.specs.Program.{Program}
use Rattle.machine_state.specs.declared.state.State as machine
use Rattle.machine_state.specs.Runs.{state_after}
use Rattle.seg_journal.specs.declared.numbered.NumberedEntry.{NumberedEntry}
use Rattle.seg_journal.specs.Merging.{journal_of}
use Rattle.floor_laws.specs.declared.rule.view.TaskSlot.{TaskSlot}
use Rattle.floor_laws.specs.table.Holds.{IsLaidOut, TableKeeps, first_view, joined_view, left_view, right_view, spent_view}
use Rattle.floor_laws.specs.table.Layout.{word_count}
use Rattle.floor_laws.specs.admission.admission_core.States.{Record, State}
use Rattle.floor_laws.specs.rule.nodes.Fitting.{AreRecordsAt, IsDistinct}
use Rattle.floor_laws.specs.rule.nodes.Rule.{KeepsBoth}
use Rattle.floor_laws.specs.declared.table.nodes.slot.TreeSlot.{TreeSlot}
use Rattle.floor_laws.specs.declared.table.nodes.slot.TreeSlot.TheVariants as kinds
use Rattle.floor_laws.specs.declared.table.nodes.view.TreeView.{TreeView}
use Rattle.floor_laws.specs.table.nodes.Deciders.{DecidersAreSo}
use Rattle.floor_laws.specs.table.nodes.Layout.{bare_lock, content_place, decider_place, free_lock, lock_place, no_decider, tree_slot_count, tree_word_count}
use Rattle.floor_laws.specs.table.nodes.TreeOf.{TreeTable, content_at, content_in, floor_part, floor_shown, tree_of}

-- A lock word that says that no record lies at its node says the truth: the node's content is in its slot, and has no record.
abbrev pub BareAreEmpty : Program → Bounds → List ℕ → List (core.Option TreeSlot) → Type 0
BareAreEmpty p lim words homes =
    (n : ℕ) → get_elem? words (lock_place p lim n) ≡ core.some bare_lock
    → content_at (get_elem? homes (content_place lim n)) ≡ Some []

-- The table has the words and slots of the program, the limits and the nodes. Its floor's part keeps the rule of the table of
-- the floor, and the nodes that it shows keep theirs beside that floor, with the same log and some state of the core. Its decider
-- words say the truth in the state that the log leads to.
pub record TreeKeeps (nodes : List (List Elem)) (p : Program) (lim : Bounds) (s : TreeTable) : Type 0 where
  pub words : length s.words ≡ tree_word_count nodes p lim
  pub slots : length s.homes ≡ tree_slot_count nodes lim
  pub floor : TableKeeps p lim (floor_part p lim s)
  pub core : State
  pub both : KeepsBoth nodes p lim floor.log (floor_shown p lim s) (tree_of p lim s) core
  pub bare : BareAreEmpty p lim s.words s.homes
  pub deciders : DecidersAreSo p lim s.words (tree_of p lim s) (state_after p lim (journal_of floor.log)).links

-- a seat is split off, which does nothing in the tree and knows nothing of nodes
abbrev pub left_tree_view : TreeView → TreeView
left_tree_view v = record v { floor = left_view v.floor }

-- the view of the seat that is split off
abbrev pub right_tree_view : TreeView → TreeView
right_tree_view v = record {
  floor = right_view v.floor;
  activity = None;
  kept = [];
  placed = [];
  removed = [];
  fresh = [];
  clear = [];
  waits = [];
  looks = [];
}

-- Two seats are joined: the first one has placed and removed what both have, and knows the waits that both know. The other one is
-- left with nothing.
abbrev pub joined_tree_view : TreeView → TreeView → TreeView
joined_tree_view v w = record v {
  floor = joined_view v.floor w.floor;
  placed = v.placed ++ w.placed;
  removed = v.removed ++ w.removed;
  waits = v.waits ++ w.waits;
}

-- the view of a seat that was joined to the main one
abbrev pub spent_tree_view : TreeView
spent_tree_view = record {
  floor = spent_view;
  activity = None;
  kept = [];
  placed = [];
  removed = [];
  fresh = [];
  clear = [];
  waits = [];
  looks = [];
}

-- the seat does nothing in the tree, and knows nothing of the records of a task whose turn it has
pub record HasLeftTree (v : TreeView) : Type 0 where
  pub activity : v.activity ≡ None
  pub kept : (n : ℕ) → content_in v.kept n ≡ None
  pub fresh : v.fresh ≡ []
  pub clear : v.clear ≡ []

-- Starts.

-- the view of the first seat, which has the entries of the run so far, and has placed these records
abbrev pub first_tree_view : List NumberedEntry → List Record → TreeView
first_tree_view log records = record {
  floor = first_view log;
  activity = None;
  kept = [];
  placed = records;
  removed = [];
  fresh = [];
  clear = [];
  waits = [];
  looks = [];
}

-- at this place is a node's slot, which holds each record that stands at the node once, and no others
pub record HoldsContent (records : List Record) (slots : List TreeSlot) (place n : ℕ) : Type 0 where
  pub content : List Record
  pub there : get_elem? slots place ≡ core.some (kinds.Node content)
  pub all : AreRecordsAt records n content
  pub once : IsDistinct content

-- The words and slots show this state, after as many entries as the log has, and these records. Nobody has locked a node, and no
-- task decides at one.
pub record IsTreeLaidOut (nodes : List (List Elem)) (p : Program) (lim : Bounds) (log : List NumberedEntry) (st : machine.State)
    (records : List Record) (words : List ℕ) (slots : List TreeSlot) : Type 0 where
  pub all_words : length words ≡ tree_word_count nodes p lim
  pub all_slots : length slots ≡ tree_slot_count nodes lim
  pub tasks : List (Option TaskSlot)
  pub task_slots : take lim.tasks slots ≡ map kinds.Task tasks
  pub floor : IsLaidOut p lim log st (take (word_count p lim) words) tasks
  pub deciders : (t : ℕ) → t < lim.tasks → get_elem? words (decider_place p lim t) ≡ core.some no_decider
  pub locks : (n : ℕ) → n < length nodes → get_elem? words (lock_place p lim n) ≡ core.some free_lock
  pub contents : (n : ℕ) → n < length nodes → HoldsContent records slots (content_place lim n) n
