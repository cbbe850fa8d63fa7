-- The walk has come to the node of the solid elements so far, and the nodes above know of the task.
use Rattle.std.proofs.Common.{◌≡◌, ◌<◌, ◌++◌, ℕ, List, length, drop}
use Rattle.std.specs.Prelude.{take_while}
use Rattle.region_paths.specs.declared.elements.Elem.{Elem}
use Rattle.region_paths.specs.Filled.{is_solid}
use Rattle.prefix_tree.specs.Nodes.{path_of}
use Rattle.effect_tree.specs.inner.Parts.{elem_paths}
use Rattle.machine_state.specs.declared.state.TaskStatus.TheVariants.{Enabled}
use Rattle.twe_machine.specs.Books.{BookIsDecided, IsPlacedIn}
use Rattle.machine_state.specs.Rows.{HasStatus}
use Rattle.twe_machine.proofs.listing.Books.{KnowAbove}
use Rattle.twe_machine.proofs.book.TaskBook.add.Given as goal

abbrev pub invariant-loop-elem : goal.invariant-loop-elem
invariant-loop-elem l = record {
  there : l.at < length l.self.tree;
  front : path_of (elem_paths l.self.tree) l.at ++ take_while is_solid (drop l.elem-index l.elems) ≡ take_while is_solid l.elems;
  above : KnowAbove l.self l.at l.t;
  kept : (s : ℕ) (front : List Elem) → HasStatus l.st s Enabled → IsPlacedIn l.initial.self s front → IsPlacedIn l.self s front;
  decided : BookIsDecided l.st.links l.self;
}
