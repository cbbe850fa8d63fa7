-- The nodes stay, and empty ones come after them.
use Rattle.std.proofs.Common.{◌≡◌, ◌-◌, ◌+◌, ℕ, List, Some, length}
use Rattle.std.specs.Prelude.{slice_get}
use Rattle.wait_graph.specs.declared.tasks.Link.{Link}
use Rattle.twe_machine.specs.declared.book.NodeTasks.{NodeTasks}
use Rattle.twe_machine.specs.Books.{NodesAreDecided}
use Rattle.twe_machine.proofs.book.reach.Given as goal

abbrev pub invariant-reaching : goal.invariant-reaching
invariant-reaching l = record {
  kept : (n : ℕ) (node : NodeTasks) → slice_get l.initial.nodes n ≡ Some node → slice_get l.nodes n ≡ Some node;
  decided : (links : List Link) → NodesAreDecided links l.initial.nodes → NodesAreDecided links l.nodes;
}

abbrev pub decreases-reaching : goal.decreases-reaching
decreases-reaching l = l.at + 1 - length l.nodes
