-- Where the effects of enabled tasks stand in the tree of regions.
use Rattle.std.specs.Prelude.{◌≡◌, ◌≢◌, ◌<◌, ◌⊎◌, ℕ, Bool, true, false, List, Some, length, slice_get, take_while}
use Rattle.region_paths.specs.declared.elements.Elem.{Elem}
use Rattle.region_paths.specs.Filled.{is_solid, solid_prefix}
use Rattle.effect_sets.specs.declared.effects.Effect.{Effect}
use Rattle.prefix_tree.specs.Nodes.{path_of}
use Rattle.prefix_tree.specs.Prefix.{IsPrefix}
use Rattle.effect_tree.specs.inner.Parts.{elem_paths}
use Rattle.wait_graph.specs.declared.tasks.Link.{Link}
use Rattle.twe_machine.specs.declared.book.TaskBook.{TaskBook}
use Rattle.twe_machine.specs.declared.book.NodeTasks.{NodeTasks}
use Rattle.twe_machine.specs.declared.enabled_tasks.EnabledTasks.{EnabledTasks}
use Rattle.twe_machine.specs.Queues.{IsQueued, IsDecided}

-- there is a node of this number, and it is so
pub record NodeIs (nodes : List NodeTasks) (n : ℕ) (Has : NodeTasks → Type 0) : Type 0 where
  pub node : NodeTasks
  pub at : slice_get nodes n ≡ Some node
  pub has : Has node

-- there is a node with this path, and it is so
abbrev pub NodeHas : TaskBook → List Elem → (NodeTasks → Type 0) → Type 0
NodeHas book path Has =
    (n : ℕ) × (n < length book.tree) × (path_of (elem_paths book.tree) n ≡ path) × NodeIs book.nodes n Has

-- s is placed at the node, or below it
abbrev pub IsAtOrBelow : ℕ → NodeTasks → Type 0
IsAtOrBelow s node = IsQueued node.here.entries s ⊎ IsQueued node.below.entries s

-- s stands in the book with an effect whose path has this solid prefix: it is placed at the node with that path, and each node
-- above knows
pub record IsPlacedIn (book : TaskBook) (s : ℕ) (front : List Elem) : Type 0 where
  pub placed : NodeHas book front (λ (node : NodeTasks). IsQueued node.here.entries s)
  pub above : (prefix : List Elem) → IsPrefix prefix front → NodeHas book prefix (IsAtOrBelow s)

-- An effect with this solid prefix is in the way of one whose path has these elements before the star, if there is a star. It is
-- placed at or above the other's place, or at or below it if the other path has a wildcard.
abbrev pub IsInWay : List Elem → List Elem → Bool → Type 0
IsInWay front elems star =
    IsPrefix front (take_while is_solid elems)
    ⊎ (((star ≡ true) ⊎ (take_while is_solid elems ≢ elems)) × IsPrefix (take_while is_solid elems) front)

-- the queues of each node are decided
abbrev pub NodesAreDecided : List Link → List NodeTasks → Type 0
NodesAreDecided links nodes =
    (n : ℕ) (node : NodeTasks) → slice_get nodes n ≡ Some node
    → IsDecided links node.here.entries × IsDecided links node.below.entries

-- so are those of the nodes of a book
abbrev pub BookIsDecided : List Link → TaskBook → Type 0
BookIsDecided links book = NodesAreDecided links book.nodes

-- an effect of s was entered, among the reads or among the writes
pub record IsEntered (enabled : EnabledTasks) (s : ℕ) (e : Effect) : Type 0 where
  pub reads : e.write ≡ false → IsPlacedIn enabled.reads s (solid_prefix e.path)
  pub writes : e.write ≡ true → IsPlacedIn enabled.writes s (solid_prefix e.path)

-- the queues of all nodes are decided
pub record AreDecided (links : List Link) (enabled : EnabledTasks) : Type 0 where
  pub reads : BookIsDecided links enabled.reads
  pub writes : BookIsDecided links enabled.writes
