-- What the tables of a tree say, and when they agree with one another.
use Rattle.std.specs.Prelude.{◌≡◌, ℕ, ◌<◌, ◌^◌, ◌↔◌, List, [], ◌∷◌, ◌++◌, length, Option, Some, None, IsSome, slice_index_or}
use Rattle.std.specs.HashMap.{HashMap, get}
use Rattle.std.specs.declared.hash.BuildHasherDefault.{BuildHasherDefault}
use Rattle.std.specs.declared.hash.FoldHasher.{FoldHasher}
use Rattle.prefix_tree.specs.declared.part.Part.{Part}
use Rattle.prefix_tree.specs.declared.step.Step.{Step}
use Rattle.prefix_tree.specs.Nodes.{path_of}
use Rattle.prefix_tree.specs.inner.Same.{step_eq}

-- for each node the step that leads to it, and for each step the node that it leads to
pub record Tables : Type 0 where
  pub steps : List (Option Step)
  pub children : HashMap Step ℕ (BuildHasherDefault FoldHasher)

-- the step that leads to node n; the root and a number that is no node's have none
abbrev pub step_of : List (Option Step) → ℕ → Option Step
step_of steps n = slice_index_or steps n None

-- the path to which a step leads, if these are the paths of the nodes before
abbrev pub path_by : List (List Part) → Option Step → List Part
path_by before None = []
path_by before (Some step) = path_of before step.from ++ step.part ∷ []

-- the paths of the nodes to which these steps lead, after those of the nodes before
abbrev pub paths_after : List (List Part) → List (Option Step) → List (List Part)
paths_after before [] = before
paths_after before (step ∷ steps) = paths_after (before ++ path_by before step ∷ []) steps

-- the paths of all nodes
abbrev pub paths : Tables → List (List Part)
paths tree = paths_after [] tree.steps

-- the tables agree: a step leads down from an earlier node, and to the node that the map has for it
pub record IsTree (tree : Tables) : Type 0 where
  pub some : 0 < length tree.steps
  pub root : step_of tree.steps 0 ≡ None
  pub others : (n : ℕ) → 0 < n → n < length tree.steps → IsSome (step_of tree.steps n)
  pub down : (n : ℕ) (step : Step) → step_of tree.steps n ≡ Some step → step.from < n
  pub found : (n : ℕ) (step : Step) → (get step_eq tree.children step ≡ Some n) ↔ (step_of tree.steps n ≡ Some step)
  pub numbered : length tree.steps < 2 ^ 32
