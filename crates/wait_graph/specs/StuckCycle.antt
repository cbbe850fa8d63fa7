-- The cycle of tasks that can't go on: each waits for the next one or is held by it.
use Rattle.std.specs.Prelude.{◌≡◌, ◌≢◌, ℕ, suc, ◌<◌, ◌++◌, ◌⊎◌, true, false, not, MatchBool, List, [], ◌∷◌, length, map, take, drop, Option, Some, None, unwrap_or, slice_index_or}
use Rattle.std.specs.List.{position, All, AllPairs}
use Rattle.wait_graph.specs.declared.tasks.Link.{Link}
use Rattle.wait_graph.specs.declared.stuck.Edge.{Edge}
use Rattle.wait_graph.specs.Link.{link_of}
use Rattle.wait_graph.specs.Waiting.{awaited, WaitsFor, WaitsForNobody}
use Rattle.wait_graph.specs.Walk.{walk, first_round, walk_turned}

-- the given holder of t, if it has one
abbrev pub holder_of : List (Option ℕ) → ℕ → Option ℕ
holder_of held t = slice_index_or held t None

-- t is there, and isn't done
pub record IsUndone (links : List Link) (t : ℕ) : Type 0 where
  pub there : t < length links
  pub undone : (link_of links t).done ≡ false

-- t waits for a task that isn't done, or has a holder that isn't
abbrev pub IsHeldUp : List Link → List (Option ℕ) → ℕ → Type 0
IsHeldUp links held t = ((u : ℕ) × WaitsFor links t u) ⊎ ((h : ℕ) × (holder_of held t ≡ Some h) × IsUndone links h)

-- each task that isn't done is held up
abbrev pub AllAreHeldUp : List Link → List (Option ℕ) → Type 0
AllAreHeldUp links held = (t : ℕ) → IsUndone links t → IsHeldUp links held t

-- the edge from t to the task that it waits for, or else to its holder. If there is neither, it leads back to t.
abbrev pub edge_to : ℕ → Option ℕ → Option ℕ → Edge
edge_to t (Some u) holder = record { from = t; held = false; to = u }
edge_to t None holder = record { from = t; held = true; to = unwrap_or holder t }

-- the edge by which the walk leaves t
abbrev pub edge_from : List Link → List (Option ℕ) → ℕ → Edge
edge_from links held t = edge_to t (awaited links t) (holder_of held t)

-- where the walk goes from t
abbrev pub next_of : List Link → List (Option ℕ) → ℕ → ℕ
next_of links held t = (edge_from links held t).to

-- where the walk starts
abbrev pub lowest_undone : List Link → ℕ
lowest_undone links = unwrap_or (position (λ link. not link.done) links) 0

-- The round that the walk ends in, beginning with its lowest task. The walk is followed for one step more than there
-- are tasks, so it has come to some task again.
abbrev pub cycle_tasks : List Link → List (Option ℕ) → List ℕ
cycle_tasks links held = walk_turned (first_round (walk (next_of links held) (suc (length links)) (lowest_undone links)))

-- the edges by which the walk leaves these tasks
unfoldable pub stuck_cycle : List Link → List (Option ℕ) → List Edge
stuck_cycle links held = map (edge_from links held) (cycle_tasks links held)

-- the edge is a wait, or leads from a task that waits for nobody to its given holder
abbrev pub IsTrueEdge : List Link → List (Option ℕ) → Edge → Type 0
IsTrueEdge links held e =
    MatchBool e.held (WaitsForNobody links e.from × (holder_of held e.from ≡ Some e.to)) (WaitsFor links e.from e.to)

-- each edge ends at the task at which the next one begins, and the last one at the task at which the first begins
abbrev pub IsClosed : List Edge → Type 0
IsClosed edges =
    map (λ (e : Edge). e.to) edges ≡ drop 1 (map (λ (e : Edge). e.from) edges) ++ take 1 (map (λ (e : Edge). e.from) edges)

-- no task stands in it twice
abbrev pub HasEachOnce : List Edge → Type 0
HasEachOnce edges = AllPairs (λ (d e : Edge). d.from ≢ e.from) edges

-- its first edge begins at the lowest of its tasks
abbrev pub BeginsLowest : List Edge → Type 0
BeginsLowest [] = Unit {0}
BeginsLowest (first ∷ others) = All (λ (e : Edge). first.from < e.from) others

-- the edges are true and go round once, from the lowest of their tasks on
pub record IsCycle (links : List Link) (held : List (Option ℕ)) (edges : List Edge) : Type 0 where
  pub some : 0 < length edges
  pub true_edges : All (IsTrueEdge links held) edges
  pub closed : IsClosed edges
  pub once : HasEachOnce edges
  pub begins_lowest : BeginsLowest edges
