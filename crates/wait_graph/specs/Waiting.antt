-- Who waits for whom, and who yields to whom.
use Rattle.std.specs.Prelude.{◌≡◌, ℕ, ◌⊎◌, true, false, List, Option, Some, None, if◌then◌else◌}
use Rattle.wait_graph.specs.declared.tasks.Link.{Link}
use Rattle.wait_graph.specs.Link.{link_of}
use Rattle.wait_graph.specs.Chain.{Chain}

-- s waits for u: the next operation of s awaits u, and u isn't done
pub record WaitsFor (links : List Link) (s u : ℕ) : Type 0 where
  pub waits : (link_of links s).waits ≡ Some u
  pub undone : (link_of links u).done ≡ false

-- a chain of waits of any length, none included, leads from s to u
abbrev pub WaitsOn : List Link → ℕ → ℕ → Type 0
WaitsOn links = Chain (WaitsFor links)

-- u is done
abbrev pub IsDone : List Link → ℕ → Type 0
IsDone links u = (link_of links u).done ≡ true

-- a chain of waits leads from s to u, unless u is done
abbrev pub WaitsOnUnlessDone : List Link → ℕ → ℕ → Type 0
WaitsOnUnlessDone links s u = WaitsOn links s u ⊎ IsDone links u

-- p spawned c, and c isn't joined
pub record SpawnedBy (links : List Link) (c p : ℕ) : Type 0 where
  pub parent : (link_of links c).parent ≡ Some p
  pub unjoined : (link_of links c).joined ≡ false

-- u is t or a spawn ancestor of t over unjoined children
abbrev pub DescendsFrom : List Link → ℕ → ℕ → Type 0
DescendsFrom links = Chain (SpawnedBy links)

-- s yields to t: s waits, directly or through others, for t or for a spawn ancestor of t, or is such a task itself
abbrev pub YieldsTo : List Link → ℕ → ℕ → Type 0
YieldsTo links s t = (u : ℕ) × WaitsOn links s u × DescendsFrom links t u

-- s waits for nobody
abbrev pub WaitsForNobody : List Link → ℕ → Type 0
WaitsForNobody links s = (u : ℕ) → ¬ WaitsFor links s u

-- this task, if it isn't done
abbrev pub undone_task : List Link → Option ℕ → Option ℕ
undone_task links None = None
undone_task links (Some u) = if (link_of links u).done then None else Some u

-- the task that s waits for, if there is one
abbrev pub awaited : List Link → ℕ → Option ℕ
awaited links s = undone_task links (link_of links s).waits
