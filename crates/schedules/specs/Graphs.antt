-- Entries in an order in which what leads to another comes before it.
use Rattle.std.specs.Prelude.{ℕ, List, [], length, slice_index, slice_index_or}
use Rattle.std.specs.List.{Contains}
use Rattle.schedules.specs.declared.graph.Graph.{Graph}

-- the weight of an entry
abbrev pub weight_in : Graph → ℕ → ℕ
weight_in graph entry = slice_index graph.weights entry

-- the entries that an entry leads to
abbrev pub followers : Graph → ℕ → List ℕ
followers graph entry = slice_index_or graph.leads entry []

-- the number of entries
abbrev pub entry_count : Graph → ℕ
entry_count graph = length graph.weights

-- the first entry leads to the second
abbrev pub LeadsIn : Graph → ℕ → ℕ → Type 0
LeadsIn graph entry next = Contains (followers graph entry) next
