-- Chains of entries that have to come one after another. Entries are known by their numbers, counted from 0.
use Rattle.std.specs.Prelude.{◌≡◌, ◌<◌, ◌≤◌, ℕ, List, [], ◌∷◌}
use Rattle.std.specs.List.{sum_by}

-- the entries are a chain: each leads to the next, and all are below the count
abbrev pub ComesInOrder : (ℕ → ℕ → Type 0) → ℕ → List ℕ → Type 0
ComesInOrder Leads count [] = Unit {0}
ComesInOrder Leads count (entry ∷ []) = entry < count
ComesInOrder Leads count (entry ∷ next ∷ others) = Leads entry next × ComesInOrder Leads count (next ∷ others)

-- what leads to another comes before it
abbrev pub LeadsForward : (ℕ → ℕ → Type 0) → Type 0
LeadsForward Leads = (entry next : ℕ) → Leads entry next → entry < next

-- no chain is heavier than the span
abbrev pub SpanIsAtMost : (ℕ → ℕ → Type 0) → (ℕ → ℕ) → ℕ → ℕ → Type 0
SpanIsAtMost Leads weight count span = (chain : List ℕ) → ComesInOrder Leads count chain → sum_by weight chain ≤ span

-- some chain weighs as much as the span
abbrev pub SpanIsReached : (ℕ → ℕ → Type 0) → (ℕ → ℕ) → ℕ → ℕ → Type 0
SpanIsReached Leads weight count span = (chain : List ℕ) × ComesInOrder Leads count chain × (sum_by weight chain ≡ span)
