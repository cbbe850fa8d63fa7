-- How far a search went.
use Rattle.std.specs.Prelude.{◌≤◌, ◌<◌, ⊤, ℕ}
use Rattle.all_runs.specs.declared.extent.Extent.{Extent}
use Rattle.all_runs.specs.declared.extent.Extent.TheVariants.{All, TooManyStates, OutOfMemory}

-- A search that may find `most` states went so far, with this many states found. If it went to its end, no more were found than may
-- be; if it was given up for their number, more were. It may end for want of memory at any number.
abbrev pub IsExtent : ℕ → ℕ → Extent → Type 0
IsExtent most states All = states ≤ most
IsExtent most states TooManyStates = most < states
IsExtent most states OutOfMemory = ⊤
