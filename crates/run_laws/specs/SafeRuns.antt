-- What each run of an accepted program keeps to, whatever scheduler made it.
use Rattle.std.specs.Prelude.{◌≤◌, ℕ, List, length, take}
use Rattle.seg_journal.specs.declared.journal.Entry.{Entry}
use Rattle.twe_base.specs.Limits.{Bounds}
use Rattle.twe_program.specs.Program.{Program}
use Rattle.machine_state.specs.Runs.{AlwaysIsolated, state_after}
use Rattle.isolation_laws.specs.Conflicts.{AlwaysCovered, MoversApart}
use Rattle.isolation_laws.specs.Within.{AlwaysWithin}
use Rattle.determinism_laws.specs.results.Main.{MainHasItsResult}
use Rattle.determinism_laws.specs.results.Results.{DeterministicTasksHaveResults}

-- after each beginning of the journal, no next accesses of two tasks that may run conflict
abbrev pub MoversAlwaysApart : Program → Bounds → List Entry → Type 0
MoversAlwaysApart p lim journal = (n : ℕ) → n ≤ length journal → MoversApart p (state_after p lim (take n journal))

-- After each beginning of the journal: of two enabled tasks that interfere one yields to the other, spawned tasks have their
-- effects within those of their parents, each access that a task may make next is covered for it, and no accesses of two tasks
-- that may run conflict. Deterministic tasks that are done have their sequential results, and so has a deterministic `main`
-- if all tasks are done.
pub record IsSafeRun (p : Program) (lim : Bounds) (journal : List Entry) : Type 0 where
  pub isolated : AlwaysIsolated p lim journal
  pub within : AlwaysWithin p lim journal
  pub covered : AlwaysCovered p lim journal
  pub apart : MoversAlwaysApart p lim journal
  pub results : DeterministicTasksHaveResults p lim journal
  pub main : MainHasItsResult p lim journal
