-- The result of a run whose `main` is deterministic.
use Rattle.std.specs.Prelude.{◌≡◌, ℤ, IsTrue, List, [], length, slice_get}
use Rattle.effect_check.specs.Acts.{is_deterministic}
use Rattle.seg_journal.specs.declared.journal.Entry.{Entry}
use Rattle.twe_base.specs.Limits.{Bounds}
use Rattle.twe_program.specs.Program.{Program}
use Rattle.machine_state.specs.declared.state.State.{State}
use Rattle.machine_state.specs.Moves.{initial_values}
use Rattle.machine_state.specs.Runs.{AllTasksDone, state_after}
use Rattle.determinism_laws.specs.declared.elision.progress.Progress.{Progress}
use Rattle.determinism_laws.specs.elision.Elision.{elided}
use Rattle.determinism_laws.specs.elision.Elision as elision

-- the declaration of `main` is deterministic
abbrev pub MainIsDeterministic : Program → Type 0
MainIsDeterministic p = IsTrue (is_deterministic (slice_get p.tasks p.main))

-- The sequential execution of `main` on the first cells ends with a value. This state has its cells, all of them, the numbers
-- that it prints, and as many tasks as it makes, `main` included.
pub record IsResultOfMain (p : Program) (lim : Bounds) (st : State) : Type 0 where
  pub value : ℤ
  pub later : Progress
  pub ends : elided p lim p.main [] (initial_values p.cells) ≡ elision.ends value later
  pub cells : st.cells ≡ later.cells
  pub prints : st.prints ≡ later.prints
  pub tasks : length st.tasks ≡ length later.values

-- if `main` is deterministic and all tasks are done, the journal leads to its result
abbrev pub MainHasItsResult : Program → Bounds → List Entry → Type 0
MainHasItsResult p lim journal =
    MainIsDeterministic p → AllTasksDone (state_after p lim journal) → IsResultOfMain p lim (state_after p lim journal)

-- Two states have the same cells, the same printed numbers and as many tasks.
pub record HaveSameResult (one other : State) : Type 0 where
  pub cells : one.cells ≡ other.cells
  pub prints : one.prints ≡ other.prints
  pub tasks : length one.tasks ≡ length other.tasks
