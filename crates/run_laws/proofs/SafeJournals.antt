-- A legal journal of a program that keeps the rules on effects is safe, and so is that of a call that returned one.
use Rattle.std.proofs.Common.{◌≤◌, List, Result, Ok, Err, IfOk}
use Rattle.seg_journal.specs.declared.journal.Entry.{Entry}
use Rattle.twe_base.specs.Limits.{Bounds}
use Rattle.twe_program.specs.Program.{Program}
use Rattle.twe_program.specs.WellFormed.{IsWellFormed}
use Rattle.isolation_laws.specs.soundness.KeepsEffects.{KeepsEffects}
use Rattle.machine_state.specs.declared.state.State.{State}
use Rattle.machine_state.specs.Runs.{Legal}
use Rattle.determinism_laws.specs.AcceptedRuns.{IsAcceptedRun}
use Rattle.run_laws.specs.SafeRuns.{IsSafeRun}

-- each legal journal of such a program is safe
abbrev pub AreSafe : Type 0
AreSafe = (p : Program) (lim : Bounds) (journal : List Entry) → IsAcceptedRun p lim journal → 1 ≤ lim.tasks → IsSafeRun p lim journal

-- the journal of the call is safe if it is legal
pub safe_result : {E : Type 0} → AreSafe → (p : Program) (lim : Bounds) (ran : Result (List Entry × State) E) → IsWellFormed p → KeepsEffects p → 1 ≤ lim.tasks
    → IfOk ran (λ run. Legal p lim run.0) → IfOk ran (λ run. IsSafeRun p lim run.0)
safe_result safe p lim (Ok run) well keeps some legal = safe p lim run.0 (record { well_formed = well; keeps = keeps; legal = legal }) some
safe_result safe p lim (Err fail) well keeps some legal = tt

-- what follows from a fact of the result
pub on_ok : {A E : Type 0} (ran : Result A E) (P Q : A → Type 0) → ((a : A) → P a → Q a) → IfOk ran P → IfOk ran Q
on_ok (Ok a) P Q f is = f a is
on_ok (Err fail) P Q f is = tt
