use Rattle.std.proofs.Common.{subst, arith}
use Rattle.twe_base.specs.Limits.{Bounds, IsWithin}
use Rattle.twe_program.specs.Program.{Program}
use Rattle.twe_program.specs.WellFormed.{IsWellFormed}
use Rattle.machine_state.specs.Runs.{Legal}
use Rattle.run_laws.specs.SafeRuns.{IsSafeRun}
use Rattle.run_laws.proofs.SafeJournals.{on_ok, safe_result}
use Rattle.run_laws.proofs.calls.replay_accepted.Goals as goal

pub returns-clause-isolated : goal.returns-clause-isolated
returns-clause-isolated c =
    let well = subst (λ (p : Program). IsWellFormed p) c.p.view_is c.p.invariant in
    let limits : IsWithin c.args.lim.fuel c.args.lim.tasks = subst (λ (lim : Bounds). IsWithin lim.fuel lim.tasks) c.lim.view_is c.lim.invariant in
    let safe = safe_result c.accepted_runs_are_safe.ensures c.args.p.now c.args.lim c.replay_journal.result well c.requires (omega (arith, limits)) (on_ok c.replay_journal.result _ (λ run. Legal c.args.p.now c.args.lim run.0) (λ run is. is.run.legal) c.replay_journal.ensures.replayed) in
    on_ok c.replay_journal.result (λ run. IsSafeRun c.args.p.now c.args.lim run.0) _ (λ run is. is.isolated) safe

pub returns-clause-within : goal.returns-clause-within
returns-clause-within c =
    let well = subst (λ (p : Program). IsWellFormed p) c.p.view_is c.p.invariant in
    let limits : IsWithin c.args.lim.fuel c.args.lim.tasks = subst (λ (lim : Bounds). IsWithin lim.fuel lim.tasks) c.lim.view_is c.lim.invariant in
    let safe = safe_result c.accepted_runs_are_safe.ensures c.args.p.now c.args.lim c.replay_journal.result well c.requires (omega (arith, limits)) (on_ok c.replay_journal.result _ (λ run. Legal c.args.p.now c.args.lim run.0) (λ run is. is.run.legal) c.replay_journal.ensures.replayed) in
    on_ok c.replay_journal.result (λ run. IsSafeRun c.args.p.now c.args.lim run.0) _ (λ run is. is.within) safe

pub returns-clause-covered : goal.returns-clause-covered
returns-clause-covered c =
    let well = subst (λ (p : Program). IsWellFormed p) c.p.view_is c.p.invariant in
    let limits : IsWithin c.args.lim.fuel c.args.lim.tasks = subst (λ (lim : Bounds). IsWithin lim.fuel lim.tasks) c.lim.view_is c.lim.invariant in
    let safe = safe_result c.accepted_runs_are_safe.ensures c.args.p.now c.args.lim c.replay_journal.result well c.requires (omega (arith, limits)) (on_ok c.replay_journal.result _ (λ run. Legal c.args.p.now c.args.lim run.0) (λ run is. is.run.legal) c.replay_journal.ensures.replayed) in
    on_ok c.replay_journal.result (λ run. IsSafeRun c.args.p.now c.args.lim run.0) _ (λ run is. is.covered) safe

pub returns-clause-apart : goal.returns-clause-apart
returns-clause-apart c =
    let well = subst (λ (p : Program). IsWellFormed p) c.p.view_is c.p.invariant in
    let limits : IsWithin c.args.lim.fuel c.args.lim.tasks = subst (λ (lim : Bounds). IsWithin lim.fuel lim.tasks) c.lim.view_is c.lim.invariant in
    let safe = safe_result c.accepted_runs_are_safe.ensures c.args.p.now c.args.lim c.replay_journal.result well c.requires (omega (arith, limits)) (on_ok c.replay_journal.result _ (λ run. Legal c.args.p.now c.args.lim run.0) (λ run is. is.run.legal) c.replay_journal.ensures.replayed) in
    on_ok c.replay_journal.result (λ run. IsSafeRun c.args.p.now c.args.lim run.0) _ (λ run is. is.apart) safe

pub returns-clause-results : goal.returns-clause-results
returns-clause-results c =
    let well = subst (λ (p : Program). IsWellFormed p) c.p.view_is c.p.invariant in
    let limits : IsWithin c.args.lim.fuel c.args.lim.tasks = subst (λ (lim : Bounds). IsWithin lim.fuel lim.tasks) c.lim.view_is c.lim.invariant in
    let safe = safe_result c.accepted_runs_are_safe.ensures c.args.p.now c.args.lim c.replay_journal.result well c.requires (omega (arith, limits)) (on_ok c.replay_journal.result _ (λ run. Legal c.args.p.now c.args.lim run.0) (λ run is. is.run.legal) c.replay_journal.ensures.replayed) in
    on_ok c.replay_journal.result (λ run. IsSafeRun c.args.p.now c.args.lim run.0) _ (λ run is. is.results) safe

pub returns-clause-main : goal.returns-clause-main
returns-clause-main c =
    let well = subst (λ (p : Program). IsWellFormed p) c.p.view_is c.p.invariant in
    let limits : IsWithin c.args.lim.fuel c.args.lim.tasks = subst (λ (lim : Bounds). IsWithin lim.fuel lim.tasks) c.lim.view_is c.lim.invariant in
    let safe = safe_result c.accepted_runs_are_safe.ensures c.args.p.now c.args.lim c.replay_journal.result well c.requires (omega (arith, limits)) (on_ok c.replay_journal.result _ (λ run. Legal c.args.p.now c.args.lim run.0) (λ run is. is.run.legal) c.replay_journal.ensures.replayed) in
    on_ok c.replay_journal.result (λ run. IsSafeRun c.args.p.now c.args.lim run.0) _ (λ run is. is.main) safe
