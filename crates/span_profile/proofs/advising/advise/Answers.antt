use Rattle.std.proofs.Common.{◌<◌, ◌^◌, ℕ, List, length, refl, sym, ap, subst, arith}
use Rattle.seg_journal.specs.declared.journal.Entry.{Entry}
use Rattle.twe_base.specs.Limits.{Bounds, IsWithin}
use Rattle.twe_program.specs.Program.{Program}
use Rattle.twe_program.specs.WellFormed.{IsWellFormed}
use Rattle.span_profile.specs.Profiles.{IsProfile}
use Rattle.span_profile.specs.Reasons.{HasSteps}
use Rattle.span_profile.specs.Totals.{CanBeSummed}
use Rattle.span_profile.specs.declared.totals.TaskWork.{TaskWork}
use Rattle.span_profile.proofs.SmallWorks.{run_is_small, works_are}
use Rattle.span_profile.proofs.advising.advise.Goals as goal

pub task_works-requires-clause-little : goal.task_works-requires-clause-little
task_works-requires-clause-little c =
    let within = subst (λ (lim : Bounds). IsWithin lim.fuel lim.tasks) c.lim.view_is c.lim.invariant in
    let most = within.fuel_most in
    omega (arith, most)

pub task_works-requires-clause-short : goal.task_works-requires-clause-short
task_works-requires-clause-short c =
    let well = subst (λ (p : Program). IsWellFormed p) c.p.view_is c.p.invariant in
    let within = subst (λ (lim : Bounds). IsWithin lim.fuel lim.tasks) c.lim.view_is c.lim.invariant in
    let small = run_is_small c.args.p.now c.args.lim well within c.args.moves.now c.in_ok-journal.journal c.in_ok-journal.st c.in_ok-journal.ensures.counted in
    subst (λ (l : List Entry). length l < 2 ^ 45) (sym c.as_slice.ensures) small.0

pub returns-clause-advised : goal.returns-clause-advised
returns-clause-advised c = record {
  profile = c.in_ok-profiled.ensures.profiled;
  tasks = record {
    journal = c.in_ok-journal.journal;
    st = c.in_ok-journal.st;
    run = c.in_ok-journal.ensures.counted;
    works_are = works_are c.args.lim.fuel c.lim-2.inside.fuel c.in_ok-journal.journal c.as_slice.result.now c.in_ok-journal.st.tasks c.as_slice-2.result.now c.in_ok-works.works c.in_ok-works.ensures (ap (λ (b : Bounds). b.fuel) c.lim-2.view_is) c.as_slice.ensures c.as_slice-2.ensures;
  };
}

pub returns-clause-few : goal.returns-clause-few
returns-clause-few c =
    let well = subst (λ (p : Program). IsWellFormed p) c.p.view_is c.p.invariant in
    let within = subst (λ (lim : Bounds). IsWithin lim.fuel lim.tasks) c.lim.view_is c.lim.invariant in
    let small = run_is_small c.args.p.now c.args.lim well within c.args.moves.now c.in_ok-journal.journal c.in_ok-journal.st c.in_ok-journal.ensures.counted in
    let are = works_are c.args.lim.fuel c.lim-2.inside.fuel c.in_ok-journal.journal c.as_slice.result.now c.in_ok-journal.st.tasks c.as_slice-2.result.now c.in_ok-works.works c.in_ok-works.ensures (ap (λ (b : Bounds). b.fuel) c.lim-2.view_is) c.as_slice.ensures c.as_slice-2.ensures in
    subst (λ (l : List TaskWork). CanBeSummed l) (sym are) small.1

-- the heaviest chain is the one that was found
pub returns-clause-steps : goal.returns-clause-steps
returns-clause-steps c =
    let h = c.in_ok-profiled.profiled in
    let p = c.args.p.now in
    let lim = c.args.lim in
    let moves = c.args.moves.now in
    let is = subst (λ (chain : List ℕ). IsProfile p lim moves h.work h.span chain) (sym c.as_slice-3.ensures) c.in_ok-profiled.ensures.profiled in
    subst (λ (chain : List ℕ). HasSteps p lim moves chain c.in_ok-steps.steps) c.as_slice-3.ensures (c.in_ok-steps.ensures.steps h.work h.span is)

pub returns-clause-tasks : goal.returns-clause-tasks
returns-clause-tasks c = record { journal = c.in_ok-journal.journal; st = c.in_ok-journal.st; run = c.in_ok-journal.ensures.counted; tasks_are = refl }
