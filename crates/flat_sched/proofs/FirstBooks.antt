-- The books of a run that has not begun are in step with its first state.
use Rattle.std.proofs.Common.{◌≡◌, inl, ℕ, zero, suc, List, [], Option, subst, sym}
use Rattle.twe_base.specs.Limits.{Bounds}
use Rattle.wait_graph.specs.Waiting.{WaitsFor}
use Rattle.twe_program.specs.Program.{Program}
use Rattle.machine_state.specs.declared.state.TaskStatus.TheVariants.{Made}
use Rattle.twe_machine.specs.Listings.{IsListing}
use Rattle.machine_state.specs.Moves.{start_of}
use Rattle.machine_state.specs.Rows.{HasStatus}
use Rattle.machine_state.proofs.tasks.MadeTasks.{none_enabled}
use Rattle.flat_sched.specs.inner.Books.{Keeps}
use Rattle.flat_sched.specs.inner.Groups.{AreGroups}
use Rattle.flat_sched.specs.inner.Lists.{IsReady}
use Rattle.flat_sched.specs.declared.books.Books.{Books}
use Rattle.flat_sched.specs.declared.groups.Group.{Group}
use Rattle.machine_state.specs.declared.state.State.{State}

module _ (p : Program) (lim : Bounds) where
  made_ready : (b : Books) (t : ℕ) → IsReady b.ready 0 → HasStatus (start_of p lim) t Made → IsReady b.ready t
  made_ready b zero ready has = ready
  made_ready b (suc t) ready has = absurd (cc (has.1))

  none_waits : (s u : ℕ) → ¬ WaitsFor (start_of p lim).links s u
  none_waits zero u wait = let some = wait.waits in cc (some)
  none_waits (suc s) u wait = let some = wait.waits in cc (some)

  no_groups : (st : State) → AreGroups st []
  no_groups st u g has = cc (has)

  pub first_keeps : (b : Books) → IsReady b.ready 0 → b.groups ≡ [] → IsListing (start_of p lim) b.enabled → Keeps (start_of p lim) b
  first_keeps b ready none listing = record {
    runs = λ t run. absurd (none_enabled p lim t run.0);
    made = λ t made. inl (made_ready b t ready made);
    waits = λ s u wait. absurd (none_waits s u wait);
    groups = subst (λ (groups : List (Option Group)). AreGroups (start_of p lim) groups) (sym none) (no_groups (start_of p lim));
    listing = listing;
  }
