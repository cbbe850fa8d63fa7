-- Those before a task that decides, is not done and waits for t wait for t.
use Rattle.std.proofs.Common.{◌≡◌, ℕ, Some, inl, inr, sym, ◌∙◌, subst, arith}
use Rattle.std.specs.Prelude.{slice_get}
use Rattle.std.proofs.lemmas.Bool.{cases_lt, false≢true}
use Rattle.wait_graph.specs.Waiting.{WaitsOn}
use Rattle.twe_machine.specs.Queues.{KeepsWaiting}
use Rattle.twe_machine.proofs.listing.Leading.{led_on}
use Rattle.machine_state.proofs.lists.Places.{below_there}
use Rattle.twe_machine.proofs.queue.Queue.count_by_decider_at.Goals as goal

pub returns-then-is_done : goal.returns-then-is_done
returns-then-is_done c = λ i e from low at. absurd (omega (arith, low))

pub returns-else-is_found_to_wait : goal.returns-else-is_found_to_wait
returns-else-is_found_to_wait c = λ i e from low at. absurd (omega (arith, low))

pub returns-then-is_found_to_wait : goal.returns-then-is_found_to_wait
returns-then-is_found_to_wait c = λ i e from low at.
    let links = c.args.st.now.links in
    let s = c.task_at-s.result in
    let chain = c.is_found_to_wait.ensures c.if-is_found_to_wait.true in
    elim (cases_lt i c.args.at) [
      | inl less ↦
          let f = below_there c.args.self.now.entries c.args.at c.requires.there in
          let lead = subst (λ (u : ℕ). KeepsWaiting links e.task u) (c.task_at-s.ensures f.0 f.1) (c.requires.decides f.0 f.1 i e less at) in
          led_on links e.task s c.args.t (λ done. false≢true (sym c.if-is_done.false ∙ c.is_done.ensures.1 done)) chain lead
      | inr high ↦
          let is : i ≡ c.args.at = omega (arith, low, high) in
          let own = c.task_at-s.ensures e (subst (λ (n : ℕ). slice_get c.args.self.now.entries n ≡ Some e) is at) in
          inr (subst (λ (u : ℕ). WaitsOn links u c.args.t) (sym own) chain)
    ]
