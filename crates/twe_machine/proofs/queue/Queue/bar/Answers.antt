use Rattle.std.proofs.Common.{◌<◌, ℕ, inl, inr, subst, arith}
use Rattle.std.proofs.lemmas.Bool.{cases_lt}
use Rattle.std.proofs.lemmas.Option.{slice_get_within}
use Rattle.machine_state.specs.Legal.{IsBar}
use Rattle.twe_machine.specs.Queues.{IsNoBar}
use Rattle.twe_machine.proofs.listing.Leading.{led_passes}
use Rattle.machine_state.proofs.lists.Places.{below_there}
use Rattle.twe_machine.proofs.queue.Queue.bar.Goals as goal

pub looking-init : goal.looking-init
looking-init c = λ i e low at. led_passes c.args.st.now c.args.t e.task c.requires.agree (c.count_by_deciders-at.ensures i e (omega arith) low at)

pub looking-preserved : goal.looking-preserved
looking-preserved c = λ i e low at.
    elim (cases_lt i c.looking.at) [
      | inl less ↦ c.looking.invariant i e less at
      | inr high ↦ c.passed_up_to-next.ensures.passed i e high low at
    ]

pub returns-then-next-at-clause-some : goal.returns-then-next-at-clause-some
returns-then-next-at-clause-some c =
    let e = below_there c.args.self.now.entries c.looking.at (omega (arith, c.looking-test.true)) in
    subst (λ (s : ℕ). IsBar c.args.st.now s c.args.t) (c.task_at.ensures e.0 e.1) (c.passed_up_to-next.ensures.bar (omega arith) e.0 e.1)

pub returns-clause-none : goal.returns-clause-none
returns-clause-none c = λ s h.
    let within = slice_get_within c.args.self.now.entries h.0 h.1 h.2 in
    let low : h.0 < c.looking.at = omega (arith, within) in
    subst (λ (u : ℕ). IsNoBar c.args.st.now c.args.t u) h.3 (c.looking.invariant h.0 h.1 low h.2)

pub last_bar-requires-clause-there : goal.last_bar-requires-clause-there
last_bar-requires-clause-there c = slice_get_within c.args.st.now.tasks c.args.t c.requires.made.0 c.requires.made.1
