use Rattle.std.proofs.Common.{ℕ, inl, inr, subst, arith}
use Rattle.std.proofs.lemmas.Bool.{cases_lt}
use Rattle.wait_graph.specs.Chain.{none}
use Rattle.wait_graph.specs.Waiting.{WaitsOn}
use Rattle.wait_graph.proofs.ChainLemmas.{Chain-push}
use Rattle.twe_machine.proofs.queue.Queue.end_of_walk.Goals as goal

pub walking-init : goal.walking-init
walking-init c = λ i e from low at.
    subst (λ (u : ℕ). WaitsOn c.args.st.now.links e.task u) (c.past-next.ensures.task i e from low at) none

-- each of them waits on, and the task that was reached may be that of the next place
pub walking-preserved : goal.walking-preserved
walking-preserved c = λ i e from low at.
    elim (cases_lt i c.walking.next) [
      | inl before ↦ Chain-push (c.walking.invariant i e from before at) c.in-Some.ensures.waits
      | inr late ↦ subst (λ (u : ℕ). WaitsOn c.args.st.now.links e.task u) (c.past-next-in-walking.ensures.task i e late low at) none
    ]

pub returns-in_default : goal.returns-in_default
returns-in_default c = λ i e from low at. absurd (omega (arith, from, low))

pub returns-then-at-t : goal.returns-then-at-t
returns-then-at-t c = λ i e from low at. inr (subst (λ (u : ℕ). WaitsOn c.args.st.now.links e.task u) c.if-at-t.true (c.walking.invariant i e from low at))

pub returns-else-at-t : goal.returns-else-at-t
returns-else-at-t c = λ i e from low at. absurd (omega (arith, from, low))
