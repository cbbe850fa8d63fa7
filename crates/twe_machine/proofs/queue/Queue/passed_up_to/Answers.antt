-- The first task is no bar if it does not meet t or waits for it, and then those are none that the walk passed by.
use Rattle.std.proofs.Common.{ℕ, sym, subst}
use Rattle.std.proofs.lemmas.Option.{slice_get_within}
use Rattle.machine_state.specs.Legal.{IsBar}
use Rattle.twe_machine.proofs.listing.Leading.{led_passes}
use Rattle.twe_machine.proofs.queue.Queue.passed_up_to.Goals as goal

pub returns-then-next-from-clause-passed : goal.returns-then-next-from-clause-passed
returns-then-next-from-clause-passed c = λ i e from low at.
    led_passes c.args.st.now c.args.t e.task c.requires.agree (c.end_of_walk-next.ensures i e from low at)

pub bars-requires-clause-there : goal.bars-requires-clause-there
bars-requires-clause-there c = slice_get_within c.args.st.now.tasks c.args.t c.requires.made.0 c.requires.made.1

pub returns-then-bars-clause-bar : goal.returns-then-bars-clause-bar
returns-then-bars-clause-bar c = λ low e at.
    subst (λ (s : ℕ). IsBar c.args.st.now s c.args.t) (sym (c.task_at-s.ensures e at)) (c.bars.ensures.bar c.if-bars.true)
