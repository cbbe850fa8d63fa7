use Rattle.flat_sched.proofs.PassedOn.{released_group}
use Rattle.flat_sched.proofs.passing.release.Goals as goal

pub returns : goal.returns
returns c =
    released_group c.args.u c.args.books.now c.take.new.groups c.wake_all.new.ready c.in-Some.group c.in-Some.ensures.some c.take.ensures.kept c.take.ensures.back
    c.in_ok-wake_all.ensures.woken c.in_ok-wake_all.ensures.kept
