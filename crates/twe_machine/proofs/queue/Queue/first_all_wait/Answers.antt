use Rattle.std.proofs.Common.{arith}
use Rattle.twe_machine.proofs.listing.Leading.{led_joined}
use Rattle.twe_machine.proofs.queue.Queue.first_all_wait.Goals as goal

pub leading-init : goal.leading-init
leading-init c = c.count_by_deciders-at.ensures

pub leading-preserved : goal.leading-preserved
leading-preserved c =
    led_joined c.args.st.now.links c.args.self.now.entries 0 c.leading.at c.end_of_walk-next.result c.args.t c.leading.invariant c.end_of_walk-next.ensures

pub returns : goal.returns
returns c = λ yes i e from low at. c.leading.invariant i e from (omega (arith, low)) at
