use Rattle.run_laws.proofs.orders.WaitPaths.{one_waiter, waited_for_by_maker, waiters_ordered}
use Rattle.run_laws.proofs.orders.waits_form_paths.Goals as goal

pub returns : goal.returns
returns c = record { made = waited_for_by_maker; one = one_waiter; ordered = waiters_ordered }
