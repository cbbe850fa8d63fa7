use Rattle.std.proofs.Common.{◌≡◌, ◌-◌, ◌*◌, ◌+◌, None, length}
use Rattle.flat_sched.specs.inner.Books.{Keeps}
use Rattle.flat_sched.proofs.Going.{IsGoing}
use Rattle.flat_sched.proofs.lowest_run.run_lowest_while.Given as goal

abbrev pub invariant-moves : goal.invariant-moves
invariant-moves g l = record { going : IsGoing l.p l.lim l.journal l.st; keeps : l.st.first_fault ≡ None → Keeps l.st l.books }

-- how many more entries the journal may have
abbrev pub decreases-moves : goal.decreases-moves
decreases-moves g l = l.lim.tasks * (2 * l.lim.fuel + 2) - length l.journal
