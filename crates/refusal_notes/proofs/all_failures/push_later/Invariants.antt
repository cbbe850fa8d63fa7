use Rattle.std.proofs.Common.{◌≡◌, ◌++◌, drop}
use Rattle.refusal_notes.specs.AllFailures.{later_pages}
use Rattle.refusal_notes.proofs.all_failures.push_later.Given as goal

-- the pages so far and those of what is left are those of all
abbrev pub invariant-loop-failure : goal.invariant-loop-failure
invariant-loop-failure l =
    l.pages ++ later_pages l.wanted l.text l.tree l.p (drop l.failure-index l.failures)
    ≡ l.fn.pages ++ later_pages l.wanted l.text l.tree l.p l.failures
