use Rattle.std.proofs.Common.{◌≢◌, arith}
use Rattle.flat_sched.proofs.ready.Ready.lowest_from.Goals as goal

pub returns-then-from-clause-some : goal.returns-then-from-clause-some
returns-then-from-clause-some c = λ u h. c.in-Some.ensures.some u h.1

pub dropping-smaller : goal.dropping-smaller
dropping-smaller c = let less = c.drop_lowest.ensures.fewer c.in-Some.t c.in-Some.ensures.there in omega (arith, less)

-- a task from the number on is not the one that is dropped
pub dropping-preserved : goal.dropping-preserved
dropping-preserved c = λ u h.
    let was = c.dropping.invariant u h in
    let low = h.0 in
    let apart : u ≢ c.in-Some.t = λ is. absurd (omega (arith, low, is, c.if-from.false, c.from.ensures)) in
    (h.0, c.drop_lowest.ensures.kept c.in-Some.t u c.in-Some.ensures.there c.in-Some.ensures.some apart was.1)

pub returns-clause-none : goal.returns-clause-none
returns-clause-none c = λ u h. c.in_default.ensures.none u h.1
