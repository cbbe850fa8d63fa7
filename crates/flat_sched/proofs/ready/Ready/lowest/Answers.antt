use Rattle.std.proofs.Common.{◌≤◌, ◌-◌, List, ℕ, rules, sym, subst, arith}
use Rattle.flat_sched.specs.inner.Lists.{IsReady}
use Rattle.flat_sched.proofs.ready.Ready.lowest.Goals as goal

pub returns-clause-there : goal.returns-clause-there
returns-clause-there c =
    let fits : c.in_ok-top.top.now ≤ 4294967295 = search rules in
    subst (λ (ready : List ℕ). IsReady ready (4294967295 - c.in_ok-top.top.now)) c.self.view_is
    (c.in_ok-top.top.now, (0, c.in_ok-top.ensures.item.3.0, sym c.in_ok-top.ensures.lookup), omega (arith, fits))
