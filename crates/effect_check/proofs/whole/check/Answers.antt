use Rattle.std.proofs.Common.{subst}
use Rattle.effect_check.specs.inner.First.{IsFirstOf, FailsInBody}
use Rattle.effect_check.proofs.whole.check.Goals as goal

pub returns-in-None-clause-accepted : goal.returns-in-None-clause-accepted
returns-in-None-clause-accepted c =
    let none = subst (IsFirstOf (FailsInBody c.args.p.now)) c.in-None.is c.in_ok-first_failure.ensures in
    λ rule place. none (record { rule = rule; place = place })

pub returns-in-Some-clause-refused : goal.returns-in-Some-clause-refused
returns-in-Some-clause-refused c =
    let some = subst (IsFirstOf (FailsInBody c.args.p.now)) c.in-Some.is c.in_ok-first_failure.ensures in
    record { fails = some.0; first = λ rule place. some.1 (record { rule = rule; place = place }) }
