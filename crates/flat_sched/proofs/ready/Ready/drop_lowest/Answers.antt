use Rattle.std.proofs.Common.{◌≡◌, arith}
use Rattle.flat_sched.proofs.ready.Ready.drop_lowest.Goals as goal

pub returns-clause-kept : goal.returns-clause-kept
returns-clause-kept c = λ t u h low ne here.
    let least = c.in-Some.ensures.some t h in
    let least_too = low c.in-Some._lowest c.in-Some.ensures.there in
    let same : c.in-Some._lowest ≡ t = omega (arith, least, least_too) in
    c.in-Some.ensures.kept u (λ e. ne (omega (arith, e, same))) here

pub returns-in_default-clause-kept : goal.returns-in_default-clause-kept
returns-in_default-clause-kept c = λ t u h low ne here. absurd (c.in_default.ensures.none t h)

pub returns-in_default-clause-fewer : goal.returns-in_default-clause-fewer
returns-in_default-clause-fewer c = λ t h. absurd (c.in_default.ensures.none t h)
