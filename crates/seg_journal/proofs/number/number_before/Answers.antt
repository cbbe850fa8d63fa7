use Rattle.std.proofs.Common.{arith}
use Rattle.seg_journal.proofs.Decimal.{decimal_avoids, Some-same}
use Rattle.seg_journal.proofs.number.number_before.Goals as goal

pub returns-in_err-digits-clause-only : goal.returns-in_err-digits-clause-only
returns-in_err-digits-clause-only c n rest bound e =
    absurd (c.in_err-digits.ensures.only _ rest (decimal_avoids c.args.end n (omega (arith, bound)) c.requires) e)

pub returns-in_err-number-clause-only : goal.returns-in_err-number-clause-only
returns-in_err-number-clause-only c n rest bound e =
    let parts = c.in_ok-digits.ensures.only _ rest (decimal_avoids c.args.end n (omega (arith, bound)) c.requires) e in
    let none = c.in_err-number.ensures.only n (omega (arith, bound)) parts.0 in
    cc none

pub returns-then-number-most-clause-only : goal.returns-then-number-most-clause-only
returns-then-number-most-clause-only c n rest bound e =
    let parts = c.in_ok-digits.ensures.only _ rest (decimal_avoids c.args.end n (omega (arith, bound)) c.requires) e in
    let same = Some-same _ _ (c.in_ok-number.ensures.only n (omega (arith, bound)) parts.0) in
    omega (arith, same, bound)

pub returns-clause-only : goal.returns-clause-only
returns-clause-only c n rest bound e =
    let parts = c.in_ok-digits.ensures.only _ rest (decimal_avoids c.args.end n (omega (arith, bound)) c.requires) e in
    (Some-same _ _ (c.in_ok-number.ensures.only n (omega (arith, bound)) parts.0), parts.1)
