use Rattle.std.proofs.Common.{◌≤◌, sym, subst, arith}
use Rattle.refusal_causes.specs.NextTokens.{AreNextAt}
use Rattle.refusal_causes.proofs.next_tokens.next_tokens.Goals as goal

-- no beginning of the text has the place behind it
pub returns-in-None : goal.returns-in-None
returns-in-None c = subst (AreNextAt c.args.text.now c.args.place) (sym c.new.ensures) (AreNextAt.nowhere c.in-None.ensures.none)

-- too much stands before the place
pub returns-then-count-gt65536 : goal.returns-then-count-gt65536
returns-then-count-gt65536 c =
    subst (AreNextAt c.args.text.now c.args.place) (sym c.new-then-count-gt65536.ensures)
    (AreNextAt.too_long c.in-Some.count c.in-Some.ensures.found.0 c.in-Some.ensures.found.1 c.if-count-gt65536.true)

-- the tokens that may stand behind what comes before the place
pub returns-in_ok-found-in-Some : goal.returns-in_ok-found-in-Some
returns-in_ok-found-in-Some c =
    let few : c.in-Some.count ≤ 65536 = let test = c.if-count-gt65536.false in omega (arith, test) in
    AreNextAt.behind c.in-Some.count c.in_ok-found-in-Some.found c.in-Some.ensures.found.0 c.in-Some.ensures.found.1 few
    c.in_ok-found-in-Some.ensures
