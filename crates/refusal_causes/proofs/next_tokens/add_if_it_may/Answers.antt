use Rattle.std.proofs.Common.{◌++◌, ◌∷◌, [], subst, sym}
use Rattle.refusal_causes.specs.NextTokens.{AreNextAmong, Decides, tried}
use Rattle.refusal_causes.proofs.Following.{one_may, one_may_not}
use Rattle.refusal_causes.proofs.next_tokens.add_if_it_may.Goals as goal

-- it may stand there
pub returns-in_ok-push : goal.returns-in_ok-push
returns-in_ok-push c =
    let before = c.args.before.now in
    let token = c.args.token in
    λ tokens are. subst (AreNextAmong before (tokens ++ token ∷ [])) (sym c.in_ok-push.ensures.ok)
    (one_may before tokens c.args.found.now token are (subst (Decides (tried before token)) c.if-branch.true c.in_ok-may_follow.ensures))

-- it may not
pub returns-else-branch : goal.returns-else-branch
returns-else-branch c =
    let before = c.args.before.now in
    let token = c.args.token in
    λ tokens are. one_may_not before tokens c.args.found.now token are
    (subst (Decides (tried before token)) c.if-branch.false c.in_ok-may_follow.ensures)
