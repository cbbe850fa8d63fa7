-- One token more that is tried.
use Rattle.std.proofs.Common.{ℕ, List, [], ◌∷◌, ◌++◌}
use Rattle.refusal_causes.specs.declared.next_tokens.NextToken.{NextToken}
use Rattle.refusal_causes.specs.NextTokens.{AreNextAmong, BeginsAProgram, IsBroken, tried}

-- it may stand behind the beginning
pub one_may : (before : List ℕ) (tokens found : List NextToken) (token : NextToken) → AreNextAmong before tokens found
    → BeginsAProgram (tried before token) → AreNextAmong before (tokens ++ token ∷ []) (found ++ token ∷ [])
one_may before tokens found token AreNextAmong.none begins = AreNextAmong.may token [] [] begins AreNextAmong.none
one_may before tokens found token (AreNextAmong.may first others rest here there) begins =
    AreNextAmong.may first (others ++ token ∷ []) (rest ++ token ∷ []) here (one_may before others rest token there begins)
one_may before tokens found token (AreNextAmong.may_not first others rest here there) begins =
    AreNextAmong.may_not first (others ++ token ∷ []) (rest ++ token ∷ []) here (one_may before others rest token there begins)

-- it may not
pub one_may_not : (before : List ℕ) (tokens found : List NextToken) (token : NextToken) → AreNextAmong before tokens found
    → IsBroken (tried before token) → AreNextAmong before (tokens ++ token ∷ []) found
one_may_not before tokens found token AreNextAmong.none broken = AreNextAmong.may_not token [] [] broken AreNextAmong.none
one_may_not before tokens found token (AreNextAmong.may first others rest here there) broken =
    AreNextAmong.may first (others ++ token ∷ []) rest here (one_may_not before others rest token there broken)
one_may_not before tokens found token (AreNextAmong.may_not first others rest here there) broken =
    AreNextAmong.may_not first (others ++ token ∷ []) rest here (one_may_not before others rest token there broken)
