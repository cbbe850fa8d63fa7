-- Why the rest of a text, which begins at this place, has no first lexeme.
use Rattle.std.specs.Prelude.{◌≡◌, ℕ, List, ◌++◌, take}
use Rattle.twe_base.specs.declared.place.Place.{Place}
use Rattle.twe_lexer.specs.Front.{StopsAt}
use Rattle.twe_lexer.specs.Lexeme.{IsUnclosedComment}
use Rattle.twe_lexer.specs.Places.{place_after}
use Rattle.twe_parser.specs.declared.fail.ParseFail.{ParseFail}
use Rattle.twe_parser.specs.declared.fail.ParseFail.TheVariants as fails
use Rattle.twe_parser.specs.declared.fail.SRule.{SRule}
use Rattle.twe_parser.specs.declared.fail.SRule.TheVariants.{S1, S6}

-- A rule is failed at `at` by the rest of a text, which begins at `place`: S1 at the first byte of the first lexeme that is not
-- allowed, and S6 at the beginning of a comment without an end.
abbrev pub RefusesFront : SRule → Place → List ℕ → Place → Type 0
RefusesFront S1 at rest place =
    (n : ℕ) × StopsAt n rest × ((before : List ℕ) → place ≡ place_after before → at ≡ place_after (before ++ take n rest))
RefusesFront S6 at rest place = (at ≡ place) × IsUnclosedComment rest
RefusesFront _ at rest place = ⊥

-- the same for a refusal, which says nothing if it is one for want of memory
abbrev pub RefusesLexeme : ParseFail → List ℕ → Place → Type 0
RefusesLexeme (fails.Syntax rule at) rest place = RefusesFront rule at rest place
RefusesLexeme (fails.OutOfMemory memory) rest place = Unit {0}
