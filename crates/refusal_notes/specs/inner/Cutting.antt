-- A text of which a part was cut into tokens.
use Rattle.std.specs.Prelude.{◌≡◌, ℕ, Option, None, Some, List, [], ◌++◌}
use Rattle.twe_lexer.specs.declared.lexeme.Lexeme.{Lexeme}
use Rattle.twe_lexer.specs.Front.{Opens}
use Rattle.twe_lexer.specs.Tokens.{AreFirstLexemes}
use Rattle.refusal_notes.specs.declared.spots.Mark.{Mark}
use Rattle.refusal_notes.specs.declared.spots.Spot.{Spot}
use Rattle.refusal_notes.specs.Spots.{EndsCut, mark_after, spots_from}

-- the first lexeme of a text, or none if none is cut off
abbrev pub IsFront : List ℕ → Option Lexeme → Type 0
IsFront rest None = EndsCut rest
IsFront rest (Some lexeme) = Opens lexeme rest

-- the tokens of the text up to the rest, which begins at `start`
pub record HasSpots (text : List ℕ) (spots : List Spot) (start : Mark) (rest : List ℕ) : Type 0 where
  pub lexemes : List (List ℕ)
  pub before : List ℕ
  pub cut : AreFirstLexemes lexemes text rest
  pub whole : text ≡ before ++ rest
  pub at : start ≡ mark_after before
  pub sofar : (more : List (List ℕ)) → spots_from [] (lexemes ++ more) ≡ spots ++ spots_from before more
