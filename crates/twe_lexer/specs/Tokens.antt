-- The tokens that a text begins with.
use Rattle.std.specs.Prelude.{◌≡◌, ℕ, List, [], ◌∷◌, ◌++◌, if◌then◌else◌}
use Rattle.twe_lexer.specs.declared.token.Token.{Token}
use Rattle.twe_lexer.specs.Lexeme.{IsFirstLexeme}
use Rattle.twe_lexer.specs.Places.{place_after, is_gap}
use Rattle.twe_lexer.specs.Kinds.{kind_of}

-- the text is these lexemes, one after the other, followed by the rest
abbrev pub AreFirstLexemes : List (List ℕ) → List ℕ → List ℕ → Type 0
AreFirstLexemes [] text rest = text ≡ rest
AreFirstLexemes (first ∷ others) text rest = (later : List ℕ) × IsFirstLexeme first text later × AreFirstLexemes others later rest

-- those of the lexemes that are tokens, with their places in a text that begins with `before`
abbrev pub tokens_from : List ℕ → List (List ℕ) → List Token
tokens_from before [] = []
tokens_from before (first ∷ others) =
    if is_gap first then tokens_from (before ++ first) others
    else (record { kind = kind_of first; place = place_after before } ∷ tokens_from (before ++ first) others)

-- The text begins with these tokens, by the rule of the longest lexeme, followed by the rest. Blanks and comments are
-- allowed before, between and after them. Each text can be split so to its end: a byte that begins no token of the
-- language is a token by itself, and a comment without an end extends to the end of the text.
pub record BeginsWith (text : List ℕ) (tokens : List Token) (rest : List ℕ) : Type 0 where
  pub lexemes : List (List ℕ)
  pub cut : AreFirstLexemes lexemes text rest
  pub same : tokens ≡ tokens_from [] lexemes
