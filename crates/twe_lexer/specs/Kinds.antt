-- The kinds of tokens.
use Rattle.std.specs.Prelude.{ℕ, ◌+◌, ◌-◌, ◌*◌, min, List, Option, None, Some, fold, if◌then◌else◌}
use Rattle.twe_base.specs.Language.{max_literal}
use Rattle.twe_lexer.specs.declared.fixed.Fixed.{Fixed}
use Rattle.twe_lexer.specs.declared.token.TokenKind.{TokenKind}
use Rattle.twe_lexer.specs.declared.token.TokenKind.TheVariants as kinds
use Rattle.twe_lexer.specs.Lexeme.{is_word, is_number}
use Rattle.twe_lexer.specs.Places.{is_gap}
use Rattle.twe_lexer.specs.Spelling.{spelled}

-- the number with these decimal digits
abbrev pub number_of_kind : List ℕ → ℕ
number_of_kind digits = fold (λ value digit. value * 10 + (digit - 48)) 0 digits

-- a keyword or a symbol, if it is one; else a word is a name, and any other byte is stray
abbrev pub kind_unless : Option Fixed → List ℕ → TokenKind
kind_unless (Some f) bytes = kinds.Fixed f
kind_unless None bytes = if is_word bytes then kinds.Name bytes else kinds.Stray

-- the value that stands for every number that is too large in every position
abbrev pub too_large : ℕ
too_large = max_literal + 2

-- A literal has its value. All numbers above `max_literal + 1` have the same one.
abbrev pub kind_of : List ℕ → TokenKind
kind_of bytes =
    if is_number bytes then kinds.Literal (min (number_of_kind bytes) too_large) else kind_unless (spelled bytes) bytes

-- the kind of the token that a lexeme is, if it is a token
abbrev pub token_kind : List ℕ → Option TokenKind
token_kind bytes = if is_gap bytes then None else Some (kind_of bytes)
