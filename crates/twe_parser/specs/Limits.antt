-- The limits on the tokens of a text: how large a literal may be, how many brackets may be open, and how many operators
-- a statement may have.
use Rattle.std.specs.Prelude.{◌+◌, ◌-◌, Bool, true, false, ◌&&◌, ◌||◌, not, List, fold, ◌==◌, nat_le, nat_lt, if◌then◌else◌}
use Rattle.twe_base.specs.Language.{max_literal, max_open_brackets, max_operators}
use Rattle.twe_lexer.specs.declared.fixed.Fixed.TheVariants as fixed
use Rattle.twe_lexer.specs.declared.token.Token.{Token}
use Rattle.twe_lexer.specs.declared.token.TokenKind.{TokenKind}
use Rattle.twe_lexer.specs.declared.token.TokenKind.TheVariants as kinds
use Rattle.twe_parser.specs.declared.limits.Sofar.{Sofar}

-- an opening bracket: `{`, `(` or `[`
abbrev pub opens : TokenKind → Bool
opens (kinds.Fixed fixed.OpenBrace) = true
opens (kinds.Fixed fixed.OpenParen) = true
opens (kinds.Fixed fixed.OpenBracket) = true
opens _ = false

-- a closing bracket: `}`, `)` or `]`
abbrev pub closes : TokenKind → Bool
closes (kinds.Fixed fixed.CloseBrace) = true
closes (kinds.Fixed fixed.CloseParen) = true
closes (kinds.Fixed fixed.CloseBracket) = true
closes _ = false

-- the operators that count towards the limit
abbrev pub is_operator : TokenKind → Bool
is_operator (kinds.Fixed fixed.Or) = true
is_operator (kinds.Fixed fixed.And) = true
is_operator (kinds.Fixed fixed.Equal) = true
is_operator (kinds.Fixed fixed.NotEqual) = true
is_operator (kinds.Fixed fixed.Less) = true
is_operator (kinds.Fixed fixed.LessEqual) = true
is_operator (kinds.Fixed fixed.Greater) = true
is_operator (kinds.Fixed fixed.GreaterEqual) = true
is_operator (kinds.Fixed fixed.Plus) = true
is_operator (kinds.Fixed fixed.Minus) = true
is_operator (kinds.Fixed fixed.Star) = true
is_operator (kinds.Fixed fixed.Slash) = true
is_operator (kinds.Fixed fixed.Percent) = true
is_operator (kinds.Fixed fixed.Not) = true
is_operator _ = false

-- `;`, `{` and `}`: after them the count of operators restarts
abbrev pub ends_statement : TokenKind → Bool
ends_statement (kinds.Fixed fixed.Semicolon) = true
ends_statement (kinds.Fixed fixed.OpenBrace) = true
ends_statement (kinds.Fixed fixed.CloseBrace) = true
ends_statement _ = false

-- an operand can end with this token
abbrev pub ends_operand : TokenKind → Bool
ends_operand (kinds.Name text) = true
ends_operand (kinds.Literal value) = true
ends_operand (kinds.Fixed fixed.True) = true
ends_operand (kinds.Fixed fixed.False) = true
ends_operand (kinds.Fixed fixed.CloseParen) = true
ends_operand (kinds.Fixed fixed.CloseBracket) = true
ends_operand _ = false

-- a `-`, with one operand or two
abbrev pub is_minus : TokenKind → Bool
is_minus (kinds.Fixed fixed.Minus) = true
is_minus _ = false

-- The counts after one more token: the open brackets; the operators of the statement, where only those inside brackets
-- count; whether the token can end an operand; and whether it is a `-` without an operand before it.
abbrev pub sofar_after : Sofar → TokenKind → Sofar
sofar_after sofar kind = record {
  open_brackets =
      if opens kind then sofar.open_brackets + 1 else if closes kind then sofar.open_brackets - 1 else sofar.open_brackets;
  operators =
      if ends_statement kind then 0
      else if is_operator kind && nat_lt 0 sofar.open_brackets then sofar.operators + 1 else sofar.operators;
  operand_ended = ends_operand kind;
  unary_minus = is_minus kind && not sofar.operand_ended;
}

-- the counts before the first token
abbrev pub limits_at_start : Sofar
limits_at_start = record { open_brackets = 0; operators = 0; operand_ended = false; unary_minus = false }

-- the counts after these tokens
abbrev pub sofar_of : List Token → Sofar
sofar_of tokens = fold (λ sofar token. sofar_after sofar token.kind) limits_at_start tokens

-- a literal above the largest one, unless it is the number after that directly after a unary minus
abbrev pub is_too_large : Sofar → TokenKind → Bool
is_too_large sofar (kinds.Literal value) = nat_lt max_literal value && not ((value == max_literal + 1) && sofar.unary_minus)
is_too_large sofar _ = false

-- one open bracket too many, or one operator too many in a statement
abbrev pub is_too_deep : Sofar → TokenKind → Bool
is_too_deep sofar kind =
    (opens kind && nat_le max_open_brackets sofar.open_brackets)
    || (is_operator kind && nat_lt 0 sofar.open_brackets && nat_le max_operators sofar.operators)
