-- What the layout asks of tokens: which of them stand close to one another.
use Rattle.std.specs.Prelude.{Bool, true, false, not, ◌&&◌, ◌||◌}
use Rattle.twe_lexer.specs.declared.fixed.Fixed.TheVariants as fixed
use Rattle.text_pieces.specs.declared.piece.Class.{Class}
use Rattle.text_pieces.specs.declared.piece.Class.TheVariants as classes

-- a comment
abbrev pub is_comment_class : Class → Bool
is_comment_class classes.LineComment = true
is_comment_class classes.BlockComment = true
is_comment_class _ = false

-- a comment to the end of its line
abbrev pub is_line_comment_class : Class → Bool
is_line_comment_class classes.LineComment = true
is_line_comment_class _ = false

-- `{`
abbrev pub is_open_brace : Class → Bool
is_open_brace (classes.Fixed fixed.OpenBrace) = true
is_open_brace _ = false

-- `}`
abbrev pub is_close_brace : Class → Bool
is_close_brace (classes.Fixed fixed.CloseBrace) = true
is_close_brace _ = false

-- `)`
abbrev pub is_close_paren : Class → Bool
is_close_paren (classes.Fixed fixed.CloseParen) = true
is_close_paren _ = false

-- a comma
abbrev pub is_comma : Class → Bool
is_comma (classes.Fixed fixed.Comma) = true
is_comma _ = false

-- `else`
abbrev pub is_else : Class → Bool
is_else (classes.Fixed fixed.Else) = true
is_else _ = false

-- `reads` or `writes`: a clause of effects begins with it
abbrev pub is_clause : Class → Bool
is_clause (classes.Fixed fixed.Reads) = true
is_clause (classes.Fixed fixed.Writes) = true
is_clause _ = false

-- a statement or a declaration can begin after it
abbrev pub precedes_statement : Class → Bool
precedes_statement (classes.Fixed fixed.Semicolon) = true
precedes_statement (classes.Fixed fixed.OpenBrace) = true
precedes_statement (classes.Fixed fixed.CloseBrace) = true
precedes_statement _ = false

-- an operand can end with it
abbrev pub can_end_operand : Class → Bool
can_end_operand classes.Name = true
can_end_operand classes.Literal = true
can_end_operand (classes.Fixed fixed.True) = true
can_end_operand (classes.Fixed fixed.False) = true
can_end_operand (classes.Fixed fixed.CloseParen) = true
can_end_operand (classes.Fixed fixed.CloseBracket) = true
can_end_operand _ = false

-- an operand can begin with it; so it can with `-`, which stands apart from the operator before it
abbrev pub can_begin_operand : Class → Bool
can_begin_operand classes.Name = true
can_begin_operand classes.Literal = true
can_begin_operand (classes.Fixed fixed.True) = true
can_begin_operand (classes.Fixed fixed.False) = true
can_begin_operand (classes.Fixed fixed.OpenParen) = true
can_begin_operand (classes.Fixed fixed.Not) = true
can_begin_operand _ = false

-- an operator with one operand; `earlier` is the token before it
abbrev pub is_unary : Class → Class → Bool
is_unary earlier (classes.Fixed fixed.Not) = true
is_unary earlier (classes.Fixed fixed.Minus) = not (can_end_operand earlier)
is_unary earlier _ = false

-- no blank stands before it
abbrev pub closes_up : Class → Bool
closes_up (classes.Fixed fixed.Semicolon) = true
closes_up (classes.Fixed fixed.Comma) = true
closes_up (classes.Fixed fixed.CloseParen) = true
closes_up (classes.Fixed fixed.CloseBracket) = true
closes_up (classes.Fixed fixed.Colon) = true
closes_up (classes.Fixed fixed.Dot) = true
closes_up _ = false

-- no blank stands after it
abbrev pub opens_up : Class → Bool
opens_up (classes.Fixed fixed.OpenParen) = true
opens_up (classes.Fixed fixed.OpenBracket) = true
opens_up (classes.Fixed fixed.Colon) = true
opens_up (classes.Fixed fixed.Dot) = true
opens_up _ = false

-- arguments or parameters can follow it
abbrev pub takes_arguments : Class → Bool
takes_arguments classes.Name = true
takes_arguments (classes.Fixed fixed.Print) = true
takes_arguments (classes.Fixed fixed.Spawn) = true
takes_arguments (classes.Fixed fixed.ExecuteLater) = true
takes_arguments (classes.Fixed fixed.GetValue) = true
takes_arguments (classes.Fixed fixed.Join) = true
takes_arguments _ = false

-- an index can follow it
abbrev pub takes_index : Class → Bool
takes_index classes.Name = true
takes_index (classes.Fixed fixed.CloseBracket) = true
takes_index _ = false

-- the second begins arguments or an index of the first
abbrev pub belongs_to : Class → Class → Bool
belongs_to before (classes.Fixed fixed.OpenParen) = takes_arguments before
belongs_to before (classes.Fixed fixed.OpenBracket) = takes_index before
belongs_to before _ = false

-- no blank stands between the last two of three tokens, if they are on one line
abbrev pub is_glued : Class → Class → Class → Bool
is_glued earlier before after =
    closes_up after || opens_up before || belongs_to before after || (is_unary earlier before && can_begin_operand after)
