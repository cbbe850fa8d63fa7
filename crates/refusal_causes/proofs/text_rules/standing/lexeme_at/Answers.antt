use Rattle.std.proofs.Common.{◌∙◌, subst}
use Rattle.twe_lexer.specs.Front.{Hinders}
use Rattle.twe_lexer.specs.declared.lexeme.LexemeFail.{LexemeFail}
use Rattle.refusal_causes.proofs.text_rules.Tokens.{finds, no_comment, no_stop, rest_is, some_rest}
use Rattle.refusal_causes.proofs.text_rules.standing.lexeme_at.Goals as goal

-- a token stands there
pub first_lexeme-requires : goal.first_lexeme-requires
first_lexeme-requires c =
    let text = c.args.text.now in
    some_rest text c.args.place c.requires c.from_place.result.now (c.from_place.ensures.lines ∙ rest_is text c.args.place c.requires)

-- its bytes are allowed
pub unreachable-requires : goal.unreachable-requires
unreachable-requires c =
    let text = c.args.text.now in
    no_stop text c.args.place c.requires c.from_place.result.now (c.from_place.ensures.lines ∙ rest_is text c.args.place c.requires) c.in-Err-NotAllowed.field-0-0
    (subst (λ (fail : LexemeFail). Hinders fail c.from_place.result.now) c.in-Err-NotAllowed.field-0-is c.in-Err-NotAllowed.ensures.hindered)

-- it is no comment
pub unreachable-requires-in-Err-Unclosed : goal.unreachable-requires-in-Err-Unclosed
unreachable-requires-in-Err-Unclosed c =
    let text = c.args.text.now in
    no_comment text c.args.place c.requires c.from_place.result.now (c.from_place.ensures.lines ∙ rest_is text c.args.place c.requires)
    (subst (λ (fail : LexemeFail). Hinders fail c.from_place.result.now) c.in-Err-Unclosed.field-0-is c.in-Err-Unclosed.ensures.hindered)

-- it is the first lexeme
pub returns-in-Ok : goal.returns-in-Ok
returns-in-Ok c at =
    let text = c.args.text.now in
    finds text c.args.place at c.from_place.result.now (c.from_place.ensures.lines ∙ rest_is text c.args.place at) c.in-Ok.lexeme c.in-Ok.ensures.found
