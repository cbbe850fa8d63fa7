use Rattle.std.proofs.Common.{◌≡◌, Option, None, Some, sym, ◌∙◌}
use Rattle.twe_lexer.specs.declared.token.TokenKind.{TokenKind}
use Rattle.twe_lexer.specs.Kinds.{kind_of}
use Rattle.refusal_causes.proofs.text_rules.standing.kind_at.Goals as goal

-- it is a token
pub unreachable-requires : goal.unreachable-requires
unreachable-requires c =
    let none : ◌≡◌ {A = Option TokenKind} None (Some (kind_of c.requires.bytes)) = sym c.in-None.is ∙ c.in_ok-lexeme.ensures c.requires in cc
