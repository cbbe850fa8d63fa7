use Rattle.std.proofs.lemmas.Str.{IsUtf8-from_ascii}
use Rattle.twe_lexer.proofs.token.TokenKind.new.Goals as goal

-- ASCII bytes are a text
pub unreachable-requires : goal.unreachable-requires
unreachable-requires c = c.in_default.ensures.cases.0 (IsUtf8-from_ascii c.args.bytes.now c.requires)
