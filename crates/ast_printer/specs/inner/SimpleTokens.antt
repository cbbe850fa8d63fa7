-- The printed tokens of a statement that contains no other statements.
use Rattle.std.specs.Prelude.{List, []}
use Rattle.twe_ast.specs.Statement.{Statement, Block, Let, Set, SetArray, SetGrid, If, While, Return}
use Rattle.twe_lexer.specs.declared.token.TokenKind.{TokenKind}
use Rattle.ast_printer.specs.StatementTokens.{statement_tokens}

-- the printed tokens of a statement that contains no other statements; none for one that does
abbrev pub simple_tokens : Statement → List TokenKind
simple_tokens (Block body) = []
simple_tokens (If arms) = []
simple_tokens (While place condition body) = []
simple_tokens s = statement_tokens s

-- the printed tokens of a print, a call or a task operation
abbrev pub action_tokens : Statement → List TokenKind
action_tokens (Let is_final local_type name value) = []
action_tokens (Set name value) = []
action_tokens (SetArray array index value) = []
action_tokens (SetGrid array row column value) = []
action_tokens (Return place value) = []
action_tokens s = simple_tokens s
