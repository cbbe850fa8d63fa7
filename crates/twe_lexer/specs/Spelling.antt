-- The spellings of keywords and symbols.
use Rattle.std.specs.Prelude.{ℕ, List, [], ◌∷◌, Option, codes, bytes_eq, find}
use Rattle.twe_lexer.specs.declared.fixed.Fixed.{Fixed}
use Rattle.twe_lexer.specs.declared.fixed.Fixed.TheVariants as fixed

-- how a keyword or a symbol is written in a text
abbrev pub spelling : Fixed → List ℕ
spelling fixed.Region = codes "region"
spelling fixed.Int = codes "int"
spelling fixed.Boolean = codes "boolean"
spelling fixed.Void = codes "void"
spelling fixed.Task = codes "task"
spelling fixed.Deterministic = codes "deterministic"
spelling fixed.Reads = codes "reads"
spelling fixed.Writes = codes "writes"
spelling fixed.Pure = codes "pure"
spelling fixed.Final = codes "final"
spelling fixed.Future = codes "future"
spelling fixed.If = codes "if"
spelling fixed.Else = codes "else"
spelling fixed.While = codes "while"
spelling fixed.Return = codes "return"
spelling fixed.Print = codes "print"
spelling fixed.True = codes "true"
spelling fixed.False = codes "false"
spelling fixed.In = codes "in"
spelling fixed.Root = codes "Root"
spelling fixed.Spawn = codes "spawn"
spelling fixed.ExecuteLater = codes "executeLater"
spelling fixed.GetValue = codes "getValue"
spelling fixed.Join = codes "join"
spelling fixed.OpenBrace = codes "{"
spelling fixed.CloseBrace = codes "}"
spelling fixed.OpenParen = codes "("
spelling fixed.CloseParen = codes ")"
spelling fixed.OpenBracket = codes "["
spelling fixed.CloseBracket = codes "]"
spelling fixed.Semicolon = codes ";"
spelling fixed.Comma = codes ","
spelling fixed.Colon = codes ":"
spelling fixed.Dot = codes "."
spelling fixed.Question = codes "?"
spelling fixed.Assign = codes "="
spelling fixed.Equal = codes "=="
spelling fixed.NotEqual = codes "!="
spelling fixed.Less = codes "<"
spelling fixed.LessEqual = codes "<="
spelling fixed.Greater = codes ">"
spelling fixed.GreaterEqual = codes ">="
spelling fixed.Plus = codes "+"
spelling fixed.Minus = codes "-"
spelling fixed.Star = codes "*"
spelling fixed.Slash = codes "/"
spelling fixed.Percent = codes "%"
spelling fixed.Not = codes "!"
spelling fixed.And = codes "&&"
spelling fixed.Or = codes "||"

-- all keywords and symbols
abbrev pub every_fixed : List Fixed
every_fixed =
    fixed.Region ∷ fixed.Int ∷ fixed.Boolean ∷ fixed.Void ∷ fixed.Task ∷ fixed.Deterministic ∷ fixed.Reads ∷
    fixed.Writes ∷ fixed.Pure ∷ fixed.Final ∷ fixed.Future ∷ fixed.If ∷ fixed.Else ∷ fixed.While ∷ fixed.Return ∷
    fixed.Print ∷ fixed.True ∷ fixed.False ∷ fixed.In ∷ fixed.Root ∷ fixed.Spawn ∷ fixed.ExecuteLater ∷
    fixed.GetValue ∷ fixed.Join ∷ fixed.OpenBrace ∷ fixed.CloseBrace ∷ fixed.OpenParen ∷ fixed.CloseParen ∷
    fixed.OpenBracket ∷ fixed.CloseBracket ∷ fixed.Semicolon ∷ fixed.Comma ∷ fixed.Colon ∷ fixed.Dot ∷
    fixed.Question ∷ fixed.Assign ∷ fixed.Equal ∷ fixed.NotEqual ∷ fixed.Less ∷ fixed.LessEqual ∷ fixed.Greater ∷
    fixed.GreaterEqual ∷ fixed.Plus ∷ fixed.Minus ∷ fixed.Star ∷ fixed.Slash ∷ fixed.Percent ∷ fixed.Not ∷
    fixed.And ∷ fixed.Or ∷ []

-- the one with this spelling, if there is one
abbrev pub spelled : List ℕ → Option Fixed
spelled bytes = find (λ f. bytes_eq bytes (spelling f)) every_fixed
