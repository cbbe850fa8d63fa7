-- The meaning of each nonterminal: the tokens of some tree, or tokens that complete those of one.
use Rattle.std.proofs.Common.{◌≡◌, ℕ, ◌+◌, ◌≤◌, ◌⊎◌, Bool, true, List, [], ◌∷◌, ◌++◌, Option, None, Some}
use Rattle.twe_base.specs.declared.place.Place.{Place}
use Rattle.twe_ast.specs.declared.item.Clause.{Clause}
use Rattle.twe_ast.specs.declared.item.Decl.{Decl}
use Rattle.twe_ast.specs.declared.item.Initial.{Initial}
use Rattle.twe_ast.specs.declared.item.Item.{Item}
use Rattle.twe_ast.specs.declared.name.Name.{Name}
use Rattle.twe_ast.specs.declared.path.CellElem.{CellElem}
use Rattle.twe_ast.specs.declared.path.CellPath.{CellPath}
use Rattle.twe_ast.specs.declared.path.Path.{Path}
use Rattle.twe_ast.specs.declared.path.PathElem.{PathElem}
use Rattle.twe_ast.specs.declared.stmt.WaitCall.{WaitCall}
use Rattle.twe_ast.specs.Expression.{Expression, Arguments}
use Rattle.twe_ast.specs.Statement.{Statement, Statements, Arms}
use Rattle.twe_lexer.specs.declared.fixed.Fixed.{Fixed}
use Rattle.twe_lexer.specs.declared.fixed.Fixed.TheVariants as fixed
use Rattle.twe_lexer.specs.declared.token.Token.{Token}
use Rattle.twe_parser.specs.declared.production.Production.{Production}
use Rattle.twe_parser.specs.declared.symbol.Action.{Action}
use Rattle.twe_parser.specs.declared.symbol.CellKind.{CellKind}
use Rattle.twe_parser.specs.declared.symbol.CellKind.TheVariants as cells
use Rattle.twe_parser.specs.declared.symbol.Nonterminal.{Nonterminal}
use Rattle.twe_parser.specs.declared.symbol.Nonterminal.TheVariants as nonterminals
use Rattle.twe_parser.specs.declared.symbol.Symbol.{Symbol}
use Rattle.twe_parser.specs.declared.symbol.Symbol.TheVariants as symbols
use Rattle.twe_parser.specs.Written.{word, named, number}
use Rattle.twe_parser.specs.Writes.{MoreNames, WritesInitial, MoreParams as ParamsMore, WritesParams, MorePaths, MoreClauses, WritesEffects, WritesDecl, WritesItem, WritesItems}
use Rattle.twe_parser.specs.WritesExpression.{WritesExpression, WritesArguments, MoreArguments}
use Rattle.twe_parser.specs.WritesPath.{WritesCellElem, MoreCellElems, WritesCellPath, WritesElem, MoreElems, WritesPath}
use Rattle.twe_parser.specs.WritesStatement.{WritesWait, WritesStatement, WritesStatements, MoreArms}
use Rattle.twe_parser.specs.inner.Productions.{climb_production}
use Rattle.twe_parser.specs.inner.Terminals.{terminal_of}

-- the next token is not an operator of this precedence or a higher one
abbrev pub Below : ℕ → List Token → Type 0
Below level [] = Unit {0}
Below level (token ∷ tokens) = climb_production level (terminal_of token.kind) ≡ None

-- an expression of this level, followed by the rest
abbrev pub HasExpression : ℕ → List Token → List Token → Type 0
HasExpression level tokens rest = (e : Expression) × WritesExpression level e tokens rest

-- an expression and a `;`
abbrev pub HasValue : List Token → List Token → Type 0
HasValue tokens rest = (e : Expression) × (ending : Place) × WritesExpression 0 e tokens (word fixed.Semicolon ending ∷ rest)

abbrev pub HasWait : List Token → List Token → Type 0
HasWait tokens rest = (call : WaitCall) × WritesWait call tokens rest

abbrev pub HasStatement : Bool → List Token → List Token → Type 0
HasStatement in_task tokens rest = (s : Statement) × WritesStatement in_task s tokens rest

-- what follows the path of a cell, an array or a grid
abbrev pub EndsCell : CellKind → List Token → List Token → Type 0
EndsCell cells.Scalar tokens rest = (start : Option Initial) × (ending : Place) × WritesInitial start tokens (word fixed.Semicolon ending ∷ rest)
EndsCell cells.Array tokens rest = (ending : Place) × (tokens ≡ word fixed.Semicolon ending ∷ rest)
EndsCell cells.Grid tokens rest = (ending : Place) × (tokens ≡ word fixed.Semicolon ending ∷ rest)

-- what follows a path of a clause: more paths, more clauses, and the block
pub record FollowsPath (in_task : Bool) (tokens rest : List Token) : Type 0 where
  pub paths : List Path
  pub after_paths : List Token
  pub writes_paths : MorePaths paths tokens after_paths
  pub clauses : List Clause
  pub brace : Place
  pub inside : List Token
  pub writes_clauses : MoreClauses clauses after_paths (word fixed.OpenBrace brace ∷ inside)
  pub body : Statements
  pub writes_body : WritesStatements in_task body inside rest

pub record HasEffects (in_task : Bool) (tokens rest : List Token) : Type 0 where
  pub effects : List Clause
  pub brace : Place
  pub inside : List Token
  pub writes_effects : WritesEffects effects tokens (word fixed.OpenBrace brace ∷ inside)
  pub body : Statements
  pub writes_body : WritesStatements in_task body inside rest

abbrev pub Means : Nonterminal → List Token → List Token → Type 0
Means nonterminals.Items tokens rest = (rest ≡ []) × ((all : List Item) × WritesItems all tokens)
Means nonterminals.MoreRegions tokens rest = (names : List Name) × (ending : Place) × MoreNames names tokens (word fixed.Semicolon ending ∷ rest)
Means nonterminals.AfterInt tokens rest = (type : Place) (name : Name) → (item : Item) × WritesItem item (word fixed.Int type ∷ named name ∷ tokens) rest
Means nonterminals.AfterLength tokens rest =
    (type : Place) (name : Name) (opening : Place) (size : ℕ) (inside close : Place)
    → (item : Item) × WritesItem item (word fixed.Int type ∷ named name ∷ word fixed.OpenBracket opening ∷ number size inside ∷ word fixed.CloseBracket close ∷ tokens) rest
Means (nonterminals.CellPath kind) tokens rest = (path : CellPath) × (more : List Token) × WritesCellPath path tokens more × EndsCell kind more rest
Means (nonterminals.CellRest kind) tokens rest = (elems : List CellElem) × (more : List Token) × MoreCellElems elems tokens more × EndsCell kind more rest
Means nonterminals.CellElem tokens rest = (elem : CellElem) × WritesCellElem elem tokens rest
Means nonterminals.Initial tokens rest = (equals : Place) → (start : Option Initial) × (ending : Place) × WritesInitial start (word fixed.Assign equals ∷ tokens) (word fixed.Semicolon ending ∷ rest)
Means (nonterminals.TaskReturns deterministic) tokens rest = (decl : Decl) × WritesDecl true decl tokens rest
Means nonterminals.Params tokens rest = (opening : Place) → (names : List Name) × WritesParams names (word fixed.OpenParen opening ∷ tokens) rest
Means nonterminals.MoreParams tokens rest = (names : List Name) × (close : Place) × ParamsMore names tokens (word fixed.CloseParen close ∷ rest)
Means (nonterminals.Effects in_task) tokens rest = HasEffects in_task tokens rest
Means (nonterminals.Path in_task write) tokens rest = (path : Path) × (more : List Token) × WritesPath path tokens more × FollowsPath in_task more rest
Means (nonterminals.PathRest in_task write) tokens rest = (elems : List PathElem) × (more : List Token) × MoreElems elems tokens more × FollowsPath in_task more rest
Means nonterminals.Elem tokens rest = (elem : PathElem) × WritesElem elem tokens rest
Means nonterminals.Index tokens rest = (opening : Place) → (elem : PathElem) × WritesElem elem (word fixed.OpenBracket opening ∷ tokens) rest
Means (nonterminals.Statements in_task) tokens rest = (body : Statements) × WritesStatements in_task body tokens rest
Means (nonterminals.LocalType in_task) tokens rest = (final : Place) → HasStatement in_task (word fixed.Final final ∷ tokens) rest
Means (nonterminals.IntValue in_task is_final) tokens rest = HasValue tokens rest ⊎ ((in_task ≡ true) × HasWait tokens rest)
Means (nonterminals.AfterValueName is_final) tokens rest = (name : Name) → HasValue (named name ∷ tokens) rest ⊎ HasWait (named name ∷ tokens) rest
Means (nonterminals.AfterName in_task) tokens rest = (name : Name) → HasStatement in_task (named name ∷ tokens) rest
Means nonterminals.AfterIndex tokens rest =
    (in_task : Bool) (name : Name) (opening : Place) (index : Expression) (before : List Token) (close : Place) → WritesExpression 0 index before (word fixed.CloseBracket close ∷ tokens)
    → HasStatement in_task (named name ∷ word fixed.OpenBracket opening ∷ before) rest
Means nonterminals.Awaited tokens rest = (name : Name) (dot : Place) → HasWait (named name ∷ word fixed.Dot dot ∷ tokens) rest
Means (nonterminals.AwaitedValue is_final) tokens rest = (name : Name) (dot : Place) → HasWait (named name ∷ word fixed.Dot dot ∷ tokens) rest
Means nonterminals.Make tokens rest =
    (place : Place) (future : Name) (equals : Place) (task : Name) (dot : Place) → HasStatement true (word fixed.Future place ∷ named future ∷ word fixed.Assign equals ∷ named task ∷ word fixed.Dot dot ∷ tokens) rest
Means (nonterminals.AfterArm in_task) tokens rest = (arms : Arms) × MoreArms in_task arms tokens rest
Means (nonterminals.ElseBody in_task) tokens rest = (place : Place) → (arms : Arms) × MoreArms in_task arms (word fixed.Else place ∷ tokens) rest
Means nonterminals.ReturnValue tokens rest = (in_task : Bool) (place : Place) → HasStatement in_task (word fixed.Return place ∷ tokens) rest
Means nonterminals.Args tokens rest = (args : Arguments) × WritesArguments args tokens rest
Means nonterminals.MoreArgs tokens rest = (args : Arguments) × MoreArguments args tokens rest
Means nonterminals.Unary tokens rest = HasExpression 6 tokens rest
Means nonterminals.AfterMinus tokens rest = (place : Place) → HasExpression 6 (word fixed.Minus place ∷ tokens) rest
Means nonterminals.Suffix tokens rest = (name : Name) → HasExpression 6 (named name ∷ tokens) rest
Means nonterminals.SecondIndex tokens rest =
    (name : Name) (opening : Place) (index : Expression) (before : List Token) (close : Place) → WritesExpression 0 index before (word fixed.CloseBracket close ∷ tokens)
    → HasExpression 6 (named name ∷ word fixed.OpenBracket opening ∷ before) rest
Means (nonterminals.Climb level) tokens rest =
    Below level rest × ((before : List Token) (higher : ℕ) (left : Expression) → level ≤ higher → higher ≤ 6 → WritesExpression higher left before tokens → Below (higher + 1) tokens → HasExpression level before rest)

-- the tokens are those that the symbols read, followed by the rest
pub data Reads : List Symbol → List Token → List Token → Type 0 where
  done : {rest : List Token} → Reads [] rest rest
  a_name : {name : Name} {stack : List Symbol} {tokens rest : List Token} → Reads stack tokens rest → Reads (symbols.Name ∷ stack) (named name ∷ tokens) rest
  a_literal : {value : ℕ} {place : Place} {stack : List Symbol} {tokens rest : List Token} → Reads stack tokens rest → Reads (symbols.Literal ∷ stack) (number value place ∷ tokens) rest
  a_token : {f : Fixed} {place : Place} {stack : List Symbol} {tokens rest : List Token} → Reads stack tokens rest → Reads (symbols.Token f ∷ stack) (word f place ∷ tokens) rest
  a_nonterminal : {nonterminal : Nonterminal} {stack : List Symbol} {tokens more rest : List Token} → Means nonterminal tokens more → Reads stack more rest → Reads (symbols.Expand nonterminal ∷ stack) tokens rest
  an_action : {action : Action} {stack : List Symbol} {tokens rest : List Token} → Reads stack tokens rest → Reads (symbols.Perform action ∷ stack) tokens rest

abbrev pub ReadsProduction : Option Production → List Token → List Token → Type 0
ReadsProduction None tokens rest = ⊥
ReadsProduction (Some production) tokens rest = Reads production.right_side tokens rest

-- symbols in two parts, one after the other
pub reads_split : (front stack : List Symbol) (tokens rest : List Token) → Reads (front ++ stack) tokens rest → (more : List Token) × Reads front tokens more × Reads stack more rest
reads_split [] stack tokens rest reads = (tokens, done, reads)
reads_split (symbols.Name ∷ front) stack tokens rest (a_name {tokens = inside} reads) = let parts = reads_split front stack inside rest reads in (parts.0, a_name parts.1, parts.2)
reads_split (symbols.Literal ∷ front) stack tokens rest (a_literal {tokens = inside} reads) = let parts = reads_split front stack inside rest reads in (parts.0, a_literal parts.1, parts.2)
reads_split (symbols.Token f ∷ front) stack tokens rest (a_token {tokens = inside} reads) = let parts = reads_split front stack inside rest reads in (parts.0, a_token parts.1, parts.2)
reads_split (symbols.Expand nonterminal ∷ front) stack tokens rest (a_nonterminal {more = inside} means reads) = let parts = reads_split front stack inside rest reads in (parts.0, a_nonterminal {nonterminal = nonterminal} means parts.1, parts.2)
reads_split (symbols.Perform action ∷ front) stack tokens rest (an_action reads) = let parts = reads_split front stack tokens rest reads in (parts.0, an_action parts.1, parts.2)
