-- The grammar of statements and blocks. `in_task` is whether they are in a task: operations on tasks are allowed only
-- there.
use Rattle.std.specs.Prelude.{Bool, true, false, None, Some, List, ◌∷◌}
use Rattle.twe_base.specs.declared.place.Place.{Place}
use Rattle.twe_ast.specs.declared.name.Name.{Name}
use Rattle.twe_ast.specs.declared.stmt.LocalType.{LocalType}
use Rattle.twe_ast.specs.declared.stmt.LocalType.TheVariants.{Int, Boolean}
use Rattle.twe_ast.specs.declared.stmt.WaitCall.{WaitCall}
use Rattle.twe_ast.specs.Expression.{Expression, Arguments}
use Rattle.twe_ast.specs.Statement.{Statement, Block, Let, Set, SetArray, SetGrid, If, While, Return, Print, Call, Make, Wait, LetWait, Statements, end_of_block, statement, Arms, arm, otherwise, no_else}
use Rattle.twe_lexer.specs.declared.fixed.Fixed.{Fixed}
use Rattle.twe_lexer.specs.declared.fixed.Fixed.TheVariants as fixed
use Rattle.twe_lexer.specs.declared.token.Token.{Token}
use Rattle.twe_parser.specs.Written.{word, named}
use Rattle.twe_parser.specs.WritesExpression.{WritesExpression, WritesArguments}

-- the word for the type of a local
abbrev pub type_word : LocalType → Fixed
type_word Int = fixed.Int
type_word Boolean = fixed.Boolean

-- the word of a wait, by whether it is a `join`
abbrev pub wait_word : Bool → Fixed
wait_word true = fixed.Join
wait_word false = fixed.GetValue

-- the word of the making of a task, by whether the task is spawned
abbrev pub make_word : Bool → Fixed
make_word true = fixed.Spawn
make_word false = fixed.ExecuteLater

-- Wait ";"
pub data WritesWait : WaitCall → List Token → List Token → Type 0 where
  wait : {join : Bool} {future : Name} {dot verb opening close end : Place} {rest : List Token}
      → WritesWait (record { future = future; join = join })
      (named future ∷ word fixed.Dot dot ∷ word (wait_word join) verb ∷ word fixed.OpenParen opening ∷ word fixed.CloseParen close
      ∷ word fixed.Semicolon end ∷ rest) rest

mutual
  -- a statement
  pub data WritesStatement : Bool → Statement → List Token → List Token → Type 0 where
    -- Block
    block : {in_task : Bool} {body : Statements} {opening : Place} {others rest : List Token}
        → WritesStatements in_task body others rest
        → WritesStatement in_task (Block body) (word fixed.OpenBrace opening ∷ others) rest
    -- [ "final" ] ( "int" | "boolean" ) ident "=" Expr ";"
    let_local : {in_task : Bool} {local_type : LocalType} {name : Name} {value : Expression} {type equals end : Place}
        {others rest : List Token}
        → WritesExpression 0 value others (word fixed.Semicolon end ∷ rest)
        → WritesStatement in_task (Let false local_type name value)
        (word (type_word local_type) type ∷ named name ∷ word fixed.Assign equals ∷ others) rest
    let_final : {in_task : Bool} {local_type : LocalType} {name : Name} {value : Expression} {final type equals end : Place}
        {others rest : List Token}
        → WritesExpression 0 value others (word fixed.Semicolon end ∷ rest)
        → WritesStatement in_task (Let true local_type name value)
        (word fixed.Final final ∷ word (type_word local_type) type ∷ named name ∷ word fixed.Assign equals ∷ others) rest
    -- ident "=" Expr ";"
    set : {in_task : Bool} {name : Name} {value : Expression} {equals end : Place} {others rest : List Token}
        → WritesExpression 0 value others (word fixed.Semicolon end ∷ rest)
        → WritesStatement in_task (Set name value) (named name ∷ word fixed.Assign equals ∷ others) rest
    -- ident "[" Expr "]" [ "[" Expr "]" ] "=" Expr ";"
    set_array : {in_task : Bool} {name : Name} {index value : Expression} {opening close equals end : Place}
        {others more rest : List Token}
        → WritesExpression 0 index others (word fixed.CloseBracket close ∷ word fixed.Assign equals ∷ more)
        → WritesExpression 0 value more (word fixed.Semicolon end ∷ rest)
        → WritesStatement in_task (SetArray name index value) (named name ∷ word fixed.OpenBracket opening ∷ others) rest
    set_grid : {in_task : Bool} {name : Name} {row column value : Expression} {opening close second last equals end : Place}
        {others more third rest : List Token}
        → WritesExpression 0 row others (word fixed.CloseBracket close ∷ word fixed.OpenBracket second ∷ more)
        → WritesExpression 0 column more (word fixed.CloseBracket last ∷ word fixed.Assign equals ∷ third)
        → WritesExpression 0 value third (word fixed.Semicolon end ∷ rest)
        → WritesStatement in_task (SetGrid name row column value) (named name ∷ word fixed.OpenBracket opening ∷ others) rest
    -- "if" "(" Expr ")" Block { "else" "if" "(" Expr ")" Block } [ "else" Block ]
    if_arms : {in_task : Bool} {condition : Expression} {body : Statements} {others : Arms} {place : Place}
        {tokens rest : List Token}
        → WritesArms in_task (arm condition body others) (word fixed.If place ∷ tokens) rest
        → WritesStatement in_task (If (arm condition body others)) (word fixed.If place ∷ tokens) rest
    -- "while" "(" Expr ")" Block
    while : {in_task : Bool} {condition : Expression} {body : Statements} {place opening close brace : Place}
        {others more rest : List Token}
        → WritesExpression 0 condition others (word fixed.CloseParen close ∷ word fixed.OpenBrace brace ∷ more)
        → WritesStatements in_task body more rest
        → WritesStatement in_task (While place condition body)
        (word fixed.While place ∷ word fixed.OpenParen opening ∷ others) rest
    -- "return" [ Expr ] ";"
    return_nothing : {in_task : Bool} {place end : Place} {rest : List Token}
        → WritesStatement in_task (Return place None) (word fixed.Return place ∷ word fixed.Semicolon end ∷ rest) rest
    return_value : {in_task : Bool} {value : Expression} {place end : Place} {others rest : List Token}
        → WritesExpression 0 value others (word fixed.Semicolon end ∷ rest)
        → WritesStatement in_task (Return place (Some value)) (word fixed.Return place ∷ others) rest
    -- "print" "(" Expr ")" ";"
    print : {in_task : Bool} {value : Expression} {place opening close end : Place} {others rest : List Token}
        → WritesExpression 0 value others (word fixed.CloseParen close ∷ word fixed.Semicolon end ∷ rest)
        → WritesStatement in_task (Print place value) (word fixed.Print place ∷ word fixed.OpenParen opening ∷ others) rest
    -- ident Args ";"
    call : {in_task : Bool} {name : Name} {args : Arguments} {opening end : Place} {others rest : List Token}
        → WritesArguments args others (word fixed.Semicolon end ∷ rest)
        → WritesStatement in_task (Call name args) (named name ∷ word fixed.OpenParen opening ∷ others) rest
    -- in a task: "future" ident "=" ident "." ( "spawn" | "executeLater" ) Args ";"
    make : {spawned : Bool} {future task : Name} {args : Arguments} {place equals dot verb opening end : Place}
        {others rest : List Token}
        → WritesArguments args others (word fixed.Semicolon end ∷ rest)
        → WritesStatement true (Make future task spawned args)
        (word fixed.Future place ∷ named future ∷ word fixed.Assign equals ∷ named task ∷ word fixed.Dot dot
        ∷ word (make_word spawned) verb ∷ word fixed.OpenParen opening ∷ others) rest
    -- in a task: Wait ";"
    wait_for : {call : WaitCall} {tokens rest : List Token}
        → WritesWait call tokens rest → WritesStatement true (Wait call) tokens rest
    -- in a task: [ "final" ] "int" ident "=" Wait ";"
    let_wait : {name : Name} {call : WaitCall} {type equals : Place} {tokens rest : List Token} → WritesWait call tokens rest
        → WritesStatement true (LetWait false name call)
        (word fixed.Int type ∷ named name ∷ word fixed.Assign equals ∷ tokens) rest
    final_wait : {name : Name} {call : WaitCall} {final type equals : Place} {tokens rest : List Token}
        → WritesWait call tokens rest
        → WritesStatement true (LetWait true name call)
        (word fixed.Final final ∷ word fixed.Int type ∷ named name ∷ word fixed.Assign equals ∷ tokens) rest

  -- after the "{" of a block: { Stmt } "}"
  pub data WritesStatements : Bool → Statements → List Token → List Token → Type 0 where
    closed : {in_task : Bool} {close : Place} {rest : List Token}
        → WritesStatements in_task (end_of_block close) (word fixed.CloseBrace close ∷ rest) rest
    one_more : {in_task : Bool} {first : Statement} {others : Statements} {tokens more rest : List Token}
        → WritesStatement in_task first tokens more → WritesStatements in_task others more rest
        → WritesStatements in_task (statement first others) tokens rest

  -- "if" "(" Expr ")" Block, and the arms after it
  pub data WritesArms : Bool → Arms → List Token → List Token → Type 0 where
    if_arm : {in_task : Bool} {condition : Expression} {body : Statements} {next : Arms} {place opening close brace : Place}
        {others more third rest : List Token}
        → WritesExpression 0 condition others (word fixed.CloseParen close ∷ word fixed.OpenBrace brace ∷ more)
        → WritesStatements in_task body more third → MoreArms in_task next third rest
        → WritesArms in_task (arm condition body next) (word fixed.If place ∷ word fixed.OpenParen opening ∷ others) rest

  -- after a block of an `if`: nothing, "else" Block, or "else" and an `if` with its arms
  pub data MoreArms : Bool → Arms → List Token → List Token → Type 0 where
    no_more_arms : {in_task : Bool} {rest : List Token} → MoreArms in_task no_else rest rest
    else_block : {in_task : Bool} {body : Statements} {place brace : Place} {others rest : List Token}
        → WritesStatements in_task body others rest
        → MoreArms in_task (otherwise body) (word fixed.Else place ∷ word fixed.OpenBrace brace ∷ others) rest
    else_if : {in_task : Bool} {arms : Arms} {place : Place} {others rest : List Token}
        → WritesArms in_task arms others rest → MoreArms in_task arms (word fixed.Else place ∷ others) rest
