-- The grammar, as a relation between trees and tokens, with one case for each production.
use Rattle.std.specs.Prelude.{ℕ, Bool, true, false, Option, None, Some, List, [], ◌∷◌}
use Rattle.twe_base.specs.declared.place.Place.{Place}
use Rattle.twe_ast.specs.declared.item.Ast.{Ast}
use Rattle.twe_ast.specs.declared.item.CellShape.TheVariants as shapes
use Rattle.twe_ast.specs.declared.item.Clause.{Clause}
use Rattle.twe_ast.specs.declared.item.Decl.{Decl}
use Rattle.twe_ast.specs.declared.item.Initial.{Initial}
use Rattle.twe_ast.specs.declared.item.Item.{Item}
use Rattle.twe_ast.specs.declared.item.Item.TheVariants as items
use Rattle.twe_ast.specs.declared.item.ReturnType.{ReturnType}
use Rattle.twe_ast.specs.declared.item.ReturnType.TheVariants as returns
use Rattle.twe_ast.specs.declared.name.Name.{Name}
use Rattle.twe_ast.specs.declared.path.CellPath.{CellPath}
use Rattle.twe_ast.specs.declared.path.Path.{Path}
use Rattle.twe_ast.specs.Statement.{Statements}
use Rattle.twe_lexer.specs.declared.fixed.Fixed.{Fixed}
use Rattle.twe_lexer.specs.declared.fixed.Fixed.TheVariants as fixed
use Rattle.twe_lexer.specs.declared.token.Token.{Token}
use Rattle.twe_parser.specs.Values.{literal_value_of, negative_of}
use Rattle.twe_parser.specs.WritesPath.{WritesCellPath, WritesPath}
use Rattle.twe_parser.specs.WritesStatement.{WritesStatements}
use Rattle.twe_parser.specs.Written.{word, named, number}

-- { "," ident }
pub data MoreNames : List Name → List Token → List Token → Type 0 where
  no_more_names : {rest : List Token} → MoreNames [] rest rest
  more_names : {first : Name} {others : List Name} {comma : Place} {tokens rest : List Token}
      → MoreNames others tokens rest → MoreNames (first ∷ others) (word fixed.Comma comma ∷ named first ∷ tokens) rest

-- [ "=" [ "-" ] int-literal ]
pub data WritesInitial : Option Initial → List Token → List Token → Type 0 where
  not_written : {rest : List Token} → WritesInitial None rest rest
  initial : {value : ℕ} {equals place : Place} {rest : List Token}
      → WritesInitial (Some (record { minus = false; value = literal_value_of value }))
      (word fixed.Assign equals ∷ number value place ∷ rest) rest
  negative_initial : {value : ℕ} {equals minus place : Place} {rest : List Token}
      → WritesInitial (Some (record { minus = true; value = negative_of value }))
      (word fixed.Assign equals ∷ word fixed.Minus minus ∷ number value place ∷ rest) rest

-- { "," "int" ident }
pub data MoreParams : List Name → List Token → List Token → Type 0 where
  no_more_params : {rest : List Token} → MoreParams [] rest rest
  more_params : {first : Name} {others : List Name} {comma type : Place} {tokens rest : List Token}
      → MoreParams others tokens rest
      → MoreParams (first ∷ others) (word fixed.Comma comma ∷ word fixed.Int type ∷ named first ∷ tokens) rest

-- "(" [ "int" ident { "," "int" ident } ] ")"
pub data WritesParams : List Name → List Token → List Token → Type 0 where
  no_params : {opening close : Place} {rest : List Token}
      → WritesParams [] (word fixed.OpenParen opening ∷ word fixed.CloseParen close ∷ rest) rest
  params : {first : Name} {others : List Name} {opening type close : Place} {tokens rest : List Token}
      → MoreParams others tokens (word fixed.CloseParen close ∷ rest)
      → WritesParams (first ∷ others) (word fixed.OpenParen opening ∷ word fixed.Int type ∷ named first ∷ tokens) rest

-- { "," Path }
pub data MorePaths : List Path → List Token → List Token → Type 0 where
  no_more_paths : {rest : List Token} → MorePaths [] rest rest
  more_paths : {first : Path} {others : List Path} {comma : Place} {tokens more rest : List Token}
      → WritesPath first tokens more → MorePaths others more rest
      → MorePaths (first ∷ others) (word fixed.Comma comma ∷ tokens) rest

-- the word that a clause begins with, by whether it declares writes
abbrev pub clause_word : Bool → Fixed
clause_word true = fixed.Writes
clause_word false = fixed.Reads

-- ( "reads" | "writes" ) Path { "," Path }
pub data WritesClause : Clause → List Token → List Token → Type 0 where
  clause : {write : Bool} {first : Path} {others : List Path} {place : Place} {tokens more rest : List Token}
      → WritesPath first tokens more → MorePaths others more rest
      → WritesClause (record { write = write; paths = first ∷ others }) (word (clause_word write) place ∷ tokens) rest

-- { Clause }
pub data MoreClauses : List Clause → List Token → List Token → Type 0 where
  no_more_clauses : {rest : List Token} → MoreClauses [] rest rest
  more_clauses : {first : Clause} {others : List Clause} {tokens more rest : List Token}
      → WritesClause first tokens more → MoreClauses others more rest → MoreClauses (first ∷ others) tokens rest

-- "pure" | Clause { Clause }
pub data WritesEffects : List Clause → List Token → List Token → Type 0 where
  pure : {place : Place} {rest : List Token} → WritesEffects [] (word fixed.Pure place ∷ rest) rest
  clauses : {first : Clause} {others : List Clause} {tokens more rest : List Token}
      → WritesClause first tokens more → MoreClauses others more rest → WritesEffects (first ∷ others) tokens rest

-- the word for what a method or a task returns
abbrev pub return_word : ReturnType → Fixed
return_word returns.Int = fixed.Int
return_word returns.Void = fixed.Void

-- ( "int" | "void" ) ident Params Effects Block
pub data WritesDecl : Bool → Decl → List Token → List Token → Type 0 where
  decl : {in_task : Bool} {type : ReturnType} {name : Name} {params : List Name} {effects : List Clause} {body : Statements}
      {place opening : Place} {tokens more others rest : List Token}
      → WritesParams params tokens more → WritesEffects effects more (word fixed.OpenBrace opening ∷ others)
      → WritesStatements in_task body others rest
      → WritesDecl in_task (record { returns = type; name = name; params = params; effects = effects; body = body })
      (word (return_word type) place ∷ named name ∷ tokens) rest

-- a declaration of a program
pub data WritesItem : Item → List Token → List Token → Type 0 where
  -- "region" ident { "," ident } ";"
  regions : {first : Name} {others : List Name} {place end : Place} {tokens rest : List Token}
      → MoreNames others tokens (word fixed.Semicolon end ∷ rest)
      → WritesItem (items.Regions (first ∷ others)) (word fixed.Region place ∷ named first ∷ tokens) rest
  -- "int" ident "in" CellPath [ "=" [ "-" ] int-literal ] ";"
  cell : {name : Name} {path : CellPath} {start : Option Initial} {type of_path end : Place} {tokens more rest : List Token}
      → WritesCellPath path tokens more → WritesInitial start more (word fixed.Semicolon end ∷ rest)
      → WritesItem (items.Cell (record { name = name; shape = shapes.Scalar start; path = path }))
      (word fixed.Int type ∷ named name ∷ word fixed.In of_path ∷ tokens) rest
  -- "int" ident "[" int-literal "]" [ "[" int-literal "]" ] "in" CellPath ";"
  array : {name : Name} {path : CellPath} {size : ℕ} {type opening inside close of_path end : Place} {tokens rest : List Token}
      → WritesCellPath path tokens (word fixed.Semicolon end ∷ rest)
      → WritesItem (items.Cell (record { name = name; shape = shapes.Array size; path = path }))
      (word fixed.Int type ∷ named name ∷ word fixed.OpenBracket opening ∷ number size inside ∷ word fixed.CloseBracket close
      ∷ word fixed.In of_path ∷ tokens) rest
  grid : {name : Name} {path : CellPath} {rows columns : ℕ} {type opening inside close second within last of_path end : Place}
      {tokens rest : List Token}
      → WritesCellPath path tokens (word fixed.Semicolon end ∷ rest)
      → WritesItem (items.Cell (record { name = name; shape = shapes.Grid rows columns; path = path }))
      (word fixed.Int type ∷ named name ∷ word fixed.OpenBracket opening ∷ number rows inside ∷ word fixed.CloseBracket close
      ∷ word fixed.OpenBracket second ∷ number columns within ∷ word fixed.CloseBracket last ∷ word fixed.In of_path
      ∷ tokens) rest
  -- ( "int" | "void" ) ident Params Effects Block
  method : {decl : Decl} {tokens rest : List Token}
      → WritesDecl false decl tokens rest → WritesItem (items.Method decl) tokens rest
  -- [ "deterministic" ] "task" ( "int" | "void" ) ident Params Effects Block
  task : {decl : Decl} {place : Place} {tokens rest : List Token}
      → WritesDecl true decl tokens rest → WritesItem (items.Task false decl) (word fixed.Task place ∷ tokens) rest
  deterministic_task : {decl : Decl} {place task : Place} {tokens rest : List Token} → WritesDecl true decl tokens rest
      → WritesItem (items.Task true decl) (word fixed.Deterministic place ∷ word fixed.Task task ∷ tokens) rest

-- { Item }
pub data WritesItems : List Item → List Token → Type 0 where
  no_more_items : WritesItems [] []
  more_items : {first : Item} {others : List Item} {tokens more : List Token}
      → WritesItem first tokens more → WritesItems others more → WritesItems (first ∷ others) tokens

-- The tokens are those of the tree of a program. They do not determine the place of the end of the text.
abbrev pub Writes : Ast → List Token → Type 0
Writes tree tokens = WritesItems tree.items tokens
