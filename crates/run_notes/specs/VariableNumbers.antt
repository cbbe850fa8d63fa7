-- Names that are those of the variables of a program, by their numbers.
use Rattle.std.specs.Prelude.{◌≡◌, ℕ, List, [], length, map, slice_get, take, Some}
use Rattle.twe_ast.specs.declared.item.Decl as written
use Rattle.twe_ast.specs.declared.name.Name.{Name}
use Rattle.twe_ast.specs.Statement as ast
use Rattle.twe_program.specs.declared.program.Decl.{Decl}
use Rattle.twe_program.specs.Numbering.{locals_of}
use Rattle.twe_program.specs.Statement as stmt
use Rattle.explain_pages.specs.names.Variables.{locals_named}
use Rattle.run_notes.specs.declared.body_variables.BodyVariable.{BodyVariable}

-- the names of variables
abbrev pub variable_names : List BodyVariable → List Name
variable_names variables = map (λ (variable : BodyVariable). variable.name) variables

-- this is the name of the variable of this number
abbrev pub IsNamed : List Name → ℕ → Name → Type 0
IsNamed names number name = slice_get names number ≡ Some name

-- Each local that a statement of the tree declares is declared by the statement of the program with the number of its name. Two
-- statements that are not of one form declare no local.
abbrev mutual
  pub AreNamed : List Name → ast.Statement → stmt.Statement → Type 0
  AreNamed names (ast.Block body) (stmt.Block point meaning) = AreNamedIn names body meaning
  AreNamed names (ast.Let is_final local_type name value) (stmt.Let point var initial) = IsNamed names var name
  AreNamed names (ast.If arms) (stmt.If point meaning) = AreNamedBy names arms meaning
  AreNamed names (ast.While word condition body) (stmt.While point test meaning place) = AreNamedIn names body meaning
  AreNamed names (ast.LetWait is_final name wait) (stmt.Wait point future join (Some var) place) = IsNamed names var name
  AreNamed names other meaning = (locals_named other ≡ []) × (locals_of meaning ≡ [])

  pub AreNamedIn : List Name → ast.Statements → stmt.Statements → Type 0
  AreNamedIn names (ast.end_of_block close) stmt.no_more = Unit {0}
  AreNamedIn names (ast.statement first others) (stmt.statement meaning more) =
      AreNamed names first meaning × AreNamedIn names others more
  AreNamedIn names _ _ = ⊥

  pub AreNamedBy : List Name → ast.Arms → stmt.Arms → Type 0
  AreNamedBy names (ast.arm condition body others) (stmt.arm test meaning more) =
      AreNamedIn names body meaning × AreNamedBy names others more
  AreNamedBy names (ast.otherwise body) (stmt.otherwise meaning) = AreNamedIn names body meaning
  AreNamedBy names ast.no_else stmt.no_else = Unit {0}
  AreNamedBy names _ _ = ⊥

-- The names are those of the variables of a declaration by their numbers: first the parameters, then each local; and each of
-- its variables has one.
pub record NamesVariables (names : List Name) (decl : written.Decl) (meaning : Decl) : Type 0 where
  pub parameters : take meaning.params names ≡ decl.params
  pub locals : AreNamedIn names decl.body meaning.body.block
  pub each : length names ≡ meaning.body.vars
