-- Which variables are found for a declaration of the program of a tree.
use Rattle.std.specs.Prelude.{◌≡◌, Bool, List, ◌++◌}
use Rattle.std.specs.List.{Contains}
use Rattle.twe_base.specs.declared.place.Place.{Place}
use Rattle.twe_ast.specs.declared.item.Ast.{Ast}
use Rattle.twe_ast.specs.declared.item.Decl as written
use Rattle.twe_program.specs.declared.program.Decl.{Decl}
use Rattle.twe_program.specs.Program.{Program}
use Rattle.name_check.specs.Limits.{decls_of}
use Rattle.name_check.specs.Names.{globals_of}
use Rattle.twe_names.specs.Meaning.{decl_of, program_of}
use Rattle.run_notes.specs.BodyVariables.{body_variables_at}
use Rattle.run_notes.specs.VariableNumbers.{NamesVariables, variable_names}

-- the methods of a program, and then its tasks
abbrev pub all_declared : Program → List Decl
all_declared p = p.methods ++ p.tasks

-- The names that are found by the place of a declaration's name are those of the variables of a declaration of the tree whose
-- name is at this place, by the numbers that its meaning gives them, which is a declaration of the program.
pub record FindsNames (tree : Ast) (place declared : Place) : Type 0 where
  pub decl : written.Decl
  pub is_written : Contains (decls_of tree) decl
  pub same_place : decl.name.place ≡ declared
  pub deterministic : Bool
  pub is_there : Contains (all_declared (program_of tree)) (decl_of (globals_of tree) deterministic decl)
  pub named : NamesVariables (variable_names (body_variables_at place declared tree.items)) decl
      (decl_of (globals_of tree) deterministic decl)
