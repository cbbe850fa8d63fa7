-- The names of the parameters of tasks.
use Rattle.std.specs.Prelude.{◌==◌, ◌-◌, ℕ, List, [], ◌∷◌, if◌then◌else◌}
use Rattle.twe_base.specs.declared.place.Place.{Place}
use Rattle.twe_ast.specs.declared.item.Ast.{Ast}
use Rattle.twe_ast.specs.declared.item.Item.{Item}
use Rattle.twe_ast.specs.declared.item.Item.TheVariants.{Task}
use Rattle.twe_ast.specs.declared.name.Name.{Name}
use Rattle.twe_parser.specs.declared.fail.SRule.{SRule}
use Rattle.twe_parser.specs.Fails.{IsSyntaxFailure}
use Rattle.twe_frontend.specs.Accepted.{IsTreeOf}

-- the declarations of a text: those of its tree, or none if it breaks a rule of the text
pub data AreDeclarations (text : List ℕ) : List Item → Type 0 where
  of_tree : (tree : Ast) → IsTreeOf text tree → AreDeclarations text tree.items
  of_none : (rule : SRule) (place : Place) → IsSyntaxFailure text rule place → AreDeclarations text []

-- the names of the parameters of the task with this number, counted from 0 in the order of the text
abbrev pub task_params : List Item → ℕ → List Name
task_params [] task = []
task_params (Task deterministic decl ∷ items) task = if task == 0 then decl.params else task_params items (task - 1)
task_params (_ ∷ items) task = task_params items task
