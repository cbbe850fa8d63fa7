-- The scope at a place of a body, and how much of the body comes before it.
use Rattle.std.specs.Prelude.{ℕ, ◌+◌, Bool, true, false, List, [], ◌∷◌, ◌++◌, Option, Some}
use Rattle.twe_ast.specs.declared.name.Name.{Name}
use Rattle.twe_ast.specs.declared.item.Decl.{Decl}
use Rattle.twe_ast.specs.declared.item.ReturnType.TheVariants as return_types
use Rattle.twe_ast.specs.declared.stmt.LocalType.{LocalType}
use Rattle.twe_ast.specs.declared.stmt.LocalType.TheVariants as types
use Rattle.twe_ast.specs.Statement.{Statement, Block, Let, Set, SetArray, SetGrid, If, While, Return, Print, Call, Make, Wait, LetWait, Statements, end_of_block, statement, Arms, arm, otherwise, no_else}
use Rattle.name_check.specs.declared.binding.Global.TheVariants as global_kinds
use Rattle.name_check.specs.declared.binding.Local.{Local}
use Rattle.name_check.specs.declared.binding.Local.TheVariants as local_kinds
use Rattle.name_check.specs.declared.binding.Binding.{Binding}
use Rattle.name_check.specs.declared.binding.Binding.TheVariants as bindings
use Rattle.name_check.specs.declared.names.GlobalName.{GlobalName}
use Rattle.name_check.specs.declared.scope.LocalName.{LocalName}
use Rattle.name_check.specs.declared.scope.BodyScope.{BodyScope}
use Rattle.name_check.specs.Names.{binding_of}

-- one statement more
abbrev pub counted_binding : BodyScope → BodyScope
counted_binding here = record here { points = here.points + 1 }

-- the binding of the parameter or local that comes next: its number is that of parameters and locals before it
abbrev pub variable_at : BodyScope → LocalType → Bool → Local
variable_at here local_type constant = local_kinds.Variable here.vars local_type constant

-- a parameter or a local more
abbrev pub with_variable : BodyScope → List ℕ → LocalType → Bool → BodyScope
with_variable here text local_type constant = record here {
  locals = here.locals ++ record { text = text; local = variable_at here local_type constant } ∷ [];
  vars = here.vars + 1;
}

-- the name is bound to a task that returns nothing
abbrev pub is_void : Option Binding → Bool
is_void (Some (bindings.Global (global_kinds.Task number params return_types.Void))) = true
is_void _ = false

-- a future more
abbrev pub with_future : List GlobalName → BodyScope → List ℕ → List ℕ → Bool → BodyScope
with_future globals here text task spawned = record here {
  locals = here.locals ++ record {
    text = text;
    local = local_kinds.Future here.futures spawned (is_void (binding_of globals here.locals task));
  } ∷ [];
  futures = here.futures + 1;
}

-- the parameters, with their numbers
abbrev pub params_from : ℕ → List Name → List LocalName
params_from number [] = []
params_from number (name ∷ names) = record {
  text = name.text;
  local = local_kinds.Variable number types.Int true;
} ∷ params_from (number + 1) names

-- the parameters of a declaration, numbered from 0
abbrev pub params_of : Decl → List LocalName
params_of decl = params_from 0 decl.params

-- after a block, what it declares is out of scope
abbrev pub leaving : BodyScope → BodyScope → BodyScope
leaving outside inside = record inside { locals = outside.locals }

-- The scope after a statement. What a block declares is in scope to the end of the block; a local and a future are in
-- scope after their declaration.
abbrev mutual
  pub after : List GlobalName → BodyScope → Statement → BodyScope
  after globals here (Block body) = leaving (counted_binding here) (after_all globals (counted_binding here) body)
  after globals here (Let is_final local_type name value) = with_variable (counted_binding here) name.text local_type is_final
  after globals here (Set name value) = counted_binding here
  after globals here (SetArray array index value) = counted_binding here
  after globals here (SetGrid array row column value) = counted_binding here
  after globals here (If arms) = after_arms globals (counted_binding here) arms
  after globals here (While place condition body) = leaving (counted_binding here) (after_all globals (counted_binding here) body)
  after globals here (Return place value) = counted_binding here
  after globals here (Print place value) = counted_binding here
  after globals here (Call method args) = counted_binding here
  after globals here (Make future task spawned args) = with_future globals (counted_binding here) future.text task.text spawned
  after globals here (Wait wait) = counted_binding here
  after globals here (LetWait is_final name wait) = with_variable (counted_binding here) name.text types.Int is_final

  pub after_all : List GlobalName → BodyScope → Statements → BodyScope
  after_all globals here (end_of_block close) = here
  after_all globals here (statement first others) = after_all globals (after globals here first) others

  pub after_arms : List GlobalName → BodyScope → Arms → BodyScope
  after_arms globals here (arm condition body others) = after_arms globals (leaving here (after_all globals here body)) others
  after_arms globals here (otherwise body) = leaving here (after_all globals here body)
  after_arms globals here no_else = here

-- the scope after a block: what the block declares is out of scope again
abbrev pub after_block : List GlobalName → BodyScope → Statements → BodyScope
after_block globals here body = leaving here (after_all globals here body)
