-- How much is declared before an item, in numbers of 32 bits.
use Rattle.std.specs.Prelude.{ℕ, ◌+◌, ◌<◌, ◌^◌, length}
use Rattle.twe_ast.specs.declared.item.Decl.{Decl}
use Rattle.name_check.specs.declared.binding.Global.{Global}
use Rattle.name_check.specs.declared.binding.Global.TheVariants as global_kinds
use Rattle.name_check.specs.declared.declared.Counts.{Counts}
use Rattle.name_check.specs.Names.{Before}

-- the numbers of 32 bits as numbers
abbrev pub before_of : Counts → Before
before_of counts = record { regions = counts.regions; cells = counts.cells; methods = counts.methods; tasks = counts.tasks }

-- this many more of each can be numbered
pub record HaveRoom (before : Before) (more : ℕ) : Type 0 where
  pub regions : before.regions + more < 2 ^ 32
  pub cells : before.cells + more < 2 ^ 32
  pub methods : before.methods + more < 2 ^ 32
  pub tasks : before.tasks + more < 2 ^ 32

-- the binding of a method with this number
abbrev pub method_of : Decl → ℕ → Global
method_of decl number = global_kinds.Method number (length decl.params) decl.returns

-- the binding of a task with this number
abbrev pub task_of : Decl → ℕ → Global
task_of decl number = global_kinds.Task number (length decl.params) decl.returns
