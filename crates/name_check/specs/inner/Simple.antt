-- Statements that have no others inside them.
use Rattle.std.specs.Prelude.{List, []}
use Rattle.twe_ast.specs.declared.item.ReturnType.{ReturnType}
use Rattle.twe_ast.specs.Statement.{Statement, Block, Set, SetArray, SetGrid, If, While, Make, Wait, LetWait}
use Rattle.name_check.specs.declared.names.GlobalName.{GlobalName}
use Rattle.name_check.specs.declared.scope.BodyScope.{BodyScope}
use Rattle.name_check.specs.BodyScope.{after}
use Rattle.name_check.specs.Sites.{Site, sites_in}

-- what a statement without others inside needs; a block, an `if` and a `while` are left out
abbrev pub simple_sites : List GlobalName → ReturnType → BodyScope → Statement → List Site
simple_sites globals returns here (Block body) = []
simple_sites globals returns here (If arms) = []
simple_sites globals returns here (While place condition body) = []
simple_sites globals returns here s = sites_in globals returns here s

-- the scope after such a statement; a block, an `if` and a `while` leave it as it is
abbrev pub after_simple : List GlobalName → BodyScope → Statement → BodyScope
after_simple globals here (Block body) = here
after_simple globals here (If arms) = here
after_simple globals here (While place condition body) = here
after_simple globals here s = after globals here s

-- what a statement needs that assigns a value; all others are left out
abbrev pub set_sites : List GlobalName → ReturnType → BodyScope → Statement → List Site
set_sites globals returns here (Set name value) = sites_in globals returns here (Set name value)
set_sites globals returns here (SetArray array index value) = sites_in globals returns here (SetArray array index value)
set_sites globals returns here (SetGrid array row column value) = sites_in globals returns here (SetGrid array row column value)
set_sites globals returns here _ = []

-- what a statement needs that makes a task or waits for one; all others are left out
abbrev pub task_sites : List GlobalName → ReturnType → BodyScope → Statement → List Site
task_sites globals returns here (Make future task spawned args) = sites_in globals returns here (Make future task spawned args)
task_sites globals returns here (Wait wait) = sites_in globals returns here (Wait wait)
task_sites globals returns here (LetWait is_final name wait) = sites_in globals returns here (LetWait is_final name wait)
task_sites globals returns here _ = []
