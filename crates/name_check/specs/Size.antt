-- How many things a tree declares and does: what has to be numbered.
use Rattle.std.specs.Prelude.{ℕ, ◌+◌, ◌<◌, ◌^◌, length, sum_by}
use Rattle.twe_ast.specs.declared.item.Ast.{Ast}
use Rattle.twe_ast.specs.declared.item.Item.{Item}
use Rattle.twe_ast.specs.declared.item.Item.TheVariants as items
use Rattle.twe_ast.specs.declared.item.Decl.{Decl}
use Rattle.twe_ast.specs.Statement.{Statement, Block, If, While, Statements, end_of_block, statement, Arms, arm, otherwise, no_else}

-- the number of statements, in all parts
abbrev mutual
  pub statements_in : Statement → ℕ
  statements_in (Block body) = statements_in_all body + 1
  statements_in (If arms) = statements_in_arms arms + 1
  statements_in (While place condition body) = statements_in_all body + 1
  statements_in _ = 1

  pub statements_in_all : Statements → ℕ
  statements_in_all (end_of_block close) = 0
  statements_in_all (statement first others) = statements_in first + statements_in_all others

  pub statements_in_arms : Arms → ℕ
  statements_in_arms (arm condition body others) = statements_in_all body + statements_in_arms others
  statements_in_arms (otherwise body) = statements_in_all body
  statements_in_arms no_else = 0

-- what has to be numbered of a declaration: its parameters, its statements and itself
abbrev pub size_of_decl : Decl → ℕ
size_of_decl decl = length decl.params + statements_in_all decl.body + 1

-- what has to be numbered of an item
abbrev pub size_of_item : Item → ℕ
size_of_item (items.Regions names) = length names
size_of_item (items.Cell cell) = 1
size_of_item (items.Method decl) = size_of_decl decl
size_of_item (items.Task deterministic decl) = size_of_decl decl

-- all that a tree declares and does can be numbered in 32 bits
abbrev pub IsCountable : Ast → Type 0
IsCountable ast = sum_by size_of_item ast.items + 2 < 2 ^ 32
