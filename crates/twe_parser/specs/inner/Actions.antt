-- The semantic actions.
use Rattle.twe_parser.specs.declared.symbol.Action.{Action}
use Rattle.twe_parser.specs.declared.symbol.Action.TheVariants.{Nothing, Expr, Stmt, Item}
use Rattle.twe_parser.specs.declared.value_stacks.ValueStacks.{ValueStacks}
use Rattle.twe_parser.specs.inner.ExprActions.{perform_expr}
use Rattle.twe_parser.specs.inner.ItemActions.{perform_item}
use Rattle.twe_parser.specs.inner.StmtActions.{perform_stmt}

-- the stacks of semantic values after an action
abbrev pub performed : Action → ValueStacks → ValueStacks
performed Nothing values = values
performed (Expr action) values = perform_expr action values
performed (Stmt action) values = perform_stmt action values
performed (Item action) values = perform_item action values
