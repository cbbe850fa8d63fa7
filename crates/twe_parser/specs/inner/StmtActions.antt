-- The semantic actions that make statements.
use Rattle.std.specs.Prelude.{[], ◌∷◌, ◌++◌, None, Some}
use Rattle.twe_ast.specs.Statement.{Block, Let, Set, SetArray, SetGrid, If, While, Return, Print, Call, Make, Wait, LetWait}
use Rattle.twe_ast.specs.inner.ExpressionView.{arguments_of}
use Rattle.twe_ast.specs.inner.StatementView.{statements_of, arms_of}
use Rattle.twe_parser.specs.declared.symbol.StmtAction.{StmtAction}
use Rattle.twe_parser.specs.declared.symbol.StmtAction.TheVariants as actions
use Rattle.twe_parser.specs.declared.value_stacks.ValueStacks.{ValueStacks}
use Rattle.twe_base.specs.Stacks.{top, below}
use Rattle.twe_parser.specs.inner.Kinds.{is_join}
use Rattle.twe_parser.specs.inner.ValueStacks.{nowhere, nothing, nameless, no_block, with_statement}

-- the stacks after an action that makes a statement or a part of one
abbrev pub perform_stmt : StmtAction → ValueStacks → ValueStacks
perform_stmt actions.NewBlock w = record w { lists = [] ∷ w.lists }
perform_stmt actions.CloseBlock w = record w {
  blocks = statements_of (top w.lists []) (top w.places nowhere) ∷ w.blocks;
  lists = below w.lists;
  places = below w.places;
}
perform_stmt actions.BlockStatement w = with_statement (Block (top w.blocks no_block)) (record w { blocks = below w.blocks })
perform_stmt (actions.Let is_final local_type) w =
    with_statement (Let is_final local_type (top w.names nameless) (top w.exprs nothing))
    (record w { names = below w.names; exprs = below w.exprs })
perform_stmt actions.Set w =
    with_statement (Set (top w.names nameless) (top w.exprs nothing)) (record w { names = below w.names; exprs = below w.exprs })
perform_stmt actions.SetArray w =
    with_statement (SetArray (top w.names nameless) (top (below w.exprs) nothing) (top w.exprs nothing))
    (record w { names = below w.names; exprs = below (below w.exprs) })
perform_stmt actions.SetGrid w =
    with_statement
    (SetGrid (top w.names nameless) (top (below (below w.exprs)) nothing) (top (below w.exprs) nothing) (top w.exprs nothing))
    (record w { names = below w.names; exprs = below (below (below w.exprs)) })
perform_stmt actions.NewArms w = record w { arms = [] ∷ w.arms }
perform_stmt actions.KeepArm w = record w {
  arms = (top w.arms [] ++ (record { condition = top w.exprs nothing; body = top w.blocks no_block }) ∷ []) ∷ below w.arms;
  exprs = below w.exprs;
  blocks = below w.blocks;
}
perform_stmt actions.CloseIf w = with_statement (If (arms_of (top w.arms []) None)) (record w { arms = below w.arms })
perform_stmt actions.CloseIfElse w =
    with_statement (If (arms_of (top w.arms []) (Some (top w.blocks no_block))))
    (record w { arms = below w.arms; blocks = below w.blocks })
perform_stmt actions.While w =
    with_statement (While (top w.places nowhere) (top w.exprs nothing) (top w.blocks no_block))
    (record w { places = below w.places; exprs = below w.exprs; blocks = below w.blocks })
perform_stmt actions.Return w =
    with_statement (Return (top w.places nowhere) (Some (top w.exprs nothing)))
    (record w { places = below w.places; exprs = below w.exprs })
perform_stmt actions.ReturnNothing w = with_statement (Return (top w.places nowhere) None) (record w { places = below w.places })
perform_stmt actions.Print w =
    with_statement (Print (top w.places nowhere) (top w.exprs nothing))
    (record w { places = below w.places; exprs = below w.exprs })
perform_stmt actions.CallStatement w =
    with_statement (Call (top w.names nameless) (arguments_of (top w.args [])))
    (record w { names = below w.names; args = below w.args })
perform_stmt (actions.Make spawned) w =
    with_statement (Make (top (below w.names) nameless) (top w.names nameless) spawned (arguments_of (top w.args [])))
    (record w { names = below (below w.names); args = below w.args })
perform_stmt (actions.Wait kind) w =
    with_statement (Wait (record { future = top w.names nameless; join = is_join kind })) (record w { names = below w.names })
perform_stmt (actions.LetWait is_final kind) w =
    with_statement
    (LetWait is_final (top (below w.names) nameless) (record { future = top w.names nameless; join = is_join kind }))
    (record w { names = below (below w.names) })
