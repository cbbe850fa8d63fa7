-- What holds of tokens and, without the first of them, of the others holds of what is left after each part of a program.
use Rattle.std.proofs.Common.{ℕ, Bool, Option, List, ◌∷◌}
use Rattle.twe_ast.specs.declared.item.Clause.{Clause}
use Rattle.twe_ast.specs.declared.item.Decl.{Decl}
use Rattle.twe_ast.specs.declared.item.Initial.{Initial}
use Rattle.twe_ast.specs.declared.item.Item.{Item}
use Rattle.twe_ast.specs.declared.name.Name.{Name}
use Rattle.twe_ast.specs.declared.path.CellElem.{CellElem}
use Rattle.twe_ast.specs.declared.path.CellPath.{CellPath}
use Rattle.twe_ast.specs.declared.path.Path.{Path}
use Rattle.twe_ast.specs.declared.path.PathElem.{PathElem}
use Rattle.twe_ast.specs.declared.stmt.WaitCall.{WaitCall}
use Rattle.twe_ast.specs.Expression.{Expression, Shape, Arguments}
use Rattle.twe_ast.specs.Statement.{Statement, Statements, Arms}
use Rattle.twe_lexer.specs.declared.token.Token.{Token}
use Rattle.twe_parser.specs.Writes.{MoreNames, no_more_names, more_names, WritesInitial, not_written, initial, negative_initial, MoreParams, no_more_params, more_params, WritesParams, no_params, params, MorePaths, no_more_paths, more_paths, WritesClause, clause, MoreClauses, no_more_clauses, more_clauses, WritesEffects, pure, clauses, WritesDecl, decl, WritesItem, regions, cell, array as array_item, grid as grid_item, method, task, deterministic_task}
use Rattle.twe_parser.specs.WritesExpression.{WritesExpression, written, WritesShape, binary, negative, smallest, negation, literal, yes, no, variable, call as call_shape, array, grid, parentheses, WritesArguments, no_arguments, arguments, MoreArguments, no_more_arguments, more_arguments}
use Rattle.twe_parser.specs.WritesPath.{WritesCellElem, cell_name, cell_index, MoreCellElems, no_more_cell_elems, more_cell_elems, WritesCellPath, cell_root, cell_region, WritesElem, name, index, parameter, any_index, star, MoreElems, no_more_elems, more_elems, WritesPath, root, region}
use Rattle.twe_parser.specs.WritesStatement.{WritesWait, wait, WritesStatement, block, let_local, let_final, set, set_array, set_grid, if_arms, while, return_nothing, return_value, print, call, make, wait_for, let_wait, final_wait, WritesStatements, closed, one_more, WritesArms, if_arm, MoreArms, no_more_arms, else_block, else_if}

module _ (P : List Token → Type 0) (tail : (t : Token) (ts : List Token) → P (t ∷ ts) → P ts) where
  two : (t u : Token) (ts : List Token) → P (t ∷ u ∷ ts) → P ts
  two t u ts p = tail u ts (tail t (u ∷ ts) p)

  three : (t u v : Token) (ts : List Token) → P (t ∷ u ∷ v ∷ ts) → P ts
  three t u v ts p = tail v ts (two t u (v ∷ ts) p)

  mutual
    pub after-expression : {level : ℕ} {e : Expression} {tokens rest : List Token} → WritesExpression level e tokens rest → P tokens → P rest
    after-expression (written shape) p = after-shape shape p

    pub after-shape : {level : ℕ} {shape : Shape} {tokens rest : List Token} → WritesShape level shape tokens rest → P tokens → P rest
    after-shape (binary le left right) p = after-expression right (tail _ _ (after-expression left p))
    after-shape (negative other operand) p = after-expression operand (tail _ _ p)
    after-shape smallest p = two _ _ _ p
    after-shape (negation operand) p = after-expression operand (tail _ _ p)
    after-shape literal p = tail _ _ p
    after-shape yes p = tail _ _ p
    after-shape no p = tail _ _ p
    after-shape variable p = tail _ _ p
    after-shape (call_shape args) p = after-arguments args (two _ _ _ p)
    after-shape (array at) p = tail _ _ (after-expression at (two _ _ _ p))
    after-shape (grid row column) p = tail _ _ (after-expression column (two _ _ _ (after-expression row (two _ _ _ p))))
    after-shape (parentheses inside) p = tail _ _ (after-expression inside (tail _ _ p))

    pub after-arguments : {args : Arguments} {tokens rest : List Token} → WritesArguments args tokens rest → P tokens → P rest
    after-arguments no_arguments p = tail _ _ p
    after-arguments (arguments first others) p = after-more_arguments others (after-expression first p)

    after-more_arguments : {args : Arguments} {tokens rest : List Token} → MoreArguments args tokens rest → P tokens → P rest
    after-more_arguments no_more_arguments p = tail _ _ p
    after-more_arguments (more_arguments first others) p = after-more_arguments others (after-expression first (tail _ _ p))

  pub after-wait : {call : WaitCall} {tokens rest : List Token} → WritesWait call tokens rest → P tokens → P rest
  after-wait wait p = three _ _ _ _ (three _ _ _ _ p)

  mutual
    pub after-statement : {in_task : Bool} {s : Statement} {tokens rest : List Token} → WritesStatement in_task s tokens rest → P tokens → P rest
    after-statement (block body) p = after-statements body (tail _ _ p)
    after-statement (let_local value) p = tail _ _ (after-expression value (three _ _ _ _ p))
    after-statement (let_final value) p = tail _ _ (after-expression value (two _ _ _ (two _ _ _ p)))
    after-statement (set value) p = tail _ _ (after-expression value (two _ _ _ p))
    after-statement (set_array at value) p = tail _ _ (after-expression value (two _ _ _ (after-expression at (two _ _ _ p))))
    after-statement (set_grid row column value) p =
        tail _ _ (after-expression value (two _ _ _ (after-expression column (two _ _ _ (after-expression row (two _ _ _ p))))))
    after-statement (if_arms arms) p = after-arms arms p
    after-statement (while condition body) p = after-statements body (two _ _ _ (after-expression condition (two _ _ _ p)))
    after-statement return_nothing p = two _ _ _ p
    after-statement (return_value value) p = tail _ _ (after-expression value (tail _ _ p))
    after-statement (print value) p = two _ _ _ (after-expression value (two _ _ _ p))
    after-statement (call args) p = tail _ _ (after-arguments args (two _ _ _ p))
    after-statement (make args) p = tail _ _ (after-arguments args (tail _ _ (three _ _ _ _ (three _ _ _ _ p))))
    after-statement (wait_for it) p = after-wait it p
    after-statement (let_wait it) p = after-wait it (three _ _ _ _ p)
    after-statement (final_wait it) p = after-wait it (two _ _ _ (two _ _ _ p))

    pub after-statements : {in_task : Bool} {body : Statements} {tokens rest : List Token} → WritesStatements in_task body tokens rest → P tokens → P rest
    after-statements closed p = tail _ _ p
    after-statements (one_more first others) p = after-statements others (after-statement first p)

    after-arms : {in_task : Bool} {arms : Arms} {tokens rest : List Token} → WritesArms in_task arms tokens rest → P tokens → P rest
    after-arms (if_arm condition body next) p = after-more_arms next (after-statements body (two _ _ _ (after-expression condition (two _ _ _ p))))

    after-more_arms : {in_task : Bool} {arms : Arms} {tokens rest : List Token} → MoreArms in_task arms tokens rest → P tokens → P rest
    after-more_arms no_more_arms p = p
    after-more_arms (else_block body) p = after-statements body (two _ _ _ p)
    after-more_arms (else_if arms) p = after-arms arms (tail _ _ p)

  pub after-more_names : {names : List Name} {tokens rest : List Token} → MoreNames names tokens rest → P tokens → P rest
  after-more_names no_more_names p = p
  after-more_names (more_names others) p = after-more_names others (two _ _ _ p)

  pub after-initial : {start : Option Initial} {tokens rest : List Token} → WritesInitial start tokens rest → P tokens → P rest
  after-initial not_written p = p
  after-initial initial p = two _ _ _ p
  after-initial negative_initial p = three _ _ _ _ p

  pub after-more_params : {names : List Name} {tokens rest : List Token} → MoreParams names tokens rest → P tokens → P rest
  after-more_params no_more_params p = p
  after-more_params (more_params others) p = after-more_params others (three _ _ _ _ p)

  pub after-params : {names : List Name} {tokens rest : List Token} → WritesParams names tokens rest → P tokens → P rest
  after-params no_params p = two _ _ _ p
  after-params (params others) p = tail _ _ (after-more_params others (three _ _ _ _ p))

  pub after-cell_elem : {elem : CellElem} {tokens rest : List Token} → WritesCellElem elem tokens rest → P tokens → P rest
  after-cell_elem cell_name p = tail _ _ p
  after-cell_elem cell_index p = three _ _ _ _ p

  pub after-more_cell_elems : {elems : List CellElem} {tokens rest : List Token} → MoreCellElems elems tokens rest → P tokens → P rest
  after-more_cell_elems no_more_cell_elems p = p
  after-more_cell_elems (more_cell_elems first others) p = after-more_cell_elems others (after-cell_elem first (tail _ _ p))

  pub after-cell_path : {path : CellPath} {tokens rest : List Token} → WritesCellPath path tokens rest → P tokens → P rest
  after-cell_path (cell_root elems) p = after-more_cell_elems elems (tail _ _ p)
  after-cell_path (cell_region elems) p = after-more_cell_elems elems (tail _ _ p)

  pub after-elem : {elem : PathElem} {tokens rest : List Token} → WritesElem elem tokens rest → P tokens → P rest
  after-elem name p = tail _ _ p
  after-elem index p = three _ _ _ _ p
  after-elem parameter p = three _ _ _ _ p
  after-elem any_index p = three _ _ _ _ p
  after-elem star p = tail _ _ p

  pub after-more_elems : {elems : List PathElem} {tokens rest : List Token} → MoreElems elems tokens rest → P tokens → P rest
  after-more_elems no_more_elems p = p
  after-more_elems (more_elems first others) p = after-more_elems others (after-elem first (tail _ _ p))

  pub after-path : {path : Path} {tokens rest : List Token} → WritesPath path tokens rest → P tokens → P rest
  after-path (root elems) p = after-more_elems elems (tail _ _ p)
  after-path (region elems) p = after-more_elems elems (tail _ _ p)

  pub after-more_paths : {paths : List Path} {tokens rest : List Token} → MorePaths paths tokens rest → P tokens → P rest
  after-more_paths no_more_paths p = p
  after-more_paths (more_paths first others) p = after-more_paths others (after-path first (tail _ _ p))

  pub after-clause : {it : Clause} {tokens rest : List Token} → WritesClause it tokens rest → P tokens → P rest
  after-clause (clause first others) p = after-more_paths others (after-path first (tail _ _ p))

  pub after-more_clauses : {them : List Clause} {tokens rest : List Token} → MoreClauses them tokens rest → P tokens → P rest
  after-more_clauses no_more_clauses p = p
  after-more_clauses (more_clauses first others) p = after-more_clauses others (after-clause first p)

  pub after-effects : {them : List Clause} {tokens rest : List Token} → WritesEffects them tokens rest → P tokens → P rest
  after-effects pure p = tail _ _ p
  after-effects (clauses first others) p = after-more_clauses others (after-clause first p)

  pub after-decl : {in_task : Bool} {it : Decl} {tokens rest : List Token} → WritesDecl in_task it tokens rest → P tokens → P rest
  after-decl (decl names effects body) p = after-statements body (tail _ _ (after-effects effects (after-params names (two _ _ _ p))))

  pub after-item : {it : Item} {tokens rest : List Token} → WritesItem it tokens rest → P tokens → P rest
  after-item (regions others) p = tail _ _ (after-more_names others (two _ _ _ p))
  after-item (cell path start) p = tail _ _ (after-initial start (after-cell_path path (three _ _ _ _ p)))
  after-item (array_item path) p = tail _ _ (after-cell_path path (three _ _ _ _ (three _ _ _ _ p)))
  after-item (grid_item path) p = tail _ _ (after-cell_path path (three _ _ _ _ (three _ _ _ _ (three _ _ _ _ p))))
  after-item (method it) p = after-decl it p
  after-item (task it) p = after-decl it (tail _ _ p)
  after-item (deterministic_task it) p = after-decl it (two _ _ _ p)
