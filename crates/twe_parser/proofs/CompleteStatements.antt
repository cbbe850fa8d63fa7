-- Completeness: the machine takes the tokens of every statement.
use Rattle.std.proofs.Common.{◌≡◌, ℕ, Bool, true, false, List, [], ◌∷◌, ◌++◌, None, refl, sym, ap, ◌∙◌}
use Rattle.std.proofs.lemmas.Bool.{false≢true, not-true}
use Rattle.twe_base.specs.declared.place.Place.{Place}
use Rattle.twe_ast.specs.declared.stmt.Arm.{Arm}
use Rattle.twe_ast.specs.declared.stmt.LocalType.TheVariants.{Int, Boolean}
use Rattle.twe_ast.specs.Expression.{Expression}
use Rattle.twe_ast.specs.Statement as seen
use Rattle.twe_ast.specs.Statement.{Statement, Statements, Arms, arm, otherwise, no_else}
use Rattle.twe_lexer.specs.declared.fixed.Fixed.TheVariants as fixed
use Rattle.twe_lexer.specs.declared.token.Token.{Token}
use Rattle.twe_lexer.specs.declared.token.TokenKind.{TokenKind}
use Rattle.twe_lexer.specs.declared.token.TokenKind.TheVariants as kinds
use Rattle.twe_parser.specs.declared.symbol.WaitKind.TheVariants as waits
use Rattle.twe_parser.specs.declared.symbol.Action.TheVariants.{Expr, Stmt}
use Rattle.twe_parser.specs.declared.symbol.ExprAction.TheVariants as exprs
use Rattle.twe_parser.specs.declared.symbol.Nonterminal.TheVariants as nonterminals
use Rattle.twe_parser.specs.declared.symbol.StmtAction.TheVariants as actions
use Rattle.twe_parser.specs.declared.symbol.Symbol.{Symbol}
use Rattle.twe_parser.specs.declared.symbol.Symbol.TheVariants as symbols
use Rattle.twe_parser.specs.declared.symbol.Symbol.TheVariants.{Expand, Perform}
use Rattle.twe_parser.specs.declared.value_stacks.ValueStacks.{ValueStacks}
use Rattle.twe_parser.specs.Written.{word, named}
use Rattle.twe_parser.specs.WritesExpression.{WritesExpression}
use Rattle.twe_parser.specs.WritesStatement.{wait, WritesStatement, block, let_local, let_final, set, set_array, set_grid, if_arms, while, return_nothing, return_value, print, call, make, wait_for, let_wait, final_wait, WritesStatements, closed, one_more, WritesArms, if_arm, MoreArms, no_more_arms, else_block, else_if}
use Rattle.twe_parser.specs.inner.Machine.{result_from}
use Rattle.twe_parser.specs.inner.Productions.{after_arm_production}
use Rattle.twe_base.specs.Stacks.{below}
use Rattle.twe_parser.specs.inner.Terminals.{terminal_of}
use Rattle.twe_parser.specs.inner.ValueStacks.{kept, with_expr}
use Rattle.twe_parser.proofs.CompleteExpressions.{full, all_args, arguments_again}
use Rattle.twe_parser.proofs.FirstTokens.{expression_begins, return_begins, is_name, is_dot, dotless, second_token}
use Rattle.twe_parser.proofs.Joining.{joined, joined_end, joined_more, joined_arms, joined_none, joined_last, joined_arm}
use Rattle.twe_parser.proofs.Steps.{do_now, left_out, as_unary, Ends, ends_at}

-- an expression that ends at `;`, `)` or `]`
at_semicolon : (place : Place) (rest : List Token) → Ends 0 (word fixed.Semicolon place ∷ rest)
at_semicolon place rest = ends_at 0 (word fixed.Semicolon place) rest (refl, refl, refl)

at_paren : (place : Place) (rest : List Token) → Ends 0 (word fixed.CloseParen place ∷ rest)
at_paren place rest = ends_at 0 (word fixed.CloseParen place) rest (refl, refl, refl)

at_bracket : (place : Place) (rest : List Token) → Ends 0 (word fixed.CloseBracket place ∷ rest)
at_bracket place rest = ends_at 0 (word fixed.CloseBracket place) rest (refl, refl, refl)

-- If a value in a task begins with a name, the next token shows whether it is a wait or an expression.
after_name : (kind : TokenKind) (place : Place) (tokens : List Token) (is_final : Bool) (stack : List Symbol) (values : ValueStacks) → is_dot (terminal_of kind) ≡ false →
    result_from ((record { kind = kind; place = place }) ∷ tokens) (Expand (nonterminals.AfterValueName is_final) ∷ stack) values
    ≡ result_from ((record { kind = kind; place = place }) ∷ tokens) (Expand nonterminals.Suffix ∷ Expand (nonterminals.Climb 0) ∷ symbols.Token fixed.Semicolon ∷ Perform (Stmt (actions.Let is_final Int)) ∷ stack) values
after_name (kinds.Fixed fixed.Dot) place tokens is_final stack values no_dot = absurd (false≢true (sym no_dot))
after_name (kinds.Fixed fixed.Semicolon) place tokens is_final stack values no_dot = do_now (Expr exprs.Variable) tokens (Perform (Stmt (actions.Let is_final Int)) ∷ stack) values
after_name (kinds.Fixed fixed.Or) place tokens is_final stack values no_dot = do_now (Expr exprs.Variable) tokens _ _
after_name (kinds.Fixed fixed.And) place tokens is_final stack values no_dot = do_now (Expr exprs.Variable) tokens _ _
after_name (kinds.Fixed fixed.Equal) place tokens is_final stack values no_dot = do_now (Expr exprs.Variable) tokens _ _
after_name (kinds.Fixed fixed.NotEqual) place tokens is_final stack values no_dot = do_now (Expr exprs.Variable) tokens _ _
after_name (kinds.Fixed fixed.Less) place tokens is_final stack values no_dot = do_now (Expr exprs.Variable) tokens _ _
after_name (kinds.Fixed fixed.LessEqual) place tokens is_final stack values no_dot = do_now (Expr exprs.Variable) tokens _ _
after_name (kinds.Fixed fixed.Greater) place tokens is_final stack values no_dot = do_now (Expr exprs.Variable) tokens _ _
after_name (kinds.Fixed fixed.GreaterEqual) place tokens is_final stack values no_dot = do_now (Expr exprs.Variable) tokens _ _
after_name (kinds.Fixed fixed.Plus) place tokens is_final stack values no_dot = do_now (Expr exprs.Variable) tokens _ _
after_name (kinds.Fixed fixed.Minus) place tokens is_final stack values no_dot = do_now (Expr exprs.Variable) tokens _ _
after_name (kinds.Fixed fixed.Star) place tokens is_final stack values no_dot = do_now (Expr exprs.Variable) tokens _ _
after_name (kinds.Fixed fixed.Slash) place tokens is_final stack values no_dot = do_now (Expr exprs.Variable) tokens _ _
after_name (kinds.Fixed fixed.Percent) place tokens is_final stack values no_dot = do_now (Expr exprs.Variable) tokens _ _
after_name _ place tokens is_final stack values no_dot = refl

value_after : List Symbol → Bool → List Symbol
value_after stack is_final = Expand (nonterminals.Climb 0) ∷ symbols.Token fixed.Semicolon ∷ Perform (Stmt (actions.Let is_final Int)) ∷ stack

after_first : (text : List ℕ) (place : Place) (tokens : List Token) (is_final : Bool) (stack : List Symbol) (values : ValueStacks) → dotless tokens ≡ true →
    result_from ((record { kind = kinds.Name text; place = place }) ∷ tokens) (Expand (nonterminals.IntValue true is_final) ∷ stack) values
    ≡ result_from ((record { kind = kinds.Name text; place = place }) ∷ tokens) (Expand nonterminals.Unary ∷ Expand (nonterminals.Climb 0) ∷ symbols.Token fixed.Semicolon ∷ Perform (Stmt (actions.Let is_final Int)) ∷ stack) values
after_first text place [] is_final stack values no_dot = refl
after_first text place (token ∷ tokens) is_final stack values no_dot =
    after_name token.kind token.place tokens is_final stack (kept (record { kind = kinds.Name text; place = place }) false values) (not-true (is_dot (terminal_of token.kind)) no_dot)

value_of_kind : (kind : TokenKind) (place : Place) (tokens : List Token) (is_final : Bool) (stack : List Symbol) (values : ValueStacks) → (is_name (terminal_of kind) ≡ true → dotless tokens ≡ true) →
    result_from ((record { kind = kind; place = place }) ∷ tokens) (Expand (nonterminals.IntValue true is_final) ∷ stack) values
    ≡ result_from ((record { kind = kind; place = place }) ∷ tokens) (Expand nonterminals.Unary ∷ Expand (nonterminals.Climb 0) ∷ symbols.Token fixed.Semicolon ∷ Perform (Stmt (actions.Let is_final Int)) ∷ stack) values
value_of_kind (kinds.Name text) place tokens is_final stack values no_dot = after_first text place tokens is_final stack values (no_dot refl)
value_of_kind (kinds.Literal value) place tokens is_final stack values no_dot = refl
value_of_kind (kinds.Fixed f) place tokens is_final stack values no_dot =
    as_unary (nonterminals.IntValue true is_final) (Expand (nonterminals.Climb 0) ∷ symbols.Token fixed.Semicolon ∷ Perform (Stmt (actions.Let is_final Int)) ∷ []) (word f place) tokens stack values refl refl
value_of_kind kinds.Stray place tokens is_final stack values no_dot = refl

-- the value of an `int` local is read as any expression
int_value : (in_task is_final : Bool) {value : Expression} {tokens rest : List Token} {end : Place} → WritesExpression 0 value tokens (word fixed.Semicolon end ∷ rest) → (stack : List Symbol) (values : ValueStacks) →
    result_from tokens (Expand (nonterminals.IntValue in_task is_final) ∷ stack) values
    ≡ result_from tokens (Expand nonterminals.Unary ∷ Expand (nonterminals.Climb 0) ∷ symbols.Token fixed.Semicolon ∷ Perform (Stmt (actions.Let is_final Int)) ∷ stack) values
int_value in_task is_final {tokens = []} value stack values = absurd (false≢true (expression_begins value))
int_value false is_final {tokens = token ∷ tokens} value stack values =
    as_unary (nonterminals.IntValue false is_final) (Expand (nonterminals.Climb 0) ∷ symbols.Token fixed.Semicolon ∷ Perform (Stmt (actions.Let is_final Int)) ∷ []) token tokens stack values refl refl
int_value true is_final {tokens = token ∷ tokens} value stack values = value_of_kind token.kind token.place tokens is_final stack values (λ name. second_token value refl name)

-- no `else` comes
abbrev pub NoElse : Bool → List Token → Type 0
NoElse in_task [] = ⊥
NoElse in_task (token ∷ tokens) = after_arm_production in_task (terminal_of token.kind) ≡ None

statement_begins : {in_task : Bool} {s : Statement} {tokens rest : List Token} → WritesStatement in_task s tokens rest → NoElse in_task tokens
statement_begins (block body) = refl
statement_begins (let_local {local_type = Int} value) = refl
statement_begins (let_local {local_type = Boolean} value) = refl
statement_begins (let_final value) = refl
statement_begins (set value) = refl
statement_begins (set_array index value) = refl
statement_begins (set_grid row column value) = refl
statement_begins (if_arms arms) = refl
statement_begins (while condition body) = refl
statement_begins return_nothing = refl
statement_begins (return_value value) = refl
statement_begins (print value) = refl
statement_begins (call args) = refl
statement_begins (make args) = refl
statement_begins (wait_for wait) = refl
statement_begins (let_wait wait) = refl
statement_begins (final_wait wait) = refl

statements_begin : {in_task : Bool} {body : Statements} {tokens rest : List Token} → WritesStatements in_task body tokens rest → NoElse in_task tokens
statements_begin closed = refl
statements_begin (one_more first others) = statement_begins first

abbrev with_lists : List Statement → List (List Statement) → ValueStacks → ValueStacks
with_lists done outer values = record values { lists = done ∷ outer }

abbrev with_arms : List Arm → List (List Arm) → ValueStacks → ValueStacks
with_arms done outer values = record values { arms = done ∷ outer }

-- the symbols that read a condition and a block in its braces
abbrev arm_after : Bool → List Symbol → List Symbol
arm_after in_task stack =
    symbols.Token fixed.OpenParen ∷ Expand nonterminals.Unary ∷ Expand (nonterminals.Climb 0) ∷ symbols.Token fixed.CloseParen ∷ symbols.Token fixed.OpenBrace ∷ Perform (Stmt actions.NewBlock) ∷ Expand (nonterminals.Statements in_task) ∷ Perform (Stmt actions.KeepArm)
    ∷ Expand (nonterminals.AfterArm in_task) ∷ stack

mutual
  -- one statement more stands in the open block
  statement_taken : {in_task : Bool} {s : Statement} {tokens rest : List Token} → WritesStatement in_task s tokens rest → NoElse in_task rest
      → (done : List Statement) (outer : List (List Statement)) (stack : List Symbol) (values : ValueStacks)
      → result_from tokens (Expand (nonterminals.Statements in_task) ∷ stack) (with_lists done outer values) ≡ result_from rest (Expand (nonterminals.Statements in_task) ∷ stack) (with_lists (done ++ s ∷ []) outer values)
  statement_taken {in_task = in_task} {rest = rest} (block {others = others} body) goes done outer stack values =
      do_now (Stmt actions.NewBlock) others (Expand (nonterminals.Statements in_task) ∷ Perform (Stmt actions.BlockStatement) ∷ Expand (nonterminals.Statements in_task) ∷ stack) (with_lists done outer values)
      ∙ statements_taken body [] (done ∷ outer) (Perform (Stmt actions.BlockStatement) ∷ Expand (nonterminals.Statements in_task) ∷ stack) values
      ∙ do_now (Stmt actions.BlockStatement) rest (Expand (nonterminals.Statements in_task) ∷ stack) _
  statement_taken {in_task = in_task} {rest = rest} (let_local {local_type = Int} {name = name} {end = end} value) goes done outer stack values =
      int_value in_task false value (Expand (nonterminals.Statements in_task) ∷ stack) (kept (named name) false (with_lists done outer values))
      ∙ full value (at_semicolon end rest) (symbols.Token fixed.Semicolon ∷ Perform (Stmt (actions.Let false Int)) ∷ Expand (nonterminals.Statements in_task) ∷ stack) (kept (named name) false (with_lists done outer values))
      ∙ do_now (Stmt (actions.Let false Int)) rest (Expand (nonterminals.Statements in_task) ∷ stack) _
  statement_taken {in_task = in_task} {rest = rest} (let_local {local_type = Boolean} {name = name} {end = end} value) goes done outer stack values =
      full value (at_semicolon end rest) (symbols.Token fixed.Semicolon ∷ Perform (Stmt (actions.Let false Boolean)) ∷ Expand (nonterminals.Statements in_task) ∷ stack) (kept (named name) false (with_lists done outer values))
      ∙ do_now (Stmt (actions.Let false Boolean)) rest (Expand (nonterminals.Statements in_task) ∷ stack) _
  statement_taken {in_task = in_task} {rest = rest} (let_final {local_type = Int} {name = name} {end = end} value) goes done outer stack values =
      int_value in_task true value (Expand (nonterminals.Statements in_task) ∷ stack) (kept (named name) false (with_lists done outer values))
      ∙ full value (at_semicolon end rest) (symbols.Token fixed.Semicolon ∷ Perform (Stmt (actions.Let true Int)) ∷ Expand (nonterminals.Statements in_task) ∷ stack) (kept (named name) false (with_lists done outer values))
      ∙ do_now (Stmt (actions.Let true Int)) rest (Expand (nonterminals.Statements in_task) ∷ stack) _
  statement_taken {in_task = in_task} {rest = rest} (let_final {local_type = Boolean} {name = name} {end = end} value) goes done outer stack values =
      full value (at_semicolon end rest) (symbols.Token fixed.Semicolon ∷ Perform (Stmt (actions.Let true Boolean)) ∷ Expand (nonterminals.Statements in_task) ∷ stack) (kept (named name) false (with_lists done outer values))
      ∙ do_now (Stmt (actions.Let true Boolean)) rest (Expand (nonterminals.Statements in_task) ∷ stack) _
  statement_taken {in_task = in_task} {rest = rest} (set {name = name} {end = end} value) goes done outer stack values =
      full value (at_semicolon end rest) (symbols.Token fixed.Semicolon ∷ Perform (Stmt actions.Set) ∷ Expand (nonterminals.Statements in_task) ∷ stack) (kept (named name) false (with_lists done outer values))
      ∙ do_now (Stmt actions.Set) rest (Expand (nonterminals.Statements in_task) ∷ stack) _
  statement_taken {in_task = in_task} {rest = rest} (set_array {name = name} {close = close} {equals = equals} {end = end} {more = more} index value) goes done outer stack values =
      full index (at_bracket close (word fixed.Assign equals ∷ more)) (symbols.Token fixed.CloseBracket ∷ Expand nonterminals.AfterIndex ∷ Expand (nonterminals.Statements in_task) ∷ stack) (kept (named name) false (with_lists done outer values))
      ∙ full value (at_semicolon end rest) (symbols.Token fixed.Semicolon ∷ Perform (Stmt actions.SetArray) ∷ Expand (nonterminals.Statements in_task) ∷ stack) _
      ∙ do_now (Stmt actions.SetArray) rest (Expand (nonterminals.Statements in_task) ∷ stack) _
  statement_taken {in_task = in_task} {rest = rest} (set_grid {name = name} {close = close} {second = second} {last = last} {equals = equals} {end = end} {more = more} {third = third} row column value) goes done outer stack values =
      full row (at_bracket close (word fixed.OpenBracket second ∷ more)) (symbols.Token fixed.CloseBracket ∷ Expand nonterminals.AfterIndex ∷ Expand (nonterminals.Statements in_task) ∷ stack) (kept (named name) false (with_lists done outer values))
      ∙ full column (at_bracket last (word fixed.Assign equals ∷ third)) (symbols.Token fixed.CloseBracket ∷ symbols.Token fixed.Assign ∷ Expand nonterminals.Unary ∷ Expand (nonterminals.Climb 0) ∷ symbols.Token fixed.Semicolon ∷ Perform (Stmt actions.SetGrid) ∷ Expand (nonterminals.Statements in_task) ∷ stack) _
      ∙ full value (at_semicolon end rest) (symbols.Token fixed.Semicolon ∷ Perform (Stmt actions.SetGrid) ∷ Expand (nonterminals.Statements in_task) ∷ stack) _
      ∙ do_now (Stmt actions.SetGrid) rest (Expand (nonterminals.Statements in_task) ∷ stack) _
  statement_taken {in_task = in_task} {rest = rest} (if_arms {tokens = tokens} arms) goes done outer stack values =
      do_now (Stmt actions.NewArms) tokens (arm_after in_task (Expand (nonterminals.Statements in_task) ∷ stack)) (with_lists done outer values)
      ∙ arms_taken arms goes [] values.arms done outer (Expand (nonterminals.Statements in_task) ∷ stack) values
  statement_taken {in_task = in_task} {rest = rest} (while {condition = condition} {place = place} {close = close} {brace = brace} {more = more} test body) goes done outer stack values =
      full test (at_paren close (word fixed.OpenBrace brace ∷ more))
      (symbols.Token fixed.CloseParen ∷ symbols.Token fixed.OpenBrace ∷ Perform (Stmt actions.NewBlock) ∷ Expand (nonterminals.Statements in_task) ∷ Perform (Stmt actions.While) ∷ Expand (nonterminals.Statements in_task) ∷ stack)
      (kept (word fixed.While place) true (with_lists done outer values))
      ∙ do_now (Stmt actions.NewBlock) more (Expand (nonterminals.Statements in_task) ∷ Perform (Stmt actions.While) ∷ Expand (nonterminals.Statements in_task) ∷ stack) _
      ∙ statements_taken body [] (done ∷ outer) (Perform (Stmt actions.While) ∷ Expand (nonterminals.Statements in_task) ∷ stack) (with_expr condition (kept (word fixed.While place) true values))
      ∙ do_now (Stmt actions.While) rest (Expand (nonterminals.Statements in_task) ∷ stack) _
  statement_taken {in_task = in_task} {rest = rest} return_nothing goes done outer stack values = do_now (Stmt actions.ReturnNothing) rest (Expand (nonterminals.Statements in_task) ∷ stack) _
  statement_taken (return_value {others = []} value) goes done outer stack values = absurd (false≢true (expression_begins value))
  statement_taken {in_task = in_task} {rest = rest} (return_value {place = place} {end = end} {others = token ∷ others} value) goes done outer stack values =
      as_unary nonterminals.ReturnValue (Expand (nonterminals.Climb 0) ∷ symbols.Token fixed.Semicolon ∷ Perform (Stmt actions.Return) ∷ []) token others (Expand (nonterminals.Statements in_task) ∷ stack) (kept (word fixed.Return place) true (with_lists done outer values))
      (return_begins (terminal_of token.kind) (expression_begins value)) refl
      ∙ full value (at_semicolon end rest) (symbols.Token fixed.Semicolon ∷ Perform (Stmt actions.Return) ∷ Expand (nonterminals.Statements in_task) ∷ stack) (kept (word fixed.Return place) true (with_lists done outer values))
      ∙ do_now (Stmt actions.Return) rest (Expand (nonterminals.Statements in_task) ∷ stack) _
  statement_taken {in_task = in_task} {rest = rest} (print {place = place} {close = close} {end = end} value) goes done outer stack values =
      full value (at_paren close (word fixed.Semicolon end ∷ rest)) (symbols.Token fixed.CloseParen ∷ symbols.Token fixed.Semicolon ∷ Perform (Stmt actions.Print) ∷ Expand (nonterminals.Statements in_task) ∷ stack) (kept (word fixed.Print place) true (with_lists done outer values))
      ∙ do_now (Stmt actions.Print) rest (Expand (nonterminals.Statements in_task) ∷ stack) _
  statement_taken {in_task = in_task} {rest = rest} (call {name = name} {args = args} {end = end} {others = others} written_args) goes done outer stack values =
      do_now (Expr exprs.NewArgs) others (Expand nonterminals.Args ∷ symbols.Token fixed.Semicolon ∷ Perform (Stmt actions.CallStatement) ∷ Expand (nonterminals.Statements in_task) ∷ stack) (kept (named name) false (with_lists done outer values))
      ∙ all_args written_args [] values.args (symbols.Token fixed.Semicolon ∷ Perform (Stmt actions.CallStatement) ∷ Expand (nonterminals.Statements in_task) ∷ stack) (kept (named name) false (with_lists done outer values))
      ∙ do_now (Stmt actions.CallStatement) rest (Expand (nonterminals.Statements in_task) ∷ stack) _
      ∙ ap (λ made. result_from rest (Expand (nonterminals.Statements in_task) ∷ stack) (with_lists (done ++ seen.Call name made ∷ []) outer values)) (arguments_again args)
  statement_taken {rest = rest} (make {spawned = true} {future = future} {task = task} {args = args} {end = end} {others = others} written_args) goes done outer stack values =
      do_now (Expr exprs.NewArgs) others (Expand nonterminals.Args ∷ symbols.Token fixed.Semicolon ∷ Perform (Stmt (actions.Make true)) ∷ Expand (nonterminals.Statements true) ∷ stack) (kept (named task) false (kept (named future) false (with_lists done outer values)))
      ∙ all_args written_args [] values.args (symbols.Token fixed.Semicolon ∷ Perform (Stmt (actions.Make true)) ∷ Expand (nonterminals.Statements true) ∷ stack) (kept (named task) false (kept (named future) false (with_lists done outer values)))
      ∙ do_now (Stmt (actions.Make true)) rest (Expand (nonterminals.Statements true) ∷ stack) _
      ∙ ap (λ made. result_from rest (Expand (nonterminals.Statements true) ∷ stack) (with_lists (done ++ seen.Make future task true made ∷ []) outer values)) (arguments_again args)
  statement_taken {rest = rest} (make {spawned = false} {future = future} {task = task} {args = args} {end = end} {others = others} written_args) goes done outer stack values =
      do_now (Expr exprs.NewArgs) others (Expand nonterminals.Args ∷ symbols.Token fixed.Semicolon ∷ Perform (Stmt (actions.Make false)) ∷ Expand (nonterminals.Statements true) ∷ stack) (kept (named task) false (kept (named future) false (with_lists done outer values)))
      ∙ all_args written_args [] values.args (symbols.Token fixed.Semicolon ∷ Perform (Stmt (actions.Make false)) ∷ Expand (nonterminals.Statements true) ∷ stack) (kept (named task) false (kept (named future) false (with_lists done outer values)))
      ∙ do_now (Stmt (actions.Make false)) rest (Expand (nonterminals.Statements true) ∷ stack) _
      ∙ ap (λ made. result_from rest (Expand (nonterminals.Statements true) ∷ stack) (with_lists (done ++ seen.Make future task false made ∷ []) outer values)) (arguments_again args)
  statement_taken {rest = rest} (wait_for (wait {join = true})) goes done outer stack values = do_now (Stmt (actions.Wait waits.Join)) rest (Expand (nonterminals.Statements true) ∷ stack) _
  statement_taken {rest = rest} (wait_for (wait {join = false})) goes done outer stack values = do_now (Stmt (actions.Wait waits.GetValue)) rest (Expand (nonterminals.Statements true) ∷ stack) _
  statement_taken {rest = rest} (let_wait (wait {join = true})) goes done outer stack values = do_now (Stmt (actions.LetWait false waits.Join)) rest (Expand (nonterminals.Statements true) ∷ stack) _
  statement_taken {rest = rest} (let_wait (wait {join = false})) goes done outer stack values = do_now (Stmt (actions.LetWait false waits.GetValue)) rest (Expand (nonterminals.Statements true) ∷ stack) _
  statement_taken {rest = rest} (final_wait (wait {join = true})) goes done outer stack values = do_now (Stmt (actions.LetWait true waits.Join)) rest (Expand (nonterminals.Statements true) ∷ stack) _
  statement_taken {rest = rest} (final_wait (wait {join = false})) goes done outer stack values = do_now (Stmt (actions.LetWait true waits.GetValue)) rest (Expand (nonterminals.Statements true) ∷ stack) _

  -- the whole block
  pub statements_taken : {in_task : Bool} {body : Statements} {tokens rest : List Token} → WritesStatements in_task body tokens rest
      → (done : List Statement) (outer : List (List Statement)) (stack : List Symbol) (values : ValueStacks)
      → result_from tokens (Expand (nonterminals.Statements in_task) ∷ stack) (with_lists done outer values) ≡ result_from rest stack (record values { lists = outer; blocks = joined done body ∷ values.blocks })
  statements_taken {rest = rest} (closed {close = close}) done outer stack values =
      do_now (Stmt actions.CloseBlock) rest stack _
      ∙ ap (λ body. result_from rest stack (record values { lists = outer; blocks = body ∷ values.blocks })) (joined_end done close)
  statements_taken {rest = rest} (one_more {first = first} {others = others} one more) done outer stack values =
      statement_taken one (statements_begin more) done outer stack values
      ∙ statements_taken more (done ++ first ∷ []) outer stack values
      ∙ ap (λ body. result_from rest stack (record values { lists = outer; blocks = body ∷ values.blocks })) (joined_more done first others)

  -- an `if` and all that belongs to it, from after the word `if`
  arms_taken : {in_task : Bool} {arms : Arms} {tokens rest : List Token} → WritesArms in_task arms tokens rest → NoElse in_task rest
      → (prior : List Arm) (others : List (List Arm)) (done : List Statement) (outer : List (List Statement)) (stack : List Symbol) (values : ValueStacks)
      → result_from (below tokens) (arm_after in_task stack) (with_arms prior others (with_lists done outer values)) ≡ result_from rest stack (record values { lists = (done ++ seen.If (joined_arms prior arms) ∷ []) ∷ outer; arms = others })
  arms_taken {in_task = in_task} {rest = rest} (if_arm {condition = condition} {body = body} {next = next} {close = close} {brace = brace} {more = more} {third = third} test written_body following) goes prior others done outer stack values =
      full test (at_paren close (word fixed.OpenBrace brace ∷ more))
      (symbols.Token fixed.CloseParen ∷ symbols.Token fixed.OpenBrace ∷ Perform (Stmt actions.NewBlock) ∷ Expand (nonterminals.Statements in_task) ∷ Perform (Stmt actions.KeepArm) ∷ Expand (nonterminals.AfterArm in_task) ∷ stack)
      (with_arms prior others (with_lists done outer values))
      ∙ do_now (Stmt actions.NewBlock) more (Expand (nonterminals.Statements in_task) ∷ Perform (Stmt actions.KeepArm) ∷ Expand (nonterminals.AfterArm in_task) ∷ stack) _
      ∙ statements_taken written_body [] (done ∷ outer) (Perform (Stmt actions.KeepArm) ∷ Expand (nonterminals.AfterArm in_task) ∷ stack) (with_expr condition (with_arms prior others values))
      ∙ do_now (Stmt actions.KeepArm) third (Expand (nonterminals.AfterArm in_task) ∷ stack) _
      ∙ more_arms_taken following goes (prior ++ (record { condition = condition; body = body }) ∷ []) others done outer stack values
      ∙ ap (λ arms. result_from rest stack (record values { lists = (done ++ seen.If arms ∷ []) ∷ outer; arms = others })) (joined_arm prior condition body next)

  more_arms_taken : {in_task : Bool} {arms : Arms} {tokens rest : List Token} → MoreArms in_task arms tokens rest → NoElse in_task rest
      → (prior : List Arm) (others : List (List Arm)) (done : List Statement) (outer : List (List Statement)) (stack : List Symbol) (values : ValueStacks)
      → result_from tokens (Expand (nonterminals.AfterArm in_task) ∷ stack) (with_arms prior others (with_lists done outer values)) ≡ result_from rest stack (record values { lists = (done ++ seen.If (joined_arms prior arms) ∷ []) ∷ outer; arms = others })
  more_arms_taken {rest = []} no_more_arms goes prior others done outer stack values = absurd goes
  more_arms_taken {in_task = in_task} {rest = token ∷ rest} no_more_arms goes prior others done outer stack values =
      left_out (nonterminals.AfterArm in_task) (Stmt actions.CloseIf) token rest stack (with_arms prior others (with_lists done outer values)) goes refl
      ∙ ap (λ arms. result_from (token ∷ rest) stack (record values { lists = (done ++ seen.If arms ∷ []) ∷ outer; arms = others })) (joined_none prior)
  more_arms_taken {in_task = in_task} {rest = rest} (else_block {body = body} {others = tokens} written_body) goes prior others done outer stack values =
      do_now (Stmt actions.NewBlock) tokens (Expand (nonterminals.Statements in_task) ∷ Perform (Stmt actions.CloseIfElse) ∷ stack) (with_arms prior others (with_lists done outer values))
      ∙ statements_taken written_body [] (done ∷ outer) (Perform (Stmt actions.CloseIfElse) ∷ stack) (with_arms prior others values)
      ∙ do_now (Stmt actions.CloseIfElse) rest stack _
      ∙ ap (λ arms. result_from rest stack (record values { lists = (done ++ seen.If arms ∷ []) ∷ outer; arms = others })) (joined_last prior body)
  more_arms_taken (else_if (if_arm {place = place} {opening = opening} test written_body following)) goes prior others done outer stack values = arms_taken (if_arm {place = place} {opening = opening} test written_body following) goes prior others done outer stack values
