-- Soundness of the productions of statements.
use Rattle.std.proofs.Common.{◌≡◌, ◌+◌, ◌⊎◌, inl, inr, Bool, true, false, List, [], ◌∷◌, refl, sym, subst, arith}
use Rattle.twe_base.specs.declared.place.Place.{Place}
use Rattle.twe_ast.specs.declared.expr.BinOp.{BinOp}
use Rattle.twe_ast.specs.declared.expr.BinOp.TheVariants as operators
use Rattle.twe_ast.specs.declared.name.Name.{Name}
use Rattle.twe_ast.specs.declared.stmt.LocalType.TheVariants.{Int, Boolean}
use Rattle.twe_lexer.specs.declared.fixed.Fixed.TheVariants as fixed
use Rattle.twe_lexer.specs.declared.token.Token.{Token}
use Rattle.twe_lexer.specs.declared.token.TokenKind.{TokenKind}
use Rattle.twe_lexer.specs.declared.token.TokenKind.TheVariants as kinds
use Rattle.twe_parser.specs.declared.symbol.Action.TheVariants.{Expr, Stmt}
use Rattle.twe_parser.specs.declared.symbol.ExprAction.TheVariants as exprs
use Rattle.twe_parser.specs.declared.symbol.Nonterminal.TheVariants as nonterminals
use Rattle.twe_parser.specs.declared.symbol.StmtAction.TheVariants as stmts
use Rattle.twe_parser.specs.declared.symbol.Symbol.TheVariants as symbols
use Rattle.twe_parser.specs.declared.symbol.Symbol.TheVariants.{Expand, Perform}
use Rattle.twe_ast.specs.Precedence.{level_of}
use Rattle.twe_parser.specs.OperatorTokens.{operator}
use Rattle.twe_parser.specs.Written.{word, named}
use Rattle.twe_parser.specs.WritesExpression.{written, variable, call as call_shape}
use Rattle.twe_parser.specs.WritesStatement.{wait, block, let_local, let_final, set, set_array, set_grid, if_arms, while, return_nothing, return_value, print, call, make, wait_for, let_wait, final_wait, closed, one_more, if_arm, else_block, else_if}
use Rattle.twe_parser.specs.inner.Productions.{statements_production, local_type_production, int_value_production, after_value_name_production, after_name_production, after_index_production, awaited_production, awaited_value_production, make_production, after_arm_production, else_body_production, return_value_production}
use Rattle.twe_parser.specs.inner.Terminals.{terminal_of}
use Rattle.twe_parser.proofs.Meanings.{HasExpression, HasValue, HasWait, HasStatement, Means, Reads, done, a_name, a_token, a_nonterminal, an_action, ReadsProduction}
use Rattle.twe_parser.proofs.SoundExpressions.{whole, operand_then, climb_step}

-- a statement, and the statements after it
first_of : (in_task : Bool) (tokens more rest : List Token) → HasStatement in_task tokens more → Means (nonterminals.Statements in_task) more rest → Means (nonterminals.Statements in_task) tokens rest
first_of in_task tokens more rest (s, writes) (body, others) = (_, one_more writes others)

-- an `int` local, by an expression or by a wait
int_local : (in_task : Bool) (type : Place) (name : Name) (equals : Place) (tokens rest : List Token) → HasValue tokens rest ⊎ ((in_task ≡ true) × HasWait tokens rest)
    → HasStatement in_task (word fixed.Int type ∷ named name ∷ word fixed.Assign equals ∷ tokens) rest
int_local in_task type name equals tokens rest (inl (e, ending, writes)) = (_, let_local {local_type = Int} writes)
int_local in_task type name equals tokens rest (inr (is, (waits, writes))) =
    subst (λ (b : Bool). HasStatement b (word fixed.Int type ∷ named name ∷ word fixed.Assign equals ∷ tokens) rest) (sym is) (_, let_wait writes)

final_local : (in_task : Bool) (final type : Place) (name : Name) (equals : Place) (tokens rest : List Token) → HasValue tokens rest ⊎ ((in_task ≡ true) × HasWait tokens rest)
    → HasStatement in_task (word fixed.Final final ∷ word fixed.Int type ∷ named name ∷ word fixed.Assign equals ∷ tokens) rest
final_local in_task final type name equals tokens rest (inl (e, ending, writes)) = (_, let_final {local_type = Int} writes)
final_local in_task final type name equals tokens rest (inr (is, (waits, writes))) =
    subst (λ (b : Bool). HasStatement b (word fixed.Final final ∷ word fixed.Int type ∷ named name ∷ word fixed.Assign equals ∷ tokens) rest) (sym is) (_, final_wait writes)

pub statements_means : (in_task : Bool) (kind : TokenKind) (place : Place) (tokens rest : List Token) → ReadsProduction (statements_production in_task (terminal_of kind)) tokens rest
    → Means (nonterminals.Statements in_task) ((record { kind = kind; place = place }) ∷ tokens) rest
statements_means in_task (kinds.Fixed fixed.CloseBrace) place tokens rest (an_action done) = (_, closed)
statements_means in_task (kinds.Fixed fixed.OpenBrace) place tokens rest (an_action (a_nonterminal body (an_action (a_nonterminal {more = more} others done)))) =
    first_of in_task _ _ rest (_, block body.1) others
statements_means in_task (kinds.Fixed fixed.Final) place tokens rest (a_nonterminal local (a_nonterminal others done)) = first_of in_task _ _ rest (local place) others
statements_means in_task (kinds.Fixed fixed.Int) place tokens rest (a_name {name = name} (a_token {place = equals} (a_nonterminal value (a_nonterminal others done)))) =
    first_of in_task _ _ rest (int_local in_task place name equals _ _ value) others
statements_means in_task (kinds.Fixed fixed.Boolean) place tokens rest (a_name {name = name} (a_token {place = equals} {tokens = inside} (a_nonterminal {more = more} operand (a_nonterminal {more = third} climbs (a_token {place = ending} (an_action (a_nonterminal others done))))))) =
    let e = whole 0 inside more third operand climbs (omega arith) in first_of in_task _ _ rest (_, let_local {local_type = Boolean} e.1) others
statements_means in_task (kinds.Name text) place tokens rest (a_nonterminal after (a_nonterminal others done)) = first_of in_task _ _ rest (after (record { text = text; place = place })) others
statements_means in_task (kinds.Fixed fixed.If) place tokens rest
    (an_action (a_token {place = opening} {tokens = inside} (a_nonterminal {more = more} operand (a_nonterminal {more = third} climbs (a_token {place = close} (a_token {place = brace} (an_action (a_nonterminal body (an_action (a_nonterminal following (a_nonterminal others done))))))))))) =
    let e = whole 0 inside more third operand climbs (omega arith) in first_of in_task _ _ rest (_, if_arms (if_arm e.1 body.1 following.1)) others
statements_means in_task (kinds.Fixed fixed.While) place tokens rest
    (a_token {place = opening} {tokens = inside} (a_nonterminal {more = more} operand (a_nonterminal {more = third} climbs (a_token {place = close} (a_token {place = brace} (an_action (a_nonterminal body (an_action (a_nonterminal others done))))))))) =
    let e = whole 0 inside more third operand climbs (omega arith) in first_of in_task _ _ rest (_, while e.1 body.1) others
statements_means in_task (kinds.Fixed fixed.Return) place tokens rest (a_nonterminal value (a_nonterminal others done)) = first_of in_task _ _ rest (value in_task place) others
statements_means in_task (kinds.Fixed fixed.Print) place tokens rest
    (a_token {place = opening} {tokens = inside} (a_nonterminal {more = more} operand (a_nonterminal {more = third} climbs (a_token {place = close} (a_token {place = ending} (an_action (a_nonterminal others done))))))) =
    let e = whole 0 inside more third operand climbs (omega arith) in first_of in_task _ _ rest (_, print e.1) others
statements_means true (kinds.Fixed fixed.Future) place tokens rest (a_name {name = future} (a_token {place = equals} (a_name {name = task} (a_token {place = dot} (a_nonterminal made (a_nonterminal others done)))))) =
    first_of true _ _ rest (made place future equals task dot) others
statements_means _ _ place tokens rest reads = absurd reads

pub local_type_means : (in_task : Bool) (kind : TokenKind) (place : Place) (tokens rest : List Token) → ReadsProduction (local_type_production in_task (terminal_of kind)) tokens rest
    → Means (nonterminals.LocalType in_task) ((record { kind = kind; place = place }) ∷ tokens) rest
local_type_means in_task (kinds.Fixed fixed.Int) place tokens rest (a_name {name = name} (a_token {place = equals} (a_nonterminal value done))) final = final_local in_task final place name equals _ _ value
local_type_means in_task (kinds.Fixed fixed.Boolean) place tokens rest (a_name {name = name} (a_token {place = equals} {tokens = inside} (a_nonterminal {more = more} operand (a_nonterminal {more = third} climbs (a_token {place = ending} (an_action done)))))) final =
    let e = whole 0 inside more third operand climbs (omega arith) in (_, let_final {local_type = Boolean} e.1)
local_type_means in_task _ place tokens rest reads final = absurd reads

value_read : (is_final : Bool) (tokens rest : List Token) → ((middle : List Token) × HasExpression 0 tokens middle × Reads (symbols.Token fixed.Semicolon ∷ Perform (Stmt (stmts.Let is_final Int)) ∷ []) middle rest) → HasValue tokens rest
value_read is_final tokens rest (middle, e, a_token {place = ending} (an_action done)) = (e.0, ending, e.1)

in_a_task : (tokens rest : List Token) → HasValue tokens rest ⊎ HasWait tokens rest → HasValue tokens rest ⊎ ((true ≡ true) × HasWait tokens rest)
in_a_task tokens rest (inl value) = inl value
in_a_task tokens rest (inr waits) = inr (refl, waits)

pub int_value_means : (in_task is_final : Bool) (kind : TokenKind) (place : Place) (tokens rest : List Token) → ReadsProduction (int_value_production in_task is_final (terminal_of kind)) tokens rest
    → Means (nonterminals.IntValue in_task is_final) ((record { kind = kind; place = place }) ∷ tokens) rest
int_value_means true is_final (kinds.Name text) place tokens rest (a_nonterminal after done) = in_a_task _ rest (after (record { text = text; place = place }))
int_value_means in_task is_final kind place tokens rest reads =
    inl (value_read is_final ((record { kind = kind; place = place }) ∷ tokens) rest (operand_then kind place tokens rest (symbols.Token fixed.Semicolon ∷ Perform (Stmt (stmts.Let is_final Int)) ∷ []) reads))

-- a name, an operator, and what follows
after_operator : (op : BinOp) (place : Place) (tokens rest : List Token) (is_final : Bool)
    → Reads (Perform (Expr exprs.Variable) ∷ Expand nonterminals.Unary ∷ Expand (nonterminals.Climb (level_of op + 1)) ∷ Perform (Expr (exprs.Binary op)) ∷ Expand (nonterminals.Climb 0) ∷ symbols.Token fixed.Semicolon ∷ Perform (Stmt (stmts.Let is_final Int)) ∷ []) tokens rest
    → (name : Name) → HasValue (named name ∷ word (operator op) place ∷ tokens) rest
after_operator op place tokens rest is_final (an_action (a_nonterminal operand (a_nonterminal inner (an_action (a_nonterminal {more = more} outer (a_token {place = ending} (an_action done))))))) name =
    let climbs = climb_step op 0 place tokens more (omega arith) (a_nonterminal {nonterminal = nonterminals.Unary} operand (a_nonterminal {nonterminal = nonterminals.Climb (level_of op + 1)} inner (an_action (a_nonterminal {nonterminal = nonterminals.Climb 0} outer done)))) in
    let e = whole 0 (named name ∷ word (operator op) place ∷ tokens) (word (operator op) place ∷ tokens) more (_, written variable) climbs (omega arith) in
    (e.0, ending, e.1)

pub after_value_name_means : (is_final : Bool) (kind : TokenKind) (place : Place) (tokens rest : List Token) → ReadsProduction (after_value_name_production is_final (terminal_of kind)) tokens rest
    → Means (nonterminals.AfterValueName is_final) ((record { kind = kind; place = place }) ∷ tokens) rest
after_value_name_means is_final (kinds.Fixed fixed.Dot) place tokens rest (a_nonterminal awaited done) name = inr (awaited name place)
after_value_name_means is_final (kinds.Fixed fixed.Semicolon) place tokens rest (an_action (an_action done)) name = inl (_, place, written variable)
after_value_name_means is_final (kinds.Fixed fixed.OpenParen) place tokens rest (an_action (a_nonterminal {more = more} args (an_action (a_nonterminal {more = third} climbs (a_token {place = ending} (an_action done)))))) name =
    let e = whole 0 (named name ∷ word fixed.OpenParen place ∷ tokens) more third (_, written (call_shape args.1)) climbs (omega arith) in inl (e.0, ending, e.1)
after_value_name_means is_final (kinds.Fixed fixed.OpenBracket) place tokens rest
    (a_nonterminal {more = more} operand (a_nonterminal {more = third} climbs (a_token {place = close} (a_nonterminal {more = fourth} second (a_nonterminal {more = fifth} outer (a_token {place = ending} (an_action done))))))) name =
    let index = whole 0 tokens more third operand climbs (omega arith) in
    let e = whole 0 (named name ∷ word fixed.OpenBracket place ∷ tokens) fourth fifth (second name place index.0 tokens close index.1) outer (omega arith) in inl (e.0, ending, e.1)
after_value_name_means is_final (kinds.Fixed fixed.Or) place tokens rest reads name = inl (after_operator operators.Or place tokens rest is_final reads name)
after_value_name_means is_final (kinds.Fixed fixed.And) place tokens rest reads name = inl (after_operator operators.And place tokens rest is_final reads name)
after_value_name_means is_final (kinds.Fixed fixed.Equal) place tokens rest reads name = inl (after_operator operators.Equal place tokens rest is_final reads name)
after_value_name_means is_final (kinds.Fixed fixed.NotEqual) place tokens rest reads name = inl (after_operator operators.NotEqual place tokens rest is_final reads name)
after_value_name_means is_final (kinds.Fixed fixed.Less) place tokens rest reads name = inl (after_operator operators.Less place tokens rest is_final reads name)
after_value_name_means is_final (kinds.Fixed fixed.LessEqual) place tokens rest reads name = inl (after_operator operators.LessEqual place tokens rest is_final reads name)
after_value_name_means is_final (kinds.Fixed fixed.Greater) place tokens rest reads name = inl (after_operator operators.Greater place tokens rest is_final reads name)
after_value_name_means is_final (kinds.Fixed fixed.GreaterEqual) place tokens rest reads name = inl (after_operator operators.GreaterEqual place tokens rest is_final reads name)
after_value_name_means is_final (kinds.Fixed fixed.Plus) place tokens rest reads name = inl (after_operator operators.Add place tokens rest is_final reads name)
after_value_name_means is_final (kinds.Fixed fixed.Minus) place tokens rest reads name = inl (after_operator operators.Sub place tokens rest is_final reads name)
after_value_name_means is_final (kinds.Fixed fixed.Star) place tokens rest reads name = inl (after_operator operators.Mul place tokens rest is_final reads name)
after_value_name_means is_final (kinds.Fixed fixed.Slash) place tokens rest reads name = inl (after_operator operators.Div place tokens rest is_final reads name)
after_value_name_means is_final (kinds.Fixed fixed.Percent) place tokens rest reads name = inl (after_operator operators.Rem place tokens rest is_final reads name)
after_value_name_means is_final _ place tokens rest reads name = absurd reads

pub after_name_means : (in_task : Bool) (kind : TokenKind) (place : Place) (tokens rest : List Token) → ReadsProduction (after_name_production in_task (terminal_of kind)) tokens rest
    → Means (nonterminals.AfterName in_task) ((record { kind = kind; place = place }) ∷ tokens) rest
after_name_means in_task (kinds.Fixed fixed.Assign) place tokens rest (a_nonterminal {more = more} operand (a_nonterminal {more = third} climbs (a_token {place = ending} (an_action done)))) name =
    let e = whole 0 tokens more third operand climbs (omega arith) in (_, set e.1)
after_name_means in_task (kinds.Fixed fixed.OpenBracket) place tokens rest (a_nonterminal {more = more} operand (a_nonterminal {more = third} climbs (a_token {place = close} (a_nonterminal after done)))) name =
    let index = whole 0 tokens more third operand climbs (omega arith) in after in_task name place index.0 tokens close index.1
after_name_means in_task (kinds.Fixed fixed.OpenParen) place tokens rest (an_action (a_nonterminal args (a_token {place = ending} (an_action done)))) name = (_, call args.1)
after_name_means true (kinds.Fixed fixed.Dot) place tokens rest (a_nonterminal awaited done) name = let waits = awaited name place in (_, wait_for waits.1)
after_name_means _ _ place tokens rest reads name = absurd reads

pub after_index_means : (kind : TokenKind) (place : Place) (tokens rest : List Token) → ReadsProduction (after_index_production (terminal_of kind)) tokens rest → Means nonterminals.AfterIndex ((record { kind = kind; place = place }) ∷ tokens) rest
after_index_means (kinds.Fixed fixed.Assign) place tokens rest (a_nonterminal {more = more} operand (a_nonterminal {more = third} climbs (a_token {place = ending} (an_action done)))) in_task name opening index before close writes =
    let e = whole 0 tokens more third operand climbs (omega arith) in (_, set_array writes e.1)
after_index_means (kinds.Fixed fixed.OpenBracket) place tokens rest
    (a_nonterminal {more = more} operand (a_nonterminal {more = third} climbs (a_token {place = last} (a_token {place = equals} {tokens = inside} (a_nonterminal {more = fourth} operand2 (a_nonterminal {more = fifth} climbs2 (a_token {place = ending} (an_action done)))))))) in_task name opening index before close writes =
    let column = whole 0 tokens more third operand climbs (omega arith) in
    let value = whole 0 inside fourth fifth operand2 climbs2 (omega arith) in (_, set_grid writes column.1 value.1)
after_index_means _ place tokens rest reads in_task name opening index before close writes = absurd reads

pub awaited_means : (kind : TokenKind) (place : Place) (tokens rest : List Token) → ReadsProduction (awaited_production (terminal_of kind)) tokens rest → Means nonterminals.Awaited ((record { kind = kind; place = place }) ∷ tokens) rest
awaited_means (kinds.Fixed fixed.GetValue) place tokens rest (a_token (a_token (a_token (an_action done)))) name dot = (_, wait {join = false})
awaited_means (kinds.Fixed fixed.Join) place tokens rest (a_token (a_token (a_token (an_action done)))) name dot = (_, wait {join = true})
awaited_means _ place tokens rest reads name dot = absurd reads

pub awaited_value_means : (is_final : Bool) (kind : TokenKind) (place : Place) (tokens rest : List Token) → ReadsProduction (awaited_value_production is_final (terminal_of kind)) tokens rest
    → Means (nonterminals.AwaitedValue is_final) ((record { kind = kind; place = place }) ∷ tokens) rest
awaited_value_means is_final (kinds.Fixed fixed.GetValue) place tokens rest (a_token (a_token (a_token (an_action done)))) name dot = (_, wait {join = false})
awaited_value_means is_final (kinds.Fixed fixed.Join) place tokens rest (a_token (a_token (a_token (an_action done)))) name dot = (_, wait {join = true})
awaited_value_means is_final _ place tokens rest reads name dot = absurd reads

pub make_means : (kind : TokenKind) (place : Place) (tokens rest : List Token) → ReadsProduction (make_production (terminal_of kind)) tokens rest → Means nonterminals.Make ((record { kind = kind; place = place }) ∷ tokens) rest
make_means (kinds.Fixed fixed.Spawn) verb tokens rest (a_token {place = opening} (an_action (a_nonterminal args (a_token {place = ending} (an_action done))))) place future equals task dot = (_, make {spawned = true} args.1)
make_means (kinds.Fixed fixed.ExecuteLater) verb tokens rest (a_token {place = opening} (an_action (a_nonterminal args (a_token {place = ending} (an_action done))))) place future equals task dot = (_, make {spawned = false} args.1)
make_means _ verb tokens rest reads place future equals task dot = absurd reads

pub after_arm_means : (in_task : Bool) (kind : TokenKind) (place : Place) (tokens rest : List Token) → ReadsProduction (after_arm_production in_task (terminal_of kind)) tokens rest
    → Means (nonterminals.AfterArm in_task) ((record { kind = kind; place = place }) ∷ tokens) rest
after_arm_means in_task (kinds.Fixed fixed.Else) place tokens rest (a_nonterminal body done) = body place
after_arm_means in_task _ place tokens rest reads = absurd reads

pub else_body_means : (in_task : Bool) (kind : TokenKind) (place : Place) (tokens rest : List Token) → ReadsProduction (else_body_production in_task (terminal_of kind)) tokens rest
    → Means (nonterminals.ElseBody in_task) ((record { kind = kind; place = place }) ∷ tokens) rest
else_body_means in_task (kinds.Fixed fixed.If) here tokens rest
    (a_token {place = opening} {tokens = inside} (a_nonterminal {more = more} operand (a_nonterminal {more = third} climbs (a_token {place = close} (a_token {place = brace} (an_action (a_nonterminal body (an_action (a_nonterminal following done))))))))) place =
    let e = whole 0 inside more third operand climbs (omega arith) in (_, else_if (if_arm e.1 body.1 following.1))
else_body_means in_task (kinds.Fixed fixed.OpenBrace) here tokens rest (an_action (a_nonterminal body (an_action done))) place = (_, else_block body.1)
else_body_means in_task _ here tokens rest reads place = absurd reads

returned : (in_task : Bool) (place : Place) (tokens rest : List Token) → ((middle : List Token) × HasExpression 0 tokens middle × Reads (symbols.Token fixed.Semicolon ∷ Perform (Stmt stmts.Return) ∷ []) middle rest) → HasStatement in_task (word fixed.Return place ∷ tokens) rest
returned in_task place tokens rest (middle, e, a_token {place = ending} (an_action done)) = (_, return_value e.1)

pub return_value_means : (kind : TokenKind) (place : Place) (tokens rest : List Token) → ReadsProduction (return_value_production (terminal_of kind)) tokens rest → Means nonterminals.ReturnValue ((record { kind = kind; place = place }) ∷ tokens) rest
return_value_means (kinds.Fixed fixed.Semicolon) here tokens rest (an_action done) in_task place = (_, return_nothing)
return_value_means kind here tokens rest reads in_task place = returned in_task place ((record { kind = kind; place = here }) ∷ tokens) rest (operand_then kind here tokens rest (symbols.Token fixed.Semicolon ∷ Perform (Stmt stmts.Return) ∷ []) reads)
