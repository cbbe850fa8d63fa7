-- The symbols on the stack can be completed to a program.
use Rattle.std.proofs.Common.{◌≡◌, Bool, true, false, List, [], ◌∷◌, ◌++◌, Option, None, Some, refl, ap, ◌∙◌, subst}
use Rattle.std.specs.Prelude.{option_and_then}
use Rattle.std.proofs.lemmas.Bool.{and_parts, false≢true}
use Rattle.std.proofs.lemmas.Slice.Eq.{bytes_eq-Decides}
use Rattle.twe_ast.specs.declared.item.ReturnType.TheVariants as returns
use Rattle.twe_ast.specs.declared.stmt.LocalType.TheVariants as locals
use Rattle.twe_lexer.specs.declared.fixed.Fixed.{Fixed}
use Rattle.twe_lexer.specs.declared.fixed.Fixed.TheVariants as fixed
use Rattle.twe_lexer.specs.declared.token.Token.{Token}
use Rattle.twe_parser.specs.declared.symbol.WaitKind.TheVariants as waits
use Rattle.twe_parser.specs.declared.symbol.Action.{Action}
use Rattle.twe_parser.specs.declared.symbol.Nonterminal.{Nonterminal}
use Rattle.twe_parser.specs.declared.symbol.Nonterminal.TheVariants as nonterminals
use Rattle.twe_parser.specs.declared.symbol.Symbol.{Symbol}
use Rattle.twe_parser.specs.declared.symbol.Symbol.TheVariants as symbols
use Rattle.twe_parser.specs.declared.value_stacks.ValueStacks.{ValueStacks}
use Rattle.twe_parser.specs.declared.symbol.Action.TheVariants.{Nothing, Expr, Stmt, Item}
use Rattle.twe_parser.specs.declared.symbol.CellKind.TheVariants as cells
use Rattle.twe_parser.specs.declared.symbol.ExprAction.TheVariants as exprs
use Rattle.twe_parser.specs.declared.symbol.ItemAction.TheVariants as items
use Rattle.twe_parser.specs.declared.symbol.StmtAction.TheVariants as stmts
use Rattle.twe_lexer.specs.Spelling.{spelling}
use Rattle.twe_parser.specs.Written.{word, named, number}
use Rattle.twe_parser.specs.inner.Actions.{performed}
use Rattle.twe_parser.specs.inner.Machine.{expected, result_from}
use Rattle.twe_parser.specs.inner.Operators.{operator_of}
use Rattle.twe_parser.specs.inner.Productions.{production_of, epsilon_action, suffix_production, second_index_production, climb_from, after_arm_production}
use Rattle.twe_parser.specs.inner.Terminals.{terminal_of, same_fixed}
use Rattle.twe_parser.specs.inner.ValueStacks.{nowhere, nameless, kept}
use Rattle.twe_parser.specs.inner.Fine.{harmless, calm, is_last, need, fine}
use Rattle.twe_parser.proofs.Steps.{do_now, left_out, goes_on}

-- a short completion of a nonterminal
abbrev shortest : Nonterminal → List Token
shortest nonterminals.Items = []
shortest nonterminals.MoreRegions = word fixed.Semicolon nowhere ∷ []
shortest nonterminals.AfterInt = word fixed.In nowhere ∷ word fixed.Root nowhere ∷ word fixed.Semicolon nowhere ∷ []
shortest nonterminals.AfterLength = word fixed.In nowhere ∷ word fixed.Root nowhere ∷ word fixed.Semicolon nowhere ∷ []
shortest (nonterminals.CellPath x) = word fixed.Root nowhere ∷ word fixed.Semicolon nowhere ∷ []
shortest (nonterminals.CellRest x) = word fixed.Semicolon nowhere ∷ []
shortest nonterminals.CellElem = named nameless ∷ []
shortest nonterminals.Initial = number 0 nowhere ∷ word fixed.Semicolon nowhere ∷ []
shortest (nonterminals.TaskReturns x) = word fixed.Void nowhere ∷ named nameless ∷ word fixed.OpenParen nowhere ∷ word fixed.CloseParen nowhere ∷ word fixed.Pure nowhere ∷ word fixed.OpenBrace nowhere ∷ word fixed.CloseBrace nowhere ∷ []
shortest nonterminals.Params = word fixed.CloseParen nowhere ∷ []
shortest nonterminals.MoreParams = word fixed.CloseParen nowhere ∷ []
shortest (nonterminals.Effects x) = word fixed.Pure nowhere ∷ word fixed.OpenBrace nowhere ∷ word fixed.CloseBrace nowhere ∷ []
shortest (nonterminals.Path x y) = word fixed.Root nowhere ∷ word fixed.OpenBrace nowhere ∷ word fixed.CloseBrace nowhere ∷ []
shortest (nonterminals.PathRest x y) = word fixed.OpenBrace nowhere ∷ word fixed.CloseBrace nowhere ∷ []
shortest nonterminals.Elem = named nameless ∷ []
shortest nonterminals.Index = word fixed.Question nowhere ∷ word fixed.CloseBracket nowhere ∷ []
shortest (nonterminals.Statements x) = word fixed.CloseBrace nowhere ∷ []
shortest (nonterminals.LocalType x) = word fixed.Boolean nowhere ∷ named nameless ∷ word fixed.Assign nowhere ∷ number 0 nowhere ∷ word fixed.Semicolon nowhere ∷ []
shortest (nonterminals.IntValue x y) = number 0 nowhere ∷ word fixed.Semicolon nowhere ∷ []
shortest (nonterminals.AfterValueName x) = word fixed.Semicolon nowhere ∷ []
shortest (nonterminals.AfterName x) = word fixed.Assign nowhere ∷ number 0 nowhere ∷ word fixed.Semicolon nowhere ∷ []
shortest nonterminals.AfterIndex = word fixed.Assign nowhere ∷ number 0 nowhere ∷ word fixed.Semicolon nowhere ∷ []
shortest nonterminals.Awaited = word fixed.Join nowhere ∷ word fixed.OpenParen nowhere ∷ word fixed.CloseParen nowhere ∷ word fixed.Semicolon nowhere ∷ []
shortest (nonterminals.AwaitedValue x) = word fixed.Join nowhere ∷ word fixed.OpenParen nowhere ∷ word fixed.CloseParen nowhere ∷ word fixed.Semicolon nowhere ∷ []
shortest nonterminals.Make = word fixed.Spawn nowhere ∷ word fixed.OpenParen nowhere ∷ word fixed.CloseParen nowhere ∷ word fixed.Semicolon nowhere ∷ []
shortest (nonterminals.AfterArm x) = []
shortest (nonterminals.ElseBody x) = word fixed.OpenBrace nowhere ∷ word fixed.CloseBrace nowhere ∷ []
shortest nonterminals.ReturnValue = word fixed.Semicolon nowhere ∷ []
shortest nonterminals.Args = word fixed.CloseParen nowhere ∷ []
shortest nonterminals.MoreArgs = word fixed.CloseParen nowhere ∷ []
shortest nonterminals.Unary = number 0 nowhere ∷ []
shortest nonterminals.AfterMinus = number 0 nowhere ∷ []
shortest nonterminals.Suffix = []
shortest nonterminals.SecondIndex = []
shortest (nonterminals.Climb x) = []

abbrev pub completion : List Symbol → List Token
completion [] = []
completion (symbols.Name ∷ stack) = named nameless ∷ completion stack
completion (symbols.Literal ∷ stack) = number 0 nowhere ∷ completion stack
completion (symbols.Token f ∷ stack) = word f nowhere ∷ completion stack
completion (symbols.Expand nonterminal ∷ stack) = shortest nonterminal ++ completion stack
completion (symbols.Perform action ∷ stack) = completion stack

-- the first token selects no production of a nonterminal with an empty one
abbrev Quiet : List Token → Type 0
Quiet [] = ⊥
Quiet (token ∷ tokens) =
    (suffix_production (terminal_of token.kind) ≡ None) × (second_index_production (terminal_of token.kind) ≡ None) × (operator_of (terminal_of token.kind) ≡ None) × ((in_task : Bool) → after_arm_production in_task (terminal_of token.kind) ≡ None)

harmless_quiet : (f : Fixed) (tokens : List Token) → harmless f ≡ true → Quiet (word f nowhere ∷ tokens)
harmless_quiet fixed.Or tokens h = absurd (false≢true h)
harmless_quiet fixed.And tokens h = absurd (false≢true h)
harmless_quiet fixed.Equal tokens h = absurd (false≢true h)
harmless_quiet fixed.NotEqual tokens h = absurd (false≢true h)
harmless_quiet fixed.Less tokens h = absurd (false≢true h)
harmless_quiet fixed.LessEqual tokens h = absurd (false≢true h)
harmless_quiet fixed.Greater tokens h = absurd (false≢true h)
harmless_quiet fixed.GreaterEqual tokens h = absurd (false≢true h)
harmless_quiet fixed.Plus tokens h = absurd (false≢true h)
harmless_quiet fixed.Minus tokens h = absurd (false≢true h)
harmless_quiet fixed.Star tokens h = absurd (false≢true h)
harmless_quiet fixed.Slash tokens h = absurd (false≢true h)
harmless_quiet fixed.Percent tokens h = absurd (false≢true h)
harmless_quiet fixed.OpenParen tokens h = absurd (false≢true h)
harmless_quiet fixed.OpenBracket tokens h = absurd (false≢true h)
harmless_quiet fixed.Else tokens h = absurd (false≢true h)
harmless_quiet _ tokens h = (refl, refl, refl, λ in_task. refl)

calm_quiet : (stack : List Symbol) → calm stack ≡ true → Quiet (completion stack)
calm_quiet [] h = absurd (false≢true h)
calm_quiet (symbols.Name ∷ stack) h = (refl, refl, refl, λ in_task. refl)
calm_quiet (symbols.Literal ∷ stack) h = (refl, refl, refl, λ in_task. refl)
calm_quiet (symbols.Token f ∷ stack) h = harmless_quiet f (completion stack) h
calm_quiet (symbols.Perform action ∷ stack) h = calm_quiet stack h
calm_quiet (symbols.Expand nonterminals.Items ∷ stack) h = absurd (false≢true h)
calm_quiet (symbols.Expand nonterminals.Suffix ∷ stack) h = calm_quiet stack h
calm_quiet (symbols.Expand nonterminals.SecondIndex ∷ stack) h = calm_quiet stack h
calm_quiet (symbols.Expand (nonterminals.AfterArm x) ∷ stack) h = calm_quiet stack h
calm_quiet (symbols.Expand (nonterminals.Climb x) ∷ stack) h = calm_quiet stack h
calm_quiet (symbols.Expand _ ∷ stack) h = (refl, refl, refl, λ in_task. refl)

-- the machine finishes with some values
abbrev Completes : List Token → List Symbol → ValueStacks → Type 0
Completes tokens stack values = (end : ValueStacks) × (result_from tokens stack values ≡ Some end)

abbrev AlwaysCompletes : List Token → List Symbol → Type 0
AlwaysCompletes tokens stack = (values : ValueStacks) → Completes tokens stack values

along : {one other : Option ValueStacks} → one ≡ other → ((end : ValueStacks) × (other ≡ Some end)) → (end : ValueStacks) × (one ≡ Some end)
along same (end, is) = (end, same ∙ is)

actions_complete : (action : Action) (tokens : List Token) (stack : List Symbol) → AlwaysCompletes tokens stack → AlwaysCompletes tokens (symbols.Perform action ∷ stack)
actions_complete action tokens stack others values = along (do_now action tokens stack values) (others (performed action values))

left_completes : (nonterminal : Nonterminal) (action : Action) (tokens : List Token) (stack : List Symbol) → Quiet tokens → ((token : Token) (more : List Token) → tokens ≡ token ∷ more → production_of nonterminal (terminal_of token.kind) ≡ None) → epsilon_action nonterminal ≡ Some action
    → AlwaysCompletes tokens stack → AlwaysCompletes tokens (symbols.Expand nonterminal ∷ stack)
left_completes nonterminal action [] stack quiet none skips others values = absurd quiet
left_completes nonterminal action (token ∷ more) stack quiet none skips others values = along (left_out nonterminal action token more stack values (none token more refl) skips) (others (performed action values))

first_quiet : (tokens : List Token) (token : Token) (more : List Token) → Quiet tokens → tokens ≡ token ∷ more → Quiet (token ∷ more)
first_quiet tokens token more quiet is = subst Quiet is quiet

same_self : (f : Fixed) → same_fixed f f ≡ true
same_self f = (bytes_eq-Decides (spelling f) (spelling f)).1 refl

only_last : (stack : List Symbol) → is_last stack ≡ true → AlwaysCompletes (completion stack) (symbols.Expand nonterminals.Items ∷ stack)
only_last [] h values = (values, refl)
only_last (symbol ∷ stack) h values = absurd (false≢true h)

nonterminal_completes : (nonterminal : Nonterminal) (stack : List Symbol) → need nonterminal stack ≡ true → AlwaysCompletes (completion stack) stack → AlwaysCompletes (shortest nonterminal ++ completion stack) (symbols.Expand nonterminal ∷ stack)
nonterminal_completes nonterminals.Items stack h others values = only_last stack h values
nonterminal_completes nonterminals.MoreRegions stack h others values = (actions_complete (Item items.Regions) (completion stack) (stack) others) _
nonterminal_completes nonterminals.AfterInt stack h others values = (actions_complete (Item (items.Cell cells.Scalar)) (completion stack) (stack) others) _
nonterminal_completes nonterminals.AfterLength stack h others values = (actions_complete (Item (items.Cell cells.Array)) (completion stack) (stack) others) _
nonterminal_completes (nonterminals.CellPath x) stack h others values = (actions_complete (Item (items.Cell x)) (completion stack) (stack) others) _
nonterminal_completes (nonterminals.CellRest x) stack h others values = (actions_complete (Item (items.Cell x)) (completion stack) (stack) others) _
nonterminal_completes nonterminals.CellElem stack h others values = (actions_complete (Item items.CellElemName) (completion stack) (stack) others) _
nonterminal_completes nonterminals.Initial stack h others values = (actions_complete (Item (items.CellInitial false)) (completion stack) (stack) others) _
nonterminal_completes (nonterminals.TaskReturns x) stack h others values = (actions_complete (Stmt stmts.CloseBlock) (completion stack) (symbols.Perform (Item (items.Task x returns.Void)) ∷ stack) (actions_complete (Item (items.Task x returns.Void)) (completion stack) (stack) others)) _
nonterminal_completes nonterminals.Params stack h others values = others _
nonterminal_completes nonterminals.MoreParams stack h others values = others _
nonterminal_completes (nonterminals.Effects x) stack h others values = (actions_complete (Stmt stmts.CloseBlock) (completion stack) (stack) others) _
nonterminal_completes (nonterminals.Path x y) stack h others values = (actions_complete (Stmt stmts.CloseBlock) (completion stack) (stack) others) _
nonterminal_completes (nonterminals.PathRest x y) stack h others values = (actions_complete (Stmt stmts.CloseBlock) (completion stack) (stack) others) _
nonterminal_completes nonterminals.Elem stack h others values = (actions_complete (Item items.ElemName) (completion stack) (stack) others) _
nonterminal_completes nonterminals.Index stack h others values = (actions_complete (Item items.ElemAny) (completion stack) (stack) others) _
nonterminal_completes (nonterminals.Statements x) stack h others values = (actions_complete (Stmt stmts.CloseBlock) (completion stack) (stack) others) _
nonterminal_completes (nonterminals.LocalType x) stack h others values = (actions_complete (Stmt (stmts.Let true locals.Boolean)) (completion stack) (stack) others) _
nonterminal_completes (nonterminals.IntValue false y) stack h others values = (actions_complete (Stmt (stmts.Let y locals.Int)) (completion stack) (stack) others) _
nonterminal_completes (nonterminals.IntValue true y) stack h others values = (actions_complete (Stmt (stmts.Let y locals.Int)) (completion stack) (stack) others) _
nonterminal_completes (nonterminals.AfterValueName x) stack h others values = (actions_complete (Expr exprs.Variable) (completion stack) (symbols.Perform (Stmt (stmts.Let x locals.Int)) ∷ stack) (actions_complete (Stmt (stmts.Let x locals.Int)) (completion stack) (stack) others)) _
nonterminal_completes (nonterminals.AfterName x) stack h others values = (actions_complete (Stmt stmts.Set) (completion stack) (stack) others) _
nonterminal_completes nonterminals.AfterIndex stack h others values = (actions_complete (Stmt stmts.SetArray) (completion stack) (stack) others) _
nonterminal_completes nonterminals.Awaited stack h others values = (actions_complete (Stmt (stmts.Wait waits.Join)) (completion stack) (stack) others) _
nonterminal_completes (nonterminals.AwaitedValue x) stack h others values = (actions_complete (Stmt (stmts.LetWait x waits.Join)) (completion stack) (stack) others) _
nonterminal_completes nonterminals.Make stack h others values = (actions_complete (Stmt (stmts.Make true)) (completion stack) (stack) others) _
nonterminal_completes (nonterminals.AfterArm x) stack h others values = left_completes (nonterminals.AfterArm x) (Stmt stmts.CloseIf) (completion stack) stack (calm_quiet stack h) (λ token more is. (first_quiet (completion stack) token more (calm_quiet stack h) is).3 x) refl others values
nonterminal_completes (nonterminals.ElseBody x) stack h others values = (actions_complete (Stmt stmts.CloseBlock) (completion stack) (symbols.Perform (Stmt stmts.CloseIfElse) ∷ stack) (actions_complete (Stmt stmts.CloseIfElse) (completion stack) (stack) others)) _
nonterminal_completes nonterminals.ReturnValue stack h others values = (actions_complete (Stmt stmts.ReturnNothing) (completion stack) (stack) others) _
nonterminal_completes nonterminals.Args stack h others values = others _
nonterminal_completes nonterminals.MoreArgs stack h others values = others _
nonterminal_completes nonterminals.Unary stack h others values = (actions_complete (Expr exprs.Literal) (completion stack) (stack) others) _
nonterminal_completes nonterminals.AfterMinus stack h others values = (actions_complete (Expr exprs.MinusLiteral) (completion stack) (stack) others) _
nonterminal_completes nonterminals.Suffix stack h others values = left_completes nonterminals.Suffix (Expr exprs.Variable) (completion stack) stack (calm_quiet stack h) (λ token more is. (first_quiet (completion stack) token more (calm_quiet stack h) is).0) refl others values
nonterminal_completes nonterminals.SecondIndex stack h others values = left_completes nonterminals.SecondIndex (Expr exprs.Element) (completion stack) stack (calm_quiet stack h) (λ token more is. (first_quiet (completion stack) token more (calm_quiet stack h) is).1) refl others values
nonterminal_completes (nonterminals.Climb x) stack h others values = left_completes (nonterminals.Climb x) Nothing (completion stack) stack (calm_quiet stack h) (λ token more is. ap (climb_from x) (first_quiet (completion stack) token more (calm_quiet stack h) is).2) refl others values

-- the symbols on the stack can be completed
pub completes : (stack : List Symbol) → fine stack ≡ true → AlwaysCompletes (completion stack) stack
completes [] h values = (values, refl)
completes (symbols.Name ∷ stack) h values = completes stack h _
completes (symbols.Literal ∷ stack) h values = completes stack h _
completes (symbols.Token f ∷ stack) h values =
    along (ap (λ test. option_and_then (goes_on (completion stack)) (expected test (word f nowhere) stack values)) (same_self f)) (completes stack h (kept (word f nowhere) false values))
completes (symbols.Expand nonterminal ∷ stack) h values = let both = and_parts (need nonterminal stack) (fine stack) h in nonterminal_completes nonterminal stack both.0 (completes stack both.1) values
completes (symbols.Perform action ∷ stack) h values = actions_complete action (completion stack) stack (completes stack h) values
