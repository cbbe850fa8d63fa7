-- Steps of the machine.
use Rattle.std.proofs.Common.{◌≡◌, ℕ, ◌+◌, ◌<◌, ◌≤◌, Bool, true, false, List, [], ◌∷◌, ◌++◌, Option, None, Some, nat_le, refl, ap, ◌∙◌, append_assoc, arith}
use Rattle.std.specs.Prelude.{option_and_then, if◌then◌else◌}
use Rattle.std.proofs.lemmas.Bool.Decides.{nat_tests}
use Rattle.twe_base.specs.declared.place.Place.{Place}
use Rattle.twe_ast.specs.declared.expr.BinOp.{BinOp}
use Rattle.twe_ast.specs.declared.expr.BinOp.TheVariants as operators
use Rattle.twe_lexer.specs.declared.token.Token.{Token}
use Rattle.twe_parser.specs.declared.production.Production.{Production}
use Rattle.twe_parser.specs.declared.symbol.Action.{Action}
use Rattle.twe_parser.specs.declared.symbol.Action.TheVariants.{Expr}
use Rattle.twe_parser.specs.declared.symbol.ExprAction.TheVariants as exprs
use Rattle.twe_parser.specs.declared.symbol.Nonterminal.{Nonterminal}
use Rattle.twe_parser.specs.declared.symbol.Nonterminal.TheVariants as nonterminals
use Rattle.twe_parser.specs.declared.symbol.Symbol.{Symbol}
use Rattle.twe_parser.specs.declared.symbol.Symbol.TheVariants.{Expand, Perform}
use Rattle.twe_parser.specs.declared.symbol.Terminal.{Terminal}
use Rattle.twe_parser.specs.declared.symbol.Terminal.TheVariants as next
use Rattle.twe_parser.specs.declared.value_stacks.ValueStacks.{ValueStacks}
use Rattle.twe_ast.specs.Precedence.{level_of}
use Rattle.twe_parser.specs.OperatorTokens.{operator}
use Rattle.twe_parser.specs.Written.{word}
use Rattle.twe_parser.specs.inner.Actions.{performed}
use Rattle.twe_parser.specs.inner.Machine.{Machine, by_production, after, result_from}
use Rattle.twe_parser.specs.inner.Operators.{operator_of}
use Rattle.twe_parser.specs.inner.Productions.{production_of, epsilon_action, followed, unary_production, suffix_production, second_index_production, climb_from, climb_production}
use Rattle.twe_parser.specs.inner.Terminals.{terminal_of}
use Rattle.twe_parser.specs.inner.ValueStacks.{kept}

-- an action can be performed before the next token is read
pub do_now : (action : Action) (tokens : List Token) (stack : List Symbol) (values : ValueStacks) → result_from tokens (Perform action ∷ stack) values ≡ result_from tokens stack (performed action values)
do_now action [] stack values = refl
do_now action (token ∷ tokens) stack values = refl

abbrev pub goes_on : List Token → Machine → Option ValueStacks
goes_on tokens machine = result_from tokens machine.0 machine.1

-- a nonterminal with this production
pub by_this_production : (nonterminal : Nonterminal) (production : Production) (token : Token) (tokens : List Token) (stack : List Symbol) (values : ValueStacks) →
    production_of nonterminal (terminal_of token.kind) ≡ Some production → result_from (token ∷ tokens) (Expand nonterminal ∷ stack) values ≡ result_from tokens (production.right_side ++ stack) (kept token production.mark values)
by_this_production nonterminal production token tokens stack values is =
    ap (λ found. option_and_then (goes_on tokens) (by_production found (epsilon_action nonterminal) token stack values (λ left. after token stack left))) is

-- a nonterminal with its empty production
pub left_out : (nonterminal : Nonterminal) (action : Action) (token : Token) (tokens : List Token) (stack : List Symbol) (values : ValueStacks) →
    production_of nonterminal (terminal_of token.kind) ≡ None → epsilon_action nonterminal ≡ Some action → result_from (token ∷ tokens) (Expand nonterminal ∷ stack) values ≡ result_from (token ∷ tokens) stack (performed action values)
left_out nonterminal action token tokens stack values is skips =
    ap (λ found. option_and_then (goes_on tokens) (by_production found (epsilon_action nonterminal) token stack values (λ left. after token stack left))) is
    ∙ ap (λ skip. option_and_then (goes_on tokens) (by_production None skip token stack values (λ left. after token stack left))) skips

follows : (production : Option Production) (more stack : List Symbol) (token : Token) (tokens : List Token) (values : ValueStacks) (one other : ValueStacks → Option Machine) →
    option_and_then (goes_on tokens) (by_production (followed production more) None token stack values one) ≡ option_and_then (goes_on tokens) (by_production production None token (more ++ stack) values other)
follows None more stack token tokens values one other = refl
follows (Some production) more stack token tokens values one other = ap (λ rest. result_from tokens rest (kept token production.mark values)) (append_assoc production.right_side more stack)

-- a nonterminal that begins as an operand does, with more symbols after it
pub as_unary : (nonterminal : Nonterminal) (more : List Symbol) (token : Token) (tokens : List Token) (stack : List Symbol) (values : ValueStacks) →
    production_of nonterminal (terminal_of token.kind) ≡ followed (unary_production (terminal_of token.kind)) more → epsilon_action nonterminal ≡ None →
    result_from (token ∷ tokens) (Expand nonterminal ∷ stack) values ≡ result_from (token ∷ tokens) (Expand nonterminals.Unary ∷ (more ++ stack)) values
as_unary nonterminal more token tokens stack values is never =
    ap (λ found. option_and_then (goes_on tokens) (by_production found (epsilon_action nonterminal) token stack values (λ left. after token stack left))) is
    ∙ ap (λ skip. option_and_then (goes_on tokens) (by_production (followed (unary_production (terminal_of token.kind)) more) skip token stack values (λ left. after token stack left))) never
    ∙ follows (unary_production (terminal_of token.kind)) more stack token tokens values _ _

-- the operator of an operator's token
pub operator_again : (op : BinOp) → operator_of (next.Fixed (operator op)) ≡ Some op
operator_again operators.Or = refl
operator_again operators.And = refl
operator_again operators.Equal = refl
operator_again operators.NotEqual = refl
operator_again operators.Less = refl
operator_again operators.LessEqual = refl
operator_again operators.Greater = refl
operator_again operators.GreaterEqual = refl
operator_again operators.Add = refl
operator_again operators.Sub = refl
operator_again operators.Mul = refl
operator_again operators.Div = refl
operator_again operators.Rem = refl

pub operator_no_suffix : (op : BinOp) → suffix_production (next.Fixed (operator op)) ≡ None
operator_no_suffix operators.Or = refl
operator_no_suffix operators.And = refl
operator_no_suffix operators.Equal = refl
operator_no_suffix operators.NotEqual = refl
operator_no_suffix operators.Less = refl
operator_no_suffix operators.LessEqual = refl
operator_no_suffix operators.Greater = refl
operator_no_suffix operators.GreaterEqual = refl
operator_no_suffix operators.Add = refl
operator_no_suffix operators.Sub = refl
operator_no_suffix operators.Mul = refl
operator_no_suffix operators.Div = refl
operator_no_suffix operators.Rem = refl

pub operator_no_index : (op : BinOp) → second_index_production (next.Fixed (operator op)) ≡ None
operator_no_index operators.Or = refl
operator_no_index operators.And = refl
operator_no_index operators.Equal = refl
operator_no_index operators.NotEqual = refl
operator_no_index operators.Less = refl
operator_no_index operators.LessEqual = refl
operator_no_index operators.Greater = refl
operator_no_index operators.GreaterEqual = refl
operator_no_index operators.Add = refl
operator_no_index operators.Sub = refl
operator_no_index operators.Mul = refl
operator_no_index operators.Div = refl
operator_no_index operators.Rem = refl

pub level_small : (op : BinOp) → level_of op ≤ 5
level_small operators.Or = omega arith
level_small operators.And = omega arith
level_small operators.Equal = omega arith
level_small operators.NotEqual = omega arith
level_small operators.Less = omega arith
level_small operators.LessEqual = omega arith
level_small operators.Greater = omega arith
level_small operators.GreaterEqual = omega arith
level_small operators.Add = omega arith
level_small operators.Sub = omega arith
level_small operators.Mul = omega arith
level_small operators.Div = omega arith
level_small operators.Rem = omega arith

le_true : (m n : ℕ) → m ≤ n → nat_le m n ≡ true
le_true m n le = grind (arith, nat_tests)

le_false : (m n : ℕ) → n < m → nat_le m n ≡ false
le_false m n lt = grind (arith, nat_tests)

pub le_from_true : (m n : ℕ) → nat_le m n ≡ true → m ≤ n
le_from_true m n test = grind (arith, nat_tests)

pub lt_from_false : (m n : ℕ) → nat_le m n ≡ false → n < m
lt_from_false m n test = grind (arith, nat_tests)

abbrev pub operator_production : BinOp → ℕ → Production
operator_production op level = record { mark = true; right_side = Expand nonterminals.Unary ∷ Expand (nonterminals.Climb (level_of op + 1)) ∷ Perform (Expr (exprs.Binary op)) ∷ Expand (nonterminals.Climb level) ∷ [] }

-- an operator of at least this precedence, and one of a lower precedence
pub climb_taken : (op : BinOp) (level : ℕ) → level ≤ level_of op → climb_production level (next.Fixed (operator op)) ≡ Some (operator_production op level)
climb_taken op level le =
    ap (climb_from level) (operator_again op) ∙ ap (λ test. if test then Some (operator_production op level) else None) (le_true level (level_of op) le)

climb_from_none : (op : BinOp) (level : ℕ) → level_of op < level → climb_from level (Some op) ≡ None
climb_from_none op level lt = ap (λ test. if test then Some (operator_production op level) else None) (le_false level (level_of op) lt)

pub climb_not_taken : (op : BinOp) (level : ℕ) → level_of op < level → climb_production level (next.Fixed (operator op)) ≡ None
climb_not_taken op level lt = ap (climb_from level) (operator_again op) ∙ climb_from_none op level lt

no_level : (test : Bool) (production : Production) → ◌≡◌ {A = Option Production} (if test then Some production else None) None → test ≡ false
no_level true production none = cc
no_level false production none = refl

-- an operator that is not taken at a level has a lower precedence
pub binds_less : (op : BinOp) (level : ℕ) → climb_from level (Some op) ≡ None → level_of op < level
binds_less op level none = lt_from_false level (level_of op) (no_level (nat_le level (level_of op)) (operator_production op level) none)

climb_from_weakens : (found : Option BinOp) (level higher : ℕ) → level ≤ higher → climb_from level found ≡ None → climb_from higher found ≡ None
climb_from_weakens None level higher le none = refl
climb_from_weakens (Some op) level higher le none = let less = binds_less op level none in climb_from_none op higher (omega arith)

-- An expression at this level ends before these tokens: the next one is no part of it.
pub record EndsBefore (level : ℕ) (token : Token) : Type 0 where
  pub suffix : suffix_production (terminal_of token.kind) ≡ None
  pub second : second_index_production (terminal_of token.kind) ≡ None
  pub climb : climb_production level (terminal_of token.kind) ≡ None

abbrev pub Ends : ℕ → List Token → Type 0
Ends level [] = ⊥
Ends level (token ∷ tokens) = EndsBefore level token

pub ends_higher : (level higher : ℕ) (rest : List Token) → level ≤ higher → Ends level rest → Ends higher rest
ends_higher level higher [] le ends = ends
ends_higher level higher (token ∷ rest) le ends = record {
  suffix = ends.suffix;
  second = ends.second;
  climb = climb_from_weakens (operator_of (terminal_of token.kind)) level higher le ends.climb;
}

pub ends_at_operator : (op : BinOp) (level : ℕ) (place : Place) (rest : List Token) → level_of op < level → Ends level (word (operator op) place ∷ rest)
ends_at_operator op level place rest lt = record {
  suffix = operator_no_suffix op;
  second = operator_no_index op;
  climb = climb_not_taken op level lt;
}

-- a token that is neither an operator nor a bracket ends every expression
abbrev pub IsEnd : Terminal → Type 0
IsEnd terminal = (suffix_production terminal ≡ None) × (second_index_production terminal ≡ None) × (operator_of terminal ≡ None)

pub ends_at : (level : ℕ) (token : Token) (rest : List Token) → IsEnd (terminal_of token.kind) → Ends level (token ∷ rest)
ends_at level token rest is = record { suffix = is.0; second = is.1; climb = ap (climb_from level) is.2 }

climb_six : (found : Option BinOp) → climb_from 6 found ≡ None
climb_six None = refl
climb_six (Some op) = climb_from_none op 6 (omega (arith, level_small op))

-- at the last level only a bracket continues an expression
pub ends_last : (level : ℕ) (rest : List Token) → Ends level rest → Ends 6 rest
ends_last level [] ends = ends
ends_last level (token ∷ rest) ends = record { suffix = ends.suffix; second = ends.second; climb = climb_six (operator_of (terminal_of token.kind)) }

pub climb_six_production : (level : ℕ) (found : Option BinOp) → 6 ≤ level → climb_from level found ≡ None
climb_six_production level None le = refl
climb_six_production level (Some op) le = climb_from_none op level (omega (arith, level_small op))
