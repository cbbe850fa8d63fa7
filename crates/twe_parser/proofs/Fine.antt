-- Each token keeps the condition under which the stack can be completed: no nonterminal with an empty production comes
-- before a token that would select another of its productions.
use Rattle.std.proofs.Common.{◌≡◌, ℕ, Bool, true, false, ◌&&◌, List, [], ◌∷◌, ◌++◌, Option, None, Some, nat_le, sym, ap, ◌∙◌}
use Rattle.std.specs.Prelude.{if◌then◌else◌}
use Rattle.std.proofs.lemmas.Bool.{and_parts, and_from}
use Rattle.twe_ast.specs.declared.expr.BinOp.{BinOp}
use Rattle.twe_lexer.specs.declared.fixed.Fixed.TheVariants as fixed
use Rattle.twe_lexer.specs.declared.token.Token.{Token}
use Rattle.twe_parser.specs.declared.production.Production.{Production}
use Rattle.twe_parser.specs.declared.symbol.Access.{Access}
use Rattle.twe_parser.specs.declared.symbol.Action.{Action}
use Rattle.twe_parser.specs.declared.symbol.Nonterminal.{Nonterminal}
use Rattle.twe_parser.specs.declared.symbol.Nonterminal.TheVariants as nonterminals
use Rattle.twe_parser.specs.declared.symbol.Symbol.{Symbol}
use Rattle.twe_parser.specs.declared.symbol.Symbol.TheVariants as symbols
use Rattle.twe_parser.specs.declared.symbol.Terminal.{Terminal}
use Rattle.twe_parser.specs.declared.symbol.Terminal.TheVariants as next
use Rattle.twe_parser.specs.declared.value_stacks.ValueStacks.{ValueStacks}
use Rattle.twe_parser.specs.declared.symbol.CellKind.{CellKind}
use Rattle.twe_parser.specs.declared.symbol.CellKind.TheVariants as cells
use Rattle.twe_parser.specs.inner.Actions.{performed}
use Rattle.twe_parser.specs.inner.Fine.{calm, is_last, need, fine}
use Rattle.twe_parser.specs.inner.Machine.{Machine, expected, by_production, after}
use Rattle.twe_parser.specs.inner.Operators.{operator_of}
use Rattle.twe_ast.specs.Precedence.{level_of}
use Rattle.twe_parser.specs.inner.Productions.{production_of, epsilon_action, climb_from, items_production, more_regions_production, after_int_production, after_length_production, cell_path_production, cell_rest_production, cell_elem_production, initial_production, task_returns_production, params_production, more_params_production, effects_production, path_production, path_rest_production, elem_production, index_production, statements_production, local_type_production, int_value_production, after_value_name_production, after_name_production, after_index_production, awaited_production, awaited_value_production, make_production, after_arm_production, else_body_production, return_value_production, args_production, more_args_production, unary_production, after_minus_production, suffix_production, second_index_production}
use Rattle.twe_parser.specs.inner.Terminals.{terminal_of, meets}
use Rattle.twe_parser.proofs.Steps.{operator_production}

abbrev FineProduction : Option Production → List Symbol → Type 0
FineProduction None stack = Unit {0}
FineProduction (Some production) stack = fine (production.right_side ++ stack) ≡ true

rest_fine : (stack : List Symbol) → (calm stack && fine stack) ≡ true → fine stack ≡ true
rest_fine stack h = (and_parts (calm stack) (fine stack) h).1

twice : (stack : List Symbol) → (calm stack && fine stack) ≡ true → (calm stack && (calm stack && fine stack)) ≡ true
twice stack h = and_from (calm stack) (calm stack && fine stack) (and_parts (calm stack) (fine stack) h).0 h

thrice : (stack : List Symbol) → (calm stack && fine stack) ≡ true → (calm stack && (calm stack && (calm stack && fine stack))) ≡ true
thrice stack h = and_from (calm stack) (calm stack && (calm stack && fine stack)) (and_parts (calm stack) (fine stack) h).0 (twice stack h)

items_fine : (terminal : Terminal) (stack : List Symbol) → (is_last stack && fine stack) ≡ true → FineProduction (items_production terminal) stack
items_fine (next.Fixed fixed.Region) stack h = h
items_fine (next.Fixed fixed.Int) stack h = h
items_fine (next.Fixed fixed.Void) stack h = h
items_fine (next.Fixed fixed.Task) stack h = h
items_fine (next.Fixed fixed.Deterministic) stack h = h
items_fine _ stack h = tt

more_regions_fine : (terminal : Terminal) (stack : List Symbol) → fine stack ≡ true → FineProduction (more_regions_production terminal) stack
more_regions_fine (next.Fixed fixed.Comma) stack h = h
more_regions_fine (next.Fixed fixed.Semicolon) stack h = h
more_regions_fine _ stack h = tt

after_int_fine : (terminal : Terminal) (stack : List Symbol) → fine stack ≡ true → FineProduction (after_int_production terminal) stack
after_int_fine (next.Fixed fixed.In) stack h = h
after_int_fine (next.Fixed fixed.OpenBracket) stack h = h
after_int_fine (next.Fixed fixed.OpenParen) stack h = h
after_int_fine _ stack h = tt

after_length_fine : (terminal : Terminal) (stack : List Symbol) → fine stack ≡ true → FineProduction (after_length_production terminal) stack
after_length_fine (next.Fixed fixed.In) stack h = h
after_length_fine (next.Fixed fixed.OpenBracket) stack h = h
after_length_fine _ stack h = tt

cell_path_fine : (x : CellKind) (terminal : Terminal) (stack : List Symbol) → fine stack ≡ true → FineProduction (cell_path_production x terminal) stack
cell_path_fine x (next.Fixed fixed.Root) stack h = h
cell_path_fine x next.Name stack h = h
cell_path_fine _ _ stack h = tt

cell_rest_fine : (x : CellKind) (terminal : Terminal) (stack : List Symbol) → fine stack ≡ true → FineProduction (cell_rest_production x terminal) stack
cell_rest_fine x (next.Fixed fixed.Colon) stack h = h
cell_rest_fine x (next.Fixed fixed.Semicolon) stack h = h
cell_rest_fine cells.Scalar (next.Fixed fixed.Assign) stack h = h
cell_rest_fine _ _ stack h = tt

cell_elem_fine : (terminal : Terminal) (stack : List Symbol) → fine stack ≡ true → FineProduction (cell_elem_production terminal) stack
cell_elem_fine next.Name stack h = h
cell_elem_fine (next.Fixed fixed.OpenBracket) stack h = h
cell_elem_fine _ stack h = tt

initial_fine : (terminal : Terminal) (stack : List Symbol) → fine stack ≡ true → FineProduction (initial_production terminal) stack
initial_fine (next.Fixed fixed.Minus) stack h = h
initial_fine next.Literal stack h = h
initial_fine _ stack h = tt

task_returns_fine : (x : Bool) (terminal : Terminal) (stack : List Symbol) → fine stack ≡ true → FineProduction (task_returns_production x terminal) stack
task_returns_fine x (next.Fixed fixed.Int) stack h = h
task_returns_fine x (next.Fixed fixed.Void) stack h = h
task_returns_fine _ _ stack h = tt

params_fine : (terminal : Terminal) (stack : List Symbol) → fine stack ≡ true → FineProduction (params_production terminal) stack
params_fine (next.Fixed fixed.CloseParen) stack h = h
params_fine (next.Fixed fixed.Int) stack h = h
params_fine _ stack h = tt

more_params_fine : (terminal : Terminal) (stack : List Symbol) → fine stack ≡ true → FineProduction (more_params_production terminal) stack
more_params_fine (next.Fixed fixed.CloseParen) stack h = h
more_params_fine (next.Fixed fixed.Comma) stack h = h
more_params_fine _ stack h = tt

effects_fine : (x : Bool) (terminal : Terminal) (stack : List Symbol) → fine stack ≡ true → FineProduction (effects_production x terminal) stack
effects_fine x (next.Fixed fixed.Pure) stack h = h
effects_fine x (next.Fixed fixed.Reads) stack h = h
effects_fine x (next.Fixed fixed.Writes) stack h = h
effects_fine _ _ stack h = tt

path_fine : (x : Bool) (y : Access) (terminal : Terminal) (stack : List Symbol) → fine stack ≡ true → FineProduction (path_production x y terminal) stack
path_fine x y (next.Fixed fixed.Root) stack h = h
path_fine x y next.Name stack h = h
path_fine _ _ _ stack h = tt

path_rest_fine : (x : Bool) (y : Access) (terminal : Terminal) (stack : List Symbol) → fine stack ≡ true → FineProduction (path_rest_production x y terminal) stack
path_rest_fine x y (next.Fixed fixed.Colon) stack h = h
path_rest_fine x y (next.Fixed fixed.Comma) stack h = h
path_rest_fine x y (next.Fixed fixed.Reads) stack h = h
path_rest_fine x y (next.Fixed fixed.Writes) stack h = h
path_rest_fine x y (next.Fixed fixed.OpenBrace) stack h = h
path_rest_fine _ _ _ stack h = tt

elem_fine : (terminal : Terminal) (stack : List Symbol) → fine stack ≡ true → FineProduction (elem_production terminal) stack
elem_fine next.Name stack h = h
elem_fine (next.Fixed fixed.OpenBracket) stack h = h
elem_fine (next.Fixed fixed.Star) stack h = h
elem_fine _ stack h = tt

index_fine : (terminal : Terminal) (stack : List Symbol) → fine stack ≡ true → FineProduction (index_production terminal) stack
index_fine next.Literal stack h = h
index_fine next.Name stack h = h
index_fine (next.Fixed fixed.Question) stack h = h
index_fine _ stack h = tt

statements_fine : (x : Bool) (terminal : Terminal) (stack : List Symbol) → fine stack ≡ true → FineProduction (statements_production x terminal) stack
statements_fine x (next.Fixed fixed.CloseBrace) stack h = h
statements_fine x (next.Fixed fixed.OpenBrace) stack h = h
statements_fine x (next.Fixed fixed.Final) stack h = h
statements_fine x (next.Fixed fixed.Int) stack h = h
statements_fine x (next.Fixed fixed.Boolean) stack h = h
statements_fine x next.Name stack h = h
statements_fine x (next.Fixed fixed.If) stack h = h
statements_fine x (next.Fixed fixed.While) stack h = h
statements_fine x (next.Fixed fixed.Return) stack h = h
statements_fine x (next.Fixed fixed.Print) stack h = h
statements_fine true (next.Fixed fixed.Future) stack h = h
statements_fine _ _ stack h = tt

local_type_fine : (x : Bool) (terminal : Terminal) (stack : List Symbol) → fine stack ≡ true → FineProduction (local_type_production x terminal) stack
local_type_fine x (next.Fixed fixed.Int) stack h = h
local_type_fine x (next.Fixed fixed.Boolean) stack h = h
local_type_fine _ _ stack h = tt

int_value_fine : (x : Bool) (y : Bool) (terminal : Terminal) (stack : List Symbol) → fine stack ≡ true → FineProduction (int_value_production x y terminal) stack
int_value_fine true y next.Name stack h = h
int_value_fine x y next.Literal stack h = h
int_value_fine x y (next.Fixed fixed.True) stack h = h
int_value_fine x y (next.Fixed fixed.False) stack h = h
int_value_fine false y next.Name stack h = h
int_value_fine x y (next.Fixed fixed.OpenParen) stack h = h
int_value_fine x y (next.Fixed fixed.Minus) stack h = h
int_value_fine x y (next.Fixed fixed.Not) stack h = h
int_value_fine _ _ _ stack h = tt

after_value_name_fine : (x : Bool) (terminal : Terminal) (stack : List Symbol) → fine stack ≡ true → FineProduction (after_value_name_production x terminal) stack
after_value_name_fine x (next.Fixed fixed.Dot) stack h = h
after_value_name_fine x (next.Fixed fixed.Semicolon) stack h = h
after_value_name_fine x (next.Fixed fixed.OpenParen) stack h = h
after_value_name_fine x (next.Fixed fixed.OpenBracket) stack h = h
after_value_name_fine x (next.Fixed fixed.Or) stack h = h
after_value_name_fine x (next.Fixed fixed.And) stack h = h
after_value_name_fine x (next.Fixed fixed.Equal) stack h = h
after_value_name_fine x (next.Fixed fixed.NotEqual) stack h = h
after_value_name_fine x (next.Fixed fixed.Less) stack h = h
after_value_name_fine x (next.Fixed fixed.LessEqual) stack h = h
after_value_name_fine x (next.Fixed fixed.Greater) stack h = h
after_value_name_fine x (next.Fixed fixed.GreaterEqual) stack h = h
after_value_name_fine x (next.Fixed fixed.Plus) stack h = h
after_value_name_fine x (next.Fixed fixed.Minus) stack h = h
after_value_name_fine x (next.Fixed fixed.Star) stack h = h
after_value_name_fine x (next.Fixed fixed.Slash) stack h = h
after_value_name_fine x (next.Fixed fixed.Percent) stack h = h
after_value_name_fine _ _ stack h = tt

after_name_fine : (x : Bool) (terminal : Terminal) (stack : List Symbol) → fine stack ≡ true → FineProduction (after_name_production x terminal) stack
after_name_fine x (next.Fixed fixed.Assign) stack h = h
after_name_fine x (next.Fixed fixed.OpenBracket) stack h = h
after_name_fine x (next.Fixed fixed.OpenParen) stack h = h
after_name_fine true (next.Fixed fixed.Dot) stack h = h
after_name_fine _ _ stack h = tt

after_index_fine : (terminal : Terminal) (stack : List Symbol) → fine stack ≡ true → FineProduction (after_index_production terminal) stack
after_index_fine (next.Fixed fixed.Assign) stack h = h
after_index_fine (next.Fixed fixed.OpenBracket) stack h = h
after_index_fine _ stack h = tt

awaited_fine : (terminal : Terminal) (stack : List Symbol) → fine stack ≡ true → FineProduction (awaited_production terminal) stack
awaited_fine (next.Fixed fixed.GetValue) stack h = h
awaited_fine (next.Fixed fixed.Join) stack h = h
awaited_fine _ stack h = tt

awaited_value_fine : (x : Bool) (terminal : Terminal) (stack : List Symbol) → fine stack ≡ true → FineProduction (awaited_value_production x terminal) stack
awaited_value_fine x (next.Fixed fixed.GetValue) stack h = h
awaited_value_fine x (next.Fixed fixed.Join) stack h = h
awaited_value_fine _ _ stack h = tt

make_fine : (terminal : Terminal) (stack : List Symbol) → fine stack ≡ true → FineProduction (make_production terminal) stack
make_fine (next.Fixed fixed.Spawn) stack h = h
make_fine (next.Fixed fixed.ExecuteLater) stack h = h
make_fine _ stack h = tt

after_arm_fine : (x : Bool) (terminal : Terminal) (stack : List Symbol) → (calm stack && fine stack) ≡ true → FineProduction (after_arm_production x terminal) stack
after_arm_fine x (next.Fixed fixed.Else) stack h = h
after_arm_fine _ _ stack h = tt

else_body_fine : (x : Bool) (terminal : Terminal) (stack : List Symbol) → (calm stack && fine stack) ≡ true → FineProduction (else_body_production x terminal) stack
else_body_fine x (next.Fixed fixed.If) stack h = h
else_body_fine x (next.Fixed fixed.OpenBrace) stack h = rest_fine stack h
else_body_fine _ _ stack h = tt

return_value_fine : (terminal : Terminal) (stack : List Symbol) → fine stack ≡ true → FineProduction (return_value_production terminal) stack
return_value_fine (next.Fixed fixed.Semicolon) stack h = h
return_value_fine next.Literal stack h = h
return_value_fine (next.Fixed fixed.True) stack h = h
return_value_fine (next.Fixed fixed.False) stack h = h
return_value_fine next.Name stack h = h
return_value_fine (next.Fixed fixed.OpenParen) stack h = h
return_value_fine (next.Fixed fixed.Minus) stack h = h
return_value_fine (next.Fixed fixed.Not) stack h = h
return_value_fine _ stack h = tt

args_fine : (terminal : Terminal) (stack : List Symbol) → fine stack ≡ true → FineProduction (args_production terminal) stack
args_fine (next.Fixed fixed.CloseParen) stack h = h
args_fine next.Literal stack h = h
args_fine (next.Fixed fixed.True) stack h = h
args_fine (next.Fixed fixed.False) stack h = h
args_fine next.Name stack h = h
args_fine (next.Fixed fixed.OpenParen) stack h = h
args_fine (next.Fixed fixed.Minus) stack h = h
args_fine (next.Fixed fixed.Not) stack h = h
args_fine _ stack h = tt

more_args_fine : (terminal : Terminal) (stack : List Symbol) → fine stack ≡ true → FineProduction (more_args_production terminal) stack
more_args_fine (next.Fixed fixed.CloseParen) stack h = h
more_args_fine (next.Fixed fixed.Comma) stack h = h
more_args_fine _ stack h = tt

unary_fine : (terminal : Terminal) (stack : List Symbol) → (calm stack && fine stack) ≡ true → FineProduction (unary_production terminal) stack
unary_fine next.Literal stack h = rest_fine stack h
unary_fine (next.Fixed fixed.True) stack h = rest_fine stack h
unary_fine (next.Fixed fixed.False) stack h = rest_fine stack h
unary_fine next.Name stack h = h
unary_fine (next.Fixed fixed.OpenParen) stack h = rest_fine stack h
unary_fine (next.Fixed fixed.Minus) stack h = h
unary_fine (next.Fixed fixed.Not) stack h = twice stack h
unary_fine _ stack h = tt

after_minus_fine : (terminal : Terminal) (stack : List Symbol) → (calm stack && fine stack) ≡ true → FineProduction (after_minus_production terminal) stack
after_minus_fine next.Literal stack h = rest_fine stack h
after_minus_fine (next.Fixed fixed.True) stack h = h
after_minus_fine (next.Fixed fixed.False) stack h = h
after_minus_fine next.Name stack h = twice stack h
after_minus_fine (next.Fixed fixed.OpenParen) stack h = h
after_minus_fine (next.Fixed fixed.Minus) stack h = twice stack h
after_minus_fine (next.Fixed fixed.Not) stack h = thrice stack h
after_minus_fine _ stack h = tt

suffix_fine : (terminal : Terminal) (stack : List Symbol) → (calm stack && fine stack) ≡ true → FineProduction (suffix_production terminal) stack
suffix_fine (next.Fixed fixed.OpenParen) stack h = rest_fine stack h
suffix_fine (next.Fixed fixed.OpenBracket) stack h = h
suffix_fine _ stack h = tt

second_index_fine : (terminal : Terminal) (stack : List Symbol) → (calm stack && fine stack) ≡ true → FineProduction (second_index_production terminal) stack
second_index_fine (next.Fixed fixed.OpenBracket) stack h = rest_fine stack h
second_index_fine _ stack h = tt

climb_by_test : (op : BinOp) (level : ℕ) (stack : List Symbol) (test : Bool) → (calm stack && fine stack) ≡ true → FineProduction (if test then Some (operator_production op level) else None) stack
climb_by_test op level stack true h = thrice stack h
climb_by_test op level stack false h = tt

climb_found : (level : ℕ) (found : Option BinOp) (stack : List Symbol) → (calm stack && fine stack) ≡ true → FineProduction (climb_from level found) stack
climb_found level None stack h = tt
climb_found level (Some op) stack h = climb_by_test op level stack (nat_le level (level_of op)) h

production_fine : (nonterminal : Nonterminal) (terminal : Terminal) (stack : List Symbol) → (need nonterminal stack && fine stack) ≡ true → FineProduction (production_of nonterminal terminal) stack
production_fine nonterminals.Items terminal stack h = items_fine terminal stack h
production_fine nonterminals.MoreRegions terminal stack h = more_regions_fine terminal stack h
production_fine nonterminals.AfterInt terminal stack h = after_int_fine terminal stack h
production_fine nonterminals.AfterLength terminal stack h = after_length_fine terminal stack h
production_fine (nonterminals.CellPath x) terminal stack h = cell_path_fine x terminal stack h
production_fine (nonterminals.CellRest x) terminal stack h = cell_rest_fine x terminal stack h
production_fine nonterminals.CellElem terminal stack h = cell_elem_fine terminal stack h
production_fine nonterminals.Initial terminal stack h = initial_fine terminal stack h
production_fine (nonterminals.TaskReturns x) terminal stack h = task_returns_fine x terminal stack h
production_fine nonterminals.Params terminal stack h = params_fine terminal stack h
production_fine nonterminals.MoreParams terminal stack h = more_params_fine terminal stack h
production_fine (nonterminals.Effects x) terminal stack h = effects_fine x terminal stack h
production_fine (nonterminals.Path x y) terminal stack h = path_fine x y terminal stack h
production_fine (nonterminals.PathRest x y) terminal stack h = path_rest_fine x y terminal stack h
production_fine nonterminals.Elem terminal stack h = elem_fine terminal stack h
production_fine nonterminals.Index terminal stack h = index_fine terminal stack h
production_fine (nonterminals.Statements x) terminal stack h = statements_fine x terminal stack h
production_fine (nonterminals.LocalType x) terminal stack h = local_type_fine x terminal stack h
production_fine (nonterminals.IntValue x y) terminal stack h = int_value_fine x y terminal stack h
production_fine (nonterminals.AfterValueName x) terminal stack h = after_value_name_fine x terminal stack h
production_fine (nonterminals.AfterName x) terminal stack h = after_name_fine x terminal stack h
production_fine nonterminals.AfterIndex terminal stack h = after_index_fine terminal stack h
production_fine nonterminals.Awaited terminal stack h = awaited_fine terminal stack h
production_fine (nonterminals.AwaitedValue x) terminal stack h = awaited_value_fine x terminal stack h
production_fine nonterminals.Make terminal stack h = make_fine terminal stack h
production_fine (nonterminals.AfterArm x) terminal stack h = after_arm_fine x terminal stack h
production_fine (nonterminals.ElseBody x) terminal stack h = else_body_fine x terminal stack h
production_fine nonterminals.ReturnValue terminal stack h = return_value_fine terminal stack h
production_fine nonterminals.Args terminal stack h = args_fine terminal stack h
production_fine nonterminals.MoreArgs terminal stack h = more_args_fine terminal stack h
production_fine nonterminals.Unary terminal stack h = unary_fine terminal stack h
production_fine nonterminals.AfterMinus terminal stack h = after_minus_fine terminal stack h
production_fine nonterminals.Suffix terminal stack h = suffix_fine terminal stack h
production_fine nonterminals.SecondIndex terminal stack h = second_index_fine terminal stack h
production_fine (nonterminals.Climb x) terminal stack h = climb_found x (operator_of terminal) stack h

the_machine : {machine other : Machine} → ◌≡◌ {A = Option Machine} (Some machine) (Some other) → machine ≡ other
the_machine h = cc

no_machine : {machine : Machine} → ◌≡◌ {A = Option Machine} None (Some machine) → ⊥
no_machine h = cc

expected_fine : (test : Bool) (token : Token) (stack : List Symbol) (values : ValueStacks) (machine : Machine) → expected test token stack values ≡ Some machine → fine stack ≡ true → fine machine.0 ≡ true
expected_fine true token stack values machine is h = ap (λ (m : Machine). fine m.0) (sym (the_machine is)) ∙ h
expected_fine false token stack values machine is h = absurd (no_machine is)

by_production_fine : (found : Option Production) (skip : Option Action) (token : Token) (stack : List Symbol) (values : ValueStacks) (left : ValueStacks → Option Machine) (machine : Machine)
    → FineProduction found stack → ((action : Action) → left (performed action values) ≡ Some machine → fine machine.0 ≡ true) → by_production found skip token stack values left ≡ Some machine → fine machine.0 ≡ true
by_production_fine (Some production) skip token stack values left machine h others is = ap (λ (m : Machine). fine m.0) (sym (the_machine is)) ∙ h
by_production_fine None (Some action) token stack values left machine h others is = others action is
by_production_fine None None token stack values left machine h others is = absurd (no_machine is)

-- each token keeps the condition
pub after_fine : (token : Token) (stack : List Symbol) (values : ValueStacks) (machine : Machine) → after token stack values ≡ Some machine → fine stack ≡ true → fine machine.0 ≡ true
after_fine token [] values machine is h = absurd (no_machine is)
after_fine token (symbols.Name ∷ stack) values machine is h = expected_fine (meets symbols.Name (terminal_of token.kind)) token stack values machine is h
after_fine token (symbols.Literal ∷ stack) values machine is h = expected_fine (meets symbols.Literal (terminal_of token.kind)) token stack values machine is h
after_fine token (symbols.Token f ∷ stack) values machine is h = expected_fine (meets (symbols.Token f) (terminal_of token.kind)) token stack values machine is h
after_fine token (symbols.Expand nonterminal ∷ stack) values machine is h =
    by_production_fine (production_of nonterminal (terminal_of token.kind)) (epsilon_action nonterminal) token stack values (λ left. after token stack left) machine (production_fine nonterminal (terminal_of token.kind) stack h)
    (λ action found. after_fine token stack (performed action values) machine found (and_parts (need nonterminal stack) (fine stack) h).1) is
after_fine token (symbols.Perform action ∷ stack) values machine is h = after_fine token stack (performed action values) machine is h
