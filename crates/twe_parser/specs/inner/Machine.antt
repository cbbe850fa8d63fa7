-- The parser as a pushdown machine: the symbols that are expected, and the semantic values.
use Rattle.std.specs.Prelude.{Bool, true, false, List, [], ◌∷◌, ◌++◌, Option, None, Some, option_and_then}
use Rattle.twe_lexer.specs.declared.token.Token.{Token}
use Rattle.twe_parser.specs.declared.production.Production.{Production}
use Rattle.twe_parser.specs.declared.symbol.Action.{Action}
use Rattle.twe_parser.specs.declared.symbol.Nonterminal.TheVariants as nonterminals
use Rattle.twe_parser.specs.declared.symbol.Symbol.{Symbol}
use Rattle.twe_parser.specs.declared.symbol.Symbol.TheVariants as symbols
use Rattle.twe_parser.specs.declared.value_stacks.ValueStacks.{ValueStacks}
use Rattle.twe_parser.specs.inner.Actions.{performed}
use Rattle.twe_parser.specs.inner.Productions.{production_of, epsilon_action}
use Rattle.twe_parser.specs.inner.Terminals.{terminal_of, meets}
use Rattle.twe_parser.specs.inner.ValueStacks.{kept, no_values}

-- the symbols that are expected, the next one first, and the semantic values
abbrev pub Machine : Type 0
Machine = List Symbol × ValueStacks

-- the machine before the first token
abbrev pub start : Machine
start = (symbols.Expand nonterminals.Items ∷ [], no_values)

-- the machine after a token that is the expected one, or is not
abbrev pub expected : Bool → Token → List Symbol → ValueStacks → Option Machine
expected true token stack values = Some (stack, kept token false values)
expected false token stack values = None

-- The machine after a token, or `None` if no program goes on with it. `left_out` is the continuation after the empty
-- production.
abbrev pub by_production : Option Production → Option Action → Token → List Symbol → ValueStacks
    → (ValueStacks → Option Machine) → Option Machine
by_production (Some production) skip token stack values left_out =
    Some (production.right_side ++ stack, kept token production.mark values)
by_production None (Some action) token stack values left_out = left_out (performed action values)
by_production None None token stack values left_out = None

-- the machine after a token, or `None` if the token is not expected
abbrev pub after : Token → List Symbol → ValueStacks → Option Machine
after token [] values = None
after token (symbols.Name ∷ stack) values = expected (meets symbols.Name (terminal_of token.kind)) token stack values
after token (symbols.Literal ∷ stack) values = expected (meets symbols.Literal (terminal_of token.kind)) token stack values
after token (symbols.Token f ∷ stack) values = expected (meets (symbols.Token f) (terminal_of token.kind)) token stack values
after token (symbols.Expand nonterminal ∷ stack) values =
    by_production (production_of nonterminal (terminal_of token.kind)) (epsilon_action nonterminal) token stack values
    (λ left. after token stack left)
after token (symbols.Perform action ∷ stack) values = after token stack (performed action values)

-- the semantic values at the end of the text, if the program is whole
abbrev pub finished : List Symbol → ValueStacks → Option ValueStacks
finished [] values = Some values
finished (symbols.Name ∷ stack) values = None
finished (symbols.Literal ∷ stack) values = None
finished (symbols.Token f ∷ stack) values = None
finished (symbols.Expand nonterminals.Items ∷ stack) values = finished stack values
finished (symbols.Expand nonterminal ∷ stack) values = None
finished (symbols.Perform action ∷ stack) values = finished stack (performed action values)

-- the semantic values after these tokens, if they complete the program
abbrev pub result_from : List Token → List Symbol → ValueStacks → Option ValueStacks
result_from [] stack values = finished stack values
result_from (token ∷ tokens) stack values =
    option_and_then (λ machine. result_from tokens machine.0 machine.1) (after token stack values)
