-- A condition under which the symbols on the stack can be completed to a program: no nonterminal with an empty production
-- comes before a token that would select another of its productions.
use Rattle.std.specs.Prelude.{Bool, true, false, ◌&&◌, List, [], ◌∷◌}
use Rattle.twe_lexer.specs.declared.fixed.Fixed.{Fixed}
use Rattle.twe_lexer.specs.declared.fixed.Fixed.TheVariants as fixed
use Rattle.twe_parser.specs.declared.symbol.Nonterminal.{Nonterminal}
use Rattle.twe_parser.specs.declared.symbol.Nonterminal.TheVariants as nonterminals
use Rattle.twe_parser.specs.declared.symbol.Symbol.{Symbol}
use Rattle.twe_parser.specs.declared.symbol.Symbol.TheVariants as symbols

-- a keyword or a symbol that selects no production of a nonterminal with an empty one
abbrev pub harmless : Fixed → Bool
harmless fixed.Or = false
harmless fixed.And = false
harmless fixed.Equal = false
harmless fixed.NotEqual = false
harmless fixed.Less = false
harmless fixed.LessEqual = false
harmless fixed.Greater = false
harmless fixed.GreaterEqual = false
harmless fixed.Plus = false
harmless fixed.Minus = false
harmless fixed.Star = false
harmless fixed.Slash = false
harmless fixed.Percent = false
harmless fixed.OpenParen = false
harmless fixed.OpenBracket = false
harmless fixed.Else = false
harmless _ = true

-- the shortest completion begins with a harmless token
abbrev pub calm : List Symbol → Bool
calm [] = false
calm (symbols.Name ∷ stack) = true
calm (symbols.Literal ∷ stack) = true
calm (symbols.Token f ∷ stack) = harmless f
calm (symbols.Perform action ∷ stack) = calm stack
calm (symbols.Expand nonterminals.Items ∷ stack) = false
calm (symbols.Expand nonterminals.Suffix ∷ stack) = calm stack
calm (symbols.Expand nonterminals.SecondIndex ∷ stack) = calm stack
calm (symbols.Expand (nonterminals.AfterArm x) ∷ stack) = calm stack
calm (symbols.Expand (nonterminals.Climb x) ∷ stack) = calm stack
calm (symbols.Expand _ ∷ stack) = true

-- no symbols follow
abbrev pub is_last : List Symbol → Bool
is_last [] = true
is_last (symbol ∷ stack) = false

-- the condition of a nonterminal on the symbols below it
abbrev pub need : Nonterminal → List Symbol → Bool
need nonterminals.Items stack = is_last stack
need nonterminals.Unary stack = calm stack
need nonterminals.AfterMinus stack = calm stack
need nonterminals.Suffix stack = calm stack
need nonterminals.SecondIndex stack = calm stack
need (nonterminals.Climb x) stack = calm stack
need (nonterminals.AfterArm x) stack = calm stack
need (nonterminals.ElseBody x) stack = calm stack
need _ stack = true

-- each nonterminal on the stack meets its condition on the symbols below it
abbrev pub fine : List Symbol → Bool
fine [] = true
fine (symbols.Name ∷ stack) = fine stack
fine (symbols.Literal ∷ stack) = fine stack
fine (symbols.Token f ∷ stack) = fine stack
fine (symbols.Expand nonterminal ∷ stack) = need nonterminal stack && fine stack
fine (symbols.Perform action ∷ stack) = fine stack
