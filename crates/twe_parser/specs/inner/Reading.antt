-- The state of the parser after a part of a text.
use Rattle.std.specs.Prelude.{◌≡◌, ℕ, ◌≤◌, true, false, List, [], ◌∷◌, ◌++◌, Some, None}
use Rattle.std.specs.List.{AllByRecursion, list_all}
use Rattle.twe_base.specs.Language.{max_open_brackets, max_operators}
use Rattle.twe_base.specs.declared.place.Place.{Place}
use Rattle.twe_ast.specs.declared.item.Ast.{Ast}
use Rattle.twe_lexer.specs.declared.token.Token.{Token}
use Rattle.twe_lexer.specs.Lexeme.{is_allowed, IsUnclosedComment}
use Rattle.twe_lexer.specs.Places.{place_after}
use Rattle.twe_lexer.specs.Tokens.{AreFirstLexemes, tokens_from}
use Rattle.twe_parser.specs.declared.fail.ParseFail.{ParseFail}
use Rattle.twe_parser.specs.declared.fail.ParseFail.TheVariants as fails
use Rattle.twe_parser.specs.declared.fail.SRule.{SRule}
use Rattle.twe_parser.specs.declared.fail.SRule.TheVariants.{S3}
use Rattle.twe_parser.specs.declared.parser.Parser.{Parser}
use Rattle.twe_parser.specs.declared.symbol.Symbol.{Symbol}
use Rattle.twe_parser.specs.declared.value_stacks.ValueStacks.{ValueStacks}
use Rattle.twe_parser.specs.Limits.{sofar_of, is_too_large, is_too_deep}
use Rattle.twe_parser.specs.inner.Fine.{fine}
use Rattle.twe_parser.specs.inner.Machine.{start, finished, result_from}

-- the bytes of these lexemes, one after the other
abbrev pub concat : List (List ℕ) → List ℕ
concat [] = []
concat (first ∷ others) = first ++ concat others

-- a machine that has read these tokens: it goes on to the result of the whole, and its stack can be completed
pub record HasTaken (tokens : List Token) (stack : List Symbol) (values : ValueStacks) : Type 0 where
  pub takes : (more : List Token) → result_from (tokens ++ more) start.0 start.1 ≡ result_from more stack values
  pub can_end : fine stack ≡ true

-- the parser has read the text up to this place, and the rest is left
pub record HasRead (text : List ℕ) (place : Place) (rest : List ℕ) (parser : Parser) : Type 0 where
  pub lexemes : List (List ℕ)
  pub cut : AreFirstLexemes lexemes text rest
  pub place_is : place ≡ place_after (concat lexemes)
  pub allowed : list_all is_allowed (concat lexemes) ≡ true
  pub closed : AllByRecursion (λ lexeme. ¬ IsUnclosedComment lexeme) lexemes
  pub taken : HasTaken (tokens_from [] lexemes) parser.machine.stack parser.machine.values
  pub limits : parser.sofar ≡ sofar_of (tokens_from [] lexemes)
  pub brackets : parser.sofar.open_brackets ≤ max_open_brackets
  pub operators : parser.sofar.operators ≤ max_operators
  pub passes : (before : List Token) (token : Token) (others : List Token) → tokens_from [] lexemes ≡ before ++ token ∷ others
      → (is_too_large (sofar_of before) token.kind ≡ false) × (is_too_deep (sofar_of before) token.kind ≡ false)

-- the end of the text, if the program is not whole
abbrev pub EndsBy : SRule → Place → Place → Parser → Type 0
EndsBy S3 place end parser = (place ≡ end) × (finished parser.machine.stack parser.machine.values ≡ None)
EndsBy _ place end parser = ⊥

-- a refusal at the end of the text: by S3 there, or for want of memory
abbrev pub EndsEarly : ParseFail → Place → Parser → Type 0
EndsEarly (fails.Syntax rule place) end parser = EndsBy rule place end parser
EndsEarly (fails.OutOfMemory memory) end parser = Unit {0}

-- the end of the text, if the program is whole
pub record EndsWhole (tree : Ast) (end : Place) (parser : Parser) : Type 0 where
  pub place : tree.end ≡ end
  pub values : ValueStacks
  pub whole : finished parser.machine.stack parser.machine.values ≡ Some values
  pub items : tree.items ≡ values.items
