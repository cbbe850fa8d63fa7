-- The state of the parser after a part of a text.
use Rattle.std.proofs.Common.{◌≡◌, List, [], ◌∷◌, ◌++◌, Option, None, Some, sym, ap, ◌∙◌, subst}
use Rattle.std.specs.Prelude.{option_and_then}
use Rattle.std.proofs.lemmas.List.{append_assoc, append-nil}
use Rattle.twe_ast.specs.declared.item.Ast.{Ast}
use Rattle.twe_ast.specs.declared.item.Item.{Item}
use Rattle.twe_lexer.specs.declared.token.Token.{Token}
use Rattle.twe_parser.specs.declared.symbol.Nonterminal.TheVariants as nonterminals
use Rattle.twe_parser.specs.declared.symbol.Symbol.{Symbol}
use Rattle.twe_parser.specs.declared.symbol.Symbol.TheVariants as symbols
use Rattle.twe_parser.specs.declared.value_stacks.ValueStacks.{ValueStacks}
use Rattle.twe_parser.specs.Viable.{IsProgram, IsViable}
use Rattle.twe_parser.specs.Writes.{WritesItems}
use Rattle.twe_parser.specs.inner.Machine.{Machine, start, after, finished, result_from}
use Rattle.twe_parser.specs.inner.Reading.{HasTaken}
use Rattle.twe_parser.proofs.CompleteItems.{items_taken, only_items}
use Rattle.twe_parser.proofs.Completion.{completion, completes}
use Rattle.twe_parser.proofs.Fine.{after_fine}
use Rattle.twe_parser.proofs.Meanings.{Reads, a_nonterminal}
use Rattle.twe_parser.proofs.Sound.{all_read}
use Rattle.twe_parser.proofs.Steps.{goes_on}

-- tokens that complete the program are those of a tree
program_of : (tokens : List Token) (end : ValueStacks) → result_from tokens start.0 start.1 ≡ Some end → (tree : List Item) × WritesItems tree tokens
program_of tokens end is = from_reads tokens (all_read tokens start.0 start.1 end is)
  where
    from_reads : (tokens : List Token) → Reads (symbols.Expand nonterminals.Items ∷ []) tokens [] → (tree : List Item) × WritesItems tree tokens
    from_reads tokens (a_nonterminal means rest) = means.1

a_tree : List Item → Ast
a_tree all = record { items = all; end = record { line = 0; col = 0 } }

-- a program begins with the tokens that were taken
pub viable : (tokens : List Token) (stack : List Symbol) (values : ValueStacks) → HasTaken tokens stack values → IsViable tokens
unfolding a_tree
viable tokens stack values taken =
    let ends = completes stack taken.can_end values in
    let program = program_of (tokens ++ completion stack) ends.0 (taken.takes (completion stack) ∙ ends.1) in
    (a_tree program.0, completion stack, program.1)

no_result : {A : Type 0} {x : A} → ◌≡◌ {A = Option A} None (Some x) → ⊥
no_result h = cc

-- no program goes on with a token that is not taken
pub stray_token : (tokens : List Token) (stack : List Symbol) (values : ValueStacks) (token : Token) → HasTaken tokens stack values → after token stack values ≡ None → ¬ IsViable (tokens ++ token ∷ [])
stray_token tokens stack values token taken is (tree, more, writes) =
    let regrouped : result_from ((tokens ++ token ∷ []) ++ more) start.0 start.1 ≡ result_from (token ∷ more) stack values = ap (λ all. result_from all start.0 start.1) (append_assoc tokens (token ∷ []) more) ∙ taken.takes (token ∷ more) in
    no_result (sym (regrouped ∙ ap (option_and_then (goes_on more)) is) ∙ items_taken writes [])

-- one more token
pub token_more : (tokens : List Token) (stack : List Symbol) (values : ValueStacks) (token : Token) (machine : Machine) → HasTaken tokens stack values → after token stack values ≡ Some machine → HasTaken (tokens ++ token ∷ []) machine.0 machine.1
token_more tokens stack values token machine taken is = record {
  takes = λ more. ap (λ all. result_from all start.0 start.1) (append_assoc tokens (token ∷ []) more) ∙ taken.takes (token ∷ more) ∙ ap (option_and_then (goes_on more)) is;
  can_end = after_fine token stack values machine is taken.can_end;
}

ended : (tokens : List Token) (stack : List Symbol) (values : ValueStacks) → HasTaken tokens stack values → result_from tokens start.0 start.1 ≡ finished stack values
ended tokens stack values taken = ap (λ all. result_from all start.0 start.1) (sym (append-nil tokens)) ∙ taken.takes []

-- no program ends here
pub not_whole : (tokens : List Token) (stack : List Symbol) (values : ValueStacks) → HasTaken tokens stack values → finished stack values ≡ None → ¬ IsProgram tokens
not_whole tokens stack values taken is (tree, writes) = no_result (sym (ended tokens stack values taken ∙ is) ∙ items_taken writes [])

items_in : Option ValueStacks → List Item
items_in None = []
items_in (Some values) = values.items

-- a program ends here
pub whole_program : (tokens : List Token) (stack : List Symbol) (values end : ValueStacks) → HasTaken tokens stack values → finished stack values ≡ Some end → WritesItems end.items tokens
unfolding items_in
whole_program tokens stack values end taken is =
    let program = program_of tokens end (ended tokens stack values taken ∙ is) in
    let same : ◌≡◌ {A = Option ValueStacks} (Some (only_items program.0)) (Some end) = sym (items_taken program.1 []) ∙ (ended tokens stack values taken ∙ is) in
    subst (λ (all : List Item). WritesItems all tokens) (ap items_in same) program.1
