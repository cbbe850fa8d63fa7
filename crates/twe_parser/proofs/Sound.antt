-- Soundness: the tokens that the machine takes are those of a tree.
use Rattle.std.proofs.Common.{◌≡◌, Bool, true, false, List, [], ◌∷◌, ◌++◌, Option, None, Some, refl, sym, ap, ◌∙◌, subst}
use Rattle.std.specs.Prelude.{option_and_then}
use Rattle.std.proofs.lemmas.Slice.Eq.{bytes_eq-Decides}
use Rattle.twe_base.specs.declared.place.Place.{Place}
use Rattle.twe_ast.specs.Statement.{no_else}
use Rattle.twe_lexer.specs.declared.fixed.Fixed.{Fixed}
use Rattle.twe_lexer.specs.declared.fixed.Fixed.TheVariants as fixed
use Rattle.twe_lexer.specs.declared.token.Token.{Token}
use Rattle.twe_lexer.specs.declared.token.TokenKind.{TokenKind}
use Rattle.twe_lexer.specs.declared.token.TokenKind.TheVariants as kinds
use Rattle.twe_lexer.specs.Spelling.{spelling, spelled}
use Rattle.twe_parser.specs.declared.production.Production.{Production}
use Rattle.twe_parser.specs.declared.symbol.Action.{Action}
use Rattle.twe_parser.specs.declared.symbol.Nonterminal.{Nonterminal}
use Rattle.twe_parser.specs.declared.symbol.Nonterminal.TheVariants as nonterminals
use Rattle.twe_parser.specs.declared.symbol.Symbol.{Symbol}
use Rattle.twe_parser.specs.declared.symbol.Symbol.TheVariants as symbols
use Rattle.twe_parser.specs.declared.value_stacks.ValueStacks.{ValueStacks}
use Rattle.twe_parser.specs.Written.{word}
use Rattle.twe_parser.specs.Writes.{no_more_items}
use Rattle.twe_parser.specs.WritesExpression.{written, variable, array}
use Rattle.twe_parser.specs.WritesStatement.{no_more_arms}
use Rattle.twe_parser.specs.inner.Actions.{performed}
use Rattle.twe_parser.specs.inner.Machine.{Machine, expected, by_production, after, finished, result_from}
use Rattle.twe_parser.specs.inner.Productions.{production_of, epsilon_action}
use Rattle.twe_parser.specs.inner.Terminals.{terminal_of, same_fixed}
use Rattle.twe_parser.specs.inner.ValueStacks.{kept}
use Rattle.twe_parser.proofs.Meanings.{Means, Reads, done, a_name, a_literal, a_token, a_nonterminal, an_action, ReadsProduction, reads_split}
use Rattle.twe_parser.proofs.SoundExpressions.{lower, unary_means, after_minus_means, suffix_means, second_index_means, args_means, more_args_means, climb_means}
use Rattle.twe_parser.proofs.SoundItems.{items_means, more_regions_means, after_int_means, after_length_means, cell_path_means, cell_rest_means, cell_elem_means, initial_means, task_returns_means, params_means, more_params_means, effects_means, path_means, path_rest_means, elem_means, index_means}
use Rattle.twe_parser.proofs.SoundStatements.{statements_means, local_type_means, int_value_means, after_value_name_means, after_name_means, after_index_means, awaited_means, awaited_value_means, make_means, after_arm_means, else_body_means, return_value_means}
use Rattle.twe_parser.proofs.Steps.{goes_on}

-- the tokens that a production reads
production_means : (nonterminal : Nonterminal) (kind : TokenKind) (place : Place) (tokens rest : List Token) → ReadsProduction (production_of nonterminal (terminal_of kind)) tokens rest → Means nonterminal ((record { kind = kind; place = place }) ∷ tokens) rest
production_means nonterminals.Items kind place tokens rest reads = items_means kind place tokens rest reads
production_means nonterminals.MoreRegions kind place tokens rest reads = more_regions_means kind place tokens rest reads
production_means nonterminals.AfterInt kind place tokens rest reads = after_int_means kind place tokens rest reads
production_means nonterminals.AfterLength kind place tokens rest reads = after_length_means kind place tokens rest reads
production_means (nonterminals.CellPath x) kind place tokens rest reads = cell_path_means x kind place tokens rest reads
production_means (nonterminals.CellRest x) kind place tokens rest reads = cell_rest_means x kind place tokens rest reads
production_means nonterminals.CellElem kind place tokens rest reads = cell_elem_means kind place tokens rest reads
production_means nonterminals.Initial kind place tokens rest reads = initial_means kind place tokens rest reads
production_means (nonterminals.TaskReturns x) kind place tokens rest reads = task_returns_means x kind place tokens rest reads
production_means nonterminals.Params kind place tokens rest reads = params_means kind place tokens rest reads
production_means nonterminals.MoreParams kind place tokens rest reads = more_params_means kind place tokens rest reads
production_means (nonterminals.Effects x) kind place tokens rest reads = effects_means x kind place tokens rest reads
production_means (nonterminals.Path x y) kind place tokens rest reads = path_means x y kind place tokens rest reads
production_means (nonterminals.PathRest x y) kind place tokens rest reads = path_rest_means x y kind place tokens rest reads
production_means nonterminals.Elem kind place tokens rest reads = elem_means kind place tokens rest reads
production_means nonterminals.Index kind place tokens rest reads = index_means kind place tokens rest reads
production_means (nonterminals.Statements x) kind place tokens rest reads = statements_means x kind place tokens rest reads
production_means (nonterminals.LocalType x) kind place tokens rest reads = local_type_means x kind place tokens rest reads
production_means (nonterminals.IntValue x y) kind place tokens rest reads = int_value_means x y kind place tokens rest reads
production_means (nonterminals.AfterValueName x) kind place tokens rest reads = after_value_name_means x kind place tokens rest reads
production_means (nonterminals.AfterName x) kind place tokens rest reads = after_name_means x kind place tokens rest reads
production_means nonterminals.AfterIndex kind place tokens rest reads = after_index_means kind place tokens rest reads
production_means nonterminals.Awaited kind place tokens rest reads = awaited_means kind place tokens rest reads
production_means (nonterminals.AwaitedValue x) kind place tokens rest reads = awaited_value_means x kind place tokens rest reads
production_means nonterminals.Make kind place tokens rest reads = make_means kind place tokens rest reads
production_means (nonterminals.AfterArm x) kind place tokens rest reads = after_arm_means x kind place tokens rest reads
production_means (nonterminals.ElseBody x) kind place tokens rest reads = else_body_means x kind place tokens rest reads
production_means nonterminals.ReturnValue kind place tokens rest reads = return_value_means kind place tokens rest reads
production_means nonterminals.Args kind place tokens rest reads = args_means kind place tokens rest reads
production_means nonterminals.MoreArgs kind place tokens rest reads = more_args_means kind place tokens rest reads
production_means nonterminals.Unary kind place tokens rest reads = unary_means kind place tokens rest reads
production_means nonterminals.AfterMinus kind place tokens rest reads = after_minus_means kind place tokens rest reads
production_means nonterminals.Suffix kind place tokens rest reads = suffix_means kind place tokens rest reads
production_means nonterminals.SecondIndex kind place tokens rest reads = second_index_means kind place tokens rest reads
production_means (nonterminals.Climb x) kind place tokens rest reads = climb_means x kind place tokens rest reads

-- the tokens that an empty production reads: none
left_out_means : (nonterminal : Nonterminal) (action : Action) → epsilon_action nonterminal ≡ Some action → (token : Token) (tokens : List Token) → production_of nonterminal (terminal_of token.kind) ≡ None → Means nonterminal (token ∷ tokens) (token ∷ tokens)
left_out_means nonterminals.Suffix action skips token tokens none = λ name. (_, written variable)
left_out_means nonterminals.SecondIndex action skips token tokens none = λ name opening index before close writes. (_, written (array writes))
left_out_means (nonterminals.AfterArm in_task) action skips token tokens none = (no_else, no_more_arms)
left_out_means (nonterminals.Climb level) action skips token tokens none = (none, λ before higher left low high writes below. (left, lower writes level low))
left_out_means _ action skips token tokens none = absurd (no_act skips)
  where
    no_act : {action : Action} → ◌≡◌ {A = Option Action} None (Some action) → ⊥
    no_act h = cc

no_result : {A : Type 0} {x : A} → ◌≡◌ {A = Option A} None (Some x) → ⊥
no_result h = cc

-- the end of the text completes the symbols on the stack
at_end : (stack : List Symbol) (values end : ValueStacks) → finished stack values ≡ Some end → Reads stack [] []
at_end [] values end is = done
at_end (symbols.Name ∷ stack) values end is = absurd (no_result is)
at_end (symbols.Literal ∷ stack) values end is = absurd (no_result is)
at_end (symbols.Token f ∷ stack) values end is = absurd (no_result is)
at_end (symbols.Expand nonterminals.Items ∷ stack) values end is = a_nonterminal {nonterminal = nonterminals.Items} (refl, ([], no_more_items)) (at_end stack values end is)
at_end (symbols.Expand _ ∷ stack) values end is = absurd (no_result is)
at_end (symbols.Perform action ∷ stack) values end is = an_action (at_end stack (performed action values) end is)

-- keywords and symbols that are spelled alike are the same
spelled_again : (f : Fixed) → spelled (spelling f) ≡ Some f
spelled_again fixed.Region = refl
spelled_again fixed.Int = refl
spelled_again fixed.Boolean = refl
spelled_again fixed.Void = refl
spelled_again fixed.Task = refl
spelled_again fixed.Deterministic = refl
spelled_again fixed.Reads = refl
spelled_again fixed.Writes = refl
spelled_again fixed.Pure = refl
spelled_again fixed.Final = refl
spelled_again fixed.Future = refl
spelled_again fixed.If = refl
spelled_again fixed.Else = refl
spelled_again fixed.While = refl
spelled_again fixed.Return = refl
spelled_again fixed.Print = refl
spelled_again fixed.True = refl
spelled_again fixed.False = refl
spelled_again fixed.In = refl
spelled_again fixed.Root = refl
spelled_again fixed.Spawn = refl
spelled_again fixed.ExecuteLater = refl
spelled_again fixed.GetValue = refl
spelled_again fixed.Join = refl
spelled_again fixed.OpenBrace = refl
spelled_again fixed.CloseBrace = refl
spelled_again fixed.OpenParen = refl
spelled_again fixed.CloseParen = refl
spelled_again fixed.OpenBracket = refl
spelled_again fixed.CloseBracket = refl
spelled_again fixed.Semicolon = refl
spelled_again fixed.Comma = refl
spelled_again fixed.Colon = refl
spelled_again fixed.Dot = refl
spelled_again fixed.Question = refl
spelled_again fixed.Assign = refl
spelled_again fixed.Equal = refl
spelled_again fixed.NotEqual = refl
spelled_again fixed.Less = refl
spelled_again fixed.LessEqual = refl
spelled_again fixed.Greater = refl
spelled_again fixed.GreaterEqual = refl
spelled_again fixed.Plus = refl
spelled_again fixed.Minus = refl
spelled_again fixed.Star = refl
spelled_again fixed.Slash = refl
spelled_again fixed.Percent = refl
spelled_again fixed.Not = refl
spelled_again fixed.And = refl
spelled_again fixed.Or = refl

the_same : (f g : Fixed) → same_fixed f g ≡ true → f ≡ g
the_same f g same =
    let spelled_alike : spelling f ≡ spelling g = (bytes_eq-Decides (spelling f) (spelling g)).0 same in
    let both : ◌≡◌ {A = Option Fixed} (Some f) (Some g) = sym (spelled_again f) ∙ ap spelled spelled_alike ∙ spelled_again g in cc

module _ (tokens : List Token) (taken : (stack : List Symbol) (values end : ValueStacks) → result_from tokens stack values ≡ Some end → Reads stack tokens []) where
  name_read : (kind : TokenKind) (place : Place) (stack : List Symbol) (values end : ValueStacks)
      → result_from ((record { kind = kind; place = place }) ∷ tokens) (symbols.Name ∷ stack) values ≡ Some end → Reads (symbols.Name ∷ stack) ((record { kind = kind; place = place }) ∷ tokens) []
  name_read (kinds.Name text) place stack values end is = a_name {name = record { text = text; place = place }} (taken stack _ end is)
  name_read _ place stack values end is = absurd (no_result is)

  literal_read : (kind : TokenKind) (place : Place) (stack : List Symbol) (values end : ValueStacks)
      → result_from ((record { kind = kind; place = place }) ∷ tokens) (symbols.Literal ∷ stack) values ≡ Some end → Reads (symbols.Literal ∷ stack) ((record { kind = kind; place = place }) ∷ tokens) []
  literal_read (kinds.Literal value) place stack values end is = a_literal (taken stack _ end is)
  literal_read _ place stack values end is = absurd (no_result is)

  fixed_read : (f g : Fixed) (place : Place) (stack : List Symbol) (values end : ValueStacks) (test : Bool) → same_fixed f g ≡ test
      → option_and_then (goes_on tokens) (expected test (word g place) stack values) ≡ Some end → Reads (symbols.Token f ∷ stack) (word g place ∷ tokens) []
  fixed_read f g place stack values end false is found = absurd (no_result found)
  fixed_read f g place stack values end true is found =
      subst (λ (h : Fixed). Reads (symbols.Token f ∷ stack) (word h place ∷ tokens) []) (the_same f g is) (a_token (taken stack (kept (word g place) false values) end found))

  token_read : (f : Fixed) (kind : TokenKind) (place : Place) (stack : List Symbol) (values end : ValueStacks)
      → result_from ((record { kind = kind; place = place }) ∷ tokens) (symbols.Token f ∷ stack) values ≡ Some end → Reads (symbols.Token f ∷ stack) ((record { kind = kind; place = place }) ∷ tokens) []
  token_read f (kinds.Fixed g) place stack values end is = fixed_read f g place stack values end (same_fixed f g) refl is
  token_read f _ place stack values end is = absurd (no_result is)

  nonterminal_read : (nonterminal : Nonterminal) (token : Token) (stack : List Symbol) (values end : ValueStacks) (found : Option Production) (skip : Option Action) (left : ValueStacks → Option Machine)
      → production_of nonterminal (terminal_of token.kind) ≡ found → epsilon_action nonterminal ≡ skip
      → ((action : Action) → option_and_then (goes_on tokens) (left (performed action values)) ≡ Some end → Reads stack (token ∷ tokens) [])
      → option_and_then (goes_on tokens) (by_production found skip token stack values left) ≡ Some end → Reads (symbols.Expand nonterminal ∷ stack) (token ∷ tokens) []
  nonterminal_read nonterminal token stack values end (Some production) skip left is skips others result =
      let halves = reads_split production.right_side stack tokens [] (taken (production.right_side ++ stack) (kept token production.mark values) end result) in
      a_nonterminal {nonterminal = nonterminal} (production_means nonterminal token.kind token.place tokens halves.0 (subst (λ (r : Option Production). ReadsProduction r tokens halves.0) (sym is) halves.1)) halves.2
  nonterminal_read nonterminal token stack values end None (Some action) left is skips others result = a_nonterminal {nonterminal = nonterminal} (left_out_means nonterminal action skips token tokens is) (others action result)
  nonterminal_read nonterminal token stack values end None None left is skips others result = absurd (no_result result)

  token_taken : (token : Token) (stack : List Symbol) (values end : ValueStacks) → result_from (token ∷ tokens) stack values ≡ Some end → Reads stack (token ∷ tokens) []
  token_taken token [] values end is = absurd (no_result is)
  token_taken token (symbols.Name ∷ stack) values end is = name_read token.kind token.place stack values end is
  token_taken token (symbols.Literal ∷ stack) values end is = literal_read token.kind token.place stack values end is
  token_taken token (symbols.Token f ∷ stack) values end is = token_read f token.kind token.place stack values end is
  token_taken token (symbols.Expand nonterminal ∷ stack) values end is =
      nonterminal_read nonterminal token stack values end (production_of nonterminal (terminal_of token.kind)) (epsilon_action nonterminal) (λ left. after token stack left) refl refl (λ action found. token_taken token stack (performed action values) end found) is
  token_taken token (symbols.Perform action ∷ stack) values end is = an_action (token_taken token stack (performed action values) end is)

-- what completes the program is read
pub all_read : (tokens : List Token) (stack : List Symbol) (values end : ValueStacks) → result_from tokens stack values ≡ Some end → Reads stack tokens []
all_read [] stack values end is = at_end stack values end is
all_read (token ∷ tokens) stack values end is = token_taken tokens (λ later kept_work last found. all_read tokens later kept_work last found) token stack values end is
