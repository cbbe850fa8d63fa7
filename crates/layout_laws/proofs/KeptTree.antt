-- A text in its layout has the tree of the text.
use Rattle.std.proofs.Common.{◌≡◌, ℕ, List, [], ◌∷◌, refl, sym, ap, ◌∙◌, subst}
use Rattle.twe_ast.specs.declared.item.Ast.{Ast}
use Rattle.twe_lexer.specs.declared.token.Token.{Token}
use Rattle.twe_lexer.specs.declared.token.TokenKind.{TokenKind}
use Rattle.twe_lexer.specs.Places.{place_after}
use Rattle.twe_lexer.specs.Tokens.{tokens_from, BeginsWith}
use Rattle.twe_parser.specs.declared.fail.SRule.TheVariants.{S1}
use Rattle.twe_parser.specs.Limits.{limits_at_start}
use Rattle.ast_printer.specs.ParsesAgain.{IsTextOf, ParsesAgain}
use Rattle.ast_printer.proofs.Accepted.{tokens_pass, is_accepted}
use Rattle.ast_printer.proofs.Passing.{AllPass}
use Rattle.ast_printer.proofs.Supply.{kinds_in}
use Rattle.text_layout.specs.InLayout.{IsInLayout}
use Rattle.layout_laws.proofs.AllowedBytes.{AllAllowed, text_allowed, layout_allowed}
use Rattle.layout_laws.proofs.OneCut.{same_tokens}
use Rattle.layout_laws.proofs.SameTree.{kinds_of, same_tree}

-- the kinds, by the name that the printer has for them
same_kind_lists : (tokens : List Token) → kinds_in tokens ≡ kinds_of tokens
same_kind_lists [] = refl
same_kind_lists (token ∷ tokens) = ap (λ kinds. token.kind ∷ kinds) (same_kind_lists tokens)

module _ (text written : List ℕ) (tree : Ast) (laid : IsInLayout text written) (its : IsTextOf text tree) where
  -- the tokens of what was written
  tokens : List Token
  tokens = tokens_from [] laid.again.lexemes

  begins : BeginsWith written tokens []
  unfolding tokens
  begins = record { lexemes = laid.again.lexemes; cut = laid.again.cut; same = refl }

  same_kinds : kinds_of its.tokens ≡ kinds_of tokens
  same_kinds =
      ap kinds_of (same_tokens text its.tokens laid.kinds.tokens its.cut laid.kinds.cut) ∙ laid.kinds.same
      ∙ sym (ap kinds_of (same_tokens written tokens laid.same_kinds.tokens begins laid.same_kinds.cut) ∙ laid.same_kinds.same)

  allowed : AllAllowed written
  allowed = subst AllAllowed (sym laid.same) (layout_allowed text laid.pieces laid.cut (text_allowed text (its.accepted S1)))

  passes : AllPass limits_at_start (kinds_in tokens)
  passes =
      subst (λ (kinds : List TokenKind). AllPass limits_at_start kinds) (same_kind_lists its.tokens ∙ same_kinds ∙ sym (same_kind_lists tokens))
      (tokens_pass text its.tokens its.accepted its.cut)

  pub kept_tree : ParsesAgain written tree
  unfolding begins
  kept_tree =
      let found = same_tree its.tokens tokens tree same_kinds its.writes in
      let again : Ast = record { items = found.0.items; end = place_after written } in record {
        again = again;
        parsed = record {
          tokens = tokens;
          cut = begins;
          writes = found.1;
          accepted = is_accepted written again tokens begins found.1 passes allowed laid.again.closed;
        };
        end = refl;
        same = sym found.2;
      }
