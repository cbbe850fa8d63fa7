-- The printed text of an accepted text's tree is accepted, and its tree is the same but for places.
use Rattle.std.proofs.Common.{◌≡◌, ℕ, false, List, [], refl, sym, ap, ◌∙◌, subst, arith}
use Rattle.twe_base.specs.declared.place.Place.{Place}
use Rattle.twe_ast.specs.declared.item.Ast.{Ast}
use Rattle.twe_lexer.specs.declared.token.Token.{Token}
use Rattle.twe_lexer.specs.declared.token.TokenKind.{TokenKind}
use Rattle.twe_lexer.specs.Places.{place_after}
use Rattle.twe_lexer.specs.Tokens.{tokens_from, BeginsWith}
use Rattle.twe_parser.specs.Limits.{limits_at_start}
use Rattle.twe_parser.specs.Writes.{WritesItems}
use Rattle.ast_printer.specs.ItemTokens.{items_tokens, printed_tokens}
use Rattle.ast_printer.specs.ParsesAgain.{IsTextOf, ParsesAgain}
use Rattle.ast_printer.proofs.Supply.{tokens_at, kinds_in, places_in, tokens_again}
use Rattle.ast_printer.proofs.Passing.{AllPass, Beside}
use Rattle.ast_printer.proofs.PassesItem.{items_pass}
use Rattle.ast_printer.proofs.PlacedItem.{placed_items, same_items}
use Rattle.ast_printer.proofs.AgainItem.{items_again}
use Rattle.ast_printer.proofs.Cutting.{AllAlone, all_alone, lexemes_of, text_cut, words_again, text_allowed, lexemes_closed}
use Rattle.ast_printer.proofs.Accepted.{tokens_pass, is_accepted}

pub both_start : Beside 0 0 false false limits_at_start limits_at_start
both_start = record {
  brackets = refl;
  printed = refl;
  fewer = omega arith;
  count = omega arith;
  text_ended = refl;
  print_ended = refl;
  text_minus = refl;
  print_minus = λ h. h;
}

-- a tree whose words keep the limits, and write it at all places, is that of its printed text, but for places
pub from_words : (tree : Ast) → AllPass limits_at_start (items_tokens tree.items)
    → ((s : List Place) → WritesItems (placed_items tree.items s) (tokens_at s (items_tokens tree.items))) → ParsesAgain (printed_tokens tree) tree
from_words tree pass again = from_alone (all_alone (items_tokens tree.items) limits_at_start pass)
  where
    from_alone : AllAlone (items_tokens tree.items) → ParsesAgain (printed_tokens tree) tree
    from_alone alone =
        let tokens : List Token = tokens_from [] (lexemes_of (items_tokens tree.items)) in
        let begins : BeginsWith (printed_tokens tree) tokens [] = record { lexemes = lexemes_of (items_tokens tree.items); cut = text_cut (items_tokens tree.items) alone; same = refl } in
        let kinds : kinds_in tokens ≡ items_tokens tree.items = words_again [] (items_tokens tree.items) alone in
        let placed : tokens_at (places_in tokens) (items_tokens tree.items) ≡ tokens = ap (tokens_at (places_in tokens)) (sym kinds) ∙ tokens_again tokens in
        let its : Ast = record { items = placed_items tree.items (places_in tokens); end = place_after (printed_tokens tree) } in
        let writes : WritesItems its.items tokens = subst (λ (all : List Token). WritesItems its.items all) placed (again (places_in tokens)) in
        record {
          again = its;
          parsed = record {
            tokens = tokens;
            cut = begins;
            writes = writes;
            accepted = is_accepted (printed_tokens tree) its tokens begins writes (subst (λ (words : List TokenKind). AllPass limits_at_start words) (sym kinds) pass) (text_allowed (items_tokens tree.items) alone)
                (lexemes_closed (items_tokens tree.items) alone);
          };
          end = refl;
          same = same_items tree.items (places_in tokens);
        }

pub parses_again : (source : List ℕ) (tree : Ast) → IsTextOf source tree → ParsesAgain (printed_tokens tree) tree
parses_again source tree is =
    from_words tree ((items_pass is.writes false false).pass limits_at_start limits_at_start both_start (tokens_pass source is.tokens is.accepted is.cut)) (items_again is.writes)
