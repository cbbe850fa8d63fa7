-- The trees of texts are as the rules of names need them.
use Rattle.std.proofs.Common.{ℕ, ◌+◌, ◌<◌, ◌^◌, List, [], length, arith}
use Rattle.twe_base.specs.declared.place.Place.{Place}
use Rattle.twe_ast.specs.declared.item.Ast.{Ast}
use Rattle.twe_lexer.specs.declared.token.Token.{Token}
use Rattle.twe_lexer.specs.Tokens.{BeginsWith}
use Rattle.twe_parser.specs.declared.fail.SRule.{SRule}
use Rattle.twe_parser.specs.Fails.{Fails}
use Rattle.twe_parser.specs.Writes.{Writes}
use Rattle.twe_names.specs.FromText.{IsFromText}
use Rattle.twe_frontend.proofs.Indexes as in_paths
use Rattle.twe_frontend.proofs.Literals.{small_indexes, no_more_tokens}
use Rattle.twe_frontend.proofs.NoTasks.{methods_make_none}
use Rattle.twe_frontend.proofs.Sizes.{by_items}

pub is_from_text : (text : List ℕ) (tokens : List Token) (tree : Ast) → length text + 1 < 2 ^ 32 → BeginsWith text tokens [] → Writes tree tokens → ((rule : SRule) (place : Place) → ¬ Fails text rule place) → IsFromText tree
is_from_text text tokens tree few begins writes keeps =
    let small = small_indexes text tokens begins keeps in
    record {
      countable = let sizes = by_items writes in let bytes = no_more_tokens text tokens begins in omega arith;
      cell_indexes = in_paths.cell_indexes tree.items tokens writes small;
      indexes = in_paths.indexes tree.items tokens writes small;
      methods = methods_make_none tree.items tokens writes;
    }
