-- The tokens of the text are those of its tree, by the grammar.
use Rattle.std.proofs.Common.{◌≡◌, ℕ, zero, suc, true, List, [], ◌∷◌, refl, ap, arith}
use Rattle.twe_base.specs.declared.place.Place.{Place}
use Rattle.twe_lexer.specs.declared.token.Token.{Token}
use Rattle.twe_parser.specs.WritesExpression.{written, binary, literal, variable, no_arguments}
use Rattle.twe_parser.specs.WritesPath.{cell_index, no_more_cell_elems, more_cell_elems, cell_region, index, no_more_elems, more_elems, region}
use Rattle.twe_parser.specs.WritesStatement.{WritesStatements, set, make, wait, wait_for, closed, one_more}
use Rattle.twe_parser.specs.Writes.{no_more_names, more_names, not_written, initial, no_params, no_more_paths, more_paths, clause, no_more_clauses, pure, clauses, decl, regions, cell, task, deterministic_task, WritesItems, no_more_items, more_items, Writes}
use Rattle.ast_printer.proofs.Supply.{kinds_in}
use Rattle.ast_printer.specs.BareExpression.{nowhere}
use Rattle.load_text.proofs.accepted.Pieces.{pieces_kinds}
use Rattle.load_text.proofs.accepted.Lines.{starts_from, pieces_from, all_pieces}
use Rattle.load_text.proofs.accepted.Trees.{Places, later, starts, items_from, load_tree, tokens_with}

-- the statements of `main`
writes_starts : (at : Places) (i count : ℕ) → WritesStatements true (starts at i count) (tokens_with at (pieces_kinds (starts_from i count))) []
writes_starts at i zero = closed
writes_starts at i (suc count) = one_more (make no_arguments) (writes_starts (later 9 at) (suc i) count)

writes_items : (at : Places) (i count n : ℕ) → WritesItems (items_from at i count n) (tokens_with at (pieces_kinds (pieces_from i count n)))
writes_items at i zero n = more_items (task (decl no_params pure (writes_starts (later 7 at) 0 n))) no_more_items
writes_items at i (suc count) n =
    more_items (cell (cell_region (more_cell_elems cell_index no_more_cell_elems)) initial)
    (more_items (deterministic_task (decl no_params (clauses (clause (region (more_elems index no_more_elems)) no_more_paths) no_more_clauses)
    (one_more (set (written (binary (omega arith) (written (binary (omega arith) (written variable) (written literal))) (written literal)))) closed)))
    (more_items (task (decl no_params
    (clauses (clause (region (more_elems index no_more_elems)) (more_paths (region no_more_elems) no_more_paths)) no_more_clauses)
    (one_more (make no_arguments) (one_more (wait_for wait)
    (one_more (set (written (binary (omega arith) (written variable) (written variable)))) closed)))))
    (writes_items (later 69 at) (suc i) count n)))

pub writes_tree : (at : Places) (end : Place) (n : ℕ) → Writes (load_tree at end n) (tokens_with at (pieces_kinds (all_pieces n)))
writes_tree at end n = more_items (regions (more_names no_more_names))
    (more_items (cell (cell_region no_more_cell_elems) not_written) (writes_items (later 10 at) 0 n n))

-- the places of tokens
abbrev pub place_in : List Token → Places
place_in [] k = nowhere
place_in (token ∷ tokens) zero = token.place
place_in (token ∷ tokens) (suc k) = place_in tokens k

pub tokens_placed : (tokens : List Token) → tokens_with (place_in tokens) (kinds_in tokens) ≡ tokens
tokens_placed [] = refl
tokens_placed (token ∷ tokens) = ap (λ more. token ∷ more) (tokens_placed tokens)
