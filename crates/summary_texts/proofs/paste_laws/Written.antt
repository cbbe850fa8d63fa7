-- The tokens of a tree with other clauses are those that the grammar asks for.
use Rattle.std.proofs.Common.{ℕ, Bool, true, false, List, [], ◌∷◌, ◌++◌, append_assoc}
use Rattle.twe_base.specs.declared.place.Place.{Place}
use Rattle.effect_sets.specs.declared.effects.Effect.{Effect}
use Rattle.effect_sets.specs.declared.effects.Summary.{Summary}
use Rattle.twe_ast.specs.declared.item.Clause.{Clause}
use Rattle.twe_ast.specs.declared.item.Decl.{Decl}
use Rattle.twe_ast.specs.declared.item.Item.{Item}
use Rattle.twe_ast.specs.declared.item.Item.TheVariants as items
use Rattle.twe_ast.specs.declared.path.Path.{Path}
use Rattle.twe_ast.specs.declared.path.PathElem.{PathElem}
use Rattle.twe_ast.specs.declared.path.PathElemKind.{PathElemKind}
use Rattle.twe_ast.specs.declared.path.PathElemKind.TheVariants as elem_kinds
use Rattle.twe_lexer.specs.declared.token.Token.{Token}
use Rattle.twe_lexer.specs.declared.token.TokenKind.{TokenKind}
use Rattle.twe_parser.specs.WritesPath.{WritesElem, name, index, parameter, any_index, star, MoreElems, no_more_elems, more_elems, root, region}
use Rattle.twe_parser.specs.Writes.{MorePaths, no_more_paths, more_paths, WritesClause, clause, MoreClauses, no_more_clauses, more_clauses, WritesEffects, pure, clauses, WritesDecl, decl, WritesItem, method, WritesItems, no_more_items, more_items}
use Rattle.ast_printer.specs.PathTokens.{elem_tokens, elems_tokens}
use Rattle.ast_printer.specs.ItemTokens.{params_tokens, paths_tokens, clause_tokens, effects_tokens, decl_tokens, item_tokens, items_tokens}
use Rattle.ast_printer.proofs.Supply.{here, next, tokens_at, after, after_append, placed_name}
use Rattle.ast_printer.proofs.PlacedStatement.{second, third}
use Rattle.ast_printer.proofs.AgainStatement.{block_again}
use Rattle.ast_printer.proofs.PlacedItem.{placed_elem_kind, placed_elems, placed_paths, placed_clause, placed_clauses, placed_decl, placed_items}
use Rattle.ast_printer.proofs.AgainItem.{joined, past_path, AgainPath, params_again, item_again}
use Rattle.summary_texts.specs.paste_laws.Clauses.{texts_of, clause_path_of, clause_of, reads_of, writes_of, clauses_of, with_clauses, pasted_items}

kind-written : (kind : PathElemKind) (s : List Place) (more : List TokenKind)
    → WritesElem (record { kind = placed_elem_kind kind s; place = here s }) (tokens_at s (elem_tokens kind ++ more)) (tokens_at (after (elem_tokens kind) s) more)
kind-written (elem_kinds.Name text) s more = name {name = record { text = text; place = here s }}
kind-written (elem_kinds.Index i) s more = index
kind-written (elem_kinds.Variable its) s more = parameter {name = placed_name its (next s)}
kind-written elem_kinds.AnyIndex s more = any_index
kind-written elem_kinds.Star s more = star

elems-written : (elems : List PathElem) (s : List Place) (more : List TokenKind)
    → MoreElems (placed_elems true elems s) (tokens_at s (elems_tokens true elems ++ more)) (tokens_at (after (elems_tokens true elems) s) more)
elems-written [] s more = no_more_elems
elems-written (first ∷ others) s more =
    simp (append_assoc, after_append)
    (more_elems (kind-written first.kind (next s) (elems_tokens true others ++ more)) (elems-written others (after (elem_tokens first.kind) (next s)) more))

first-written : (kind : PathElemKind) (at start : Place) (others : List PathElem) (s : List Place) (more : List TokenKind)
    → AgainPath (record { elems = record { kind = kind; place = at } ∷ others; place = start }) s more
first-written (elem_kinds.Name text) at start others s more = region {name = record { text = text; place = here s }} (elems-written others (next s) more)
first-written (elem_kinds.Index i) at start others s more = root (elems-written (record { kind = elem_kinds.Index i; place = at } ∷ others) (next s) more)
first-written (elem_kinds.Variable its) at start others s more = root (elems-written (record { kind = elem_kinds.Variable its; place = at } ∷ others) (next s) more)
first-written elem_kinds.AnyIndex at start others s more = root (elems-written (record { kind = elem_kinds.AnyIndex; place = at } ∷ others) (next s) more)
first-written elem_kinds.Star at start others s more = root (elems-written (record { kind = elem_kinds.Star; place = at } ∷ others) (next s) more)

elems-path : (elems : List PathElem) (start : Place) (s : List Place) (more : List TokenKind) → AgainPath (record { elems = elems; place = start }) s more
elems-path [] start s more = root no_more_elems
elems-path (first ∷ others) start s more = first-written first.kind first.place start others s more

path-written : (path : Path) (s : List Place) (more : List TokenKind) → AgainPath path s more
path-written path s more = elems-path path.elems path.place s more

paths-written : (paths : List Path) (s : List Place) (more : List TokenKind)
    → MorePaths (placed_paths true paths s) (tokens_at s (paths_tokens true paths ++ more)) (tokens_at (after (paths_tokens true paths) s) more)
paths-written [] s more = no_more_paths
paths-written (first ∷ others) s more =
    simp (append_assoc, after_append) (more_paths (path-written first (next s) (paths_tokens true others ++ more)) (paths-written others (past_path first (next s)) more))

-- a clause that has a path
clause-written : (write : Bool) (first : Path) (others : List Path) (s : List Place) (more : List TokenKind)
    → WritesClause (placed_clause (record { write = write; paths = first ∷ others }) s)
    (tokens_at s (clause_tokens (record { write = write; paths = first ∷ others }) ++ more))
    (tokens_at (after (clause_tokens (record { write = write; paths = first ∷ others })) s) more)
clause-written write first others s more =
    simp (append_assoc, after_append) (clause (path-written first (next s) (paths_tokens true others ++ more)) (paths-written others (past_path first (next s)) more))

abbrev AgainEffects : List Clause → List Place → List TokenKind → Type 0
AgainEffects all s more = WritesEffects (placed_clauses all s) (tokens_at s (effects_tokens all ++ more)) (tokens_at (after (effects_tokens all) s) more)

one-clause : (write : Bool) (first : Path) (others : List Path) (s : List Place) (more : List TokenKind) → AgainEffects (record { write = write; paths = first ∷ others } ∷ []) s more
one-clause write first others s more =
    let its : Clause = record { write = write; paths = first ∷ others } in
    joined (λ tokens rest. WritesEffects (placed_clauses (its ∷ []) s) tokens rest) (clause_tokens its) [] more s
    (clauses (clause-written write first others s more) no_more_clauses)

two-clauses : (one : Bool) (first : Path) (others : List Path) (two : Bool) (their : Path) (their_others : List Path) (s : List Place) (more : List TokenKind)
    → AgainEffects (record { write = one; paths = first ∷ others } ∷ record { write = two; paths = their ∷ their_others } ∷ []) s more
two-clauses one first others two their their_others s more =
    let its : Clause = record { write = one; paths = first ∷ others } in
    let next_one : Clause = record { write = two; paths = their ∷ their_others } in
    joined (λ tokens rest. WritesEffects (placed_clauses (its ∷ next_one ∷ []) s) tokens rest) (clause_tokens its) (clause_tokens next_one ++ []) more s
    (clauses (clause-written one first others s ((clause_tokens next_one ++ []) ++ more))
    (joined (λ tokens rest. MoreClauses (placed_clauses (next_one ∷ []) (after (clause_tokens its) s)) tokens rest) (clause_tokens next_one) [] more (after (clause_tokens its) s)
    (more_clauses (clause-written two their their_others (after (clause_tokens its) s) more) no_more_clauses)))

effects-written : (names params : List (List ℕ)) (reads writes : List Effect) (s : List Place) (more : List TokenKind)
    → AgainEffects (clause_of names params false reads ++ clause_of names params true writes) s more
effects-written names params [] [] s more = pure
effects-written names params [] (w ∷ writes) s more = one-clause true (clause_path_of names params w) _ s more
effects-written names params (r ∷ reads) [] s more = one-clause false (clause_path_of names params r) _ s more
effects-written names params (r ∷ reads) (w ∷ writes) s more = two-clauses false (clause_path_of names params r) _ true (clause_path_of names params w) _ s more

decl-written : {in_task : Bool} {d : Decl} {tokens rest : List Token} → WritesDecl in_task d tokens rest → (new : List Clause) → ((s : List Place) (more : List TokenKind) → AgainEffects new s more)
    → (s : List Place) (more : List TokenKind)
    → WritesDecl in_task (placed_decl (record d { effects = new }) s) (tokens_at s (decl_tokens (record d { effects = new }) ++ more))
    (tokens_at (after (decl_tokens (record d { effects = new })) s) more)
decl-written (decl {name = n} {params = p} names effects body) new again s more =
    simp (append_assoc, after_append)
    (decl {name = placed_name n (next s)} (params_again names (second s) _) (again (next (after (params_tokens false p) (third s))) _)
    (block_again body (next (after (effects_tokens new) (next (after (params_tokens false p) (third s))))) more))

method-of : {d : Decl} {tokens rest : List Token} → WritesItem (items.Method d) tokens rest → WritesDecl false d tokens rest
method-of (method d) = d

-- one item, and those after it
abbrev AgainItems : List Item → List Place → Type 0
AgainItems all s = WritesItems (placed_items all s) (tokens_at s (items_tokens all))

item-written : (item : Item) {tokens rest : List Token} → WritesItem item tokens rest → (others : List Item) (names : List (List ℕ)) (summaries : List Summary) (s : List Place)
    → ((more : List Summary) (end : List Place) → AgainItems (pasted_items names more others) end) → AgainItems (pasted_items names summaries (item ∷ others)) s
item-written (items.Regions its) first others names summaries s again = more_items (item_again first s _) (again summaries (after (item_tokens (items.Regions its)) s))
item-written (items.Cell its) first others names summaries s again = more_items (item_again first s _) (again summaries (after (item_tokens (items.Cell its)) s))
item-written (items.Task deterministic its) first others names summaries s again =
    more_items (item_again first s _) (again summaries (after (item_tokens (items.Task deterministic its)) s))
item-written (items.Method its) first others names [] s again = more_items (item_again first s _) (again [] (after (decl_tokens its) s))
item-written (items.Method its) first others names (summary ∷ summaries) s again =
    let clauses_again : (end : List Place) (more : List TokenKind) → AgainEffects (clauses_of names (texts_of its.params) summary) end more =
    effects-written names (texts_of its.params) (reads_of summary.effects) (writes_of summary.effects) in
    more_items (method (decl-written (method-of first) (clauses_of names (texts_of its.params) summary) clauses_again s _))
    (again summaries (after (decl_tokens (with_clauses names summary its)) s))

-- the words of the pasted tree are tokens that write it, at all places
pub items-written : {all : List Item} {tokens : List Token} → WritesItems all tokens → (names : List (List ℕ)) (summaries : List Summary) (s : List Place)
    → WritesItems (placed_items (pasted_items names summaries all) s) (tokens_at s (items_tokens (pasted_items names summaries all)))
items-written no_more_items names summaries s = no_more_items
items-written (more_items {first = item} {others = o} first others) names summaries s =
    item-written item first o names summaries s (λ more end. items-written others names more end)
