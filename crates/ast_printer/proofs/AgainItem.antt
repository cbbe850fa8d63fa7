-- The words of declarations are tokens that write them again.
use Rattle.std.proofs.Common.{◌≡◌, ℕ, suc, zero, Bool, true, false, List, [], ◌∷◌, ◌++◌, Option, Some, nat_le, refl, sym, ap, subst, append_assoc, arith}
use Rattle.std.specs.Prelude.{if◌then◌else◌, ℤ, pos, negsuc, unsigned_abs}
use Rattle.twe_base.specs.declared.place.Place.{Place}
use Rattle.twe_ast.specs.declared.item.Clause.{Clause}
use Rattle.twe_ast.specs.declared.item.Decl.{Decl}
use Rattle.twe_ast.specs.declared.item.Initial.{Initial}
use Rattle.twe_ast.specs.declared.item.Item.{Item}
use Rattle.twe_ast.specs.declared.item.Item.TheVariants as items
use Rattle.twe_ast.specs.declared.name.Name.{Name}
use Rattle.twe_ast.specs.declared.path.CellElem.{CellElem}
use Rattle.twe_ast.specs.declared.path.CellPath.{CellPath}
use Rattle.twe_ast.specs.declared.path.Path.{Path}
use Rattle.twe_ast.specs.declared.path.PathElem.{PathElem}
use Rattle.twe_lexer.specs.declared.fixed.Fixed.TheVariants as fixed
use Rattle.twe_lexer.specs.declared.token.Token.{Token}
use Rattle.twe_lexer.specs.declared.token.TokenKind.{TokenKind}
use Rattle.twe_lexer.specs.declared.token.TokenKind.TheVariants as kinds
use Rattle.twe_parser.specs.Values.{literal_value_of, negative_of}
use Rattle.twe_parser.specs.Written.{word, named, number}
use Rattle.twe_parser.specs.WritesPath.{WritesCellElem, cell_name, cell_index, MoreCellElems, no_more_cell_elems, more_cell_elems, WritesCellPath, cell_root, cell_region, WritesElem, name, index, parameter, any_index, star, MoreElems, no_more_elems, more_elems, WritesPath, root, region}
use Rattle.twe_parser.specs.Writes.{MoreNames, no_more_names, more_names, WritesInitial, not_written, initial, negative_initial, MoreParams, no_more_params, more_params, WritesParams, no_params, params, MorePaths, no_more_paths, more_paths, WritesClause, clause, MoreClauses, no_more_clauses, more_clauses, WritesEffects, pure, clauses, WritesDecl, decl, WritesItem, regions, cell, array, grid, method, task, deterministic_task, WritesItems, no_more_items, more_items}
use Rattle.ast_printer.specs.Text.{when}
use Rattle.ast_printer.specs.PathTokens.{elem_tokens, elems_tokens, needs_root, cell_elem_tokens, cell_elems_tokens, cell_needs_root}
use Rattle.ast_printer.specs.ItemTokens.{names_tokens, initial_tokens, params_tokens, paths_tokens, clause_tokens, clauses_tokens, effects_tokens, decl_tokens, item_tokens, items_tokens}
use Rattle.ast_printer.proofs.Supply.{here, next, tokens_at, after, after_append, placed_name}
use Rattle.ast_printer.proofs.PlacedStatement.{second, third}
use Rattle.ast_printer.proofs.AgainStatement.{block_again}
use Rattle.ast_printer.proofs.PlacedItem.{placed_elem, placed_elems, placed_path, placed_cell_elem, placed_cell_elems, placed_cell_path, placed_names, placed_params, placed_paths, placed_clause, placed_clauses, placed_decl, placed_item, placed_items}

-- Two parts that are written one after the other.
pub joined : (W : List Token → List Token → Type 0) (one two more : List TokenKind) (s : List Place) → W (tokens_at s (one ++ (two ++ more))) (tokens_at (after two (after one s)) more)
    → W (tokens_at s ((one ++ two) ++ more)) (tokens_at (after (one ++ two) s) more)
joined W one two more s writes =
    subst (λ (words : List TokenKind). W (tokens_at s words) (tokens_at (after (one ++ two) s) more)) (sym (append_assoc one two more))
    (subst (λ (end : List Place). W (tokens_at s (one ++ (two ++ more))) (tokens_at end more)) (sym (after_append one two s)) writes)

-- the places after a path
abbrev pub past_path : Path → List Place → List Place
past_path path s = after (elems_tokens (needs_root path.elems) path.elems) (after (when (needs_root path.elems) fixed.Root) s)

abbrev past_cell_path : CellPath → List Place → List Place
past_cell_path path s = after (cell_elems_tokens (cell_needs_root path.elems) path.elems) (after (when (cell_needs_root path.elems) fixed.Root) s)

-- the paths are written again; their `Root` and their elements are taken one by one
abbrev pub AgainPath : Path → List Place → List TokenKind → Type 0
AgainPath path s more =
    WritesPath (placed_path path s) (tokens_at s (when (needs_root path.elems) fixed.Root ++ (elems_tokens (needs_root path.elems) path.elems ++ more)))
    (tokens_at (past_path path s) more)

abbrev AgainCellPath : CellPath → List Place → List TokenKind → Type 0
AgainCellPath path s more =
    WritesCellPath (placed_cell_path path s) (tokens_at s (when (cell_needs_root path.elems) fixed.Root ++ (cell_elems_tokens (cell_needs_root path.elems) path.elems ++ more)))
    (tokens_at (past_cell_path path s) more)

elem_again : {elem : PathElem} {tokens rest : List Token} → WritesElem elem tokens rest → (s : List Place) (more : List TokenKind)
    → WritesElem (placed_elem elem s) (tokens_at s (elem_tokens elem.kind ++ more)) (tokens_at (after (elem_tokens elem.kind) s) more)
elem_again (name {name = n}) s more = name {name = placed_name n s}
elem_again index s more = index
elem_again (parameter {name = n}) s more = parameter {name = placed_name n (next s)}
elem_again any_index s more = any_index
elem_again star s more = star

elems_again : {elems : List PathElem} {tokens rest : List Token} → MoreElems elems tokens rest → (s : List Place) (more : List TokenKind)
    → MoreElems (placed_elems true elems s) (tokens_at s (elems_tokens true elems ++ more)) (tokens_at (after (elems_tokens true elems) s) more)
elems_again no_more_elems s more = no_more_elems
elems_again (more_elems {first = f} {others = o} first others) s more =
    simp (append_assoc, after_append) (more_elems (elem_again first (next s) (elems_tokens true o ++ more)) (elems_again others (after (elem_tokens f.kind) (next s)) more))

-- a path that is written with `Root`: it is written again with it, or without
root_again : {elems : List PathElem} {tokens rest : List Token} → MoreElems elems tokens rest → (place : Place) (s : List Place) (more : List TokenKind)
    → MoreElems (placed_elems true elems (next s)) (tokens_at (next s) (elems_tokens true elems ++ more)) (tokens_at (after (elems_tokens true elems) (next s)) more)
    → AgainPath (record { elems = elems; place = place }) s more
root_again no_more_elems place s more again = root again
root_again (more_elems (name {name = n}) others) place s more again = region {name = placed_name n s} (elems_again others (next s) more)
root_again (more_elems index others) place s more again = root again
root_again (more_elems parameter others) place s more again = root again
root_again (more_elems any_index others) place s more again = root again
root_again (more_elems star others) place s more again = root again

path_again : {path : Path} {tokens rest : List Token} → WritesPath path tokens rest → (s : List Place) (more : List TokenKind) → AgainPath path s more
path_again (root {place = place} elems) s more = root_again elems place s more (elems_again elems (next s) more)
path_again (region {name = n} others) s more = region {name = placed_name n s} (elems_again others (next s) more)

cell_elem_again : {elem : CellElem} {tokens rest : List Token} → WritesCellElem elem tokens rest → (s : List Place) (more : List TokenKind)
    → WritesCellElem (placed_cell_elem elem s) (tokens_at s (cell_elem_tokens elem.kind ++ more)) (tokens_at (after (cell_elem_tokens elem.kind) s) more)
cell_elem_again (cell_name {name = n}) s more = cell_name {name = placed_name n s}
cell_elem_again cell_index s more = cell_index

cell_elems_again : {elems : List CellElem} {tokens rest : List Token} → MoreCellElems elems tokens rest → (s : List Place) (more : List TokenKind)
    → MoreCellElems (placed_cell_elems true elems s) (tokens_at s (cell_elems_tokens true elems ++ more)) (tokens_at (after (cell_elems_tokens true elems) s) more)
cell_elems_again no_more_cell_elems s more = no_more_cell_elems
cell_elems_again (more_cell_elems {first = f} {others = o} first others) s more =
    simp (append_assoc, after_append) (more_cell_elems (cell_elem_again first (next s) (cell_elems_tokens true o ++ more)) (cell_elems_again others (after (cell_elem_tokens f.kind) (next s)) more))

cell_root_again : {elems : List CellElem} {tokens rest : List Token} → MoreCellElems elems tokens rest → (place : Place) (s : List Place) (more : List TokenKind)
    → MoreCellElems (placed_cell_elems true elems (next s)) (tokens_at (next s) (cell_elems_tokens true elems ++ more)) (tokens_at (after (cell_elems_tokens true elems) (next s)) more)
    → AgainCellPath (record { elems = elems; place = place }) s more
cell_root_again no_more_cell_elems place s more again = cell_root again
cell_root_again (more_cell_elems (cell_name {name = n}) others) place s more again = cell_region {name = placed_name n s} (cell_elems_again others (next s) more)
cell_root_again (more_cell_elems cell_index others) place s more again = cell_root again

cell_path_again : {path : CellPath} {tokens rest : List Token} → WritesCellPath path tokens rest → (s : List Place) (more : List TokenKind) → AgainCellPath path s more
cell_path_again (cell_root {place = place} elems) s more = cell_root_again elems place s more (cell_elems_again elems (next s) more)
cell_path_again (cell_region {name = n} others) s more = cell_region {name = placed_name n s} (cell_elems_again others (next s) more)

names_again : {names : List Name} {tokens rest : List Token} → MoreNames names tokens rest → (s : List Place) (more : List TokenKind)
    → MoreNames (placed_names true names s) (tokens_at s (names_tokens true names ++ more)) (tokens_at (after (names_tokens true names) s) more)
names_again no_more_names s more = no_more_names
names_again (more_names {first = f} others) s more = more_names {first = placed_name f (next s)} (names_again others (second s) more)

-- a value that is read again
value_again : (value : ℕ) (test : Bool) → nat_le value 2147483647 ≡ test → literal_value_of (unsigned_abs (if test then pos value else negsuc 2147483647)) ≡ (if test then pos value else negsuc 2147483647)
value_again value true is = ap (λ b. if b then pos value else negsuc 2147483647) is
value_again value false is = refl

negative_again : (value : ℕ) → negative_of (unsigned_abs (negative_of value)) ≡ negative_of value
negative_again zero = refl
negative_again (suc n) = ap negsuc (omega arith)

initial_again : {start : Option Initial} {tokens rest : List Token} → WritesInitial start tokens rest → (s : List Place) (more : List TokenKind)
    → WritesInitial start (tokens_at s (initial_tokens start ++ more)) (tokens_at (after (initial_tokens start) s) more)
initial_again not_written s more = not_written
initial_again (initial {value = v}) s more =
    subst (λ (n : ℤ). WritesInitial (Some (record { minus = false; value = n })) (word fixed.Assign (here s) ∷ number (unsigned_abs (literal_value_of v)) (here (next s)) ∷ tokens_at (second s) more) (tokens_at (second s) more))
    (value_again v (nat_le v 2147483647) refl) initial
initial_again (negative_initial {value = v}) s more =
    subst (λ (n : ℤ). WritesInitial (Some (record { minus = true; value = n }))
    (word fixed.Assign (here s) ∷ word fixed.Minus (here (next s)) ∷ number (unsigned_abs (negative_of v)) (here (second s)) ∷ tokens_at (third s) more) (tokens_at (third s) more))
    (negative_again v) negative_initial

more_params_again : {names : List Name} {tokens rest : List Token} → MoreParams names tokens rest → (s : List Place) (more : List TokenKind)
    → MoreParams (placed_params true names s) (tokens_at s (params_tokens true names ++ more)) (tokens_at (after (params_tokens true names) s) more)
more_params_again no_more_params s more = no_more_params
more_params_again (more_params {first = f} others) s more = more_params {first = placed_name f (second s)} (more_params_again others (third s) more)

pub params_again : {names : List Name} {tokens rest : List Token} → WritesParams names tokens rest → (s : List Place) (more : List TokenKind)
    → WritesParams (placed_params false names (next s)) (tokens_at s (kinds.Fixed fixed.OpenParen ∷ (params_tokens false names ++ kinds.Fixed fixed.CloseParen ∷ more)))
    (tokens_at (next (after (params_tokens false names) (next s))) more)
params_again no_params s more = no_params
params_again (params {first = f} others) s more = params {first = placed_name f (second s)} (more_params_again others (third s) (kinds.Fixed fixed.CloseParen ∷ more))

paths_again : {paths : List Path} {tokens rest : List Token} → MorePaths paths tokens rest → (s : List Place) (more : List TokenKind)
    → MorePaths (placed_paths true paths s) (tokens_at s (paths_tokens true paths ++ more)) (tokens_at (after (paths_tokens true paths) s) more)
paths_again no_more_paths s more = no_more_paths
paths_again (more_paths {first = f} {others = o} first others) s more =
    simp (append_assoc, after_append) (more_paths (path_again first (next s) (paths_tokens true o ++ more)) (paths_again others (past_path f (next s)) more))

clause_again : {c : Clause} {tokens rest : List Token} → WritesClause c tokens rest → (s : List Place) (more : List TokenKind)
    → WritesClause (placed_clause c s) (tokens_at s (clause_tokens c ++ more)) (tokens_at (after (clause_tokens c) s) more)
clause_again (clause {first = f} {others = o} first others) s more =
    simp (append_assoc, after_append) (clause (path_again first (next s) (paths_tokens true o ++ more)) (paths_again others (past_path f (next s)) more))

clauses_again : {cs : List Clause} {tokens rest : List Token} → MoreClauses cs tokens rest → (s : List Place) (more : List TokenKind)
    → MoreClauses (placed_clauses cs s) (tokens_at s (clauses_tokens cs ++ more)) (tokens_at (after (clauses_tokens cs) s) more)
clauses_again no_more_clauses s more = no_more_clauses
clauses_again (more_clauses {first = f} {others = o} first others) s more =
    joined (λ tokens rest. MoreClauses (placed_clauses (f ∷ o) s) tokens rest) (clause_tokens f) (clauses_tokens o) more s
    (more_clauses (clause_again first s (clauses_tokens o ++ more)) (clauses_again others (after (clause_tokens f) s) more))

effects_again : {cs : List Clause} {tokens rest : List Token} → WritesEffects cs tokens rest → (s : List Place) (more : List TokenKind)
    → WritesEffects (placed_clauses cs s) (tokens_at s (effects_tokens cs ++ more)) (tokens_at (after (effects_tokens cs) s) more)
effects_again pure s more = pure
effects_again (clauses {first = f} {others = o} first others) s more =
    joined (λ tokens rest. WritesEffects (placed_clauses (f ∷ o) s) tokens rest) (clause_tokens f) (clauses_tokens o) more s
    (clauses (clause_again first s (clauses_tokens o ++ more)) (clauses_again others (after (clause_tokens f) s) more))

decl_again : {in_task : Bool} {d : Decl} {tokens rest : List Token} → WritesDecl in_task d tokens rest → (s : List Place) (more : List TokenKind)
    → WritesDecl in_task (placed_decl d s) (tokens_at s (decl_tokens d ++ more)) (tokens_at (after (decl_tokens d) s) more)
decl_again (decl {name = n} {params = p} {effects = e} names effects body) s more =
    simp (append_assoc, after_append)
    (decl {name = placed_name n (next s)} (params_again names (second s) _) (effects_again effects (next (after (params_tokens false p) (third s))) _)
    (block_again body (next (after (effects_tokens e) (next (after (params_tokens false p) (third s))))) more))

pub item_again : {item : Item} {tokens rest : List Token} → WritesItem item tokens rest → (s : List Place) (more : List TokenKind)
    → WritesItem (placed_item item s) (tokens_at s (item_tokens item ++ more)) (tokens_at (after (item_tokens item) s) more)
item_again (regions {first = f} {others = o} names) s more =
    joined (λ tokens rest. WritesItem (placed_item (items.Regions (f ∷ o)) s) (word fixed.Region (here s) ∷ named (placed_name f (next s)) ∷ tokens) rest) (names_tokens true o) (kinds.Fixed fixed.Semicolon ∷ []) more (second s)
    (regions {first = placed_name f (next s)} (names_again names (second s) (kinds.Fixed fixed.Semicolon ∷ more)))
item_again (cell {name = n} {path = p} path start) s more =
    simp (append_assoc, after_append)
    (cell {name = placed_name n (next s)} (cell_path_again path (third s) _) (initial_again start (past_cell_path p (third s)) (kinds.Fixed fixed.Semicolon ∷ more)))
item_again (array {name = n} path) s more =
    simp (append_assoc, after_append) (array {name = placed_name n (next s)} (cell_path_again path (third (third s)) (kinds.Fixed fixed.Semicolon ∷ more)))
item_again (grid {name = n} path) s more =
    simp (append_assoc, after_append) (grid {name = placed_name n (next s)} (cell_path_again path (third (third (third s))) (kinds.Fixed fixed.Semicolon ∷ more)))
item_again (method d) s more = method (decl_again d s more)
item_again (task d) s more = task (decl_again d (next s) more)
item_again (deterministic_task d) s more = deterministic_task (decl_again d (second s) more)

-- the words of a program are tokens that write it again, at all places
pub items_again : {all : List Item} {tokens : List Token} → WritesItems all tokens → (s : List Place) → WritesItems (placed_items all s) (tokens_at s (items_tokens all))
items_again no_more_items s = no_more_items
items_again (more_items {first = f} {others = o} first others) s = more_items (item_again first s (items_tokens o)) (items_again others (after (item_tokens f) s))
