-- Soundness of the productions of declarations.
use Rattle.std.proofs.Common.{ℕ, Bool, true, false, List, [], ◌∷◌, None, refl, subst}
use Rattle.twe_base.specs.declared.place.Place.{Place}
use Rattle.twe_ast.specs.declared.item.Decl.{Decl}
use Rattle.twe_ast.specs.declared.item.Item.{Item as Declaration}
use Rattle.twe_ast.specs.declared.item.ReturnType.{ReturnType}
use Rattle.twe_ast.specs.declared.item.ReturnType.TheVariants as returns
use Rattle.twe_ast.specs.declared.name.Name.{Name}
use Rattle.twe_lexer.specs.declared.fixed.Fixed.TheVariants as fixed
use Rattle.twe_lexer.specs.declared.token.Token.{Token}
use Rattle.twe_lexer.specs.declared.token.TokenKind.{TokenKind}
use Rattle.twe_lexer.specs.declared.token.TokenKind.TheVariants as kinds
use Rattle.twe_parser.specs.declared.symbol.Access.{Access}
use Rattle.twe_parser.specs.declared.symbol.Access.TheVariants as accesses
use Rattle.twe_parser.specs.declared.symbol.CellKind.{CellKind}
use Rattle.twe_parser.specs.declared.symbol.CellKind.TheVariants as cells
use Rattle.twe_parser.specs.declared.symbol.Nonterminal.TheVariants as nonterminals
use Rattle.twe_parser.specs.Written.{word, named, number}
use Rattle.twe_parser.specs.Writes.{no_more_names, more_names, not_written, initial, negative_initial, no_more_params, more_params, no_params, params, no_more_paths, more_paths, clause, no_more_clauses, more_clauses, pure, clauses, WritesDecl, decl, return_word, clause_word, WritesItem, regions, cell, array, grid, method, task, deterministic_task, more_items}
use Rattle.twe_parser.specs.WritesPath.{WritesCellPath, cell_name, cell_index, no_more_cell_elems, more_cell_elems, cell_root, cell_region, name, index, parameter, any_index, star, no_more_elems, more_elems, root, region}
use Rattle.twe_parser.specs.inner.Kinds.{is_write}
use Rattle.twe_parser.specs.inner.Productions.{items_production, more_regions_production, after_int_production, after_length_production, cell_path_production, cell_rest_production, cell_elem_production, initial_production, task_returns_production, params_production, more_params_production, effects_production, path_production, path_rest_production, elem_production, index_production}
use Rattle.twe_parser.specs.inner.Terminals.{terminal_of}
use Rattle.twe_parser.proofs.Meanings.{EndsCell, FollowsPath, HasEffects, Means, done, a_name, a_literal, a_token, a_nonterminal, an_action, ReadsProduction}

-- a declaration, and the declarations after it
first_of : (tokens more rest : List Token) → ((item : Declaration) × WritesItem item tokens more) → Means nonterminals.Items more rest → Means nonterminals.Items tokens rest
first_of tokens more rest (item, writes) (ends, (all, others)) = (ends, (_, more_items writes others))

task_of : (deterministic : Bool) (place : Place) (tokens rest : List Token) → Means (nonterminals.TaskReturns deterministic) tokens rest → (item : Declaration) × WritesItem item (word fixed.Task place ∷ tokens) rest
task_of deterministic place tokens rest (d, writes) = (_, task writes)

deterministic_of : (deterministic : Bool) (place word_place : Place) (tokens rest : List Token) → Means (nonterminals.TaskReturns deterministic) tokens rest
    → (item : Declaration) × WritesItem item (word fixed.Deterministic place ∷ word fixed.Task word_place ∷ tokens) rest
deterministic_of deterministic place word_place tokens rest (d, writes) = (_, deterministic_task writes)

-- the parameters, the effects and the block, from after the `(`
rest_of_decl : (in_task : Bool) (type : ReturnType) (place : Place) (found : Name) (opening : Place) (tokens more rest : List Token) → Means nonterminals.Params tokens more → HasEffects in_task more rest
    → (d : Decl) × WritesDecl in_task d (word (return_word type) place ∷ named found ∷ word fixed.OpenParen opening ∷ tokens) rest
rest_of_decl in_task type place found opening tokens more rest ps effects = (_, decl {type = type} (ps opening).1 effects.writes_effects effects.writes_body)

pub items_means : (kind : TokenKind) (place : Place) (tokens rest : List Token) → ReadsProduction (items_production (terminal_of kind)) tokens rest → Means nonterminals.Items ((record { kind = kind; place = place }) ∷ tokens) rest
items_means (kinds.Fixed fixed.Region) place tokens rest (a_name {name = first} (an_action (a_nonterminal {more = more} (names, ending, writes) (a_nonterminal others done)))) = first_of _ more rest (_, regions writes) others
items_means (kinds.Fixed fixed.Int) place tokens rest (a_name {name = found} (a_nonterminal {more = more} after (a_nonterminal others done))) = first_of _ more rest (after place found) others
items_means (kinds.Fixed fixed.Void) place tokens rest (a_name {name = found} (a_token {place = opening} {tokens = inside} (a_nonterminal {more = second} ps (a_nonterminal {more = more} effects (an_action (a_nonterminal others done)))))) =
    let d = rest_of_decl false returns.Void place found opening inside second more ps effects in first_of _ more rest (_, method d.1) others
items_means (kinds.Fixed fixed.Task) place tokens rest (a_nonterminal {more = more} returned (a_nonterminal others done)) = first_of _ more rest (task_of false place tokens more returned) others
items_means (kinds.Fixed fixed.Deterministic) place tokens rest (a_token {place = second} {tokens = inside} (a_nonterminal {more = more} returned (a_nonterminal others done))) =
    first_of _ more rest (deterministic_of true place second inside more returned) others
items_means _ place tokens rest reads = absurd reads

pub more_regions_means : (kind : TokenKind) (place : Place) (tokens rest : List Token) → ReadsProduction (more_regions_production (terminal_of kind)) tokens rest → Means nonterminals.MoreRegions ((record { kind = kind; place = place }) ∷ tokens) rest
more_regions_means (kinds.Fixed fixed.Comma) place tokens rest (a_name {name = first} (an_action (a_nonterminal (names, ending, writes) done))) = (_, ending, more_names writes)
more_regions_means (kinds.Fixed fixed.Semicolon) place tokens rest (an_action done) = (_, place, no_more_names)
more_regions_means _ place tokens rest reads = absurd reads

pub after_int_means : (kind : TokenKind) (place : Place) (tokens rest : List Token) → ReadsProduction (after_int_production (terminal_of kind)) tokens rest → Means nonterminals.AfterInt ((record { kind = kind; place = place }) ∷ tokens) rest
after_int_means (kinds.Fixed fixed.In) place tokens rest (a_nonterminal (path, more, writes, (start, ending, starts)) done) type found = (_, cell writes starts)
after_int_means (kinds.Fixed fixed.OpenBracket) place tokens rest (a_literal {value = size} {place = inside} (a_token {place = close} (a_nonterminal after done))) type found = after type found place size inside close
after_int_means (kinds.Fixed fixed.OpenParen) place tokens rest (a_nonterminal {more = more} ps (a_nonterminal effects (an_action done))) type found =
    let d = rest_of_decl false returns.Int type found place tokens more rest ps effects in (_, method d.1)
after_int_means _ place tokens rest reads type found = absurd reads

array_of : (type : Place) (found : Name) (opening : Place) (size : ℕ) (inside close here : Place) (tokens rest : List Token) → Means (nonterminals.CellPath cells.Array) tokens rest
    → (item : Declaration) × WritesItem item (word fixed.Int type ∷ named found ∷ word fixed.OpenBracket opening ∷ number size inside ∷ word fixed.CloseBracket close ∷ word fixed.In here ∷ tokens) rest
array_of type found opening size inside close here tokens rest (path, more, writes, (ending, is)) = (_, array (subst (λ (left : List Token). WritesCellPath path tokens left) is writes))

grid_of : (type : Place) (found : Name) (opening : Place) (rows : ℕ) (inside close second : Place) (columns : ℕ) (within last here : Place) (tokens rest : List Token) → Means (nonterminals.CellPath cells.Grid) tokens rest
    → (item : Declaration) × WritesItem item (word fixed.Int type ∷ named found ∷ word fixed.OpenBracket opening ∷ number rows inside ∷ word fixed.CloseBracket close
    ∷ word fixed.OpenBracket second ∷ number columns within ∷ word fixed.CloseBracket last ∷ word fixed.In here ∷ tokens) rest
grid_of type found opening rows inside close second columns within last here tokens rest (path, more, writes, (ending, is)) = (_, grid (subst (λ (left : List Token). WritesCellPath path tokens left) is writes))

pub after_length_means : (kind : TokenKind) (place : Place) (tokens rest : List Token) → ReadsProduction (after_length_production (terminal_of kind)) tokens rest → Means nonterminals.AfterLength ((record { kind = kind; place = place }) ∷ tokens) rest
after_length_means (kinds.Fixed fixed.In) place tokens rest (a_nonterminal path done) type found opening size inside close = array_of type found opening size inside close place tokens rest path
after_length_means (kinds.Fixed fixed.OpenBracket) place tokens rest (a_literal {value = columns} {place = within} (a_token {place = last} (a_token {place = here} {tokens = later} (a_nonterminal path done)))) type found opening size inside close =
    grid_of type found opening size inside close place columns within last here later rest path
after_length_means _ place tokens rest reads type found opening size inside close = absurd reads

pub cell_path_means : (cell_kind : CellKind) (kind : TokenKind) (place : Place) (tokens rest : List Token) → ReadsProduction (cell_path_production cell_kind (terminal_of kind)) tokens rest
    → Means (nonterminals.CellPath cell_kind) ((record { kind = kind; place = place }) ∷ tokens) rest
cell_path_means cell_kind (kinds.Fixed fixed.Root) place tokens rest (a_nonterminal (elems, more, writes, ends) done) = (_, more, cell_root writes, ends)
cell_path_means cell_kind (kinds.Name text) place tokens rest (an_action (a_nonterminal (elems, more, writes, ends) done)) = (_, more, cell_region writes, ends)
cell_path_means cell_kind _ place tokens rest reads = absurd reads

ends_here : (cell_kind : CellKind) (place : Place) (rest : List Token) → EndsCell cell_kind (word fixed.Semicolon place ∷ rest) rest
ends_here cells.Scalar place rest = (None, place, not_written)
ends_here cells.Array place rest = (place, refl)
ends_here cells.Grid place rest = (place, refl)

pub cell_rest_means : (cell_kind : CellKind) (kind : TokenKind) (place : Place) (tokens rest : List Token) → ReadsProduction (cell_rest_production cell_kind (terminal_of kind)) tokens rest
    → Means (nonterminals.CellRest cell_kind) ((record { kind = kind; place = place }) ∷ tokens) rest
cell_rest_means cell_kind (kinds.Fixed fixed.Colon) place tokens rest (a_nonterminal (elem, one) (a_nonterminal (elems, more, writes, ends) done)) = (_, more, more_cell_elems one writes, ends)
cell_rest_means cell_kind (kinds.Fixed fixed.Semicolon) place tokens rest (an_action done) = ([], word fixed.Semicolon place ∷ rest, no_more_cell_elems, ends_here cell_kind place rest)
cell_rest_means cells.Scalar (kinds.Fixed fixed.Assign) place tokens rest (a_nonterminal start done) = ([], word fixed.Assign place ∷ tokens, no_more_cell_elems, start place)
cell_rest_means _ _ place tokens rest reads = absurd reads

pub cell_elem_means : (kind : TokenKind) (place : Place) (tokens rest : List Token) → ReadsProduction (cell_elem_production (terminal_of kind)) tokens rest → Means nonterminals.CellElem ((record { kind = kind; place = place }) ∷ tokens) rest
cell_elem_means (kinds.Name text) place tokens rest (an_action done) = (_, cell_name)
cell_elem_means (kinds.Fixed fixed.OpenBracket) place tokens rest (a_literal (a_token (an_action done))) = (_, cell_index)
cell_elem_means _ place tokens rest reads = absurd reads

pub initial_means : (kind : TokenKind) (place : Place) (tokens rest : List Token) → ReadsProduction (initial_production (terminal_of kind)) tokens rest → Means nonterminals.Initial ((record { kind = kind; place = place }) ∷ tokens) rest
initial_means (kinds.Fixed fixed.Minus) place tokens rest (a_literal (a_token {place = ending} (an_action done))) equals = (_, ending, negative_initial)
initial_means (kinds.Literal value) place tokens rest (a_token {place = ending} (an_action done)) equals = (_, ending, initial)
initial_means _ place tokens rest reads equals = absurd reads

pub task_returns_means : (deterministic : Bool) (kind : TokenKind) (place : Place) (tokens rest : List Token) → ReadsProduction (task_returns_production deterministic (terminal_of kind)) tokens rest
    → Means (nonterminals.TaskReturns deterministic) ((record { kind = kind; place = place }) ∷ tokens) rest
task_returns_means deterministic (kinds.Fixed fixed.Int) place tokens rest (a_name {name = found} (a_token {place = opening} {tokens = inside} (a_nonterminal {more = more} ps (a_nonterminal effects (an_action done))))) =
    rest_of_decl true returns.Int place found opening inside more rest ps effects
task_returns_means deterministic (kinds.Fixed fixed.Void) place tokens rest (a_name {name = found} (a_token {place = opening} {tokens = inside} (a_nonterminal {more = more} ps (a_nonterminal effects (an_action done))))) =
    rest_of_decl true returns.Void place found opening inside more rest ps effects
task_returns_means deterministic _ place tokens rest reads = absurd reads

pub params_means : (kind : TokenKind) (place : Place) (tokens rest : List Token) → ReadsProduction (params_production (terminal_of kind)) tokens rest → Means nonterminals.Params ((record { kind = kind; place = place }) ∷ tokens) rest
params_means (kinds.Fixed fixed.CloseParen) place tokens rest done opening = (_, no_params)
params_means (kinds.Fixed fixed.Int) place tokens rest (a_name (an_action (a_nonterminal (names, close, writes) done))) opening = (_, params writes)
params_means _ place tokens rest reads opening = absurd reads

pub more_params_means : (kind : TokenKind) (place : Place) (tokens rest : List Token) → ReadsProduction (more_params_production (terminal_of kind)) tokens rest → Means nonterminals.MoreParams ((record { kind = kind; place = place }) ∷ tokens) rest
more_params_means (kinds.Fixed fixed.CloseParen) place tokens rest done = (_, place, no_more_params)
more_params_means (kinds.Fixed fixed.Comma) place tokens rest (a_token (a_name (an_action (a_nonterminal (names, close, writes) done)))) = (_, close, more_params writes)
more_params_means _ place tokens rest reads = absurd reads

-- a clause, and what follows it
clause_then : (in_task : Bool) (access : Access) (place : Place) (tokens rest : List Token) → Means (nonterminals.Path in_task access) tokens rest → HasEffects in_task (word (clause_word (is_write access)) place ∷ tokens) rest
clause_then in_task access place tokens rest (path, more, writes, follows) = record {
  effects = _;
  brace = follows.brace;
  inside = follows.inside;
  writes_effects = clauses (clause {write = is_write access} writes follows.writes_paths) follows.writes_clauses;
  body = follows.body;
  writes_body = follows.writes_body;
}

pub effects_means : (in_task : Bool) (kind : TokenKind) (place : Place) (tokens rest : List Token) → ReadsProduction (effects_production in_task (terminal_of kind)) tokens rest
    → Means (nonterminals.Effects in_task) ((record { kind = kind; place = place }) ∷ tokens) rest
effects_means in_task (kinds.Fixed fixed.Pure) place tokens rest (a_token {place = brace} {tokens = inside} (an_action (a_nonterminal (body, writes) done))) =
    record { effects = []; brace = brace; inside = inside; writes_effects = pure; body = body; writes_body = writes }
effects_means in_task (kinds.Fixed fixed.Reads) place tokens rest (a_nonterminal path done) = clause_then in_task accesses.Reads place tokens rest path
effects_means in_task (kinds.Fixed fixed.Writes) place tokens rest (a_nonterminal path done) = clause_then in_task accesses.Writes place tokens rest path
effects_means in_task _ place tokens rest reads = absurd reads

pub path_means : (in_task : Bool) (access : Access) (kind : TokenKind) (place : Place) (tokens rest : List Token) → ReadsProduction (path_production in_task access (terminal_of kind)) tokens rest
    → Means (nonterminals.Path in_task access) ((record { kind = kind; place = place }) ∷ tokens) rest
path_means in_task access (kinds.Fixed fixed.Root) place tokens rest (a_nonterminal (elems, more, writes, follows) done) = (_, more, root writes, follows)
path_means in_task access (kinds.Name text) place tokens rest (an_action (a_nonterminal (elems, more, writes, follows) done)) = (_, more, region writes, follows)
path_means in_task access _ place tokens rest reads = absurd reads

-- a path ends, and another path or another clause follows
another_path : (in_task : Bool) (access : Access) (place : Place) (tokens rest : List Token) → Means (nonterminals.Path in_task access) tokens rest → FollowsPath in_task (word fixed.Comma place ∷ tokens) rest
another_path in_task access place tokens rest (path, more, writes, follows) = record {
  paths = _;
  after_paths = follows.after_paths;
  writes_paths = more_paths writes follows.writes_paths;
  clauses = follows.clauses;
  brace = follows.brace;
  inside = follows.inside;
  writes_clauses = follows.writes_clauses;
  body = follows.body;
  writes_body = follows.writes_body;
}

another_clause : (in_task : Bool) (access : Access) (place : Place) (tokens rest : List Token) → Means (nonterminals.Path in_task access) tokens rest → FollowsPath in_task (word (clause_word (is_write access)) place ∷ tokens) rest
another_clause in_task access place tokens rest (path, more, writes, follows) = record {
  paths = [];
  after_paths = word (clause_word (is_write access)) place ∷ tokens;
  writes_paths = no_more_paths;
  clauses = _;
  brace = follows.brace;
  inside = follows.inside;
  writes_clauses = more_clauses (clause {write = is_write access} writes follows.writes_paths) follows.writes_clauses;
  body = follows.body;
  writes_body = follows.writes_body;
}

pub path_rest_means : (in_task : Bool) (access : Access) (kind : TokenKind) (place : Place) (tokens rest : List Token) → ReadsProduction (path_rest_production in_task access (terminal_of kind)) tokens rest
    → Means (nonterminals.PathRest in_task access) ((record { kind = kind; place = place }) ∷ tokens) rest
path_rest_means in_task access (kinds.Fixed fixed.Colon) place tokens rest (a_nonterminal (elem, one) (a_nonterminal (elems, more, writes, follows) done)) = (_, more, more_elems one writes, follows)
path_rest_means in_task access (kinds.Fixed fixed.Comma) place tokens rest (an_action (a_nonterminal path done)) = ([], word fixed.Comma place ∷ tokens, no_more_elems, another_path in_task access place tokens rest path)
path_rest_means in_task access (kinds.Fixed fixed.Reads) place tokens rest (an_action (an_action (a_nonterminal path done))) = ([], word fixed.Reads place ∷ tokens, no_more_elems, another_clause in_task accesses.Reads place tokens rest path)
path_rest_means in_task access (kinds.Fixed fixed.Writes) place tokens rest (an_action (an_action (a_nonterminal path done))) = ([], word fixed.Writes place ∷ tokens, no_more_elems, another_clause in_task accesses.Writes place tokens rest path)
path_rest_means in_task access (kinds.Fixed fixed.OpenBrace) place tokens rest (an_action (an_action (an_action (a_nonterminal (body, writes) done)))) =
    ([], word fixed.OpenBrace place ∷ tokens, no_more_elems, record { paths = []; after_paths = word fixed.OpenBrace place ∷ tokens; writes_paths = no_more_paths; clauses = []; brace = place; inside = tokens; writes_clauses = no_more_clauses; body = body; writes_body = writes })
path_rest_means in_task access _ place tokens rest reads = absurd reads

pub elem_means : (kind : TokenKind) (place : Place) (tokens rest : List Token) → ReadsProduction (elem_production (terminal_of kind)) tokens rest → Means nonterminals.Elem ((record { kind = kind; place = place }) ∷ tokens) rest
elem_means (kinds.Name text) place tokens rest (an_action done) = (_, name)
elem_means (kinds.Fixed fixed.OpenBracket) place tokens rest (a_nonterminal inside done) = inside place
elem_means (kinds.Fixed fixed.Star) place tokens rest (an_action done) = (_, star)
elem_means _ place tokens rest reads = absurd reads

pub index_means : (kind : TokenKind) (place : Place) (tokens rest : List Token) → ReadsProduction (index_production (terminal_of kind)) tokens rest → Means nonterminals.Index ((record { kind = kind; place = place }) ∷ tokens) rest
index_means (kinds.Literal value) inside tokens rest (a_token (an_action done)) place = (_, index)
index_means (kinds.Name text) inside tokens rest (a_token (an_action done)) place = (_, parameter {name = record { text = text; place = inside }})
index_means (kinds.Fixed fixed.Question) inside tokens rest (a_token (an_action done)) place = (_, any_index)
index_means _ inside tokens rest reads place = absurd reads
