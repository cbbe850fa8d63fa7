-- Completeness: the machine takes the tokens of every path and of all effects.
use Rattle.std.proofs.Common.{◌≡◌, Bool, true, false, List, [], ◌∷◌, ◌++◌, Option, refl, sym, ap, ◌∙◌, append_assoc, append-nil}
use Rattle.twe_base.specs.declared.place.Place.{Place}
use Rattle.twe_ast.specs.declared.item.Clause.{Clause}
use Rattle.twe_ast.specs.declared.path.CellElem.{CellElem}
use Rattle.twe_ast.specs.declared.path.CellPath.{CellPath}
use Rattle.twe_ast.specs.declared.path.Path.{Path}
use Rattle.twe_ast.specs.declared.path.PathElem.{PathElem}
use Rattle.twe_ast.specs.declared.path.PathElemKind.TheVariants as elem_kinds
use Rattle.twe_ast.specs.declared.path.CellElemKind.TheVariants as cell_kinds
use Rattle.twe_lexer.specs.declared.fixed.Fixed.TheVariants as fixed
use Rattle.twe_lexer.specs.declared.token.Token.{Token}
use Rattle.twe_parser.specs.declared.symbol.Access.{Access}
use Rattle.twe_parser.specs.declared.symbol.Access.TheVariants as accesses
use Rattle.twe_parser.specs.declared.symbol.Action.TheVariants.{Item, Stmt}
use Rattle.twe_parser.specs.declared.symbol.CellKind.{CellKind}
use Rattle.twe_parser.specs.declared.symbol.ItemAction.TheVariants as actions
use Rattle.twe_parser.specs.declared.symbol.Nonterminal.TheVariants as nonterminals
use Rattle.twe_parser.specs.declared.symbol.StmtAction.TheVariants as stmts
use Rattle.twe_parser.specs.declared.symbol.Symbol.{Symbol}
use Rattle.twe_parser.specs.declared.symbol.Symbol.TheVariants.{Expand, Perform}
use Rattle.twe_parser.specs.declared.value_stacks.ValueStacks.{ValueStacks}
use Rattle.twe_parser.specs.Written.{word, named}
use Rattle.twe_parser.specs.Writes.{MorePaths, no_more_paths, more_paths, WritesClause, clause, MoreClauses, no_more_clauses, more_clauses, WritesEffects, pure, clauses}
use Rattle.twe_parser.specs.WritesPath.{WritesCellElem, cell_name, cell_index, MoreCellElems, no_more_cell_elems, more_cell_elems, WritesCellPath, cell_root, cell_region, WritesElem, name, index, parameter, any_index, star, MoreElems, no_more_elems, more_elems, WritesPath, root, region}
use Rattle.twe_parser.specs.inner.Kinds.{is_write}
use Rattle.twe_parser.specs.inner.Actions.{performed}
use Rattle.twe_parser.specs.inner.Machine.{result_from}
use Rattle.twe_base.specs.Stacks.{below}
use Rattle.twe_parser.specs.inner.ValueStacks.{kept}
use Rattle.twe_parser.proofs.Steps.{do_now}

abbrev with_cell_elems : List CellElem → ValueStacks → ValueStacks
with_cell_elems elems values = record values { cell_elems = elems }

cell_elem_taken : {elem : CellElem} {tokens rest : List Token} → WritesCellElem elem tokens rest → (done : List CellElem) (stack : List Symbol) (values : ValueStacks)
    → result_from tokens (Expand nonterminals.CellElem ∷ stack) (with_cell_elems done values) ≡ result_from rest stack (with_cell_elems (done ++ elem ∷ []) values)
cell_elem_taken {rest = rest} cell_name done stack values = do_now (Item actions.CellElemName) rest stack _
cell_elem_taken {rest = rest} cell_index done stack values = do_now (Item actions.CellElemIndex) rest stack _

more_cell_elems_taken : (kind : CellKind) {elems : List CellElem} {tokens rest : List Token} → MoreCellElems elems tokens rest → (done : List CellElem) (stack : List Symbol) (values : ValueStacks)
    → result_from tokens (Expand (nonterminals.CellRest kind) ∷ stack) (with_cell_elems done values) ≡ result_from rest (Expand (nonterminals.CellRest kind) ∷ stack) (with_cell_elems (done ++ elems) values)
more_cell_elems_taken kind {rest = rest} no_more_cell_elems done stack values = ap (λ all. result_from rest (Expand (nonterminals.CellRest kind) ∷ stack) (with_cell_elems all values)) (sym (append-nil done))
more_cell_elems_taken kind {rest = rest} (more_cell_elems {first = first} {others = others} one more) done stack values =
    cell_elem_taken one done (Expand (nonterminals.CellRest kind) ∷ stack) values
    ∙ more_cell_elems_taken kind more (done ++ first ∷ []) stack values
    ∙ ap (λ all. result_from rest (Expand (nonterminals.CellRest kind) ∷ stack) (with_cell_elems all values)) (append_assoc done (first ∷ []) others)

-- the path of a cell, whose place is kept
pub cell_path_taken : (kind : CellKind) {path : CellPath} {tokens rest : List Token} → WritesCellPath path tokens rest → (stack : List Symbol) (values : ValueStacks)
    → result_from tokens (Expand (nonterminals.CellPath kind) ∷ stack) (with_cell_elems [] values) ≡ result_from rest (Expand (nonterminals.CellRest kind) ∷ stack) (record values { cell_elems = path.elems; places = path.place ∷ values.places })
cell_path_taken kind (cell_root {place = place} more) stack values = more_cell_elems_taken kind more [] stack (kept (word fixed.Root place) true values)
cell_path_taken kind (cell_region {name = found} {others = others} more) stack values =
    do_now (Item actions.CellElemName) others (Expand (nonterminals.CellRest kind) ∷ stack) (kept (named found) true (with_cell_elems [] values))
    ∙ more_cell_elems_taken kind more ((record { kind = cell_kinds.Name found.text; place = found.place }) ∷ []) stack (record values { places = found.place ∷ values.places })

abbrev with_elems : List PathElem → ValueStacks → ValueStacks
with_elems elems values = record values { elems = elems }

elem_taken : {elem : PathElem} {tokens rest : List Token} → WritesElem elem tokens rest → (done : List PathElem) (stack : List Symbol) (values : ValueStacks)
    → result_from tokens (Expand nonterminals.Elem ∷ stack) (with_elems done values) ≡ result_from rest stack (with_elems (done ++ elem ∷ []) values)
elem_taken {rest = rest} name done stack values = do_now (Item actions.ElemName) rest stack _
elem_taken {rest = rest} index done stack values = do_now (Item actions.ElemIndex) rest stack _
elem_taken {rest = rest} parameter done stack values = do_now (Item actions.ElemVariable) rest stack _
elem_taken {rest = rest} any_index done stack values = do_now (Item actions.ElemAny) rest stack _
elem_taken {rest = rest} star done stack values = do_now (Item actions.ElemStar) rest stack _

more_elems_taken : (in_task : Bool) (access : Access) {elems : List PathElem} {tokens rest : List Token} → MoreElems elems tokens rest → (done : List PathElem) (stack : List Symbol) (values : ValueStacks)
    → result_from tokens (Expand (nonterminals.PathRest in_task access) ∷ stack) (with_elems done values) ≡ result_from rest (Expand (nonterminals.PathRest in_task access) ∷ stack) (with_elems (done ++ elems) values)
more_elems_taken in_task access {rest = rest} no_more_elems done stack values = ap (λ all. result_from rest (Expand (nonterminals.PathRest in_task access) ∷ stack) (with_elems all values)) (sym (append-nil done))
more_elems_taken in_task access {rest = rest} (more_elems {first = first} {others = others} one more) done stack values =
    elem_taken one done (Expand (nonterminals.PathRest in_task access) ∷ stack) values
    ∙ more_elems_taken in_task access more (done ++ first ∷ []) stack values
    ∙ ap (λ all. result_from rest (Expand (nonterminals.PathRest in_task access) ∷ stack) (with_elems all values)) (append_assoc done (first ∷ []) others)

-- a path is open, and its place is kept
abbrev with_path : Path → ValueStacks → ValueStacks
with_path path values = record values { elems = path.elems; places = path.place ∷ values.places }

path_taken : (in_task : Bool) (access : Access) {path : Path} {tokens rest : List Token} → WritesPath path tokens rest → (stack : List Symbol) (values : ValueStacks)
    → result_from tokens (Expand (nonterminals.Path in_task access) ∷ stack) (with_elems [] values) ≡ result_from rest (Expand (nonterminals.PathRest in_task access) ∷ stack) (with_path path values)
path_taken in_task access (root {place = place} more) stack values = more_elems_taken in_task access more [] stack (kept (word fixed.Root place) true values)
path_taken in_task access (region {name = found} {others = others} more) stack values =
    do_now (Item actions.ElemName) others (Expand (nonterminals.PathRest in_task access) ∷ stack) (kept (named found) true (with_elems [] values))
    ∙ more_elems_taken in_task access more ((record { kind = elem_kinds.Name found.text; place = found.place }) ∷ []) stack (record values { places = found.place ∷ values.places })

-- The last path of a clause is kept when the next token shows that it ends. The result depends only on the values after
-- that.
abbrev EndsPath : Bool → Access → List Token → List Symbol → (ValueStacks → Option ValueStacks) → Type 0
EndsPath in_task access rest stack continuation = (values : ValueStacks) → result_from rest (Expand (nonterminals.PathRest in_task access) ∷ stack) values ≡ continuation (performed (Item actions.KeepPath) values)

abbrev with_paths : List Path → ValueStacks → ValueStacks
with_paths paths values = record values { paths = paths; elems = [] }

more_paths_taken : (in_task : Bool) (access : Access) {others : List Path} {tokens rest : List Token} → MorePaths others tokens rest → (first : Path) (done : List Path) (stack : List Symbol) (values : ValueStacks) (continuation : ValueStacks → Option ValueStacks)
    → EndsPath in_task access rest stack continuation
    → result_from tokens (Expand (nonterminals.PathRest in_task access) ∷ stack) (with_path first (with_paths done values)) ≡ continuation (with_paths (done ++ first ∷ others) values)
more_paths_taken in_task access no_more_paths first done stack values continuation ends = ends (with_path first (with_paths done values))
more_paths_taken in_task access (more_paths {first = next} {others = others} {tokens = tokens} one more) first done stack values continuation ends =
    do_now (Item actions.KeepPath) tokens (Expand (nonterminals.Path in_task access) ∷ stack) (with_path first (with_paths done values))
    ∙ path_taken in_task access one stack (with_paths (done ++ first ∷ []) values)
    ∙ more_paths_taken in_task access more next (done ++ first ∷ []) stack values continuation ends
    ∙ ap (λ all. continuation (with_paths all values)) (append_assoc done (first ∷ []) (next ∷ others))

-- what a clause of the tree declares
abbrev access_of : Bool → Access
access_of true = accesses.Writes
access_of false = accesses.Reads

-- a clause, from after its word
clause_taken : (in_task : Bool) {c : Clause} {tokens rest : List Token} → WritesClause c tokens rest → (stack : List Symbol) (values : ValueStacks) (continuation : ValueStacks → Option ValueStacks)
    → EndsPath in_task (access_of c.write) rest stack continuation
    → result_from (below tokens) (Expand (nonterminals.Path in_task (access_of c.write)) ∷ stack) (with_paths [] values) ≡ continuation (with_paths c.paths values)
clause_taken in_task (clause {write = write} {first = first} one more) stack values continuation ends =
    path_taken in_task (access_of write) one stack (with_paths [] values)
    ∙ more_paths_taken in_task (access_of write) more first [] stack values continuation ends

-- what comes after the effects: the block
abbrev block_after : Bool → List Symbol → List Symbol
block_after in_task stack = Perform (Stmt stmts.NewBlock) ∷ Expand (nonterminals.Statements in_task) ∷ stack

abbrev with_clauses : Access → List Clause → ValueStacks → ValueStacks
with_clauses access cs values = record values { clauses = values.clauses ++ (record { write = is_write access; paths = values.paths }) ∷ cs; paths = [] }

more_clauses_taken : (in_task : Bool) (access : Access) {cs : List Clause} {tokens others : List Token} {brace : Place} → MoreClauses cs tokens (word fixed.OpenBrace brace ∷ others) → (stack : List Symbol)
    → EndsPath in_task access tokens stack (λ values. result_from others (block_after in_task stack) (with_clauses access cs (record values { elems = [] })))
more_clauses_taken in_task access {others = others} no_more_clauses stack values =
    do_now (Item actions.KeepPath) others (Perform (Item (actions.KeepClause access)) ∷ block_after in_task stack) values
    ∙ do_now (Item (actions.KeepClause access)) others (block_after in_task stack) _
more_clauses_taken in_task access {others = others} (more_clauses {others = cs} (clause {write = true} {first = first} {others = paths} {tokens = tokens} one more) following) stack values =
    do_now (Item actions.KeepPath) tokens (Perform (Item (actions.KeepClause access)) ∷ Expand (nonterminals.Path in_task accesses.Writes) ∷ stack) values
    ∙ do_now (Item (actions.KeepClause access)) tokens (Expand (nonterminals.Path in_task accesses.Writes) ∷ stack) _
    ∙ clause_taken in_task (clause {write = true} {place = record { line = 0; col = 0 }} one more) stack (performed (Item (actions.KeepClause access)) (performed (Item actions.KeepPath) values)) (λ later. result_from others (block_after in_task stack) (with_clauses accesses.Writes cs (record later { elems = [] }))) (more_clauses_taken in_task accesses.Writes following stack)
    ∙ ap (λ all. result_from others (block_after in_task stack) (record (performed (Item actions.KeepPath) values) { clauses = all; paths = [] }))
    (append_assoc values.clauses ((record { write = is_write access; paths = (performed (Item actions.KeepPath) values).paths }) ∷ []) ((record { write = true; paths = first ∷ paths }) ∷ cs))
more_clauses_taken in_task access {others = others} (more_clauses {others = cs} (clause {write = false} {first = first} {others = paths} {tokens = tokens} one more) following) stack values =
    do_now (Item actions.KeepPath) tokens (Perform (Item (actions.KeepClause access)) ∷ Expand (nonterminals.Path in_task accesses.Reads) ∷ stack) values
    ∙ do_now (Item (actions.KeepClause access)) tokens (Expand (nonterminals.Path in_task accesses.Reads) ∷ stack) _
    ∙ clause_taken in_task (clause {write = false} {place = record { line = 0; col = 0 }} one more) stack (performed (Item (actions.KeepClause access)) (performed (Item actions.KeepPath) values)) (λ later. result_from others (block_after in_task stack) (with_clauses accesses.Reads cs (record later { elems = [] }))) (more_clauses_taken in_task accesses.Reads following stack)
    ∙ ap (λ all. result_from others (block_after in_task stack) (record (performed (Item actions.KeepPath) values) { clauses = all; paths = [] }))
    (append_assoc values.clauses ((record { write = is_write access; paths = (performed (Item actions.KeepPath) values).paths }) ∷ []) ((record { write = false; paths = first ∷ paths }) ∷ cs))

-- no effects are among the values
abbrev pub no_effects : ValueStacks → ValueStacks
no_effects values = record values { elems = []; paths = []; clauses = [] }

-- the effects, and the brace after them
pub effects_taken : (in_task : Bool) {effects : List Clause} {tokens others : List Token} {brace : Place} → WritesEffects effects tokens (word fixed.OpenBrace brace ∷ others) → (stack : List Symbol) (values : ValueStacks)
    → result_from tokens (Expand (nonterminals.Effects in_task) ∷ stack) (no_effects values) ≡ result_from others (block_after in_task stack) (record (no_effects values) { clauses = effects })
effects_taken in_task pure stack values = refl
effects_taken in_task {others = others} (clauses {others = cs} (clause {write = true} one more) following) stack values =
    clause_taken in_task (clause {write = true} {place = record { line = 0; col = 0 }} one more) stack (no_effects values)
    (λ later. result_from others (block_after in_task stack) (with_clauses accesses.Writes cs (record later { elems = [] }))) (more_clauses_taken in_task accesses.Writes following stack)
effects_taken in_task {others = others} (clauses {others = cs} (clause {write = false} one more) following) stack values =
    clause_taken in_task (clause {write = false} {place = record { line = 0; col = 0 }} one more) stack (no_effects values)
    (λ later. result_from others (block_after in_task stack) (with_clauses accesses.Reads cs (record later { elems = [] }))) (more_clauses_taken in_task accesses.Reads following stack)
