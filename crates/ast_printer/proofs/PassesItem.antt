-- The words of declarations keep the limits where their tokens do.
use Rattle.std.proofs.Common.{◌≡◌, ℕ, ◌≤◌, suc, zero, min, ◌&&◌, not, ◌==◌, nat_lt, nat_le, Bool, true, false, List, [], ◌∷◌, ◌++◌, Option, refl, sym, ap, ◌∙◌, subst, append_assoc, arith}
use Rattle.std.specs.Prelude.{if◌then◌else◌, pos, negsuc, unsigned_abs}
use Rattle.std.proofs.lemmas.Bool.{false≢true, ltb-false, le-leb, eqb-true}
use Rattle.twe_base.specs.declared.place.Place.{Place}
use Rattle.twe_ast.specs.declared.item.Clause.{Clause}
use Rattle.twe_ast.specs.declared.item.Decl.{Decl}
use Rattle.twe_ast.specs.declared.item.Initial.{Initial}
use Rattle.twe_ast.specs.declared.item.Item.{Item}
use Rattle.twe_ast.specs.declared.item.ReturnType.{ReturnType}
use Rattle.twe_ast.specs.declared.item.ReturnType.TheVariants as returns
use Rattle.twe_ast.specs.declared.name.Name.{Name}
use Rattle.twe_ast.specs.declared.path.CellElem.{CellElem}
use Rattle.twe_ast.specs.declared.path.CellPath.{CellPath}
use Rattle.twe_ast.specs.declared.path.Path.{Path}
use Rattle.twe_ast.specs.declared.path.PathElem.{PathElem}
use Rattle.twe_lexer.specs.declared.fixed.Fixed.TheVariants as fixed
use Rattle.twe_lexer.specs.declared.token.Token.{Token}
use Rattle.twe_lexer.specs.declared.token.TokenKind.{TokenKind}
use Rattle.twe_lexer.specs.declared.token.TokenKind.TheVariants as kinds
use Rattle.twe_parser.specs.declared.limits.Sofar.{Sofar}
use Rattle.twe_parser.specs.Limits.{is_too_large}
use Rattle.twe_parser.specs.Values.{literal_value_of, negative_of}
use Rattle.twe_parser.specs.Written.{word, number}
use Rattle.twe_parser.specs.WritesPath.{WritesCellElem, cell_name, cell_index, MoreCellElems, no_more_cell_elems, more_cell_elems, WritesCellPath, cell_root, cell_region, WritesElem, name, index, parameter, any_index, star, MoreElems, no_more_elems, more_elems, WritesPath, root, region}
use Rattle.twe_parser.specs.Writes.{MoreNames, no_more_names, more_names, WritesInitial, not_written, initial, negative_initial, MoreParams, no_more_params, more_params, WritesParams, no_params, params, MorePaths, no_more_paths, more_paths, clause_word, WritesClause, clause, MoreClauses, no_more_clauses, more_clauses, WritesEffects, pure, clauses, return_word, WritesDecl, decl, WritesItem, regions, cell, array, grid, method, task, deterministic_task, WritesItems, no_more_items, more_items}
use Rattle.ast_printer.specs.Text.{when}
use Rattle.ast_printer.specs.PathTokens.{elem_tokens, elems_tokens, needs_root, cell_elem_tokens, cell_elems_tokens, cell_needs_root}
use Rattle.ast_printer.specs.ItemTokens.{names_tokens, initial_tokens, params_tokens, paths_tokens, clause_tokens, clauses_tokens, effects_tokens, decl_tokens, item_tokens, items_tokens}
use Rattle.ast_printer.proofs.Passing.{Passed, FromAny, AllPass, regrouped, step, skip}
use Rattle.ast_printer.proofs.PassesStatement.{block_passes}

elem_passes : {elem : PathElem} {tokens rest : List Token} → WritesElem elem tokens rest → {o p : ℕ} → (more : List TokenKind) → FromAny o p rest more → FromAny o p tokens (elem_tokens elem.kind ++ more)
elem_passes name more follows ended minus = step (follows true false)
elem_passes index more follows ended minus = step (step (step (follows true false)))
elem_passes parameter more follows ended minus = step (step (step (follows true false)))
elem_passes any_index more follows ended minus = step (step (step (follows true false)))
elem_passes star more follows ended minus = step (follows false false)

elems_pass : {elems : List PathElem} {tokens rest : List Token} → MoreElems elems tokens rest → {o p : ℕ} → (more : List TokenKind) → FromAny o p rest more → FromAny o p tokens (elems_tokens true elems ++ more)
elems_pass no_more_elems more follows ended minus = follows ended minus
elems_pass (more_elems {others = o} first others) more follows ended minus = simp append_assoc (step (elem_passes first (elems_tokens true o ++ more) (elems_pass others more follows) false false))

-- a `Root` that is not printed, and the `:` after it
without_root : {o p : ℕ} {minus : Bool} {place colon : Place} {tokens : List Token} {words : List TokenKind} → Passed o p false false tokens words → Passed o p false minus (word fixed.Root place ∷ word fixed.Colon colon ∷ tokens) words
without_root follows = skip refl refl refl refl refl refl (skip refl refl refl refl refl refl follows)

-- the words of a path with its `Root` and its elements one by one
abbrev path_then : Path → List TokenKind → List TokenKind
path_then path more = when (needs_root path.elems) fixed.Root ++ (elems_tokens (needs_root path.elems) path.elems ++ more)

abbrev cell_path_then : CellPath → List TokenKind → List TokenKind
cell_path_then path more = when (cell_needs_root path.elems) fixed.Root ++ (cell_elems_tokens (cell_needs_root path.elems) path.elems ++ more)

root_passes : {elems : List PathElem} {tokens rest : List Token} → MoreElems elems tokens rest → (start place : Place) {o p : ℕ} {minus : Bool} → (more : List TokenKind) → FromAny o p rest more
    → FromAny o p tokens (elems_tokens true elems ++ more) → Passed o p false minus (word fixed.Root place ∷ tokens) (path_then (record { elems = elems; place = start }) more)
root_passes no_more_elems start place more follows whole = step (whole false false)
root_passes (more_elems name others) start place more follows whole = without_root (step (elems_pass others more follows true false))
root_passes (more_elems index others) start place more follows whole = step (whole false false)
root_passes (more_elems parameter others) start place more follows whole = step (whole false false)
root_passes (more_elems any_index others) start place more follows whole = step (whole false false)
root_passes (more_elems star others) start place more follows whole = step (whole false false)

path_passes : {path : Path} {tokens rest : List Token} → WritesPath path tokens rest → {o p : ℕ} {minus : Bool} → (more : List TokenKind) → FromAny o p rest more → Passed o p false minus tokens (path_then path more)
path_passes (root {place = place} elems) more follows = root_passes elems place place more follows (elems_pass elems more follows)
path_passes (region others) more follows = step (elems_pass others more follows true false)

cell_elem_passes : {elem : CellElem} {tokens rest : List Token} → WritesCellElem elem tokens rest → {o p : ℕ} → (more : List TokenKind) → FromAny o p rest more → FromAny o p tokens (cell_elem_tokens elem.kind ++ more)
cell_elem_passes cell_name more follows ended minus = step (follows true false)
cell_elem_passes cell_index more follows ended minus = step (step (step (follows true false)))

cell_elems_pass : {elems : List CellElem} {tokens rest : List Token} → MoreCellElems elems tokens rest → {o p : ℕ} → (more : List TokenKind) → FromAny o p rest more → FromAny o p tokens (cell_elems_tokens true elems ++ more)
cell_elems_pass no_more_cell_elems more follows ended minus = follows ended minus
cell_elems_pass (more_cell_elems {others = o} first others) more follows ended minus =
    simp append_assoc (step (cell_elem_passes first (cell_elems_tokens true o ++ more) (cell_elems_pass others more follows) false false))

cell_root_passes : {elems : List CellElem} {tokens rest : List Token} → MoreCellElems elems tokens rest → (start place : Place) {o p : ℕ} {minus : Bool} → (more : List TokenKind) → FromAny o p rest more
    → FromAny o p tokens (cell_elems_tokens true elems ++ more) → Passed o p false minus (word fixed.Root place ∷ tokens) (cell_path_then (record { elems = elems; place = start }) more)
cell_root_passes no_more_cell_elems start place more follows whole = step (whole false false)
cell_root_passes (more_cell_elems cell_name others) start place more follows whole = without_root (step (cell_elems_pass others more follows true false))
cell_root_passes (more_cell_elems cell_index others) start place more follows whole = step (whole false false)

cell_path_passes : {path : CellPath} {tokens rest : List Token} → WritesCellPath path tokens rest → {o p : ℕ} {minus : Bool} → (more : List TokenKind) → FromAny o p rest more → Passed o p false minus tokens (cell_path_then path more)
cell_path_passes (cell_root {place = place} elems) more follows = cell_root_passes elems place place more follows (cell_elems_pass elems more follows)
cell_path_passes (cell_region others) more follows = step (cell_elems_pass others more follows true false)

names_pass : {names : List Name} {tokens rest : List Token} → MoreNames names tokens rest → {o p : ℕ} → (more : List TokenKind) → FromAny o p rest more → FromAny o p tokens (names_tokens true names ++ more)
names_pass no_more_names more follows ended minus = follows ended minus
names_pass (more_names others) more follows ended minus = step (step (names_pass others more follows true false))

-- the literal of an initial value is printed as it was
same_number : {o p : ℕ} {minus : Bool} {value : ℕ} {place : Place} {rest : List Token} {more : List TokenKind} (printed : ℕ)
    → ((text : Sofar) → text.unary_minus ≡ minus → is_too_large text (kinds.Literal value) ≡ false → printed ≡ value)
    → Passed o p true false rest more → Passed o p false minus (number value place ∷ rest) (kinds.Literal printed ∷ more)
same_number {o = o} {p = p} {minus = minus} {value = value} {place = place} {rest = rest} {more = more} printed same follows = record {
  pass = λ text print beside passes.
      subst (λ (n : ℕ). AllPass print (kinds.Literal n ∷ more)) (sym (same text beside.text_minus passes.0.small))
      ((step {minus = minus} {token = number value place} follows).pass text print beside passes);
}

small_value : (value : ℕ) (text : Sofar) → text.unary_minus ≡ false → is_too_large text (kinds.Literal value) ≡ false → unsigned_abs (literal_value_of value) ≡ value
small_value value text minus small =
    let low : nat_le value 2147483647 ≡ true = le-leb value 2147483647 (ltb-false 2147483647 value (no_minus (nat_lt 2147483647 value) (value == 2147483648) text.unary_minus minus small)) in
    ap (λ b. unsigned_abs (if b then pos value else negsuc 2147483647)) low
  where
    no_minus : (above same one : Bool) → one ≡ false → (above && not (same && one)) ≡ false → above ≡ false
    no_minus false same one is small = refl
    no_minus true false one is small = small
    no_minus true true one is small = absurd (false≢true (sym small ∙ ap not is))

small_negative : (value : ℕ) (text : Sofar) → text.unary_minus ≡ true → is_too_large text (kinds.Literal value) ≡ false → unsigned_abs (negative_of value) ≡ value
small_negative zero text minus small = refl
small_negative (suc n) text minus small =
    let most : n ≤ 2147483647 = by_test (nat_lt 2147483647 (suc n)) (suc n == 2147483648) text.unary_minus refl refl small in
    let least : min n 2147483647 ≡ n = omega arith in
    ap suc least
  where
    by_test : (above same one : Bool) → nat_lt 2147483647 (suc n) ≡ above → (suc n == 2147483648) ≡ same → (above && not (same && one)) ≡ false → n ≤ 2147483647
    by_test false same one is equal small = let low = ltb-false 2147483647 (suc n) is in omega arith
    by_test true true one is equal small = let exact = eqb-true (suc n) 2147483648 equal in omega arith
    by_test true false one is equal small = absurd (false≢true (sym small))

initial_passes : {start : Option Initial} {tokens rest : List Token} → WritesInitial start tokens rest → {o p : ℕ} → (more : List TokenKind) → FromAny o p rest more → FromAny o p tokens (initial_tokens start ++ more)
initial_passes not_written more follows ended minus = follows ended minus
initial_passes (initial {value = v}) more follows ended minus = step (same_number (unsigned_abs (literal_value_of v)) (λ text none small. small_value v text none small) (follows true false))
initial_passes (negative_initial {value = v}) more follows ended minus = step (step (same_number (unsigned_abs (negative_of v)) (λ text some small. small_negative v text some small) (follows true false)))

more_params_pass : {names : List Name} {tokens rest : List Token} → MoreParams names tokens rest → {o p : ℕ} → (more : List TokenKind) → FromAny o p rest more → FromAny o p tokens (params_tokens true names ++ more)
more_params_pass no_more_params more follows ended minus = follows ended minus
more_params_pass (more_params others) more follows ended minus = step (step (step (more_params_pass others more follows true false)))

pub params_pass : {names : List Name} {tokens rest : List Token} → WritesParams names tokens rest → {o p : ℕ} → (more : List TokenKind) → FromAny o p rest more
    → FromAny o p tokens (kinds.Fixed fixed.OpenParen ∷ (params_tokens false names ++ kinds.Fixed fixed.CloseParen ∷ more))
params_pass no_params more follows ended minus = step (step (follows true false))
params_pass (params others) more follows ended minus = step (step (step (more_params_pass others (kinds.Fixed fixed.CloseParen ∷ more) (λ e m. step (follows true false)) true false)))

paths_pass : {paths : List Path} {tokens rest : List Token} → MorePaths paths tokens rest → {o p : ℕ} → (more : List TokenKind) → FromAny o p rest more → FromAny o p tokens (paths_tokens true paths ++ more)
paths_pass no_more_paths more follows ended minus = follows ended minus
paths_pass (more_paths {others = o} first others) more follows ended minus = simp append_assoc (step (path_passes first (paths_tokens true o ++ more) (paths_pass others more follows)))

clause_step : (write : Bool) {o p : ℕ} {ended minus : Bool} {place : Place} {tokens : List Token} {words : List TokenKind} → Passed o p false false tokens words
    → Passed o p ended minus (word (clause_word write) place ∷ tokens) (kinds.Fixed (clause_word write) ∷ words)
clause_step true follows = step follows
clause_step false follows = step follows

pub return_step : (type : ReturnType) {o p : ℕ} {ended minus : Bool} {place : Place} {tokens : List Token} {words : List TokenKind} → Passed o p false false tokens words
    → Passed o p ended minus (word (return_word type) place ∷ tokens) (kinds.Fixed (return_word type) ∷ words)
return_step returns.Int follows = step follows
return_step returns.Void follows = step follows

clause_passes : {c : Clause} {tokens rest : List Token} → WritesClause c tokens rest → {o p : ℕ} → (more : List TokenKind) → FromAny o p rest more → FromAny o p tokens (clause_tokens c ++ more)
clause_passes (clause {write = w} {others = o} first others) more follows ended minus =
    simp append_assoc (clause_step w (path_passes first (paths_tokens true o ++ more) (paths_pass others more follows)))

clauses_pass : {cs : List Clause} {tokens rest : List Token} → MoreClauses cs tokens rest → {o p : ℕ} → (more : List TokenKind) → FromAny o p rest more → FromAny o p tokens (clauses_tokens cs ++ more)
clauses_pass no_more_clauses more follows ended minus = follows ended minus
clauses_pass (more_clauses {first = f} {others = o} first others) more follows ended minus =
    regrouped (clause_tokens f) (clauses_tokens o) more (clause_passes first (clauses_tokens o ++ more) (clauses_pass others more follows) ended minus)

effects_pass : {cs : List Clause} {tokens rest : List Token} → WritesEffects cs tokens rest → {o p : ℕ} → (more : List TokenKind) → FromAny o p rest more → FromAny o p tokens (effects_tokens cs ++ more)
effects_pass pure more follows ended minus = step (follows false false)
effects_pass (clauses {first = f} {others = o} first others) more follows ended minus =
    regrouped (clause_tokens f) (clauses_tokens o) more (clause_passes first (clauses_tokens o ++ more) (clauses_pass others more follows) ended minus)

decl_passes : {in_task : Bool} {d : Decl} {tokens rest : List Token} → WritesDecl in_task d tokens rest → {o p : ℕ} → (more : List TokenKind) → FromAny o p rest more → FromAny o p tokens (decl_tokens d ++ more)
decl_passes (decl {type = t} names effects body) more follows ended minus =
    simp append_assoc (return_step t (step (params_pass names _ (effects_pass effects _ (λ e m. step (block_passes body more follows false false))) true false)))

pub item_passes : {item : Item} {tokens rest : List Token} → WritesItem item tokens rest → {o p : ℕ} → (more : List TokenKind) → FromAny o p rest more → FromAny o p tokens (item_tokens item ++ more)
item_passes (regions {others = o} names) more follows ended minus =
    step (step (regrouped (names_tokens true o) (kinds.Fixed fixed.Semicolon ∷ []) more (names_pass names (kinds.Fixed fixed.Semicolon ∷ more) (λ e m. step (follows false false)) true false)))
item_passes (cell path start) more follows ended minus =
    simp append_assoc (step (step (step (cell_path_passes path _ (initial_passes start (kinds.Fixed fixed.Semicolon ∷ more) (λ e m. step (follows false false)))))))
item_passes (array path) more follows ended minus =
    simp append_assoc (step (step (step (step (step (step (cell_path_passes path (kinds.Fixed fixed.Semicolon ∷ more) (λ e m. step (follows false false)))))))))
item_passes (grid path) more follows ended minus =
    simp append_assoc (step (step (step (step (step (step (step (step (step (cell_path_passes path (kinds.Fixed fixed.Semicolon ∷ more) (λ e m. step (follows false false))))))))))))
item_passes (method d) more follows ended minus = decl_passes d more follows ended minus
item_passes (task d) more follows ended minus = step (decl_passes d more follows false false)
item_passes (deterministic_task d) more follows ended minus = step (step (decl_passes d more follows false false))

-- the words of a program keep the limits where its tokens do
pub items_pass : {all : List Item} {tokens : List Token} → WritesItems all tokens → {o p : ℕ} → FromAny o p tokens (items_tokens all)
items_pass no_more_items ended minus = record { pass = λ text print beside passes. tt }
items_pass (more_items {others = o} first others) ended minus =
    item_passes first (items_tokens o) (items_pass others) ended minus
