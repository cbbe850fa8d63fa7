-- The words of a tree with other clauses keep the limits on tokens.
use Rattle.std.proofs.Common.{◌≡◌, ◌≤◌, ℕ, pos, negsuc, ◌+◌, ◌-◌, Bool, true, false, ◌&&◌, ◌||◌, not, List, [], ◌∷◌, ◌++◌, map, length, nat_le, nat_lt, refl, sym, ap, ◌∙◌, subst, append_assoc, arith}
use Rattle.std.specs.List.{AllByRecursion}
use Rattle.std.proofs.lemmas.Bool.{ltb-true}
use Rattle.std.specs.Prelude.{◌==◌}
use Rattle.twe_base.specs.Language.{max_literal, max_open_brackets}
use Rattle.region_paths.specs.declared.elements.Elem.{Elem}
use Rattle.region_paths.specs.declared.elements.Elem.TheVariants.{Name, Index, Var, AnyIndex}
use Rattle.effect_sets.specs.declared.effects.Effect.{Effect}
use Rattle.effect_sets.specs.declared.effects.Summary.{Summary}
use Rattle.twe_ast.specs.declared.item.Clause.{Clause}
use Rattle.twe_ast.specs.declared.item.Decl.{Decl}
use Rattle.twe_ast.specs.declared.item.Item.{Item}
use Rattle.twe_ast.specs.declared.path.Path.{Path}
use Rattle.twe_ast.specs.declared.path.PathElem.{PathElem}
use Rattle.twe_ast.specs.declared.path.PathElemKind.{PathElemKind}
use Rattle.twe_ast.specs.declared.path.PathElemKind.TheVariants as elem_kinds
use Rattle.twe_lexer.specs.declared.fixed.Fixed.TheVariants as fixed
use Rattle.twe_lexer.specs.declared.token.Token.{Token}
use Rattle.twe_lexer.specs.declared.token.TokenKind.{TokenKind}
use Rattle.twe_lexer.specs.declared.token.TokenKind.TheVariants as kinds
use Rattle.twe_parser.specs.declared.limits.Sofar.{Sofar}
use Rattle.twe_parser.specs.Limits.{sofar_after, is_too_large, is_too_deep}
use Rattle.twe_parser.specs.WritesPath.{WritesElem, name, index, parameter, any_index, star, MoreElems, no_more_elems, more_elems, WritesPath, root, region}
use Rattle.twe_parser.specs.Writes.{MorePaths, no_more_paths, more_paths, clause_word, WritesClause, clause, MoreClauses, no_more_clauses, more_clauses, WritesEffects, pure, clauses, WritesDecl, decl, regions, cell, array, grid, method, task, deterministic_task, WritesItems, no_more_items, more_items}
use Rattle.twe_program.specs.WellFormed.{ElementFits}
use Rattle.ast_printer.specs.Text.{when}
use Rattle.ast_printer.specs.PathTokens.{elem_tokens, elems_tokens, needs_root, path_tokens}
use Rattle.ast_printer.specs.StatementTokens.{block_tokens}
use Rattle.ast_printer.specs.ItemTokens.{paths_tokens, clause_tokens, clauses_tokens, effects_tokens, decl_tokens, items_tokens}
use Rattle.ast_printer.proofs.Supply.{kinds_in}
use Rattle.ast_printer.proofs.Passing.{Sound, AllPass, Passed, FromAny, step}
use Rattle.ast_printer.proofs.PassesStatement.{block_passes}
use Rattle.ast_printer.proofs.PassesItem.{params_pass, return_step, item_passes}
use Rattle.twe_base.proofs.Members.{all-in, all-append}
use Rattle.summary_texts.specs.paste_laws.Clauses.{texts_of, clause_kind_of, elem_of, clause_path_of, clause_of, reads_of, writes_of, clauses_of, pasted_items, IsWritable}
use Rattle.summary_texts.proofs.paste_laws.Sounds.{IsRead, read-at}
use Rattle.summary_texts.proofs.paste_laws.Clauses.{Fits, kept-in, all-from, plain-path}
use Rattle.summary_texts.proofs.paste_laws.PastedItems.{Aligned}

-- What is left of a text after its clauses, where no bracket is open: it keeps the limits from there on.
abbrev Left : List Token → Type 0
Left rest = (after : Sofar) × (after.open_brackets ≡ 0) × AllPass after (kinds_in rest)

abbrev Leaves : List Token → List Token → Type 0
Leaves tokens rest = (text : Sofar) → text.open_brackets ≡ 0 → AllPass text (kinds_in tokens) → Left rest

closed-again : (n : ℕ) → n ≡ 0 → (n + 1) - 1 ≡ 0
closed-again n e = omega arith

elem-leaves : {elem : PathElem} {tokens rest : List Token} → WritesElem elem tokens rest → Leaves tokens rest
elem-leaves name text none pass = (_, none, pass.1)
elem-leaves index text none pass = (_, closed-again text.open_brackets none, pass.1.1.1)
elem-leaves parameter text none pass = (_, closed-again text.open_brackets none, pass.1.1.1)
elem-leaves any_index text none pass = (_, closed-again text.open_brackets none, pass.1.1.1)
elem-leaves star text none pass = (_, none, pass.1)

elems-leave : {elems : List PathElem} {tokens rest : List Token} → MoreElems elems tokens rest → Leaves tokens rest
elems-leave no_more_elems text none pass = (text, none, pass)
elems-leave (more_elems first others) text none pass =
    let left = elem-leaves first (sofar_after text (kinds.Fixed fixed.Colon)) none pass.1 in elems-leave others left.0 left.1 left.2

path-leaves : {path : Path} {tokens rest : List Token} → WritesPath path tokens rest → Leaves tokens rest
path-leaves (root elems) text none pass = elems-leave elems (sofar_after text (kinds.Fixed fixed.Root)) none pass.1
path-leaves (region {name = n} others) text none pass = elems-leave others (sofar_after text (kinds.Name n.text)) none pass.1

paths-leave : {paths : List Path} {tokens rest : List Token} → MorePaths paths tokens rest → Leaves tokens rest
paths-leave no_more_paths text none pass = (text, none, pass)
paths-leave (more_paths first others) text none pass =
    let left = path-leaves first (sofar_after text (kinds.Fixed fixed.Comma)) none pass.1 in paths-leave others left.0 left.1 left.2

word-leaves : (write : Bool) (text : Sofar) → text.open_brackets ≡ 0 → (sofar_after text (kinds.Fixed (clause_word write))).open_brackets ≡ 0
word-leaves true text none = none
word-leaves false text none = none

clause-leaves : {c : Clause} {tokens rest : List Token} → WritesClause c tokens rest → Leaves tokens rest
clause-leaves (clause {write = w} first others) text none pass =
    let left = path-leaves first (sofar_after text (kinds.Fixed (clause_word w))) (word-leaves w text none) pass.1 in paths-leave others left.0 left.1 left.2

clauses-leave : {all : List Clause} {tokens rest : List Token} → MoreClauses all tokens rest → Leaves tokens rest
clauses-leave no_more_clauses text none pass = (text, none, pass)
clauses-leave (more_clauses first others) text none pass = let left = clause-leaves first text none pass in clauses-leave others left.0 left.1 left.2

effects-leave : {all : List Clause} {tokens rest : List Token} → WritesEffects all tokens rest → Leaves tokens rest
effects-leave pure text none pass = (_, none, pass.1)
effects-leave (clauses first others) text none pass = let left = clause-leaves first text none pass in clauses-leave others left.0 left.1 left.2

-- Words that keep the limits where no bracket is open, and leave none open.
abbrev Comes : List TokenKind → Type 0
Comes words = (more : List TokenKind) → ((after : Sofar) → after.open_brackets ≡ 0 → AllPass after more) → (print : Sofar) → print.open_brackets ≡ 0 → AllPass print (words ++ more)

none-come : Comes []
none-come more follows print none = follows print none

joined-come : (one two : List TokenKind) → Comes one → Comes two → Comes (one ++ two)
joined-come one two first second more follows print none =
    subst (AllPass print) (sym (append_assoc one two more)) (first (two ++ more) (λ after e. second more follows after e) print none)

root-comes : (b : Bool) → Comes (when b fixed.Root)
root-comes true more follows print none = (record { sound = tt; small = refl; shallow = refl }, follows _ none)
root-comes false more follows print none = follows print none

colon-comes : (b : Bool) → Comes (when b fixed.Colon)
colon-comes true more follows print none = (record { sound = tt; small = refl; shallow = refl }, follows _ none)
colon-comes false more follows print none = follows print none

comma-comes : (b : Bool) → Comes (when b fixed.Comma)
comma-comes true more follows print none = (record { sound = tt; small = refl; shallow = refl }, follows _ none)
comma-comes false more follows print none = follows print none

clause_word-comes : (write : Bool) → Comes (kinds.Fixed (clause_word write) ∷ [])
clause_word-comes true more follows print none = (record { sound = tt; small = refl; shallow = refl }, follows _ none)
clause_word-comes false more follows print none = (record { sound = tt; small = refl; shallow = refl }, follows _ none)

not-large : (i : ℕ) → i ≤ max_literal → nat_lt max_literal i ≡ false
not-large i le = by (nat_lt max_literal i) refl
  where
    by : (b : Bool) → nat_lt max_literal i ≡ b → b ≡ false
    by true is = let above = ltb-true max_literal i is in absurd (omega arith)
    by false is = refl

-- a word in brackets
bracketed-comes : (inside : TokenKind) → Sound inside → ((sofar : Sofar) → (is_too_large sofar inside ≡ false) × (is_too_deep sofar inside ≡ false) × ((sofar_after sofar inside).open_brackets ≡ sofar.open_brackets))
    → Comes (kinds.Fixed fixed.OpenBracket ∷ inside ∷ kinds.Fixed fixed.CloseBracket ∷ [])
bracketed-comes inside sound keeps more follows print none =
    let opened = sofar_after print (kinds.Fixed fixed.OpenBracket) in
    let within = keeps opened in
    let shallow : (nat_le max_open_brackets print.open_brackets || false) ≡ false = ap (λ n. nat_le max_open_brackets n || false) none in
    let same : (sofar_after opened inside).open_brackets - 1 ≡ 0 = ap (λ n. n - 1) within.2 ∙ closed-again print.open_brackets none in (
      record { sound = tt; small = refl; shallow = shallow },
      (
        record { sound = sound; small = within.0; shallow = within.1 },
        (record { sound = tt; small = refl; shallow = refl }, follows _ same),
      ),
    )

-- an element that a text can have
abbrev pub KindReads : PathElemKind → Type 0
KindReads (elem_kinds.Name text) = IsRead text
KindReads (elem_kinds.Index i) = i ≤ max_literal
KindReads (elem_kinds.Variable its) = IsRead its.text
KindReads elem_kinds.AnyIndex = Unit {0}
KindReads elem_kinds.Star = ⊥

kind-comes : (kind : PathElemKind) → KindReads kind → Comes (elem_tokens kind)
kind-comes (elem_kinds.Name text) h = λ more follows print none. (record { sound = h; small = refl; shallow = refl }, follows _ none)
kind-comes (elem_kinds.Index i) h = bracketed-comes (kinds.Literal i) tt (λ sofar. (ap (λ b. b && not ((i == max_literal + 1) && sofar.unary_minus)) (not-large i h), refl, refl))
kind-comes (elem_kinds.Variable its) h = bracketed-comes (kinds.Name its.text) h (λ sofar. (refl, refl, refl))
kind-comes elem_kinds.AnyIndex h = bracketed-comes (kinds.Fixed fixed.Question) tt (λ sofar. (refl, refl, refl))
kind-comes elem_kinds.Star h = absurd h

elems-come : (later : Bool) (elems : List PathElem) → AllByRecursion (λ (elem : PathElem). KindReads elem.kind) elems → Comes (elems_tokens later elems)
elems-come later [] h = none-come
elems-come later (first ∷ others) h =
    joined-come (when later fixed.Colon) _ (colon-comes later)
    (joined-come (elem_tokens first.kind) _ (kind-comes first.kind h.0) (elems-come true others h.1))

abbrev pub PathReads : Path → Type 0
PathReads path = AllByRecursion (λ (elem : PathElem). KindReads elem.kind) path.elems

path-comes : (path : Path) → PathReads path → Comes (path_tokens path)
path-comes path h = joined-come (when (needs_root path.elems) fixed.Root) _ (root-comes (needs_root path.elems)) (elems-come (needs_root path.elems) path.elems h)

paths-come : (later : Bool) (paths : List Path) → AllByRecursion PathReads paths → Comes (paths_tokens later paths)
paths-come later [] h = none-come
paths-come later (first ∷ others) h =
    joined-come (when later fixed.Comma) _ (comma-comes later) (joined-come (path_tokens first) _ (path-comes first h.0) (paths-come true others h.1))

abbrev pub ClauseReads : Clause → Type 0
ClauseReads c = AllByRecursion PathReads c.paths

clause-comes : (c : Clause) → ClauseReads c → Comes (clause_tokens c)
clause-comes c h = joined-come (kinds.Fixed (clause_word c.write) ∷ []) _ (clause_word-comes c.write) (paths-come false c.paths h)

clauses-come : (all : List Clause) → AllByRecursion ClauseReads all → Comes (clauses_tokens all)
clauses-come [] h = none-come
clauses-come (first ∷ others) h = joined-come (clause_tokens first) _ (clause-comes first h.0) (clauses-come others h.1)

effects-come : (all : List Clause) → AllByRecursion ClauseReads all → Comes (effects_tokens all)
effects-come [] h = λ more follows print none. (record { sound = tt; small = refl; shallow = refl }, follows _ none)
effects-come (first ∷ others) h = clauses-come (first ∷ others) h

-- a declaration with other clauses
pub decl-passes : {in_task : Bool} {d : Decl} {tokens rest : List Token} → WritesDecl in_task d tokens rest → (new : List Clause) → AllByRecursion ClauseReads new
    → (more : List TokenKind) → FromAny 0 0 rest more → FromAny 0 0 tokens (decl_tokens (record d { effects = new }) ++ more)
decl-passes (decl {type = t} {body = b} {more = m} {others = o} names effects body) new reads more follows ended minus =
    simp append_assoc (return_step t (step (params_pass names _ from_effects true false)))
  where
    inner : Passed 1 1 false false o (block_tokens b ++ more)
    inner = block_passes body more follows false false

    after_effects : (text print : Sofar) → text.open_brackets ≡ 0 → print.open_brackets ≡ 0 → AllPass text (kinds.Fixed fixed.OpenBrace ∷ kinds_in o) → AllPass print (kinds.Fixed fixed.OpenBrace ∷ (block_tokens b ++ more))
    after_effects text print none none_printed pass =
        let shallow : (nat_le max_open_brackets print.open_brackets || false) ≡ false = ap (λ n. nat_le max_open_brackets n || false) none_printed in (
          record { sound = tt; small = refl; shallow = shallow },
          inner.pass (sofar_after text (kinds.Fixed fixed.OpenBrace)) (sofar_after print (kinds.Fixed fixed.OpenBrace)) (record {
            brackets = ap (λ n. n + 1) none;
            printed = ap (λ n. n + 1) none_printed;
            fewer = omega arith;
            count = omega arith;
            text_ended = refl;
            print_ended = refl;
            text_minus = refl;
            print_minus = λ h. h;
          }) pass.1,
        )

    from_effects : FromAny 0 0 m (effects_tokens new ++ kinds.Fixed fixed.OpenBrace ∷ (block_tokens b ++ more))
    from_effects ended minus = record {
      pass = λ text print beside pass.
          let left = effects-leave effects text beside.brackets pass in
          effects-come new reads (kinds.Fixed fixed.OpenBrace ∷ (block_tokens b ++ more)) (λ after none. after_effects left.0 after left.1 none left.2) print beside.printed;
    }

-- The clauses of a summary whose effects fit: their names are read as names.
module _ (region_names params : List (List ℕ)) (regions_read : AllByRecursion IsRead region_names) (params_read : AllByRecursion IsRead params) where
  kind-reads : (e : Elem) → ElementFits (length region_names) (length params) e → IsWritable e → KindReads (clause_kind_of region_names params e)
  kind-reads (Name n) fits writable = read-at region_names regions_read n fits
  kind-reads (Index (pos i)) fits writable = writable
  kind-reads (Index (negsuc i)) fits writable = absurd writable
  kind-reads (Var k) fits writable = read-at params params_read k fits
  kind-reads AnyIndex fits writable = tt

  elems-read : (es : List Elem) → AllByRecursion (ElementFits (length region_names) (length params)) es → AllByRecursion IsWritable es
      → AllByRecursion (λ (elem : PathElem). KindReads elem.kind) (map (elem_of region_names params) es)
  elems-read [] fit writable = tt
  elems-read (e ∷ es) fit writable = (kind-reads e fit.0 writable.0, elems-read es fit.1 writable.1)

  paths-read : (effects : List Effect) → AllByRecursion (Fits (length region_names) (length params)) effects → AllByRecursion PathReads (map (clause_path_of region_names params) effects)
  paths-read [] h = tt
  paths-read (effect ∷ effects) h = (
    subst PathReads (sym (plain-path region_names params effect h.0.plain)) (elems-read effect.path.elems h.0.elems h.0.literals),
    paths-read effects h.1,
  )

  clause-reads : (write : Bool) (effects : List Effect) → AllByRecursion (Fits (length region_names) (length params)) effects
      → AllByRecursion ClauseReads (clause_of region_names params write effects)
  clause-reads write [] h = tt
  clause-reads write (first ∷ others) h = (paths-read (first ∷ others) h, tt)

  pub clauses-read : (summary : Summary) → AllByRecursion (Fits (length region_names) (length params)) summary.effects
      → AllByRecursion ClauseReads (clauses_of region_names params summary)
  clauses-read summary fit =
      let reads = all-from (Fits (length region_names) (length params)) (reads_of summary.effects)
      (λ effect there. all-in _ summary.effects fit effect (kept-in (λ (e : Effect). not e.write) summary.effects effect there)) in
      let writes = all-from (Fits (length region_names) (length params)) (writes_of summary.effects)
      (λ effect there. all-in _ summary.effects fit effect (kept-in (λ (e : Effect). e.write) summary.effects effect there)) in
      all-append ClauseReads (clause_of region_names params false (reads_of summary.effects)) _
      (clause-reads false (reads_of summary.effects) reads) (clause-reads true (writes_of summary.effects) writes)

-- the clauses of the summary are read as they are
abbrev pub Read : List (List ℕ) → Summary → Decl → Type 0
Read region_names summary d = AllByRecursion ClauseReads (clauses_of region_names (texts_of d.params) summary)

-- the words of the pasted tree keep the limits where the tokens of the text do
pub items-pass : {all : List Item} {tokens : List Token} → WritesItems all tokens → (region_names : List (List ℕ)) (summaries : List Summary) → Aligned (Read region_names) summaries all
    → FromAny 0 0 tokens (items_tokens (pasted_items region_names summaries all))
items-pass no_more_items names summaries h ended minus = record { pass = λ text print beside passes. tt }
items-pass (more_items {others = o} (regions first) others) names summaries h ended minus =
    item_passes (regions first) (items_tokens (pasted_items names summaries o)) (items-pass others names summaries h) ended minus
items-pass (more_items {others = o} (cell path start) others) names summaries h ended minus =
    item_passes (cell path start) (items_tokens (pasted_items names summaries o)) (items-pass others names summaries h) ended minus
items-pass (more_items {others = o} (array path) others) names summaries h ended minus =
    item_passes (array path) (items_tokens (pasted_items names summaries o)) (items-pass others names summaries h) ended minus
items-pass (more_items {others = o} (grid path) others) names summaries h ended minus =
    item_passes (grid path) (items_tokens (pasted_items names summaries o)) (items-pass others names summaries h) ended minus
items-pass (more_items {others = o} (task d) others) names summaries h ended minus =
    item_passes (task d) (items_tokens (pasted_items names summaries o)) (items-pass others names summaries h) ended minus
items-pass (more_items {others = o} (deterministic_task d) others) names summaries h ended minus =
    item_passes (deterministic_task d) (items_tokens (pasted_items names summaries o)) (items-pass others names summaries h) ended minus
items-pass (more_items {others = o} (method d) others) names [] h ended minus =
    item_passes (method d) (items_tokens (pasted_items names [] o)) (items-pass others names [] h) ended minus
items-pass (more_items {others = o} (method {decl = its} d) others) names (summary ∷ summaries) h ended minus =
    decl-passes d (clauses_of names (texts_of its.params) summary) h.0 (items_tokens (pasted_items names summaries o)) (items-pass others names summaries h.1) ended minus
