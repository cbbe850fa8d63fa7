-- The names of regions and parameters of a text are read as names.
use Rattle.std.proofs.Common.{◌≡◌, ◌<◌, ℕ, zero, suc, Bool, true, false, List, [], ◌∷◌, ◌++◌, length, codes, inl, inr, refl, sym, subst, arith}
use Rattle.std.specs.List.{AllByRecursion, flat_map}
use Rattle.twe_ast.specs.declared.item.Decl.{Decl}
use Rattle.twe_ast.specs.declared.item.Item.{Item}
use Rattle.twe_ast.specs.declared.item.Item.TheVariants as items
use Rattle.twe_ast.specs.declared.name.Name.{Name}
use Rattle.twe_lexer.specs.declared.fixed.Fixed.TheVariants as fixed
use Rattle.twe_lexer.specs.declared.token.TokenKind.{TokenKind}
use Rattle.twe_lexer.specs.declared.token.TokenKind.TheVariants as kinds
use Rattle.twe_lexer.specs.Kinds.{kind_of}
use Rattle.twe_parser.specs.declared.limits.Sofar.{Sofar}
use Rattle.twe_parser.specs.Limits.{sofar_after}
use Rattle.name_check.specs.Limits.{decls_of_item}
use Rattle.twe_names.specs.Meaning.{regions_of_item}
use Rattle.ast_printer.specs.Text.{when}
use Rattle.ast_printer.specs.ItemTokens.{names_tokens, params_tokens, decl_tokens, item_tokens, items_tokens}
use Rattle.ast_printer.proofs.Passing.{Sound, AllPass}
use Rattle.twe_base.proofs.Members.{IsIn, all-append, all-front, all-back}
use Rattle.summary_texts.specs.paste_laws.Clauses.{name_at, texts_of}

-- the text is read as a name
abbrev pub IsRead : List ℕ → Type 0
IsRead text = kind_of text ≡ kinds.Name text

abbrev pub Sounds : List TokenKind → Type 0
Sounds words = AllByRecursion Sound words

pub all-sound : (words : List TokenKind) (sofar : Sofar) → AllPass sofar words → Sounds words
all-sound [] sofar pass = tt
all-sound (word ∷ words) sofar pass = (pass.0.sound, all-sound words (sofar_after sofar word) pass.1)

names-sound : (later : Bool) (names : List Name) (more : List TokenKind) → Sounds (names_tokens later names ++ more) → AllByRecursion IsRead (texts_of names)
names-sound later [] more h = tt
names-sound true (name ∷ names) more h = (h.1.0, names-sound true names more h.1.1)
names-sound false (name ∷ names) more h = (h.0, names-sound true names more h.1)

params-sound : (later : Bool) (names : List Name) (more : List TokenKind) → Sounds (params_tokens later names ++ more) → AllByRecursion IsRead (texts_of names)
params-sound later [] more h = tt
params-sound true (name ∷ names) more h = (h.1.1.0, params-sound true names more h.1.1.1)
params-sound false (name ∷ names) more h = (h.1.0, params-sound true names more h.1.1)

item-regions : (item : Item) → Sounds (item_tokens item) → AllByRecursion IsRead (regions_of_item item)
item-regions (items.Regions names) h = names-sound false names (kinds.Fixed fixed.Semicolon ∷ []) h.1
item-regions (items.Cell cell) h = tt
item-regions (items.Method decl) h = tt
item-regions (items.Task deterministic decl) h = tt

regions-sound : (all : List Item) → Sounds (items_tokens all) → AllByRecursion IsRead (flat_map regions_of_item all)
regions-sound [] h = tt
regions-sound (item ∷ others) h =
    all-append IsRead (regions_of_item item) (flat_map regions_of_item others) (item-regions item (all-front Sound (item_tokens item) (items_tokens others) h))
    (regions-sound others (all-back Sound (item_tokens item) (items_tokens others) h))

decl-params : (decl : Decl) → Sounds (decl_tokens decl) → AllByRecursion IsRead (texts_of decl.params)
decl-params decl h = params-sound false decl.params _ h.1.1.1

-- the names of the regions of a program are, `Console` among them
pub program-regions : (all : List Item) → Sounds (items_tokens all) → AllByRecursion IsRead (codes "Console" ∷ flat_map regions_of_item all)
program-regions all h = (refl, regions-sound all h)

pub item-params : (item : Item) → Sounds (item_tokens item) → (decl : Decl) → IsIn decl (decls_of_item item) → AllByRecursion IsRead (texts_of decl.params)
item-params (items.Regions names) h decl there = absurd there
item-params (items.Cell cell) h decl there = absurd there
item-params (items.Method its) h decl (inl e) = subst (λ (d : Decl). AllByRecursion IsRead (texts_of d.params)) (sym e) (decl-params its h)
item-params (items.Method its) h decl (inr none) = absurd none
item-params (items.Task deterministic its) h decl (inl e) =
    subst (λ (d : Decl). AllByRecursion IsRead (texts_of d.params)) (sym e)
    (decl-params its (all-back Sound (when deterministic fixed.Deterministic ++ kinds.Fixed fixed.Task ∷ []) (decl_tokens its) (regroup deterministic (decl_tokens its) h)))
  where
    regroup : (b : Bool) (words : List TokenKind) → Sounds (when b fixed.Deterministic ++ kinds.Fixed fixed.Task ∷ words) → Sounds ((when b fixed.Deterministic ++ kinds.Fixed fixed.Task ∷ []) ++ words)
    regroup true words h = h
    regroup false words h = h
item-params (items.Task deterministic its) h decl (inr none) = absurd none

pub read-at : (names : List (List ℕ)) → AllByRecursion IsRead names → (n : ℕ) → n < length names → IsRead (name_at names n)
read-at [] h n below = absurd (omega arith)
read-at (name ∷ names) h zero below = h.0
read-at (name ∷ names) h (suc n) below = read-at names h.1 n (omega arith)
