-- What a use of an argument adds to the rows of `clap`, and when a use fails.
use Rattle.std.proofs.Common.{◌≡◌, ◌||◌, ◌&&◌, List, [], ◌∷◌, ◌++◌, map, Bool, true, false, cond, None, Some, codes, refl, sym, ap, ◌∙◌, true≢false, append-nil, length, arith}
use Rattle.std.specs.Str.{bytes_eq}
use Rattle.std.proofs.lemmas.List.{map-append}
use Rattle.clap.specs.Walk.{Row, Text, at_row, has_row, more_values, reading_by, used, with_values, without}
use Rattle.clap.specs.Kinds.{Kinds, or_else}
use Rattle.clap.specs.Faults.{repeat_fault, use_fault}
use Rattle.clap.specs.declared.builder.value_parser.Reading.{Reading}
use Rattle.clap.specs.declared.error.kind.ErrorKind.{ErrorKind}
use Rattle.clap.specs.declared.error.kind.ErrorKind.TheVariants.{ArgumentConflict}
use Rattle.clap.specs.declared.parser.matches.ValueSource.TheVariants.{CommandLine}
use Rattle.command_line.specs.declared.setting.Setting.TheVariants.{Workers, Fuel, Tasks}
use Rattle.command_line.specs.Options.{Item, of, flag, size}
use Rattle.command_line.specs.inner.Reading.{id}
use Rattle.command_line.proofs.Lookups.{rule}

-- a use of an item, with its text
abbrev pub Use : Type 0
Use = Item × Text

abbrev pub row : Use → Row
row u = record { id = id u.0; values = u.1 ∷ []; count = None; source = Some CommandLine; reading = reading_by (rule u.0) }

abbrev pub rows : List Use → List Row
rows uses = map row uses

abbrev pub is_used : Item → List Use → Bool
is_used item uses = has_row (id item) (rows uses)

-- the item takes a text
abbrev pub is_valued : Item → Bool
is_valued (of setting) = true
is_valued flag = false
is_valued size = true

-- ---- lists of kinds

pub some_kind : {P : Type 0} (k : ErrorKind) (ks : Kinds) → k ∷ ks ≡ [] → P
some_kind k ks e = absurd (omega (arith, ap (λ (x : Kinds). length x) e))

pub both_empty : (a b : Kinds) → or_else a b ≡ [] → (a ≡ []) × (b ≡ [])
both_empty [] b e = (refl, e)
both_empty (k ∷ ks) b e = some_kind k ks e

pub passes_both : (a b : Kinds) → a ≡ [] → b ≡ [] → or_else a b ≡ []
passes_both a b ea eb = ap (λ (x : Kinds). or_else x b) ea ∙ eb

-- ---- a new row

pub at_missing : (name : Text) (change : Row → List Row) (missing rs : List Row) → has_row name rs ≡ false → at_row name change missing rs ≡ rs ++ missing
at_missing name change missing [] e = refl
at_missing name change missing (r ∷ rs) e = by_test (at_missing name change missing rs) (bytes_eq r.id name) e
  where
    by_test : (has_row name rs ≡ false → at_row name change missing rs ≡ rs ++ missing) → (b : Bool) → (b || has_row name rs) ≡ false → cond b (change r ++ rs) (r ∷ at_row name change missing rs) ≡ r ∷ (rs ++ missing)
    by_test more true e = absurd (true≢false e)
    by_test more false e = ap (λ (xs : List Row). r ∷ xs) (more e)

abbrev plain_row : Text → Reading → Text → Row
plain_row name how text = record { id = name; values = text ∷ []; count = None; source = Some CommandLine; reading = how }

row_added : (name : Text) (how : Reading) (text : Text) (rs : List Row) → has_row name rs ≡ false
    → with_values name how CommandLine (text ∷ []) (without name rs) ≡ rs ++ plain_row name how text ∷ []
row_added name how text rs e =
    ap (with_values name how CommandLine (text ∷ [])) (at_missing name (λ _. []) [] rs e ∙ append-nil rs)
    ∙ at_missing name (more_values CommandLine (text ∷ [])) (plain_row name how text ∷ []) rs e

pub used_value : (item : Item) → is_valued item ≡ true → (text : Text) (uses : List Use) → is_used item uses ≡ false
    → used (rule item) (text ∷ []) (rows uses) ≡ rows (uses ++ (item, text) ∷ [])
used_value (of Workers) valued text uses new = row_added (id (of Workers)) (reading_by (rule (of Workers))) text (rows uses) new ∙ sym (map-append row uses ((of Workers, text) ∷ []))
used_value (of Fuel) valued text uses new = row_added (id (of Fuel)) (reading_by (rule (of Fuel))) text (rows uses) new ∙ sym (map-append row uses ((of Fuel, text) ∷ []))
used_value (of Tasks) valued text uses new = row_added (id (of Tasks)) (reading_by (rule (of Tasks))) text (rows uses) new ∙ sym (map-append row uses ((of Tasks, text) ∷ []))
used_value flag valued text uses new = absurd (true≢false (sym valued))
used_value size valued text uses new = row_added (id size) (reading_by (rule size)) text (rows uses) new ∙ sym (map-append row uses ((size, text) ∷ []))

pub used_flag : (uses : List Use) → is_used flag uses ≡ false → used (rule flag) [] (rows uses) ≡ rows (uses ++ (flag, codes "true") ∷ [])
used_flag uses new = row_added (id flag) (reading_by (rule flag)) (codes "true") (rows uses) new ∙ sym (map-append row uses ((flag, codes "true") ∷ []))

-- ---- a use fails only if the item was used before

abbrev pub second_use : Item → List Row → Kinds
second_use item rs = or_else (repeat_fault false (id item) rs) []

pub value_fault : (item : Item) → is_valued item ≡ true → (text : Text) (rs : List Row) → use_fault false (rule item) (text ∷ []) rs ≡ second_use item rs
value_fault (of Workers) valued text rs = refl
value_fault (of Fuel) valued text rs = refl
value_fault (of Tasks) valued text rs = refl
value_fault flag valued text rs = absurd (true≢false (sym valued))
value_fault size valued text rs = refl

pub flag_fault : (rs : List Row) → use_fault false (rule flag) [] rs ≡ second_use flag rs
flag_fault rs = refl

abbrev if_used : Bool → Kinds
if_used b = or_else (cond (b && true) (ArgumentConflict ∷ []) []) []

new_if : (b : Bool) → if_used b ≡ [] → b ≡ false
new_if true e = some_kind ArgumentConflict [] e
new_if false e = refl

pub new_use : (item : Item) (rs : List Row) → second_use item rs ≡ [] → has_row (id item) rs ≡ false
new_use item rs e = new_if (has_row (id item) rs) e

pub new_passes : (item : Item) (rs : List Row) → has_row (id item) rs ≡ false → second_use item rs ≡ []
new_passes item rs e = ap if_used e
