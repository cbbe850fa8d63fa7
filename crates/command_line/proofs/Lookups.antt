-- The arguments of a command, and which of them a name or a place finds.
use Rattle.std.proofs.Common.{◌≡◌, ◌||◌, ◌&&◌, not, ℕ, List, [], ◌∷◌, map, Bool, true, false, cond, is_some, None, Some, codes, ◌⊎◌, inl, inr, ⊎_elim, refl, sym, ap, ◌∙◌, subst, true≢false}
use Rattle.std.specs.Str.{bytes_eq}
use Rattle.std.proofs.lemmas.Option.{none-some, same_Some}
use Rattle.std.proofs.lemmas.Slice.Eq.{bytes_eq-Decides}
use Rattle.clap.specs.Walk.{Rule, Text, arg_by_id, arg_by_index, arg_by_long, arg_by_short, has_long, has_short}
use Rattle.clap.specs.Simple.{filled, with_index}
use Rattle.command_line.specs.declared.setting.Setting.TheVariants.{Workers, Fuel, Tasks}
use Rattle.command_line.specs.Options.{Item, of, flag, size, Among, first, later}
use Rattle.command_line.specs.inner.Reading.{id, argument}

-- the argument of an item, and those of items, as a built command has them
abbrev pub rule : Item → Rule
rule item = with_index 1 (filled (argument item))

abbrev pub rules : List Item → List Rule
rules items = map rule items

-- the item has a name that begins with `--`
abbrev pub is_named : Item → Bool
is_named (of setting) = true
is_named flag = true
is_named size = false

-- items have different names
abbrev item_with : Text → Item
item_with text =
    cond (bytes_eq text (codes "workers")) (of Workers) (cond (bytes_eq text (codes "fuel")) (of Fuel) (cond (bytes_eq text (codes "tasks")) (of Tasks)
    (cond (bytes_eq text (codes "journal")) flag size)))

found_again : (item : Item) → item_with (id item) ≡ item
found_again (of Workers) = refl
found_again (of Fuel) = refl
found_again (of Tasks) = refl
found_again flag = refl
found_again size = refl

pub one_item : (item other : Item) → bytes_eq (id item) (id other) ≡ true → item ≡ other
one_item item other same = sym (found_again item) ∙ ap item_with ((bytes_eq-Decides (id item) (id other)).0 same) ∙ found_again other

pub own_name : (text : Text) → bytes_eq text text ≡ true
own_name text = (bytes_eq-Decides text text).1 refl

pub or_false : (b : Bool) → (b || false) ≡ b
or_false true = refl
or_false false = refl

pub and_false : (b : Bool) → (b && false) ≡ false
and_false true = refl
and_false false = refl

-- it is the first of the items, or one of the others
split_among : {item other : Item} {items : List Item} → Among item (other ∷ items) → (item ≡ other) ⊎ Among item items
split_among first = inl refl
split_among (later among) = inr among

-- ---- by id

pub by_id : (items : List Item) (item : Item) → Among item items → arg_by_id (rules items) (id item) ≡ Some (rule item)
by_id [] item among = elim among [ ]
by_id (other ∷ items) item among = by_test (by_id items item) (bytes_eq (id other) (id item)) refl among
  where
    by_test : (Among item items → arg_by_id (rules items) (id item) ≡ Some (rule item)) → (b : Bool) → bytes_eq (id other) (id item) ≡ b → Among item (other ∷ items)
        → cond b (Some (rule other)) (arg_by_id (rules items) (id item)) ≡ Some (rule item)
    by_test more true same among = ap (λ (i : Item). Some (rule i)) (one_item other item same)
    by_test more false differs among =
        ⊎_elim (λ same. absurd (true≢false (sym ((bytes_eq-Decides (id other) (id item)).1 (ap id (sym same))) ∙ differs))) more (split_among among)

-- ---- by a name that begins with `--`

abbrev has_name : Text → Rule → Bool
has_name name a = not (is_some a.index) && has_long a name

named_so : (item : Item) (name : Text) → has_name name (rule item) ≡ true → (is_named item ≡ true) × (id item ≡ name)
named_so (of Workers) name e = (refl, (bytes_eq-Decides (codes "workers") name).0 (sym (or_false (bytes_eq (codes "workers") name)) ∙ e))
named_so (of Fuel) name e = (refl, (bytes_eq-Decides (codes "fuel") name).0 (sym (or_false (bytes_eq (codes "fuel") name)) ∙ e))
named_so (of Tasks) name e = (refl, (bytes_eq-Decides (codes "tasks") name).0 (sym (or_false (bytes_eq (codes "tasks") name)) ∙ e))
named_so flag name e = (refl, (bytes_eq-Decides (codes "journal") name).0 (sym (or_false (bytes_eq (codes "journal") name)) ∙ e))
named_so size name e = absurd (true≢false (sym e))

has_own_name : (item : Item) → is_named item ≡ true → has_name (id item) (rule item) ≡ true
has_own_name (of Workers) e = refl
has_own_name (of Fuel) e = refl
has_own_name (of Tasks) e = refl
has_own_name flag e = refl
has_own_name size e = absurd (true≢false (sym e))

pub by_long : (items : List Item) (item : Item) → is_named item ≡ true → Among item items → arg_by_long (rules items) (id item) ≡ Some (rule item)
by_long [] item named among = elim among [ ]
by_long (other ∷ items) item named among = by_test (by_long items item named) (has_name (id item) (rule other)) refl among
  where
    by_test : (Among item items → arg_by_long (rules items) (id item) ≡ Some (rule item)) → (b : Bool) → has_name (id item) (rule other) ≡ b → Among item (other ∷ items)
        → cond b (Some (rule other)) (arg_by_long (rules items) (id item)) ≡ Some (rule item)
    by_test more true same among = ap (λ (i : Item). Some (rule i)) (one_item other item ((bytes_eq-Decides (id other) (id item)).1 (named_so other (id item) same).1))
    by_test more false differs among =
        ⊎_elim (λ same. absurd (true≢false (sym (subst (λ (i : Item). has_name (id item) (rule i) ≡ true) same (has_own_name item named)) ∙ differs))) more (split_among among)

-- what a name finds
pub record IsNamed (items : List Item) (name : Text) (a : Rule) : Type 0 where
  pub item : Item
  pub among : Among item items
  pub named : is_named item ≡ true
  pub name_is : id item ≡ name
  pub rule_is : a ≡ rule item

pub long_found : (items : List Item) (name : Text) (a : Rule) → arg_by_long (rules items) name ≡ Some a → IsNamed items name a
long_found [] name a e = absurd (none-some a e)
long_found (other ∷ items) name a e = by_test (long_found items name a) (has_name name (rule other)) refl e
  where
    by_test : (arg_by_long (rules items) name ≡ Some a → IsNamed items name a) → (b : Bool) → has_name name (rule other) ≡ b → cond b (Some (rule other)) (arg_by_long (rules items) name) ≡ Some a → IsNamed (other ∷ items) name a
    by_test found true same e =
        let so = named_so other name same in
        record { item = other; among = first; named = so.0; name_is = so.1; rule_is = sym (same_Some (rule other) a e) }
    by_test found false differs e =
        let more = found e in
        record { item = more.item; among = later more.among; named = more.named; name_is = more.name_is; rule_is = more.rule_is }

-- ---- no argument has a name of one letter

abbrev has_letter : ℕ → Rule → Bool
has_letter x a = not (is_some a.index) && has_short a x

no_letter : (item : Item) (x : ℕ) → has_letter x (rule item) ≡ false
no_letter (of Workers) x = refl
no_letter (of Fuel) x = refl
no_letter (of Tasks) x = refl
no_letter flag x = refl
no_letter size x = refl

pub by_short : (items : List Item) (x : ℕ) → arg_by_short (rules items) x ≡ None
by_short [] x = refl
by_short (item ∷ items) x = ap (λ (b : Bool). cond b (Some (rule item)) (arg_by_short (rules items) x)) (no_letter item x) ∙ by_short items x

-- ---- by place: the size has the first, and no argument has the second

pub by_first_place : (items : List Item) → Among size items → arg_by_index (rules items) 1 ≡ Some (rule size)
by_first_place [] among = elim among [ ]
by_first_place (of Workers ∷ items) (later among) = by_first_place items among
by_first_place (of Fuel ∷ items) (later among) = by_first_place items among
by_first_place (of Tasks ∷ items) (later among) = by_first_place items among
by_first_place (flag ∷ items) (later among) = by_first_place items among
by_first_place (size ∷ items) among = refl

pub first_place_found : (items : List Item) (a : Rule) → arg_by_index (rules items) 1 ≡ Some a → Among size items × (a ≡ rule size)
first_place_found [] a e = absurd (none-some a e)
first_place_found (of Workers ∷ items) a e = let more = first_place_found items a e in (later more.0, more.1)
first_place_found (of Fuel ∷ items) a e = let more = first_place_found items a e in (later more.0, more.1)
first_place_found (of Tasks ∷ items) a e = let more = first_place_found items a e in (later more.0, more.1)
first_place_found (flag ∷ items) a e = let more = first_place_found items a e in (later more.0, more.1)
first_place_found (size ∷ items) a e = (first, sym (same_Some (rule size) a e))

pub no_second_place : (items : List Item) → arg_by_index (rules items) 2 ≡ None
no_second_place [] = refl
no_second_place (of Workers ∷ items) = no_second_place items
no_second_place (of Fuel ∷ items) = no_second_place items
no_second_place (of Tasks ∷ items) = no_second_place items
no_second_place (flag ∷ items) = no_second_place items
no_second_place (size ∷ items) = no_second_place items
