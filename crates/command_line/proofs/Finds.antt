-- What the rows of uses give, and which choices they make.
use Rattle.std.proofs.Common.{◌≡◌, ◌≤◌, ◌+◌, ℕ, List, [], ◌∷◌, Bool, true, false, cond, find, Option, None, Some, codes, slice_get, option_and_then, option_map, refl, sym, ap, ◌∙◌, arith, lt-ltb}
use Rattle.std.specs.Option.{option_map_or}
use Rattle.std.specs.Str.{bytes_eq}
use Rattle.std.proofs.lemmas.Option.{cond_some, none-some, same_Some}
use Rattle.clap.specs.Walk.{Row, Text, first_of}
use Rattle.command_line.specs.declared.setting.Setting.{Setting}
use Rattle.command_line.specs.Options.{Item, of, flag, size, Among, Choice, set, journal, load, number_for, size_in, numbers_for, flags, sizes, has_flag}
use Rattle.command_line.specs.inner.Reading.{id, number_in}
use Rattle.command_line.proofs.Lookups.{one_item, own_name}
use Rattle.command_line.proofs.Rows.{Use, row, rows, is_valued}
use Rattle.command_line.proofs.Uses.{once_if, times, Distinct, chosen, all_chosen, Splits, splits, chosen_first, map_some, settings_once, not_a_setting}
use Rattle.command_line.proofs.Cuts.{HasFlagText, Proper}

-- ---- the text of an item

abbrev pub text_of : Item → List Use → Option Text
text_of item [] = None
text_of item (u ∷ uses) = cond (bytes_eq (id u.0) (id item)) (Some u.1) (text_of item uses)

abbrev named : Item → Row → Bool
named item r = bytes_eq r.id (id item)

pub first_is : (item : Item) (uses : List Use) → first_of (id item) (rows uses) ≡ text_of item uses
first_is item [] = refl
first_is item (u ∷ uses) = by_test (first_is item uses) (bytes_eq (id u.0) (id item))
  where
    by_test : first_of (id item) (rows uses) ≡ text_of item uses → (b : Bool)
        → option_and_then (λ (r : Row). slice_get r.values 0) (cond b (Some (row u)) (find (named item) (rows uses))) ≡ cond b (Some u.1) (text_of item uses)
    by_test more true = refl
    by_test more false = more

-- ---- the numbers of the choices

-- the number that a text gives for an item that takes one
abbrev pub value_in : Item → Text → Option ℕ
value_in (of setting) text = number_for setting text
value_in size text = size_in text
value_in flag text = None

abbrev pub head_of : List ℕ → Option ℕ
head_of [] = None
head_of (number ∷ numbers) = Some number

-- the same of the uses after the first
abbrev More : Setting → List Use → Type 0
More setting uses = (others : List Choice) → all_chosen uses ≡ Some others → number_in (number_for setting) (text_of (of setting) uses) ≡ Some (head_of (numbers_for setting others))

pub numbers_are : (setting : Setting) (uses : List Use) (choices : List Choice) → all_chosen uses ≡ Some choices
    → number_in (number_for setting) (text_of (of setting) uses) ≡ Some (head_of (numbers_for setting choices))
numbers_are setting [] choices e = ap (λ (cs : List Choice). Some (head_of (numbers_for setting cs))) (same_Some [] choices e)
numbers_are setting (u ∷ uses) choices e = by_parts u (splits u uses choices e) (numbers_are setting uses)
  where
    later : More setting uses → (text : Text) (b : Bool) (others : List Choice) → b ≡ false → all_chosen uses ≡ Some others
        → number_in (number_for setting) (cond b (Some text) (text_of (of setting) uses)) ≡ Some (head_of (numbers_for setting others))
    later more text b others differs are = ap (λ (t : Bool). number_in (number_for setting) (cond t (Some text) (text_of (of setting) uses))) differs ∙ more others are

    by_same : More setting uses → (other : Setting) (text : Text) (number : ℕ) (others : List Choice) (b : Bool) → bytes_eq (id (of other)) (id (of setting)) ≡ b → number_for other text ≡ Some number
        → all_chosen uses ≡ Some others
        → number_in (number_for setting) (cond b (Some text) (text_of (of setting) uses)) ≡ Some (head_of (cond b (number ∷ numbers_for setting others) (numbers_for setting others)))
    by_same more other text number others true same is are =
        ap (λ (o : Option ℕ). option_map (λ n. Some n) o) (ap (λ (i : Item). value_in i text) (sym (one_item (of other) (of setting) same)) ∙ is)
    by_same more other text number others false differs is are = more others are

    by_parts : (u : Use) → Splits u uses choices → More setting uses → number_in (number_for setting) (text_of (of setting) (u ∷ uses)) ≡ Some (head_of (numbers_for setting choices))
    by_parts (of other, text) s more = map_some (λ number. set other number) (number_for other text) s.choice s.choice_is (λ number is same.
        by_same more other text number s.others (bytes_eq (id (of other)) (id (of setting))) refl is s.others_are
        ∙ ap (λ (b : Bool). Some (head_of (cond b (number ∷ numbers_for setting s.others) (numbers_for setting s.others)))) (settings_once setting other)
        ∙ ap (λ (c : Choice). Some (head_of (numbers_for setting (c ∷ s.others)))) same ∙ ap (λ (cs : List Choice). Some (head_of (numbers_for setting cs))) s.are)
    by_parts (flag, text) s more =
        later more text (bytes_eq (id flag) (id (of setting))) s.others (not_a_setting setting).0 s.others_are
        ∙ ap (λ (c : Choice). Some (head_of (numbers_for setting (c ∷ s.others)))) (cond_some (bytes_eq text (codes "true")) journal s.choice s.choice_is).1
        ∙ ap (λ (cs : List Choice). Some (head_of (numbers_for setting cs))) s.are
    by_parts (size, text) s more = map_some (λ number. load number) (size_in text) s.choice s.choice_is (λ number is same.
        later more text (bytes_eq (id size) (id (of setting))) s.others (not_a_setting setting).1 s.others_are
        ∙ ap (λ (c : Choice). Some (head_of (numbers_for setting (c ∷ s.others)))) same ∙ ap (λ (cs : List Choice). Some (head_of (numbers_for setting cs))) s.are)

pub size_is : (uses : List Use) (choices : List Choice) → all_chosen uses ≡ Some choices → option_and_then size_in (text_of size uses) ≡ head_of (sizes choices)
size_is [] choices e = ap (λ (cs : List Choice). head_of (sizes cs)) (same_Some [] choices e)
size_is (u ∷ uses) choices e = by_parts u (splits u uses choices e) (size_is uses)
  where
    by_parts : (u : Use) → Splits u uses choices → ((others : List Choice) → all_chosen uses ≡ Some others → option_and_then size_in (text_of size uses) ≡ head_of (sizes others)) → option_and_then size_in (text_of size (u ∷ uses)) ≡ head_of (sizes choices)
    by_parts (of other, text) s more = map_some (λ number. set other number) (number_for other text) s.choice s.choice_is (λ number is same.
        ap (λ (t : Bool). option_and_then size_in (cond t (Some text) (text_of size uses))) (not_a_setting other).3 ∙ more s.others s.others_are
        ∙ ap (λ (c : Choice). head_of (sizes (c ∷ s.others))) same ∙ ap (λ (cs : List Choice). head_of (sizes cs)) s.are)
    by_parts (flag, text) s more =
        more s.others s.others_are
        ∙ ap (λ (c : Choice). head_of (sizes (c ∷ s.others))) (cond_some (bytes_eq text (codes "true")) journal s.choice s.choice_is).1 ∙ ap (λ (cs : List Choice). head_of (sizes cs)) s.are
    by_parts (size, text) s more = map_some (λ number. load number) (size_in text) s.choice s.choice_is (λ number is same.
        is ∙ ap (λ (c : Choice). head_of (sizes (c ∷ s.others))) same ∙ ap (λ (cs : List Choice). head_of (sizes cs)) s.are)

abbrev is_true : Option Text → Bool
is_true o = option_map_or (λ text. bytes_eq text (codes "true")) o false

pub flag_is : (uses : List Use) (choices : List Choice) → all_chosen uses ≡ Some choices → is_true (text_of flag uses) ≡ has_flag choices
flag_is [] choices e = ap has_flag (same_Some [] choices e)
flag_is (u ∷ uses) choices e = by_parts u (splits u uses choices e) (flag_is uses)
  where
    by_parts : (u : Use) → Splits u uses choices → ((others : List Choice) → all_chosen uses ≡ Some others → is_true (text_of flag uses) ≡ has_flag others) → is_true (text_of flag (u ∷ uses)) ≡ has_flag choices
    by_parts (of other, text) s more = map_some (λ number. set other number) (number_for other text) s.choice s.choice_is (λ number is same.
        ap (λ (t : Bool). is_true (cond t (Some text) (text_of flag uses))) (not_a_setting other).2 ∙ more s.others s.others_are
        ∙ ap (λ (c : Choice). has_flag (c ∷ s.others)) same ∙ ap has_flag s.are)
    by_parts (flag, text) s more =
        let found = cond_some (bytes_eq text (codes "true")) journal s.choice s.choice_is in
        found.0 ∙ sym (lt-ltb 0 (flags s.others + 1) (omega arith)) ∙ ap (λ (c : Choice). has_flag (c ∷ s.others)) found.1 ∙ ap has_flag s.are
    by_parts (size, text) s more = map_some (λ number. load number) (size_in text) s.choice s.choice_is (λ number is same.
        more s.others s.others_are ∙ ap (λ (c : Choice). has_flag (c ∷ s.others)) same ∙ ap has_flag s.are)

-- ---- each use makes a choice, if each text gives a number

used_if : (item : Item) (uses : List Use) (text : Text) → text_of item uses ≡ Some text → 1 ≤ times item uses
used_if item [] text e = absurd (none-some text e)
used_if item (u ∷ uses) text e = by_test (used_if item uses text) (bytes_eq (id u.0) (id item)) e
  where
    by_test : (text_of item uses ≡ Some text → 1 ≤ times item uses) → (b : Bool) → cond b (Some u.1) (text_of item uses) ≡ Some text → 1 ≤ once_if b + times item uses
    by_test more true e = omega arith
    by_test more false e = omega (arith, more e)

-- each text of the items that take one gives a number
abbrev pub GiveNumbers : List Item → List Use → Type 0
GiveNumbers items uses = (item : Item) → Among item items → is_valued item ≡ true → (text : Text) → text_of item uses ≡ Some text → (number : ℕ) × (value_in item text ≡ Some number)

fewer : (u : Use) (uses : List Use) → Distinct (u ∷ uses) → Distinct uses
fewer u uses d item = omega (arith, d item)

give_later : (items : List Item) (u : Use) (uses : List Use) → Distinct (u ∷ uses) → GiveNumbers items (u ∷ uses) → GiveNumbers items uses
give_later items u uses d gives item among valued text e = gives item among valued text (by_test (bytes_eq (id u.0) (id item)) refl)
  where
    by_test : (b : Bool) → bytes_eq (id u.0) (id item) ≡ b → cond b (Some u.1) (text_of item uses) ≡ Some text
    by_test true same = absurd (omega (arith, d item, ap once_if same, used_if item uses text e))
    by_test false differs = e

own_text : (u : Use) (uses : List Use) → text_of u.0 (u ∷ uses) ≡ Some u.1
own_text u uses = ap (λ (b : Bool). cond b (Some u.1) (text_of u.0 uses)) (own_name (id u.0))

one_chosen : (u : Use) → HasFlagText u → (is_valued u.0 ≡ true → (number : ℕ) × (value_in u.0 u.1 ≡ Some number)) → (choice : Choice) × (chosen u ≡ Some choice)
one_chosen (of setting, text) is gives = let g = gives refl in (set setting g.0, ap (λ (o : Option ℕ). option_map (λ number. set setting number) o) g.1)
one_chosen (flag, text) is gives = (journal, ap (λ (t : Text). cond (bytes_eq t (codes "true")) (Some journal) None) is)
one_chosen (size, text) is gives = let g = gives refl in (load g.0, ap (λ (o : Option ℕ). option_map (λ number. load number) o) g.1)

pub all_chosen_if : (items : List Item) (uses : List Use) → Distinct uses → Proper items uses → GiveNumbers items uses → (choices : List Choice) × (all_chosen uses ≡ Some choices)
all_chosen_if items [] d proper gives = ([], refl)
all_chosen_if items (u ∷ uses) d proper gives =
    let later = all_chosen_if items uses (fewer u uses d) proper.1 (give_later items u uses d gives) in
    let now = one_chosen u proper.0.1 (λ valued. gives u.0 proper.0.0 valued u.1 (own_text u uses)) in
    (now.0 ∷ later.0, chosen_first u uses now.0 later.0 now.1 later.1)
