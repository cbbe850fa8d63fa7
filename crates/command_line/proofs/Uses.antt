-- How often items are used, and which choices uses make.
use Rattle.std.proofs.Common.{◌≡◌, ◌≤◌, ◌+◌, ◌||◌, ℕ, List, [], ◌∷◌, ◌++◌, length, Bool, true, false, cond, Option, None, Some, codes, option_and_then, option_map, refl, sym, ap, ◌∙◌, arith, true≢false}
use Rattle.std.specs.Str.{bytes_eq}
use Rattle.std.proofs.lemmas.Option.{option_and_then_some, cond_some, none-some, same_Some}
use Rattle.clap.specs.Walk.{Text}
use Rattle.command_line.specs.declared.setting.Setting.{Setting}
use Rattle.command_line.specs.declared.setting.Setting.TheVariants.{Workers, Fuel, Tasks}
use Rattle.command_line.specs.Options.{Item, of, flag, size, Choice, set, journal, load, number_for, size_in, same_setting, numbers_for, flags, sizes}
use Rattle.command_line.specs.inner.Reading.{id}
use Rattle.command_line.proofs.Lookups.{one_item, own_name}
use Rattle.command_line.proofs.Rows.{Use, is_used}

-- ---- how often

abbrev pub once_if : Bool → ℕ
once_if true = 1
once_if false = 0

abbrev pub once : Item → Item → ℕ
once item other = once_if (bytes_eq (id other) (id item))

abbrev pub times : Item → List Use → ℕ
times item [] = 0
times item (use_ ∷ uses) = once item use_.0 + times item uses

pub times_join : (item : Item) (uses more : List Use) → times item (uses ++ more) ≡ times item uses + times item more
times_join item [] more = omega arith
times_join item (u ∷ uses) more = omega (arith, times_join item uses more)

pub own_once : (item : Item) → once item item ≡ 1
own_once item = ap once_if (own_name (id item))

pub not_used : (item : Item) (uses : List Use) → is_used item uses ≡ false → times item uses ≡ 0
not_used item [] e = refl
not_used item (u ∷ uses) e = by_test (not_used item uses) (bytes_eq (id u.0) (id item)) e
  where
    by_test : (is_used item uses ≡ false → times item uses ≡ 0) → (b : Bool) → (b || is_used item uses) ≡ false → once_if b + times item uses ≡ 0
    by_test more true e = absurd (true≢false e)
    by_test more false e = omega (arith, more e)

pub never_used : (item : Item) (uses : List Use) → times item uses ≡ 0 → is_used item uses ≡ false
never_used item [] e = refl
never_used item (u ∷ uses) e = by_test (never_used item uses) (bytes_eq (id u.0) (id item)) e
  where
    by_test : (times item uses ≡ 0 → is_used item uses ≡ false) → (b : Bool) → once_if b + times item uses ≡ 0 → (b || is_used item uses) ≡ false
    by_test more true e = absurd (omega (arith, e))
    by_test more false e = more (omega (arith, e))

-- no item is used twice
abbrev pub Distinct : List Use → Type 0
Distinct uses = (item : Item) → times item uses ≤ 1

pub one_more : (uses : List Use) (item : Item) (text : Text) → Distinct uses → is_used item uses ≡ false → Distinct (uses ++ (item, text) ∷ [])
one_more uses item text distinct new other = by_test (bytes_eq (id item) (id other)) refl
  where
    by_test : (b : Bool) → bytes_eq (id item) (id other) ≡ b → times other (uses ++ (item, text) ∷ []) ≤ 1
    by_test true same =
        let none : times other uses ≡ 0 = ap (λ (i : Item). times i uses) (sym (one_item item other same)) ∙ not_used item uses new in
        omega (arith, times_join other uses ((item, text) ∷ []), none, ap once_if same)
    by_test false differs = omega (arith, times_join other uses ((item, text) ∷ []), distinct other, ap once_if differs)

-- ---- the choices

abbrev pub chosen : Use → Option Choice
chosen (of setting, text) = option_map (λ number. set setting number) (number_for setting text)
chosen (flag, text) = cond (bytes_eq text (codes "true")) (Some journal) None
chosen (size, text) = option_map (λ number. load number) (size_in text)

abbrev pub all_chosen : List Use → Option (List Choice)
all_chosen [] = Some []
all_chosen (u ∷ uses) = option_and_then (λ choice. option_map (λ choices. choice ∷ choices) (all_chosen uses)) (chosen u)

pub map_some : {A B P : Type 0} (f : A → B) (o : Option A) (y : B) → option_map f o ≡ Some y → ((x : A) → o ≡ Some x → f x ≡ y → P) → P
map_some f None y e k = absurd (none-some y e)
map_some f (Some x) y e k = k x refl (same_Some (f x) y e)

-- the choices of a use and of those after it
pub record Splits (u : Use) (uses : List Use) (choices : List Choice) : Type 0 where
  pub choice : Choice
  pub others : List Choice
  pub choice_is : chosen u ≡ Some choice
  pub others_are : all_chosen uses ≡ Some others
  pub are : choice ∷ others ≡ choices

pub splits : (u : Use) (uses : List Use) (choices : List Choice) → all_chosen (u ∷ uses) ≡ Some choices → Splits u uses choices
splits u uses choices e =
    option_and_then_some (λ choice. option_map (λ others. choice ∷ others) (all_chosen uses)) (chosen u) choices e (λ choice is later.
    map_some (λ others. choice ∷ others) (all_chosen uses) choices later (λ others are same.
    record { choice = choice; others = others; choice_is = is; others_are = are; are = same }))

pub chosen_first : (u : Use) (uses : List Use) (choice : Choice) (others : List Choice) → chosen u ≡ Some choice → all_chosen uses ≡ Some others
    → all_chosen (u ∷ uses) ≡ Some (choice ∷ others)
chosen_first u uses choice others is are =
    ap (λ (o : Option Choice). option_and_then (λ c. option_map (λ cs. c ∷ cs) (all_chosen uses)) o) is ∙ ap (λ (o : Option (List Choice)). option_map (λ cs. choice ∷ cs) o) are

-- how often an item is among the choices
abbrev pub item_of : Choice → Item
item_of (set setting number) = of setting
item_of journal = flag
item_of (load number) = size

abbrev pub times_chosen : Item → List Choice → ℕ
times_chosen item [] = 0
times_chosen item (choice ∷ choices) = once item (item_of choice) + times_chosen item choices

chosen_item : (u : Use) (choice : Choice) → chosen u ≡ Some choice → u.0 ≡ item_of choice
chosen_item (of setting, text) choice e = map_some (λ number. set setting number) (number_for setting text) choice e (λ number is same. ap item_of same)
chosen_item (flag, text) choice e = ap item_of (cond_some (bytes_eq text (codes "true")) journal choice e).1
chosen_item (size, text) choice e = map_some (λ number. load number) (size_in text) choice e (λ number is same. ap item_of same)

pub same_times : (uses : List Use) (choices : List Choice) (item : Item) → all_chosen uses ≡ Some choices → times item uses ≡ times_chosen item choices
same_times [] choices item e = ap (times_chosen item) (same_Some [] choices e)
same_times (u ∷ uses) choices item e =
    let parts = splits u uses choices e in
    ap (λ (i : Item). once item i + times item uses) (chosen_item u parts.choice parts.choice_is)
    ∙ ap (λ (n : ℕ). once item (item_of parts.choice) + n) (same_times uses parts.others item parts.others_are)
    ∙ ap (times_chosen item) parts.are

-- the same, in the words of the options
pub settings_once : (setting other : Setting) → bytes_eq (id (of other)) (id (of setting)) ≡ same_setting setting other
settings_once Workers Workers = refl
settings_once Workers Fuel = refl
settings_once Workers Tasks = refl
settings_once Fuel Workers = refl
settings_once Fuel Fuel = refl
settings_once Fuel Tasks = refl
settings_once Tasks Workers = refl
settings_once Tasks Fuel = refl
settings_once Tasks Tasks = refl

pub not_a_setting : (setting : Setting) → (bytes_eq (id flag) (id (of setting)) ≡ false) × (bytes_eq (id size) (id (of setting)) ≡ false)
    × (bytes_eq (id (of setting)) (id flag) ≡ false) × (bytes_eq (id (of setting)) (id size) ≡ false)
not_a_setting Workers = (refl, refl, refl, refl)
not_a_setting Fuel = (refl, refl, refl, refl)
not_a_setting Tasks = (refl, refl, refl, refl)

length_if : (b : Bool) (number : ℕ) (numbers : List ℕ) → length (cond b (number ∷ numbers) numbers) ≡ once_if b + length numbers
length_if true number numbers = omega arith
length_if false number numbers = omega arith

pub settings_times : (setting : Setting) (choices : List Choice) → times_chosen (of setting) choices ≡ length (numbers_for setting choices)
settings_times setting [] = refl
settings_times setting (set other number ∷ choices) =
    omega (arith, ap once_if (settings_once setting other), settings_times setting choices, length_if (same_setting setting other) number (numbers_for setting choices))
settings_times setting (journal ∷ choices) = omega (arith, ap once_if (not_a_setting setting).0, settings_times setting choices)
settings_times setting (load number ∷ choices) = omega (arith, ap once_if (not_a_setting setting).1, settings_times setting choices)

pub flag_times : (choices : List Choice) → times_chosen flag choices ≡ flags choices
flag_times [] = refl
flag_times (set setting number ∷ choices) = omega (arith, ap once_if (not_a_setting setting).2, flag_times choices)
flag_times (journal ∷ choices) = omega (arith, flag_times choices)
flag_times (load number ∷ choices) = omega (arith, flag_times choices)

pub size_times : (choices : List Choice) → times_chosen size choices ≡ length (sizes choices)
size_times [] = refl
size_times (set setting number ∷ choices) = omega (arith, ap once_if (not_a_setting setting).3, size_times choices)
size_times (journal ∷ choices) = omega (arith, size_times choices)
size_times (load number ∷ choices) = omega (arith, size_times choices)
