-- What may follow the first word of a command. A setting takes a number: it is the next word, or it follows `=` in the same
-- word. A number is digits alone, so it never begins with `-`. The flag `--journal` takes no number. The size of a load is a
-- number that is a word of its own.
use Rattle.std.specs.Prelude.{◌≡◌, ◌≤◌, ◌+◌, ◌++◌, ℕ, Bool, true, false, List, [], ◌∷◌, length, Option, Some, codes, nat_lt, slice_index_or, if◌then◌else◌}
use Rattle.command_line.specs.declared.setting.Setting.{Setting}
use Rattle.command_line.specs.declared.setting.Setting.TheVariants.{Workers, Fuel, Tasks}
use Rattle.command_line.specs.Numbers.{number_between}
use Rattle.twe_base.specs.Language.{max_fuel, max_tasks}

-- the spelling of a setting
abbrev pub option_spelled : Setting → List ℕ
option_spelled Workers = codes "--workers"
option_spelled Fuel = codes "--fuel"
option_spelled Tasks = codes "--tasks"

-- the largest number of workers
abbrev pub max_workers : ℕ
max_workers = 64

-- The number that a word gives to a setting. Each run has task 0, so the number of tasks is at least 1.
abbrev pub number_for : Setting → List ℕ → Option ℕ
number_for Workers word = number_between 0 max_workers word
number_for Fuel word = number_between 0 max_fuel word
number_for Tasks word = number_between 1 max_tasks word

-- the largest size of a load
abbrev pub max_load : ℕ
max_load = 2000

-- the number that a word gives as the size of a load
abbrev pub size_in : List ℕ → Option ℕ
size_in word = number_between 1 max_load word

-- what a command may take
pub data Item : Type 0 where
  of : Setting → Item
  flag : Item
  size : Item

-- the item is one of these
pub data Among (item : Item) : List Item → Type 0 where
  first : {items : List Item} → Among item (item ∷ items)
  later : {other : Item} {items : List Item} → Among item items → Among item (other ∷ items)

-- what stands in the words: a setting and its number, the flag, or the size of a load
pub data Choice : Type 0 where
  set : Setting → ℕ → Choice
  journal : Choice
  load : ℕ → Choice

-- the words are these choices among the items, one after another
pub data AreOptions (items : List Item) : List (List ℕ) → List Choice → Type 0 where
  no_more : AreOptions items [] []
  value_beside : {words : List (List ℕ)} {choices : List Choice} (setting : Setting) (value : List ℕ) (number : ℕ)
      → Among (of setting) items → number_for setting value ≡ Some number → AreOptions items words choices
      → AreOptions items (option_spelled setting ∷ value ∷ words) (set setting number ∷ choices)
  value_inside : {words : List (List ℕ)} {choices : List Choice} (setting : Setting) (value : List ℕ) (number : ℕ)
      → Among (of setting) items → number_for setting value ≡ Some number → AreOptions items words choices
      → AreOptions items ((option_spelled setting ++ (codes "=" ++ value)) ∷ words) (set setting number ∷ choices)
  flagged : {words : List (List ℕ)} {choices : List Choice} → Among flag items → AreOptions items words choices
      → AreOptions items (codes "--journal" ∷ words) (journal ∷ choices)
  sized : {words : List (List ℕ)} {choices : List Choice} (value : List ℕ) (number : ℕ)
      → Among size items → size_in value ≡ Some number → AreOptions items words choices
      → AreOptions items (value ∷ words) (load number ∷ choices)

-- whether the two settings are the same
abbrev pub same_setting : Setting → Setting → Bool
same_setting Workers Workers = true
same_setting Fuel Fuel = true
same_setting Tasks Tasks = true
same_setting _ _ = false

-- the numbers that a setting is given
abbrev pub numbers_for : Setting → List Choice → List ℕ
numbers_for setting [] = []
numbers_for setting (set other number ∷ choices) =
    if same_setting setting other then number ∷ numbers_for setting choices else numbers_for setting choices
numbers_for setting (journal ∷ choices) = numbers_for setting choices
numbers_for setting (load number ∷ choices) = numbers_for setting choices

-- how often the flag stands among the choices
abbrev pub flags : List Choice → ℕ
flags [] = 0
flags (set setting number ∷ choices) = flags choices
flags (journal ∷ choices) = flags choices + 1
flags (load number ∷ choices) = flags choices

-- the sizes of a load among the choices
abbrev pub sizes : List Choice → List ℕ
sizes [] = []
sizes (set setting number ∷ choices) = sizes choices
sizes (journal ∷ choices) = sizes choices
sizes (load number ∷ choices) = number ∷ sizes choices

-- nothing stands twice
pub record NoneTwice (choices : List Choice) : Type 0 where
  pub settings : (setting : Setting) → length (numbers_for setting choices) ≤ 1
  pub flag : flags choices ≤ 1
  pub size : length (sizes choices) ≤ 1

-- the number that a setting is given, or the default if it is given none
abbrev pub number_or : ℕ → Setting → List Choice → ℕ
number_or default setting choices = slice_index_or (numbers_for setting choices) 0 default

-- whether the flag is given
abbrev pub has_flag : List Choice → Bool
has_flag choices = nat_lt 0 (flags choices)
