-- The first places of names in a list.
use Rattle.std.specs.Prelude.{◌≡◌, ℕ, ◌==◌, Bool, true, false, if◌then◌else◌, List, Option, None, Some, String, bytes_eq, position}
use Rattle.std.specs.BTreeMap.{BTreeMap, get_by_text}

-- The map has each name of the list with its first place there, and no other name.
abbrev pub AreFirsts : {A : Type 0} {Entry : Type 0} → (Entry → List ℕ) → List Entry → BTreeMap (String A) ℕ → Type 0
AreFirsts text_of entries firsts =
    (text : List ℕ) → get_by_text firsts text ≡ position (λ entry. bytes_eq text (text_of entry)) entries

-- both maps have the same names with the same places
abbrev pub HaveSameFirsts : {A : Type 0} → BTreeMap (String A) ℕ → BTreeMap (String A) ℕ → Type 0
HaveSameFirsts old new = (text : List ℕ) → get_by_text new text ≡ get_by_text old text

-- the first place of a name after one is added at this place, after the others
abbrev pub first_with : Option ℕ → Bool → ℕ → Option ℕ
first_with (Some first) is_here place = Some first
first_with None true place = Some place
first_with None false place = None

-- the first place of a name after the one at this place is removed
abbrev pub first_without : Option ℕ → Bool → ℕ → Option ℕ
first_without (Some first) true place = if first == place then None else Some first
first_without (Some first) false place = Some first
first_without None is_here place = None

-- a name is added at this place, after the others
abbrev pub AddsFirst : {A : Type 0} → List ℕ → ℕ → BTreeMap (String A) ℕ → BTreeMap (String A) ℕ → Type 0
AddsFirst text place old new =
    (other : List ℕ) → get_by_text new other ≡ first_with (get_by_text old other) (bytes_eq other text) place

-- the name at this place is removed
abbrev pub DropsFirst : {A : Type 0} → List ℕ → ℕ → BTreeMap (String A) ℕ → BTreeMap (String A) ℕ → Type 0
DropsFirst text place old new =
    (other : List ℕ) → get_by_text new other ≡ first_without (get_by_text old other) (bytes_eq other text) place
