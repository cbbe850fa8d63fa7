-- Names that are numbered in their order.
use Rattle.std.specs.Prelude.{◌≡◌, ℕ, List, String, bytes_eq, position}
use Rattle.std.specs.BTreeMap.{BTreeMap, get_by_text}

-- The map has each name under its place in the list, and no other name.
abbrev pub IsNumbering : {A : Type 0} → List (List ℕ) → BTreeMap (String A) ℕ → Type 0
IsNumbering names numbers = (name : List ℕ) → get_by_text numbers name ≡ position (bytes_eq name) names
