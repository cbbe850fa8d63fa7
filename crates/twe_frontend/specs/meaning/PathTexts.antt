-- Texts of paths.
use Rattle.std.specs.Prelude.{ℕ, Bool, List, [], ◌∷◌, ◌++◌, map, codes, slice_index_or, if◌then◌else◌}
use Rattle.std.specs.Fmt.{signed_decimal}
use Rattle.region_paths.specs.declared.elements.Elem.{Elem}
use Rattle.region_paths.specs.declared.elements.Elem.TheVariants.{Name, Index, Var, AnyIndex}
use Rattle.region_paths.specs.Written.{WrittenPath}
use Rattle.twe_ast.specs.declared.name.Name as written

-- the name of this number; every one is there
abbrev pub name_at_number : List (List ℕ) → ℕ → List ℕ
name_at_number names number = slice_index_or names number []

-- the name of the parameter of this number
abbrev pub parameter_at : List written.Name → ℕ → List ℕ
parameter_at params number = name_at_number (map (λ (name : written.Name). name.text) params) number

-- the text in brackets
abbrev pub in_brackets : List ℕ → List ℕ
in_brackets text = codes "[" ++ (text ++ codes "]")

-- `D`, `[7]`, `[j]` or `[?]`
abbrev pub element_text : List (List ℕ) → List written.Name → Elem → List ℕ
element_text regions params (Name n) = name_at_number regions n
element_text regions params (Index i) = in_brackets (signed_decimal i)
element_text regions params (Var k) = in_brackets (parameter_at params k)
element_text regions params AnyIndex = codes "[?]"

-- the elements, each after `:`
abbrev pub more_elements : List (List ℕ) → List written.Name → List Elem → List ℕ
more_elements regions params [] = []
more_elements regions params (e ∷ es) = codes ":" ++ (element_text regions params e ++ more_elements regions params es)

-- a path is written from its first region on; one that does not begin with a region is written from `Root` on
abbrev pub path_text : List (List ℕ) → List written.Name → List Elem → List ℕ
path_text regions params [] = codes "Root"
path_text regions params (Name n ∷ es) = element_text regions params (Name n) ++ more_elements regions params es
path_text regions params (Index i ∷ es) = codes "Root" ++ more_elements regions params (Index i ∷ es)
path_text regions params (Var k ∷ es) = codes "Root" ++ more_elements regions params (Var k ∷ es)
path_text regions params (AnyIndex ∷ es) = codes "Root" ++ more_elements regions params (AnyIndex ∷ es)

-- `:*` and the elements after it, if the path has a star
abbrev pub star_text : List (List ℕ) → List written.Name → Bool → List Elem → List ℕ
star_text regions params star tail = if star then codes ":*" ++ more_elements regions params tail else []

-- a path with its star and what stands after it
abbrev pub starred_path_text : List (List ℕ) → List written.Name → WrittenPath → List ℕ
starred_path_text regions params path = path_text regions params path.elems ++ star_text regions params path.star path.tail
