-- The elements of an SVG, as bytes.
use Rattle.std.specs.Prelude.{◌==◌, ◌++◌, ℕ, List, [], ◌∷◌, codes, decimal, if◌then◌else◌}
use Rattle.std.specs.List.{flat_map}

-- an attribute of a tag: its name, and its value, which stands between two `'`
pub record Attribute : Type 0 where
  pub name : List ℕ
  pub value : List ℕ

-- the attribute of this name with this value
abbrev pub valued : List ℕ → List ℕ → Attribute
valued name value = record { name = name; value = value }

-- the attribute of this name with a number
abbrev pub measured : List ℕ → ℕ → Attribute
measured name number = valued name (decimal number)

-- an attribute as it stands in a tag, after a space
abbrev pub attribute_text : Attribute → List ℕ
attribute_text attribute = codes " " ++ (attribute.name ++ (codes "='" ++ (attribute.value ++ codes "'")))

-- attributes, and what stands after them
abbrev pub after_attributes : List Attribute → List ℕ → List ℕ
after_attributes [] rest = rest
after_attributes (attribute ∷ attributes) rest = attribute_text attribute ++ after_attributes attributes rest

-- an element of this name with nothing inside
abbrev pub empty_element : List ℕ → List Attribute → List ℕ
empty_element name attributes = codes "<" ++ (name ++ after_attributes attributes (codes "/>"))

-- the end of an element of this name
abbrev pub closing_tag : List ℕ → List ℕ
closing_tag name = codes "</" ++ (name ++ codes ">")

-- an element of this name with something inside
abbrev pub element : List ℕ → List Attribute → List ℕ → List ℕ
element name attributes inside =
    codes "<" ++ (name ++ after_attributes attributes (codes ">" ++ (inside ++ closing_tag name)))

-- a byte as it stands between tags: what could begin or end a tag or a reference is written as a reference
abbrev pub escaped_byte : ℕ → List ℕ
escaped_byte byte =
    if byte == 38 then codes "&amp;" else if byte == 60 then codes "&lt;" else if byte == 62 then codes "&gt;" else byte ∷ []

-- bytes as they stand between tags
abbrev pub escaped : List ℕ → List ℕ
escaped bytes = flat_map escaped_byte bytes
