-- Markup that is well formed: each tag that is opened is closed, in order, and what stands between tags begins none.
use Rattle.std.specs.Prelude.{◌≡◌, ◌==◌, ◌&&◌, ◌||◌, ◌++◌, ℕ, Bool, true, not, List, [], ◌∷◌, codes, length, nat_le, nat_lt}
use Rattle.std.specs.List.{list_all}
use Rattle.twe_draw.specs.picture.Elements.{Attribute, element, empty_element}

-- whether a byte is a letter of ASCII
abbrev pub is_tag_letter : ℕ → Bool
is_tag_letter byte = (nat_le 65 byte && nat_le byte 90) || (nat_le 97 byte && nat_le byte 122)

-- whether bytes are a name of an element or of an attribute: letters, at least one
abbrev pub is_tag_name : List ℕ → Bool
is_tag_name bytes = nat_lt 0 (length bytes) && list_all is_tag_letter bytes

-- whether a byte may stand in a value between two `'`: it does not end the value, and begins neither a tag nor a reference
abbrev pub is_value_byte : ℕ → Bool
is_value_byte byte = not (byte == 38) && (not (byte == 39) && not (byte == 60))

-- whether an attribute has a name and a value that stays between its two `'`
abbrev pub is_attribute : Attribute → Bool
is_attribute attribute = is_tag_name attribute.name && list_all is_value_byte attribute.value

-- whether a byte may stand between tags as it is: it neither begins nor ends a tag, and begins no reference
abbrev pub is_text_byte : ℕ → Bool
is_text_byte byte = not (byte == 38) && (not (byte == 60) && not (byte == 62))

-- text between tags: bytes as they are, and references to those that must not stand there
pub data IsText : List ℕ → Type 0 where
  nothing : IsText []
  byte : (byte : ℕ) (others : List ℕ) → is_text_byte byte ≡ true → IsText others → IsText (byte ∷ others)
  ampersand : (others : List ℕ) → IsText others → IsText (codes "&amp;" ++ others)
  less : (others : List ℕ) → IsText others → IsText (codes "&lt;" ++ others)
  greater : (others : List ℕ) → IsText others → IsText (codes "&gt;" ++ others)

-- Markup: text, an element with nothing inside, an element with markup inside, or two of these one after another. An element with
-- something inside is opened by its name, and closed by the same name after what is inside.
pub data IsMarkup : List ℕ → Type 0 where
  text : (bytes : List ℕ) → IsText bytes → IsMarkup bytes
  empty : (name : List ℕ) (attributes : List Attribute) → is_tag_name name ≡ true
      → list_all is_attribute attributes ≡ true → IsMarkup (empty_element name attributes)
  around : (name : List ℕ) (attributes : List Attribute) (inside : List ℕ) → is_tag_name name ≡ true
      → list_all is_attribute attributes ≡ true → IsMarkup inside → IsMarkup (element name attributes inside)
  both : (first second : List ℕ) → IsMarkup first → IsMarkup second → IsMarkup (first ++ second)

-- a document: one element of this name, and the end of a line
pub record IsDocument (name text : List ℕ) : Type 0 where
  pub attributes : List Attribute
  pub inside : List ℕ
  pub text_is : text ≡ element name attributes inside ++ 10 ∷ []
  pub name_is : is_tag_name name ≡ true
  pub attributes_are : list_all is_attribute attributes ≡ true
  pub nests : IsMarkup inside
