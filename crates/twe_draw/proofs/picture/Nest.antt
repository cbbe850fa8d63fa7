-- The tags of each element nest.
use Rattle.std.proofs.Common.{◌≡◌, ◌++◌, ℕ, Bool, true, false, List, [], ◌∷◌, refl, sym, subst}
use Rattle.std.specs.Prelude.{◌==◌, ◌&&◌, codes, decimal, not, if◌then◌else◌}
use Rattle.std.specs.List.{list_all}
use Rattle.std.proofs.lemmas.List.Concat.{flat_map-cons}
use Rattle.twe_draw.specs.picture.Elements.{Attribute, element, empty_element, escaped, escaped_byte, measured, valued}
use Rattle.twe_draw.specs.picture.Markup.{IsMarkup, IsText, is_attribute, is_value_byte}
use Rattle.twe_draw.specs.picture.Shapes.{box_around, box_attributes, classed, plain_box, row_line, row_path, title_element, titled_box, upright, upright_path, words_at}
use Rattle.twe_draw.proofs.picture.Values.{number_is_value, row_is_value, upright_is_value}

byte_is_text : (byte : ℕ) (a b c : Bool) (others : List ℕ) → (byte == 38) ≡ a → (byte == 60) ≡ b
    → (byte == 62) ≡ c → IsText others
    → IsText ((if a then codes "&amp;" else if b then codes "&lt;" else if c then codes "&gt;" else byte ∷ []) ++ others)
byte_is_text byte true b c others x y z rest = IsText.ampersand others rest
byte_is_text byte false true c others x y z rest = IsText.less others rest
byte_is_text byte false false true others x y z rest = IsText.greater others rest
byte_is_text byte false false false others x y z rest =
    IsText.byte byte others (λ i. not (x i) && (not (y i) && not (z i))) rest

-- what is written of words is text
pub escaped_is_text : (words : List ℕ) → IsText (escaped words)
escaped_is_text [] = IsText.nothing
escaped_is_text (byte ∷ words) =
    subst (λ (l : List ℕ). IsText l) (sym (flat_map-cons escaped_byte byte words))
    (byte_is_text byte (byte == 38) (byte == 60) (byte == 62) (escaped words) refl refl refl (escaped_is_text words))

-- an element with the end of a line
pub on_line : (shape : List ℕ) → IsMarkup shape → IsMarkup (shape ++ codes "\n")
on_line shape nests = IsMarkup.both shape (codes "\n") nests (IsMarkup.text (codes "\n") (IsText.byte 10 [] refl IsText.nothing))

two : (a b : Bool) → a ≡ true → b ≡ true → (a && (b && true)) ≡ true
two a b p q = λ i. p i && (q i && true)

five : (a b c d e : Bool) → a ≡ true → b ≡ true → c ≡ true → d ≡ true → e ≡ true
    → (a && (b && (c && (d && (e && true))))) ≡ true
five a b c d e p q r s t = λ i. p i && (q i && (r i && (s i && (t i && true))))

box_is : (class : List ℕ) (left top width : ℕ) → list_all is_value_byte class ≡ true
    → list_all is_attribute (box_attributes class left top width) ≡ true
box_is class left top width plain =
    five (list_all is_value_byte class) (list_all is_value_byte (decimal left)) (list_all is_value_byte (decimal top))
    (list_all is_value_byte (decimal width)) (list_all is_value_byte (decimal 14))
    plain (number_is_value left) (number_is_value top) (number_is_value width) (number_is_value 14)

pub plain_box_nests : (class : List ℕ) (left top width : ℕ) → list_all is_value_byte class ≡ true
    → IsMarkup (plain_box class left top width)
unfolding plain_box
plain_box_nests class left top width plain =
    on_line (empty_element (codes "rect") (box_attributes class left top width))
    (IsMarkup.empty (codes "rect") (box_attributes class left top width) refl (box_is class left top width plain))

pub title_nests : (title : List ℕ) → IsMarkup (title_element title)
title_nests title =
    IsMarkup.around (codes "title") [] (escaped title) refl refl (IsMarkup.text (escaped title) (escaped_is_text title))

around_nests : (class inside : List ℕ) (left top width : ℕ) → list_all is_value_byte class ≡ true → IsMarkup inside
    → IsMarkup (box_around class left top width inside)
unfolding box_around
around_nests class inside left top width plain nests =
    on_line (element (codes "rect") (box_attributes class left top width) inside)
    (IsMarkup.around (codes "rect") (box_attributes class left top width) inside refl (box_is class left top width plain) nests)

pub titled_box_nests : (class title : List ℕ) (left top width : ℕ) → list_all is_value_byte class ≡ true
    → IsMarkup (titled_box class left top width title)
titled_box_nests class title left top width plain =
    around_nests class (title_element title) left top width plain (title_nests title)

pub words_nest : (words : List ℕ) (left bottom : ℕ) → IsMarkup (words_at left bottom words)
unfolding words_at
words_nest words left bottom =
    on_line (element (codes "text") (measured (codes "x") left ∷ measured (codes "y") bottom ∷ []) (escaped words))
    (IsMarkup.around (codes "text") (measured (codes "x") left ∷ measured (codes "y") bottom ∷ []) (escaped words) refl
    (two (list_all is_value_byte (decimal left)) (list_all is_value_byte (decimal bottom))
    (number_is_value left) (number_is_value bottom))
    (IsMarkup.text (escaped words) (escaped_is_text words)))

pub upright_nests : (class : List ℕ) (left from until : ℕ) → list_all is_value_byte class ≡ true
    → IsMarkup (upright class left from until)
unfolding upright
upright_nests class left from until plain =
    on_line (empty_element (codes "path") (classed class ∷ valued (codes "d") (upright_path left from until) ∷ []))
    (IsMarkup.empty (codes "path") (classed class ∷ valued (codes "d") (upright_path left from until) ∷ []) refl
    (two (list_all is_value_byte class) (list_all is_value_byte (upright_path left from until)) plain
    (upright_is_value left from until)))

pub row_line_nests : (height : ℕ) → IsMarkup (row_line height)
unfolding row_line
row_line_nests height =
    on_line (empty_element (codes "path") (classed (codes "row") ∷ valued (codes "d") (row_path height) ∷ []))
    (IsMarkup.empty (codes "path") (classed (codes "row") ∷ valued (codes "d") (row_path height) ∷ []) refl
    (two true (list_all is_value_byte (row_path height)) refl (row_is_value height)))
