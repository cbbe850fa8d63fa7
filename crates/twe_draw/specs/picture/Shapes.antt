-- The shapes of a picture, each on a line of its own.
use Rattle.std.specs.Prelude.{◌++◌, ℕ, List, [], ◌∷◌, codes, decimal}
use Rattle.twe_draw.specs.picture.Elements.{Attribute, element, empty_element, escaped, measured, valued}

-- the class of a shape
abbrev pub classed : List ℕ → Attribute
classed class = valued (codes "class") class

-- the attributes of a box of this class that is 14 pixels high: its left, its top and its width
abbrev pub box_attributes : List ℕ → ℕ → ℕ → ℕ → List Attribute
box_attributes class left top width =
    classed class ∷ measured (codes "x") left ∷ measured (codes "y") top ∷ measured (codes "width") width
    ∷ measured (codes "height") 14 ∷ []

-- a box of this class
unfoldable pub plain_box : List ℕ → ℕ → ℕ → ℕ → List ℕ
plain_box class left top width = empty_element (codes "rect") (box_attributes class left top width) ++ codes "\n"

-- a title, which a browser shows
abbrev pub title_element : List ℕ → List ℕ
title_element title = element (codes "title") [] (escaped title)

-- the same box with something inside
unfoldable pub box_around : List ℕ → ℕ → ℕ → ℕ → List ℕ → List ℕ
box_around class left top width inside =
    element (codes "rect") (box_attributes class left top width) inside ++ codes "\n"

-- the same box with a title, which a browser shows under the pointer
abbrev pub titled_box : List ℕ → ℕ → ℕ → ℕ → List ℕ → List ℕ
titled_box class left top width title = box_around class left top width (title_element title)

-- words at a place
unfoldable pub words_at : ℕ → ℕ → List ℕ → List ℕ
words_at left bottom words =
    element (codes "text") (measured (codes "x") left ∷ measured (codes "y") bottom ∷ []) (escaped words) ++ codes "\n"

-- where a line goes that is upright: from its left and its beginning to its other end
abbrev pub upright_path : ℕ → ℕ → ℕ → List ℕ
upright_path left from until =
    codes "M" ++ (decimal left ++ (codes " " ++ (decimal from ++ (codes "V" ++ decimal until))))

-- a line of this class up or down, from one height to another
unfoldable pub upright : List ℕ → ℕ → ℕ → ℕ → List ℕ
upright class left from until =
    empty_element (codes "path") (classed class ∷ valued (codes "d") (upright_path left from until) ∷ []) ++ codes "\n"

-- where the line below a row goes: from the end of its label to the right
abbrev pub row_path : ℕ → List ℕ
row_path height = codes "M240 " ++ (decimal height ++ codes "h1000")

-- the line below a row
unfoldable pub row_line : ℕ → List ℕ
row_line height =
    empty_element (codes "path") (classed (codes "row") ∷ valued (codes "d") (row_path height) ∷ []) ++ codes "\n"
