-- Where the name is declared that stands at a place of a text.
use Rattle.std.specs.Prelude.{ℕ, Bool, ◌||◌, ◌&&◌, not, ◌==◌, nat_lt, List, [], ◌∷◌, ◌++◌, Option, None, Some, bytes_eq, if◌then◌else◌}
use Rattle.twe_base.specs.declared.place.Place.{Place}
use Rattle.twe_ast.specs.declared.item.Item.{Item}
use Rattle.twe_ast.specs.declared.item.Item.TheVariants.{Regions, Cell, Method, Task}
use Rattle.twe_ast.specs.declared.name.Name as written
use Rattle.explain_pages.specs.names.Variables.{is_same_place, variables_at}

-- one place comes before another
abbrev pub stands_before : Place → Place → Bool
stands_before place other = nat_lt place.line other.line || ((place.line == other.line) && nat_lt place.col other.col)

-- the name has this text, and comes before the place
abbrev pub is_earlier : List ℕ → Place → written.Name → Bool
is_earlier word place name = bytes_eq name.text word && stands_before name.place place

-- the place of the last of the names that has this text and comes before the place; if none does, what is given
abbrev pub last_earlier : Option Place → List ℕ → Place → List written.Name → Option Place
last_earlier found word place [] = found
last_earlier found word place (name ∷ names) =
    last_earlier (if is_earlier word place name then Some name.place else found) word place names

-- the place of the name of the last method or task that is declared before the place; if none is, what is given
abbrev pub decl_before : Place → Place → List Item → Place
decl_before found place [] = found
decl_before found place (Regions names ∷ items) = decl_before found place items
decl_before found place (Cell cell ∷ items) = decl_before found place items
decl_before found place (Method decl ∷ items) =
    decl_before (if stands_before decl.name.place place then decl.name.place else found) place items
decl_before found place (Task deterministic decl ∷ items) =
    decl_before (if stands_before decl.name.place place then decl.name.place else found) place items

-- before every place
abbrev pub before_all : Place
before_all = record { line = 0; col = 0 }

-- the parameter or local of this name that comes last before the place, in the body that the place is in
abbrev pub local_place : List ℕ → Place → List Item → Option Place
local_place word place items = last_earlier None word place (variables_at items (decl_before before_all place items))

-- the name has this text, and stands elsewhere
abbrev pub is_elsewhere : List ℕ → Place → written.Name → Bool
is_elsewhere word place name = bytes_eq name.text word && not (is_same_place name.place place)

-- the place of the first of the names that has this text and stands elsewhere
abbrev pub first_other : List ℕ → Place → List written.Name → Option Place
first_other word place [] = None
first_other word place (name ∷ names) = if is_elsewhere word place name then Some name.place else first_other word place names

-- the first place, if there is one, or else the second
abbrev pub first_place : Option Place → Option Place → Option Place
first_place (Some place) other = Some place
first_place None other = other

-- the place of the name, if it has this text and stands elsewhere
abbrev pub name_place : List ℕ → Place → written.Name → Option Place
name_place word place name = if is_elsewhere word place name then Some name.place else None

-- the place of the declaration of a global name with this text, if the item is one and it stands elsewhere
abbrev pub item_place : List ℕ → Place → Item → Option Place
item_place word place (Regions names) = first_other word place names
item_place word place (Cell cell) = name_place word place cell.name
item_place word place (Method decl) = name_place word place decl.name
item_place word place (Task deterministic decl) = name_place word place decl.name

-- the place of the first declaration of a global name with this text that stands elsewhere
abbrev pub global_place : List ℕ → Place → List Item → Option Place
global_place word place [] = None
global_place word place (item ∷ items) = first_place (item_place word place item) (global_place word place items)

-- where a name with this text is declared: as a parameter or a local before the place, or else as a global name
abbrev pub declared_place : List ℕ → Place → List Item → Option Place
declared_place word place items = first_place (local_place word place items) (global_place word place items)
