-- When one written path is inside another.
use Rattle.std.specs.Prelude.{◌+◌, ◌==◌, nat_le, Bool, true, false, not, ◌&&◌, if◌then◌else◌, List, [], ◌∷◌, length, reverse}
use Rattle.std.specs.Ordering.{int_eq}
use Rattle.region_paths.specs.declared.elements.Elem.{Elem}
use Rattle.region_paths.specs.declared.elements.Elem.TheVariants.{Name, Index, Var, AnyIndex}
use Rattle.region_paths.specs.Written.{WrittenPath}

-- an element is within its equal, and every kind of index is within `AnyIndex`
abbrev pub within : Elem → Elem → Bool
within (Name n) (Name m) = n == m
within (Index i) (Index j) = int_eq i j
within (Index i) AnyIndex = true
within (Var k) (Var l) = k == l
within (Var k) AnyIndex = true
within AnyIndex AnyIndex = true
within _ _ = false

-- the first list is at least as long as the second, and its first elements are within those of the second
abbrev pub starts_within : List Elem → List Elem → Bool
starts_within xs [] = true
starts_within [] (y ∷ ys) = false
starts_within (x ∷ xs) (y ∷ ys) = within x y && starts_within xs ys

-- the same for the last elements, counted from the end
abbrev pub ends_within : List Elem → List Elem → Bool
ends_within xs ys = starts_within (reverse xs) (reverse ys)

-- the lists are equally long, and each element is within the one at its position
abbrev pub each_within : List Elem → List Elem → Bool
each_within xs ys = (length xs == length ys) && starts_within xs ys

-- a list without a star is inside the path with these elements around a star
abbrev pub inside_ends : List Elem → List Elem → List Elem → Bool
inside_ends xs elems tail =
    nat_le (length elems + length tail) (length xs) && (starts_within xs elems && ends_within xs tail)

-- the first path is inside the second
abbrev pub inside : WrittenPath → WrittenPath → Bool
inside p q =
    if q.star
    then (if p.star
    then starts_within p.elems q.elems && ends_within p.tail q.tail
    else inside_ends p.elems q.elems q.tail)
    else (not p.star && each_within p.elems q.elems)
