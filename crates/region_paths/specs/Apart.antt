-- When two written paths are apart.
use Rattle.std.specs.Prelude.{◌+◌, ◌==◌, nat_lt, Bool, true, false, not, ◌||◌, if◌then◌else◌, List, length, reverse, zip}
use Rattle.std.specs.Ordering.{int_eq}
use Rattle.std.specs.List.{list_any}
use Rattle.region_paths.specs.declared.elements.Elem.{Elem}
use Rattle.region_paths.specs.declared.elements.Elem.TheVariants.{Name, Index, Var, AnyIndex}
use Rattle.region_paths.specs.Written.{WrittenPath}

-- a name clashes with every other name and with every index; a literal index clashes with every other literal
abbrev pub clash : Elem → Elem → Bool
clash (Name n) (Name m) = not (n == m)
clash (Name n) (Index i) = true
clash (Name n) (Var k) = true
clash (Name n) AnyIndex = true
clash (Index i) (Name n) = true
clash (Var k) (Name n) = true
clash AnyIndex (Name n) = true
clash (Index i) (Index j) = not (int_eq i j)
clash _ _ = false

-- the lists clash at a position, counted from the front, that both have
abbrev pub clash_from_front : List Elem → List Elem → Bool
clash_from_front xs ys = list_any (λ pair. clash pair.0 pair.1) (zip xs ys)

-- the lists clash at a position, counted from the end, that both have
abbrev pub clash_from_end : List Elem → List Elem → Bool
clash_from_end xs ys = clash_from_front (reverse xs) (reverse ys)

-- a list without a star is apart from the path with these elements around a star: it is too short, or it clashes with
-- the elements before the star from the front, or with those after the star from the end
abbrev pub apart_from_ends : List Elem → List Elem → List Elem → Bool
apart_from_ends xs elems tail =
    nat_lt (length xs) (length elems + length tail) || (clash_from_front xs elems || clash_from_end xs tail)

-- the paths are apart
abbrev pub apart : WrittenPath → WrittenPath → Bool
apart p q =
    if p.star
    then (if q.star
    then clash_from_front p.elems q.elems || clash_from_end p.tail q.tail
    else apart_from_ends q.elems p.elems p.tail)
    else (if q.star
    then apart_from_ends p.elems q.elems q.tail
    else not (length p.elems == length q.elems) || clash_from_front p.elems q.elems)
