-- The elements of a path at the positions of a concrete path of a given length.
use Rattle.std.specs.Prelude.{ℕ, ◌+◌, ◌-◌, ◌==◌, nat_le, max, Bool, true, false, ◌&&◌, List, [], ◌∷◌, ◌++◌, Option, None, Some, length, map, replicate, if◌then◌else◌}
use Rattle.region_paths.specs.declared.elements.Elem.{Elem}
use Rattle.region_paths.specs.Written.{WrittenPath}
use Rattle.region_paths.specs.Concrete.{ConcreteElem, ConcretePath, elem_stands}
use Rattle.region_paths.specs.Filled.{Valuation, elem_under}

-- an element stands for what it stands for, and none stands for anything
abbrev pub one_stands : Option Elem → ConcreteElem → Bool
one_stands None c = true
one_stands (Some e) c = elem_stands e c

-- the lists are equally long, and each stands for what is at its position
abbrev pub all_stand : List (Option Elem) → ConcretePath → Bool
all_stand [] [] = true
all_stand [] (c ∷ cs) = false
all_stand (e ∷ es) [] = false
all_stand (e ∷ es) (c ∷ cs) = one_stands e c && all_stand es cs

-- an element with its value, if it is a variable
abbrev pub one_under : Valuation → Option Elem → Option Elem
one_under v None = None
one_under v (Some e) = Some (elem_under v e)

-- elements, and others that end where a concrete path of this length ends; none where a star stands between them
abbrev pub at_ends : ℕ → List Elem → List Elem → List (Option Elem)
at_ends long elems tail = map Some elems ++ (replicate (long - (length elems + length tail)) None ++ map Some tail)

-- the elements of the path at the positions of a concrete path of this length
abbrev pub at_length : ℕ → WrittenPath → List (Option Elem)
at_length long p = at_ends long p.elems p.tail

-- a concrete path of the path may have this length
abbrev pub has_length : WrittenPath → ℕ → Bool
has_length p long =
    if p.star then nat_le (length p.elems + length p.tail) long else length p.elems == long

-- a length that a common concrete path of the paths has, if they have one
abbrev pub common_length : WrittenPath → WrittenPath → ℕ
common_length p q =
    if p.star
    then (if q.star
    then max (length p.elems) (length q.elems) + max (length p.tail) (length q.tail)
    else length q.elems)
    else length p.elems
