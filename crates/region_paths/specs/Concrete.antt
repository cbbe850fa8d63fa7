-- Concrete paths, and the set of concrete paths of a written path.
use Rattle.std.specs.Prelude.{ℕ, ℤ, ◌+◌, ◌-◌, ◌==◌, nat_le, Bool, true, false, ◌&&◌, if◌then◌else◌, IsTrue, List, [], ◌∷◌, length, take, drop}
use Rattle.std.specs.Ordering.{int_eq}
use Rattle.region_paths.specs.declared.elements.Elem.{Elem}
use Rattle.region_paths.specs.declared.elements.Elem.TheVariants.{Name, Index, Var, AnyIndex}
use Rattle.region_paths.specs.Written.{WrittenPath}

-- one element of a concrete path: a region, or an integer, which may be negative
pub data ConcreteElem : Type 0 where
  region : ℕ → ConcreteElem
  number : ℤ → ConcreteElem

-- a concrete path below the root
abbrev pub ConcretePath : Type 0
ConcretePath = List ConcreteElem

-- a name or a literal index stands for its equal, `AnyIndex` for any integer, and a variable for nothing
abbrev pub elem_stands : Elem → ConcreteElem → Bool
elem_stands (Name n) (region m) = n == m
elem_stands (Name n) (number z) = false
elem_stands (Index i) (region m) = false
elem_stands (Index i) (number z) = int_eq i z
elem_stands (Var k) c = false
elem_stands AnyIndex (region m) = false
elem_stands AnyIndex (number z) = true

-- the lists are equally long, and each element stands for the one at its position
abbrev pub each_stands : List Elem → ConcretePath → Bool
each_stands [] [] = true
each_stands [] (c ∷ cs) = false
each_stands (e ∷ es) [] = false
each_stands (e ∷ es) (c ∷ cs) = elem_stands e c && each_stands es cs

-- the path is at least as long as both lists together; the first list stands for its first elements, and the second
-- list for its last ones
abbrev pub both_ends_stand : List Elem → List Elem → ConcretePath → Bool
both_ends_stand elems tail c =
    nat_le (length elems + length tail) (length c)
    && (each_stands elems (take (length elems) c) && each_stands tail (drop (length c - length tail) c))

-- whether a filled path stands for a concrete one; a star stands for any number of elements, including none
abbrev pub stands : WrittenPath → ConcretePath → Bool
stands p c = if p.star then both_ends_stand p.elems p.tail c else each_stands p.elems c

-- the concrete path is in the set of the written path
abbrev pub InSet : WrittenPath → ConcretePath → Type 0
InSet p c = IsTrue (stands p c)
