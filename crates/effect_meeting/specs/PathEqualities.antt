-- The equalities under which two paths have a cell in common.
use Rattle.std.specs.Prelude.{◌==◌, ◌+◌, nat_le, pos, Bool, List, [], ◌∷◌, ◌++◌, length, reverse, map, zip, if◌then◌else◌}
use Rattle.region_paths.specs.declared.elements.Elem.{Elem}
use Rattle.region_paths.specs.declared.elements.Elem.TheVariants.{Name, Index, Var, AnyIndex}
use Rattle.region_paths.specs.Written.{WrittenPath}
use Rattle.effect_sets.specs.declared.effects.Effect.{Effect}
use Rattle.effect_sets.specs.Interference.{one_writes}
use Rattle.effect_meeting.specs.declared.equality.Term.{Term}
use Rattle.effect_meeting.specs.declared.equality.Term.TheVariants.{Literal, First, Second}
use Rattle.effect_meeting.specs.declared.equality.Equality.{Equality}

-- an equality of two terms
abbrev pub equal_terms : Term → Term → Equality
equal_terms left right = record { left = left; right = right }

-- one that always holds, and one that never does
abbrev pub always : Equality
always = equal_terms (Literal (pos 0)) (Literal (pos 0))

abbrev pub never : Equality
never = equal_terms (Literal (pos 0)) (Literal (pos 1))

-- when the elements stand for a common one
abbrev pub elem_equality : Elem → Elem → Equality
elem_equality (Name n) (Name m) = if n == m then always else never
elem_equality (Name n) (Index j) = never
elem_equality (Name n) (Var l) = never
elem_equality (Name n) AnyIndex = never
elem_equality (Index i) (Name m) = never
elem_equality (Index i) (Index j) = equal_terms (Literal i) (Literal j)
elem_equality (Index i) (Var l) = equal_terms (Literal i) (Second l)
elem_equality (Index i) AnyIndex = always
elem_equality (Var k) (Name m) = never
elem_equality (Var k) (Index j) = equal_terms (First k) (Literal j)
elem_equality (Var k) (Var l) = equal_terms (First k) (Second l)
elem_equality (Var k) AnyIndex = always
elem_equality AnyIndex (Name m) = never
elem_equality AnyIndex (Index j) = always
elem_equality AnyIndex (Var l) = always
elem_equality AnyIndex AnyIndex = always

-- at each position, counted from the front, that both lists have
abbrev pub front_equalities : List Elem → List Elem → List Equality
front_equalities xs ys = map (λ pair. elem_equality pair.0 pair.1) (zip xs ys)

-- the same, counted from the end
abbrev pub end_equalities : List Elem → List Elem → List Equality
end_equalities xs ys = front_equalities (reverse xs) (reverse ys)

-- something that has to be so, whatever the values
abbrev pub wanted : Bool → List Equality
wanted holds = if holds then [] else never ∷ []

-- when the paths have a concrete path in common
abbrev pub path_equalities : WrittenPath → WrittenPath → List Equality
path_equalities p q =
    if p.star
    then (if q.star
    then front_equalities p.elems q.elems ++ end_equalities p.tail q.tail
    else wanted (nat_le (length p.elems + length p.tail) (length q.elems))
    ++ (front_equalities p.elems q.elems ++ end_equalities p.tail q.elems))
    else (if q.star
    then wanted (nat_le (length q.elems + length q.tail) (length p.elems))
    ++ (front_equalities p.elems q.elems ++ end_equalities p.elems q.tail)
    else wanted (length p.elems == length q.elems) ++ front_equalities p.elems q.elems)

-- when the effects interfere
abbrev pub effect_equalities : Effect → Effect → List Equality
effect_equalities a b = wanted (one_writes a b) ++ path_equalities a.path b.path
