-- The elements of three paths at one position.
use Rattle.std.specs.Prelude.{◌≡◌, ℕ, pos, Bool, true, false, ◌&&◌, ◌||◌, List, [], ◌∷◌, ◌++◌, Option, None, Some, IsTrue, map, zip}
use Rattle.std.specs.Ordering.{int_eq}
use Rattle.std.specs.List.{list_all}
use Rattle.region_paths.specs.declared.elements.Elem.{Elem}
use Rattle.region_paths.specs.declared.elements.Elem.TheVariants.{Name, Index, Var, AnyIndex}
use Rattle.region_paths.specs.Written.{WrittenPath}
use Rattle.region_paths.specs.Concrete.{ConcreteElem, ConcretePath, elem_stands}
use Rattle.effect_meeting.specs.declared.equality.Equality.{Equality}
use Rattle.effect_meeting.specs.PathEqualities.{elem_equality}
use Rattle.effect_meeting.specs.Solutions.{first_by, second_by}
use Rattle.effect_meeting.specs.declared.column.Column.{Column}
use Rattle.effect_meeting.specs.declared.met.Met.{Met}
use Rattle.effect_meeting.specs.Meeting.{IsMetFor, MeetAt, as_written}
use Rattle.effect_meeting.specs.inner.Aligned.{all_stand, one_under}

-- three lists as columns
abbrev pub columns : List (Option Elem) → List (Option Elem) → List (Option Elem) → List Column
columns xs ys zs = map (λ t. record { first = t.0.0; second = t.0.1; third = t.1 }) (zip (zip xs ys) zs)

-- when two elements stand for a common one
abbrev pub pair_equalities : Option Elem → Option Elem → List Equality
pair_equalities None y = []
pair_equalities (Some e) None = []
pair_equalities (Some e) (Some f) = elem_equality e f ∷ []

-- when the elements of a column stand for a common one; the third has no variable
abbrev pub column_equalities : Column → List Equality
column_equalities column =
    pair_equalities column.first column.second
    ++ (pair_equalities column.first column.third ++ pair_equalities column.third column.second)

-- the element is no variable
abbrev pub is_plain : Option Elem → Bool
is_plain None = true
is_plain (Some (Var k)) = false
is_plain (Some e) = true

-- none of the elements is a variable
abbrev pub all_plain : List (Option Elem) → Bool
all_plain es = list_all is_plain es

-- the element, if it is a name or a literal index, or else the other one
abbrev pub solid_or : Option Elem → Elem → Elem
solid_or (Some (Name n)) other = Name n
solid_or (Some (Index i)) other = Index i
solid_or _ other = other

-- the first of three elements that is a name or a literal index, or else index 0
abbrev pub solid_of : Option Elem → Option Elem → Option Elem → Elem
solid_of x y z = solid_or x (solid_or y (solid_or z (Index (pos 0))))

-- what stands in a column, with the values that the steps give its variables
abbrev pub solved_by : List Equality → Column → Elem
solved_by steps column =
    solid_of (one_under (first_by steps) column.first) (one_under (second_by steps) column.second) column.third

-- the elements are those of a concrete path at which the paths meet for the values, and for which the third list stands
abbrev pub IsMetAlong : ℕ → WrittenPath → WrittenPath → List (Option Elem) → Met → Type 0
IsMetAlong shared p q third met =
    (c : ConcretePath) × (met.elems ≡ map as_written c) × IsMetFor shared p q c met.values × IsTrue (all_stand third c)

-- the third list stands for no concrete path at which the paths meet
abbrev pub NeverMeetAlong : ℕ → WrittenPath → WrittenPath → List (Option Elem) → Type 0
NeverMeetAlong shared p q third = (c : ConcretePath) → MeetAt shared p q c → ¬ IsTrue (all_stand third c)

-- the element is written for this, or it is index 0
abbrev pub is_near : Elem → ConcreteElem → Bool
is_near (Name n) c = elem_stands (Name n) c
is_near (Index i) c = int_eq i (pos 0) || elem_stands (Index i) c
is_near (Var k) c = false
is_near AnyIndex c = false

-- the same of each element and what is at its position
abbrev pub all_near : List Elem → ConcretePath → Bool
all_near [] [] = true
all_near [] (c ∷ cs) = false
all_near (e ∷ es) [] = false
all_near (e ∷ es) (c ∷ cs) = is_near e c && all_near es cs

-- wherever the paths meet and the third list stands, there are these elements, but for those that are index 0
abbrev pub IsForcedAlong : ℕ → WrittenPath → WrittenPath → List (Option Elem) → Met → Type 0
IsForcedAlong shared p q third met =
    (c : ConcretePath) → MeetAt shared p q c → IsTrue (all_stand third c) → IsTrue (all_near met.elems c)
