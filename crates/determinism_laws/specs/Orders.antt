-- Two orders of the same segments that agree on each pair of segments that conflict.
use Rattle.std.specs.Prelude.{◌≡◌, ◌↔◌, ◌⊎◌, ◌==◌, ℕ, ℤ, Bool, true, false, IsTrue, List, [], ◌∷◌, ◌++◌, Contains, filter, slice_get}
use Rattle.std.specs.List.{list_any}
use Rattle.effect_sets.specs.Access.{Conflict}
use Rattle.twe_program.specs.Program.{Program}
use Rattle.seg_meaning.specs.Access.{Access, Prints, Reads, Writes, after}
use Rattle.isolation_laws.specs.soundness.DeclaredNow.{access_of}

-- the first element comes before the second in the list
abbrev pub PrecedesIn : {X : Type 0} → List X → X → X → Type 0
PrecedesIn [] a b = ⊥
PrecedesIn (x ∷ xs) a b = ((x ≡ a) × Contains xs b) ⊎ PrecedesIn xs a b

-- no element stands twice in the list
abbrev pub EachStandsOnce : {X : Type 0} → List X → Type 0
EachStandsOnce [] = Unit {0}
EachStandsOnce (x ∷ xs) = (¬ Contains xs x) × EachStandsOnce xs

-- The two lists are orders of the same elements, and of two elements that the relation connects, the one that comes first
-- in the one order comes first in the other.
pub record AgreeOn {X : Type 0} (Connects : X → X → Type 0) (xs ys : List X) : Type 0 where
  pub first_once : EachStandsOnce xs
  pub second_once : EachStandsOnce ys
  pub members : (x : X) → Contains xs x ↔ Contains ys x
  pub agree : (a b : X) → Connects a b → PrecedesIn xs a b → PrecedesIn ys a b

-- A segment with what it accesses, the latest access first. The key tells apart segments that access the same.
pub record SegmentAccesses : Type 0 where
  pub key : ℕ
  pub accesses : List Access

-- an access of the first segment and one of the second conflict
abbrev pub SegmentsConflict : Program → SegmentAccesses → SegmentAccesses → Type 0
SegmentsConflict p a b =
    (x : Access) × (y : Access) × Contains a.accesses x × Contains b.accesses y × Conflict (access_of p x) (access_of p y)

-- whether the access is a write of the cell
abbrev pub is_write_of : ℕ → Access → Bool
is_write_of cell (Writes other value) = other == cell
is_write_of cell (Reads other value) = false
is_write_of cell (Prints value) = false

-- whether the access is a read or a write of the cell
abbrev pub is_access_of : ℕ → Access → Bool
is_access_of cell (Writes other value) = other == cell
is_access_of cell (Reads other value) = other == cell
is_access_of cell (Prints value) = false

-- whether the access is a print
abbrev pub is_print : Access → Bool
is_print (Prints value) = true
is_print (Reads cell value) = false
is_print (Writes cell value) = false

-- whether the segment writes the cell
abbrev pub writes : ℕ → SegmentAccesses → Bool
writes cell s = list_any (is_write_of cell) s.accesses

-- whether the segment reads or writes the cell
abbrev pub accesses_cell : ℕ → SegmentAccesses → Bool
accesses_cell cell s = list_any (is_access_of cell) s.accesses

-- whether the segment prints
abbrev pub prints : SegmentAccesses → Bool
prints s = list_any is_print s.accesses

-- the cells after all accesses of these segments, one segment after another
abbrev pub after_all : List ℤ → List SegmentAccesses → List ℤ
after_all cells [] = cells
after_all cells (s ∷ others) = after_all (after cells s.accesses) others

-- each segment finds the same value in each cell that it accesses, whichever of the two orders it stands in
abbrev pub FindSameValues : List SegmentAccesses → List SegmentAccesses → Type 0
FindSameValues xs ys =
    (cells : List ℤ) (s : SegmentAccesses) (before later before_too later_too : List SegmentAccesses)
    → xs ≡ before ++ s ∷ later → ys ≡ before_too ++ s ∷ later_too
    → (cell : ℕ) → IsTrue (accesses_cell cell s)
    → slice_get (after_all cells before) cell ≡ slice_get (after_all cells before_too) cell

-- and the segments that wrote the cell before it are the same, in the same order; so the last of them is the same
abbrev pub HaveSameWriters : List SegmentAccesses → List SegmentAccesses → Type 0
HaveSameWriters xs ys =
    (s : SegmentAccesses) (before later before_too later_too : List SegmentAccesses)
    → xs ≡ before ++ s ∷ later → ys ≡ before_too ++ s ∷ later_too
    → (cell : ℕ) → IsTrue (accesses_cell cell s)
    → filter (writes cell) before ≡ filter (writes cell) before_too

-- at the end each cell has the same value
abbrev pub LeaveSameCells : List SegmentAccesses → List SegmentAccesses → Type 0
LeaveSameCells xs ys =
    (cells : List ℤ) (cell : ℕ) → slice_get (after_all cells xs) cell ≡ slice_get (after_all cells ys) cell

-- the segments that print are the same, in the same order
abbrev pub PrintAlike : List SegmentAccesses → List SegmentAccesses → Type 0
PrintAlike xs ys = filter prints xs ≡ filter prints ys
