-- If two orders agree on each pair of segments that conflict, each segment finds the same values in both, in each cell that
-- it accesses: all that wrote the cell before it are the same, in the same order.
use Rattle.std.proofs.Common.{◌≡◌, ◌≢◌, ◌==◌, ◌||◌, ℕ, zero, suc, ℤ, Bool, true, false, cond, List, [], ◌∷◌, ◌++◌, filter, inl, inr, refl, sym, ap, ◌∙◌, subst, eqb-true, eq-eqb}
use Rattle.std.specs.Prelude.{slice_get, slice_set}
use Rattle.std.specs.List.{list_any}
use Rattle.std.proofs.lemmas.Bool.{cases_eq}
use Rattle.effect_sets.specs.Access.{Conflict}
use Rattle.effect_check.proofs.Members.{IsIn, contains-in, in-contains, in-list_any, list_any-in}
use Rattle.twe_program.specs.Program.{Program}
use Rattle.seg_meaning.specs.Access.{Access, Agrees, Prints, Reads, Writes, after, value_in}
use Rattle.isolation_laws.specs.soundness.CellPaths.{path_of_cell}
use Rattle.isolation_laws.specs.soundness.DeclaredNow.{access_of}
use Rattle.machine_state.proofs.lists.Places.{set_other}
use Rattle.determinism_laws.specs.Orders.{AgreeOn, EachStandsOnce, FindSameValues, HaveSameWriters, LeaveSameCells, PrecedesIn, PrintAlike, SegmentAccesses, SegmentsConflict, accesses_cell, after_all, is_access_of, is_print, is_write_of, prints, writes}
use Rattle.determinism_laws.proofs.ListOrders.{agreed_back, front_precedes, once_front, precedes_front, precedes_in_front, precedes_of_front, same_filtered, second_in}

-- The values of a cell.

set_alike : (xs ys : List ℤ) (c : ℕ) (v : ℤ) → slice_get xs c ≡ slice_get ys c → slice_get (slice_set xs c v) c ≡ slice_get (slice_set ys c v) c
set_alike [] [] c v e = refl
set_alike [] (y ∷ ys) zero v e = absurd (cc (e))
set_alike [] (y ∷ ys) (suc c) v e = set_alike [] ys c v e
set_alike (x ∷ xs) [] zero v e = absurd (cc (e))
set_alike (x ∷ xs) [] (suc c) v e = set_alike xs [] c v e
set_alike (x ∷ xs) (y ∷ ys) zero v e = refl
set_alike (x ∷ xs) (y ∷ ys) (suc c) v e = set_alike xs ys c v e

set_alike_at : (xs ys : List ℤ) (c other : ℕ) (v : ℤ) → slice_get xs c ≡ slice_get ys c → slice_get (slice_set xs other v) c ≡ slice_get (slice_set ys other v) c
set_alike_at xs ys c other v e = elim (cases_eq c other) [
  | inl same ↦ subst (λ (n : ℕ). slice_get (slice_set xs n v) c ≡ slice_get (slice_set ys n v) c) same (set_alike xs ys c v e)
  | inr differ ↦ set_other xs other c v differ ∙ (e ∙ sym (set_other ys other c v differ))
]

-- a segment leaves the same value in a cell if it finds the same
pub after_alike : (accesses : List Access) (xs ys : List ℤ) (c : ℕ) → slice_get xs c ≡ slice_get ys c → slice_get (after xs accesses) c ≡ slice_get (after ys accesses) c
after_alike [] xs ys c e = e
after_alike (Reads cell value ∷ earlier) xs ys c e = after_alike earlier xs ys c e
after_alike (Writes cell value ∷ earlier) xs ys c e = set_alike_at (after xs earlier) (after ys earlier) c cell value (after_alike earlier xs ys c e)
after_alike (Prints value ∷ earlier) xs ys c e = after_alike earlier xs ys c e

or_false : (a b : Bool) → (a || b) ≡ false → (a ≡ false) × (b ≡ false)
or_false true b e = absurd (cc)
or_false false b e = (refl, e)

-- and the one that it finds if it does not write the cell
pub unwritten : (accesses : List Access) (xs : List ℤ) (c : ℕ) → list_any (is_write_of c) accesses ≡ false → slice_get (after xs accesses) c ≡ slice_get xs c
unwritten [] xs c e = refl
unwritten (Reads cell value ∷ earlier) xs c e = unwritten earlier xs c e
unwritten (Writes cell value ∷ earlier) xs c e =
    let parts = or_false (cell == c) (list_any (is_write_of c) earlier) e in
    let differ : c ≢ cell = λ same. let yes = eq-eqb cell c (sym same) in cc (yes, parts.0) in
    set_other (after xs earlier) cell c value differ ∙ unwritten earlier xs c parts.1
unwritten (Prints value ∷ earlier) xs c e = unwritten earlier xs c e

-- So two lists of cells that are the same wherever the accesses go both agree with these, or neither does.
first_true : (a b : Bool) → a ≡ true → (a || b) ≡ true
first_true true b e = refl
first_true false b e = absurd (cc (e))

second_true : (a b : Bool) → b ≡ true → (a || b) ≡ true
second_true true b e = refl
second_true false b e = e

pub agrees_alike : (xs ys : List ℤ) (accesses : List Access) → ((c : ℕ) → list_any (is_access_of c) accesses ≡ true → slice_get ys c ≡ slice_get xs c) → Agrees xs accesses → Agrees ys accesses
agrees_alike xs ys [] same agrees = tt
agrees_alike xs ys (Reads cell value ∷ earlier) same agrees = (
  agrees_alike xs ys earlier (λ c e. same c (second_true (cell == c) (list_any (is_access_of c) earlier) e)) agrees.0,
  ap value_in (after_alike earlier ys xs cell (same cell (first_true (cell == cell) (list_any (is_access_of cell) earlier) (eq-eqb cell cell refl)))) ∙ agrees.1,
)
agrees_alike xs ys (Writes cell value ∷ earlier) same agrees = agrees_alike xs ys earlier (λ c e. same c (second_true (cell == c) (list_any (is_access_of c) earlier) e)) agrees
agrees_alike xs ys (Prints value ∷ earlier) same agrees = agrees_alike xs ys earlier (λ c e. same c e) agrees

-- so the value of a cell is what the segments that write it make of it
skip_or_write : (s : SegmentAccesses) (segments : List SegmentAccesses) (xs ys : List ℤ) (c : ℕ) (b : Bool) → writes c s ≡ b → slice_get xs c ≡ slice_get ys c
    → ((ls ms : List ℤ) → slice_get ls c ≡ slice_get ms c → slice_get (after_all ls segments) c ≡ slice_get (after_all ms (filter (writes c) segments)) c)
    → slice_get (after_all (after xs s.accesses) segments) c ≡ slice_get (after_all ys (cond b (s ∷ filter (writes c) segments) (filter (writes c) segments))) c
skip_or_write s segments xs ys c true is e rest = rest (after xs s.accesses) (after ys s.accesses) (after_alike s.accesses xs ys c e)
skip_or_write s segments xs ys c false is e rest = rest (after xs s.accesses) ys (unwritten s.accesses xs c is ∙ e)

by_writers : (segments : List SegmentAccesses) (xs ys : List ℤ) (c : ℕ) → slice_get xs c ≡ slice_get ys c
    → slice_get (after_all xs segments) c ≡ slice_get (after_all ys (filter (writes c) segments)) c
by_writers [] xs ys c e = e
by_writers (s ∷ segments) xs ys c e = skip_or_write s segments xs ys c (writes c s) refl e (λ ls ms same. by_writers segments ls ms c same)

same_writers_same_value : (first second : List SegmentAccesses) (cells : List ℤ) (c : ℕ) → filter (writes c) first ≡ filter (writes c) second
    → slice_get (after_all cells first) c ≡ slice_get (after_all cells second) c
same_writers_same_value first second cells c same =
    by_writers first cells cells c refl ∙ (ap (λ (writers : List SegmentAccesses). slice_get (after_all cells writers) c) same ∙ sym (by_writers second cells cells c refl))

-- Conflicts.

or_back : (a b : Bool) → (a || b) ≡ true → (b || a) ≡ true
or_back true true h = refl
or_back true false h = refl
or_back false true h = refl
or_back false false h = h

module _ (p : Program) where
  mutual_conflict : (a b : SegmentAccesses) → SegmentsConflict p a b → SegmentsConflict p b a
  mutual_conflict a b c =
      (c.1, c.0, c.3, c.2, (or_back (access_of p c.0).write (access_of p c.1).write c.4.0, sym c.4.1))

  -- a write of a cell and an access of it conflict
  cell_conflict : (cell : ℕ) (x y : Access) → is_write_of cell x ≡ true → is_access_of cell y ≡ true → Conflict (access_of p x) (access_of p y)
  cell_conflict cell (Reads other value) y is_x is_y = absurd (cc (is_x))
  cell_conflict cell (Prints value) y is_x is_y = absurd (cc (is_x))
  cell_conflict cell (Writes other value) (Reads second read) is_x is_y = (refl, ap (path_of_cell p) (eqb-true other cell is_x ∙ sym (eqb-true second cell is_y)))
  cell_conflict cell (Writes other value) (Writes second written) is_x is_y = (refl, ap (path_of_cell p) (eqb-true other cell is_x ∙ sym (eqb-true second cell is_y)))
  cell_conflict cell (Writes other value) (Prints printed) is_x is_y = absurd (cc (is_y))

  print_conflict : (x y : Access) → is_print x ≡ true → is_print y ≡ true → Conflict (access_of p x) (access_of p y)
  print_conflict (Prints value) (Prints other) is_x is_y = (refl, refl)
  print_conflict (Prints value) (Reads cell read) is_x is_y = absurd (cc (is_y))
  print_conflict (Prints value) (Writes cell written) is_x is_y = absurd (cc (is_y))
  print_conflict (Reads cell value) y is_x is_y = absurd (cc (is_x))
  print_conflict (Writes cell value) y is_x is_y = absurd (cc (is_x))

  writer_conflict : (cell : ℕ) (a b : SegmentAccesses) → writes cell a ≡ true → accesses_cell cell b ≡ true → SegmentsConflict p a b
  writer_conflict cell a b is_a is_b =
      let x = list_any-in (is_write_of cell) a.accesses is_a in
      let y = list_any-in (is_access_of cell) b.accesses is_b in
      (x.0, y.0, in-contains a.accesses x.0 x.1, in-contains b.accesses y.0 y.1, cell_conflict cell x.0 y.0 x.2 y.2)

  print_conflicts : (a b : SegmentAccesses) → prints a ≡ true → prints b ≡ true → SegmentsConflict p a b
  print_conflicts a b is_a is_b =
      let x = list_any-in is_print a.accesses is_a in
      let y = list_any-in is_print b.accesses is_b in
      (x.0, y.0, in-contains a.accesses x.0 x.1, in-contains b.accesses y.0 y.1, print_conflict x.0 y.0 x.2 y.2)

write_access : (cell : ℕ) (x : Access) → is_write_of cell x ≡ true → is_access_of cell x ≡ true
write_access cell (Reads other value) is = absurd (cc (is))
write_access cell (Writes other value) is = is
write_access cell (Prints value) is = absurd (cc (is))

writer_accesses : (cell : ℕ) (a : SegmentAccesses) → writes cell a ≡ true → accesses_cell cell a ≡ true
writer_accesses cell a is =
    let x = list_any-in (is_write_of cell) a.accesses is in
    in-list_any (is_access_of cell) a.accesses x.0 x.1 (write_access cell x.0 x.2)

-- The laws.

module _ (p : Program) where
  abbrev Agree : List SegmentAccesses → List SegmentAccesses → Type 0
  Agree xs ys = AgreeOn (SegmentsConflict p) xs ys

  -- who wrote the cell before s in the one order did so in the other
  writer_before : (xs ys : List SegmentAccesses) → Agree xs ys → (s : SegmentAccesses) (before later before_too later_too : List SegmentAccesses)
      → xs ≡ before ++ s ∷ later → ys ≡ before_too ++ s ∷ later_too → (cell : ℕ) → accesses_cell cell s ≡ true
      → (a : SegmentAccesses) → IsIn a before → writes cell a ≡ true → IsIn a before_too
  writer_before xs ys agree s before later before_too later_too split split_too cell is_s a in_a is_a =
      let first : PrecedesIn xs a s = subst (λ (l : List SegmentAccesses). PrecedesIn l a s) (sym split) (front_precedes before s later a in_a) in
      let second : PrecedesIn (before_too ++ s ∷ later_too) a s = subst (λ (l : List SegmentAccesses). PrecedesIn l a s) split_too
      (agree.agree a s (writer_conflict p cell a s is_a is_s) first) in
      precedes_in_front before_too s later_too a (subst EachStandsOnce split_too agree.second_once) second

  pub same_writers : (xs ys : List SegmentAccesses) → Agree xs ys → HaveSameWriters xs ys
  same_writers xs ys agree s before later before_too later_too split split_too cell is_s =
      let once_x : EachStandsOnce (before ++ s ∷ later) = subst EachStandsOnce split agree.first_once in
      let once_y : EachStandsOnce (before_too ++ s ∷ later_too) = subst EachStandsOnce split_too agree.second_once in
      same_filtered (writes cell) before before_too (once_front before (s ∷ later) once_x) (once_front before_too (s ∷ later_too) once_y)
      (writer_before xs ys agree s before later before_too later_too split split_too cell is_s)
      (writer_before ys xs (agreed_back (SegmentsConflict p) (mutual_conflict p) xs ys agree) s before_too later_too before later split_too split cell is_s)
      (λ a b is_a is_b precedes.
      let in_b = writer_before xs ys agree s before later before_too later_too split split_too cell is_s b (second_in before a b precedes) is_b in
      let first : PrecedesIn xs a b = subst (λ (l : List SegmentAccesses). PrecedesIn l a b) (sym split) (precedes_front before (s ∷ later) a b precedes) in
      let second : PrecedesIn (before_too ++ s ∷ later_too) a b = subst (λ (l : List SegmentAccesses). PrecedesIn l a b) split_too
      (agree.agree a b (writer_conflict p cell a b is_a (writer_accesses cell b is_b)) first) in
      precedes_of_front before_too (s ∷ later_too) a b once_y in_b second)

  pub same_values : (xs ys : List SegmentAccesses) → Agree xs ys → FindSameValues xs ys
  same_values xs ys agree cells s before later before_too later_too split split_too cell is_s =
      same_writers_same_value before before_too cells cell (same_writers xs ys agree s before later before_too later_too split split_too cell is_s)

  -- all segments that pass a test come in one order, if each two of them conflict
  all_in_order : (q : SegmentAccesses → Bool) → ((a b : SegmentAccesses) → q a ≡ true → q b ≡ true → SegmentsConflict p a b)
      → (xs ys : List SegmentAccesses) → Agree xs ys → filter q xs ≡ filter q ys
  all_in_order q conflicting xs ys agree =
      same_filtered q xs ys agree.first_once agree.second_once
      (λ x h passes. contains-in ys x ((agree.members x).0 (in-contains xs x h)))
      (λ x h passes. contains-in xs x ((agree.members x).1 (in-contains ys x h)))
      (λ a b is_a is_b precedes. agree.agree a b (conflicting a b is_a is_b) precedes)

  pub same_cells : (xs ys : List SegmentAccesses) → Agree xs ys → LeaveSameCells xs ys
  same_cells xs ys agree cells cell =
      same_writers_same_value xs ys cells cell
      (all_in_order (writes cell) (λ a b is_a is_b. writer_conflict p cell a b is_a (writer_accesses cell b is_b)) xs ys agree)

  pub same_prints : (xs ys : List SegmentAccesses) → Agree xs ys → PrintAlike xs ys
  same_prints xs ys agree = all_in_order prints (print_conflicts p) xs ys agree
