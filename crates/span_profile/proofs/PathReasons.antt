-- Why an entry follows another by a path that both accessed, as the fronts tell it.
use Rattle.std.proofs.Common.{◌≡◌, ◌<◌, ◌⊎◌, inl, inr, ℕ, ℤ, Bool, true, false, List, [], ◌∷◌, ◌++◌, map, Option, None, Some, refl, sym, ap, ◌∙◌, subst, arith}
use Rattle.std.specs.Prelude.{◌==◌, ◌||◌, ◌↔◌, IsTrue, slice_get}
use Rattle.std.specs.List.{Contains, list_any}
use Rattle.std.proofs.lemmas.Bool.{eq-eqb, eqb-true, or_cases, or_left, or_right}
use Rattle.std.proofs.lemmas.List.Elements.{Contains-append_right}
use Rattle.effect_sets.specs.Access.{PathAccess}
use Rattle.region_paths.specs.Concrete.{ConcretePath}
use Rattle.isolation_laws.specs.soundness.CellPaths.{path_of_cell}
use Rattle.isolation_laws.specs.soundness.DeclaredNow.{access_of}
use Rattle.seg_meaning.specs.Access.{Access as CellAccess, Reads, Writes, Prints}
use Rattle.twe_program.specs.Program.{Program, cell_count}
use Rattle.span_profile.specs.Reasons.{Accessed, IsFirstCell, IsReasonFor, IsUntold, PrintsNone, ReadsNone, SaysWhether, Touched, WritesNone, console_path, printed, read, read_cell, unlinked, written_cell, wrote}
use Rattle.span_profile.specs.Strands.{Strand}
use Rattle.span_profile.specs.declared.deed.Deed.{Deed}
use Rattle.span_profile.specs.declared.heaviest_chain.fronts.Fronts.{Fronts}
use Rattle.span_profile.specs.declared.heaviest_chain.key.Key.TheVariants.{Write, Access}
use Rattle.span_profile.specs.declared.places.NumberedPaths.{NumberedPaths}
use Rattle.span_profile.specs.declared.reasons.LinkReason.TheVariants as reasons
use Rattle.span_profile.specs.declared.watched.WatchedCells.{WatchedCells}
use Rattle.span_profile.specs.inner.Numbering.{ArePlaces, IsNumber, parts_of, place_of}
use Rattle.span_profile.specs.inner.Shows.{HasAccess}
use Rattle.span_profile.specs.inner.Trails.{IsEntryOf, IsFirstThat, IsMarked, gave, gave_cell}
use Rattle.span_profile.proofs.Keyed.{contained_print, print_contained, read_there, same_path, write_there}
use Rattle.span_profile.proofs.Lists.{contains_cases, contains_first, contains_later, contains_map, contains_none, map_contains}
use Rattle.span_profile.proofs.Noted.{CameIn, StandsIn, came_in, noted, noted_has, reads_noted, writes_noted}
use Rattle.span_profile.proofs.Watching.{writes_contain}

-- a true and a false test
both : (t : Bool) → t ≡ true → t ≡ false → ⊥
both true e f = cc
both false e f = cc

-- some of the numbers passes a test
any_of : (test : ℕ → Bool) (xs : List ℕ) → list_any test xs ≡ true → (x : ℕ) × Contains xs x × (test x ≡ true)
any_of test [] e = absurd (cc)
any_of test (x ∷ xs) e = elim (or_cases (test x) (list_any test xs) e) [
  | inl this ↦ (x, contains_first x xs, this)
  | inr later ↦ (let rest = any_of test xs later in (rest.0, contains_later x rest.0 xs rest.1, rest.2))
]

of_any : (test : ℕ → Bool) (xs : List ℕ) (x : ℕ) → Contains xs x → test x ≡ true → list_any test xs ≡ true
of_any test [] x has e = absurd (contains_none x has)
of_any test (y ∷ ys) x has e = elim (contains_cases y x ys has) [
  | inl same ↦ or_left (test y) (list_any test ys) (ap test same ∙ e)
  | inr later ↦ or_right (test y) (list_any test ys) (of_any test ys x later e)
]

-- the access that was picked
pub read_is : (x : CellAccess) (cell : ℕ) → read_cell x ≡ Some cell → (value : ℤ) × (x ≡ Reads cell value)
read_is (Reads n value) cell e = let same : n ≡ cell = cc in (value, ap (λ (m : ℕ). Reads m value) same)
read_is (Writes n value) cell e = absurd (cc)
read_is (Prints value) cell e = absurd (cc)

pub write_is : (x : CellAccess) (cell : ℕ) → written_cell x ≡ Some cell → (value : ℤ) × (x ≡ Writes cell value)
write_is (Reads n value) cell e = absurd (cc)
write_is (Writes n value) cell e = let same : n ≡ cell = cc in (value, ap (λ (m : ℕ). Writes m value) same)
write_is (Prints value) cell e = absurd (cc)

module _ (p : Program) (places : NumberedPaths) (are : ArePlaces p places) (fronts : Fronts) (number : ℕ) (a b : Strand) (marked : IsMarked are.nodes fronts number a)
    (deed : Deed) (watched : WatchedCells) (e : IsEntryOf p places deed watched b) where
  -- an access to the path of a number
  numbered : (strand : Strand) (write : Bool) (place : ℕ) (path : ConcretePath) → IsNumber are.nodes place (parts_of path) → HasAccess are.nodes strand write place → Accessed strand write path
  numbered strand write place path is h =
      let same : h.access.path ≡ path = same_path h.access.path path (sym h.number.path_is ∙ is.path_is) in
      let this : h.access ≡ record { write = write; path = path } = λ i. record { write = h.writes i; path = same i } in
      subst (λ (x : PathAccess). Contains strand.accesses x) this h.has

  at_number : (strand : Strand) (write : Bool) (place : ℕ) (path : ConcretePath) → IsNumber are.nodes place (parts_of path) → Accessed strand write path → HasAccess are.nodes strand write place
  at_number strand write place path is has = record { access = record { write = write; path = path }; has = has; writes = refl; number = is }

  -- what the fronts tell of a path
  wrote_by : (place : ℕ) (path : ConcretePath) → IsNumber are.nodes place (parts_of path) → IsTrue (gave fronts (Write place) number) ↔ Accessed a true path
  wrote_by place path is = (
    λ gives. numbered a true place path is ((marked.writes place).0 gives),
    λ has. (marked.writes place).1 (at_number a true place path is has),
  )

  touched_by : (place : ℕ) (path : ConcretePath) → IsNumber are.nodes place (parts_of path) → IsTrue (gave fronts (Access place) number) ↔ Touched a path
  touched_by place path is = (
    λ gives. elim ((marked.accesses place).0 gives) [ inl write ↦ inl (numbered a true place path is write) | inr reads ↦ inr (numbered a false place path is reads) ],
    λ has. (marked.accesses place).1 (elim has [ inl write ↦ inl (at_number a true place path is write) | inr reads ↦ inr (at_number a false place path is reads) ]),
  )

  -- the numbers of the cells that were accessed
  number_read : (cell : ℕ) (value : ℤ) → Contains e.accesses (Reads cell value) → IsNumber are.nodes (place_of places cell) (parts_of (path_of_cell p cell))
  number_read cell value has = are.cells cell (let there = read_there e.values e.accesses cell e.may (value, has) in omega (arith, there, e.many))

  number_written : (cell : ℕ) (value : ℤ) → Contains e.accesses (Writes cell value) → IsNumber are.nodes (place_of places cell) (parts_of (path_of_cell p cell))
  number_written cell value has = are.cells cell (let there = write_there e.values e.accesses cell e.may (value, has) in omega (arith, there, e.many))

  -- accesses of the entry are those of its cells
  abbrev path_access : Bool → ConcretePath → PathAccess
  path_access write path = record { write = write; path = path }

  in_entry : (x : PathAccess) → Contains b.accesses x → (y : CellAccess) × Contains e.accesses y × (access_of p y ≡ x)
  in_entry x has = map_contains (access_of p) e.accesses x (subst (λ (l : List PathAccess). Contains l x) e.are has)

  of_entry : (y : CellAccess) → Contains e.accesses y → Contains b.accesses (access_of p y)
  of_entry y has = subst (λ (l : List PathAccess). Contains l (access_of p y)) (sym e.are) (contains_map (access_of p) e.accesses y has)

  -- a cell that does not pass is of a path that the first has not accessed
  read_fails : (y : CellAccess) (path : ConcretePath) → Contains e.accesses y → access_of p y ≡ path_access false path → ((cell : ℕ) → read_cell y ≡ Some cell → gave_cell fronts places true number cell ≡ false)
      → ¬ Accessed a true path
  read_fails (Reads cell value) path has is fails = λ wrote.
      let same : path ≡ path_of_cell p cell = sym (ap (λ (x : PathAccess). x.path) is) in
      let gives = (wrote_by (place_of places cell) (path_of_cell p cell) (number_read cell value has)).1 (subst (Accessed a true) same wrote) in
      both (gave_cell fronts places true number cell) gives (fails cell refl)
  read_fails (Writes cell value) path has is fails = let never : true ≡ false = ap (λ (x : PathAccess). x.write) is in absurd (cc)
  read_fails (Prints value) path has is fails = let never : true ≡ false = ap (λ (x : PathAccess). x.write) is in absurd (cc)

  write_fails : (y : CellAccess) (path : ConcretePath) → Contains e.accesses y → access_of p y ≡ path_access true path → PrintsNone a b
      → ((cell : ℕ) → written_cell y ≡ Some cell → gave_cell fronts places false number cell ≡ false) → ¬ Touched a path
  write_fails (Reads cell value) path has is silent fails = let never : false ≡ true = ap (λ (x : PathAccess). x.write) is in absurd (cc)
  write_fails (Writes cell value) path has is silent fails = λ touched.
      let same : path ≡ path_of_cell p cell = sym (ap (λ (x : PathAccess). x.path) is) in
      let gives = (touched_by (place_of places cell) (path_of_cell p cell) (number_written cell value has)).1 (subst (Touched a) same touched) in
      both (gave_cell fronts places false number cell) gives (fails cell refl)
  write_fails (Prints value) path has is silent fails = λ touched.
      let same : path ≡ console_path = sym (ap (λ (x : PathAccess). x.path) is) in
      silent (of_entry (Prints value) has) (subst (Touched a) same touched)

  -- the accesses around one of them
  in_earlier : (later earlier : List CellAccess) (y z : CellAccess) → e.accesses ≡ later ++ y ∷ earlier → Contains earlier z → Contains e.accesses z
  in_earlier later earlier y z split has =
      subst (λ (l : List CellAccess). Contains l z) (sym split) (Contains-append_right later (y ∷ earlier) z (contains_later y z earlier has))

  in_middle : (later earlier : List CellAccess) (y : CellAccess) → e.accesses ≡ later ++ y ∷ earlier → Contains e.accesses y
  in_middle later earlier y split = subst (λ (l : List CellAccess). Contains l y) (sym split) (Contains-append_right later (y ∷ earlier) y (contains_first y earlier))

  -- Reads.

  reads_are : watched.reads.items ≡ noted read_cell e.accesses
  reads_are = e.reads ∙ reads_noted e.accesses (cell_count p)

  pub reason_read : (cell : ℕ) → IsFirstThat (gave_cell fronts places true number) watched.reads.items (Some cell) → IsUntold a b → IsReasonFor p a b (reasons.Read cell)
  reason_read cell found untold = by_came (came_in read_cell e.accesses found.0 cell (ap (λ (l : List ℕ). slice_get l found.0) (sym reads_are) ∙ found.1))
    where
      by_came : CameIn read_cell e.accesses (noted read_cell e.accesses) found.0 cell → IsReasonFor p a b (reasons.Read cell)
      by_came came =
          let this = read_is came.this cell came.picks in
          let has : Contains e.accesses (Reads cell this.0) = subst (λ (y : CellAccess). Contains e.accesses y) this.1 (in_middle came.later came.earlier came.this came.split) in
          read cell untold (record {
            later = came.later;
            access = came.this;
            earlier = came.earlier;
            split = e.cells ∙ came.split;
            accessed = came.picks;
            has = (wrote_by (place_of places cell) (path_of_cell p cell) (number_read cell this.0 has)).0 found.2;
            none = λ before other here picks.
                let y = read_is before other picks in
                read_fails before (path_of_cell p other) (in_earlier came.later came.earlier came.this before came.split here) (ap (access_of p) y.1)
                (λ n picked. let b = came.before before n here picked in found.3 b.0 n b.1 (ap (λ (l : List ℕ). slice_get l b.0) reads_are ∙ b.2));
          })

  pub reads_none : IsFirstThat (gave_cell fronts places true number) watched.reads.items None → ReadsNone a b
  reads_none found = λ path has.
      let y = in_entry (path_access false path) has in
      read_fails y.0 path y.1 y.2
      (λ n picks. let s = noted_has read_cell e.accesses y.0 n y.1 picks in found s.0 n (ap (λ (l : List ℕ). slice_get l s.0) reads_are ∙ s.1))

  -- Writes.

  writes_are : watched.writes.items ≡ noted written_cell e.accesses
  writes_are = e.writes ∙ writes_noted e.accesses (cell_count p)

  pub reason_written : (cell : ℕ) (flag : Bool) → IsFirstThat (gave_cell fronts places false number) watched.writes.items (Some cell) → flag ≡ gave fronts (Write (place_of places cell)) number
      → IsUntold a b → ReadsNone a b → PrintsNone a b → IsReasonFor p a b (reasons.Wrote cell flag)
  reason_written cell flag found flag_is untold quiet silent =
      by_came (came_in written_cell e.accesses found.0 cell (ap (λ (l : List ℕ). slice_get l found.0) (sym writes_are) ∙ found.1))
    where
      by_came : CameIn written_cell e.accesses (noted written_cell e.accesses) found.0 cell → IsReasonFor p a b (reasons.Wrote cell flag)
      by_came came =
          let this = write_is came.this cell came.picks in
          let has : Contains e.accesses (Writes cell this.0) = subst (λ (y : CellAccess). Contains e.accesses y) this.1 (in_middle came.later came.earlier came.this came.split) in
          let is = number_written cell this.0 has in
          wrote cell flag untold quiet silent
          (record {
            later = came.later;
            access = came.this;
            earlier = came.earlier;
            split = e.cells ∙ came.split;
            accessed = came.picks;
            has = (touched_by (place_of places cell) (path_of_cell p cell) is).0 found.2;
            none = λ before other here picks.
                let y = write_is before other picks in
                write_fails before (path_of_cell p other) (in_earlier came.later came.earlier came.this before came.split here) (ap (access_of p) y.1) silent
                (λ n picked. let b = came.before before n here picked in found.3 b.0 n b.1 (ap (λ (l : List ℕ). slice_get l b.0) writes_are ∙ b.2));
          })
          (subst (λ (t : Bool). IsTrue t ↔ Accessed a true (path_of_cell p cell)) (sym flag_is) (wrote_by (place_of places cell) (path_of_cell p cell) is))

  pub reason_unlinked : IsFirstThat (gave_cell fronts places false number) watched.writes.items None → IsUntold a b → ReadsNone a b → PrintsNone a b → IsReasonFor p a b reasons.Unlinked
  reason_unlinked found untold quiet silent = unlinked untold quiet
      (λ path has.
      let y = in_entry (path_access true path) has in
      write_fails y.0 path y.1 y.2 silent
      (λ n picks. let s = noted_has written_cell e.accesses y.0 n y.1 picks in found s.0 n (ap (λ (l : List ℕ). slice_get l s.0) writes_are ∙ s.1)))

  -- `Console`.

  abbrev is_console : ℕ → Bool
  is_console cell = place_of places cell == places.console

  abbrev pub writes_console : Bool
  writes_console = deed.printed || list_any is_console watched.writes.items

  console_cell : (cell : ℕ) → Contains watched.writes.items cell → is_console cell ≡ true → Accessed b true console_path
  console_cell cell has is =
      let w = (writes_contain e.accesses (cell_count p) cell).0 (subst (λ (l : List ℕ). Contains l cell) e.writes has) in
      let here : place_of places cell ≡ places.console = eqb-true (place_of places cell) places.console is in
      let at = subst (λ (n : ℕ). IsNumber are.nodes n (parts_of (path_of_cell p cell))) here (number_written cell w.0 w.1) in
      let same : path_of_cell p cell ≡ console_path = same_path (path_of_cell p cell) console_path (sym at.path_is ∙ are.console.path_is) in
      subst (Accessed b true) same (of_entry (Writes cell w.0) w.1)

  pub console_written : writes_console ≡ true → Accessed b true console_path
  console_written flag = elim (or_cases deed.printed (list_any is_console watched.writes.items) flag) [
    | inl print ↦ (let has = print_contained e.accesses (sym e.printed ∙ print) in of_entry (Prints has.0) has.1)
    | inr some ↦ (let cell = any_of is_console watched.writes.items some in console_cell cell.0 cell.1 cell.2)
  ]

  console_by : (y : CellAccess) → Contains e.accesses y → access_of p y ≡ path_access true console_path → writes_console ≡ true
  console_by (Reads cell value) has is = let never : false ≡ true = ap (λ (x : PathAccess). x.write) is in absurd (cc)
  console_by (Writes cell value) has is =
      let n = number_written cell value has in
      let path : path_of_cell p cell ≡ console_path = ap (λ (x : PathAccess). x.path) is in
      let here : place_of places cell ≡ places.console = are.tree.once (place_of places cell) places.console n.there are.console.there (n.path_is ∙ (ap parts_of path ∙ sym are.console.path_is)) in
      let noted = subst (λ (l : List ℕ). Contains l cell) (sym e.writes) ((writes_contain e.accesses (cell_count p) cell).1 (value, has)) in
      or_right deed.printed (list_any is_console watched.writes.items) (of_any is_console watched.writes.items cell noted (eq-eqb (place_of places cell) places.console here))
  console_by (Prints value) has is = or_left deed.printed (list_any is_console watched.writes.items) (e.printed ∙ contained_print e.accesses value has)

  pub reason_printed : (flag : Bool) → writes_console ≡ true → IsTrue (gave fronts (Access places.console) number) → flag ≡ gave fronts (Write places.console) number → IsUntold a b → ReadsNone a b
      → IsReasonFor p a b (reasons.Printed flag)
  reason_printed flag writes touches flag_is untold quiet =
      printed flag untold quiet (console_written writes) ((touched_by places.console console_path are.console).0 touches)
      (subst (λ (t : Bool). IsTrue t ↔ Accessed a true console_path) (sym flag_is) (wrote_by places.console console_path are.console))

  pub prints_none : (writes_console ≡ false) ⊎ (gave fronts (Access places.console) number ≡ false) → PrintsNone a b
  prints_none (inl unwritten) = λ has touched. let y = in_entry (path_access true console_path) has in both writes_console (console_by y.0 y.1 y.2) unwritten
  prints_none (inr unmarked) = λ has touched. both (gave fronts (Access places.console) number) ((touched_by places.console console_path are.console).1 touched) unmarked
