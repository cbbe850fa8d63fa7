-- The keys of an entry show what it did, and so when it leads to another.
use Rattle.std.proofs.Common.{◌≡◌, ◌<◌, ◌⊎◌, inl, inr, ℕ, ℤ, Bool, true, false, List, [], ◌∷◌, ◌++◌, length, map, Option, None, Some, refl, sym, ap, ◌∙◌, subst, arith}
use Rattle.std.specs.Prelude.{◌||◌, IsTrue}
use Rattle.std.specs.List.{Contains}
use Rattle.std.proofs.lemmas.List.Elements.{Contains-append_cases, Contains-append_left, Contains-append_right}
use Rattle.effect_sets.specs.Access.{PathAccess as PathAccess}
use Rattle.span_profile.specs.heaviest_chain.Nodes.{Node, SharesKey}
use Rattle.span_profile.specs.declared.heaviest_chain.key.Key.{Key}
use Rattle.span_profile.specs.declared.heaviest_chain.key.Key.TheVariants.{Task, Value, Write, Access}
use Rattle.prefix_tree.specs.declared.part.Part.{Part}
use Rattle.prefix_tree.specs.declared.part.Part.TheVariants.{Name, Index}
use Rattle.region_paths.specs.Concrete.{ConcreteElem, ConcretePath, region, number}
use Rattle.seg_meaning.specs.Access.{Access as CellAccess, Reads, Writes, Prints, MayAll}
use Rattle.seg_meaning.specs.Plain.{list_ways}
use Rattle.seg_journal.specs.declared.journal.End.{End}
use Rattle.seg_journal.specs.declared.journal.End.TheVariants as ends
use Rattle.isolation_laws.specs.soundness.DeclaredNow.{access_of}
use Rattle.twe_program.specs.Program.{Program, cell_count}
use Rattle.machine_state.specs.Runs.{is_done}
use Rattle.span_profile.specs.declared.deed.Deed.{Deed}
use Rattle.span_profile.specs.declared.places.NumberedPaths.{NumberedPaths}
use Rattle.span_profile.specs.LeadsTo.{LeadsTo, conflict, gives_value, makes, same_task}
use Rattle.span_profile.specs.Strands.{Strand, made_task}
use Rattle.span_profile.specs.inner.Deeds.{access_keys, asked, end_keys, given, has_print, print_asks, print_gives, value_keys, write_keys}
use Rattle.span_profile.specs.inner.Numbering.{ArePlaces, IsNumber, part_of, parts_of, place_of}
use Rattle.span_profile.specs.inner.Sets.{no_cells}
use Rattle.span_profile.specs.inner.Shows.{AsksKey, GivesKey, HasAccess, Shows}
use Rattle.span_profile.specs.inner.Watch.{read_by, written_by}
use Rattle.span_profile.proofs.Lists.{contains_cases, contains_first, contains_later, contains_map, contains_none, map_contains}
use Rattle.span_profile.proofs.Watching.{ReadsCell, WritesCell, reads_contain, writes_contain}

-- the parts of a path tell the path
path_elem : Part → ConcreteElem
path_elem (Name n) = region n
path_elem (Index z) = number z

elem_again : (e : ConcreteElem) → path_elem (part_of e) ≡ e
unfolding path_elem
elem_again (region n) = refl
elem_again (number z) = refl

path_again : (path : ConcretePath) → map path_elem (parts_of path) ≡ path
path_again [] = refl
path_again (e ∷ es) = λ i. elem_again e i ∷ path_again es i

pub same_path : (a b : ConcretePath) → parts_of a ≡ parts_of b → a ≡ b
same_path a b e = sym (path_again a) ∙ (ap (map path_elem) e ∙ path_again b)

-- the cells of the accesses that may be made are there
pub read_there : (cells : List ℤ) (accesses : List CellAccess) (cell : ℕ) → MayAll list_ways cells accesses → ReadsCell accesses cell → cell < length cells
read_there cells [] cell may r = absurd (contains_none (Reads cell r.0) r.1)
read_there cells (Reads n value ∷ earlier) cell may r = elim (contains_cases (Reads n value) (Reads cell r.0) earlier r.1) [
  | inl same ↦ (let n_is : n ≡ cell = cc in subst (λ (m : ℕ). m < length cells) n_is may.0)
  | inr later ↦ read_there cells earlier cell may.1 (r.0, later)
]
read_there cells (Writes n value ∷ earlier) cell may r = elim (contains_cases (Writes n value) (Reads cell r.0) earlier r.1) [ inl same ↦ absurd (cc) | inr later ↦ read_there cells earlier cell may.1 (r.0, later) ]
read_there cells (Prints value ∷ earlier) cell may r = elim (contains_cases (Prints value) (Reads cell r.0) earlier r.1) [ inl same ↦ absurd (cc) | inr later ↦ read_there cells earlier cell may (r.0, later) ]

pub write_there : (cells : List ℤ) (accesses : List CellAccess) (cell : ℕ) → MayAll list_ways cells accesses → WritesCell accesses cell → cell < length cells
write_there cells [] cell may r = absurd (contains_none (Writes cell r.0) r.1)
write_there cells (Writes n value ∷ earlier) cell may r = elim (contains_cases (Writes n value) (Writes cell r.0) earlier r.1) [
  | inl same ↦ (let n_is : n ≡ cell = cc in subst (λ (m : ℕ). m < length cells) n_is may.0)
  | inr later ↦ write_there cells earlier cell may.1 (r.0, later)
]
write_there cells (Reads n value ∷ earlier) cell may r = elim (contains_cases (Reads n value) (Writes cell r.0) earlier r.1) [ inl same ↦ absurd (cc) | inr later ↦ write_there cells earlier cell may.1 (r.0, later) ]
write_there cells (Prints value ∷ earlier) cell may r = elim (contains_cases (Prints value) (Writes cell r.0) earlier r.1) [ inl same ↦ absurd (cc) | inr later ↦ write_there cells earlier cell may (r.0, later) ]

-- whether something was printed
pub print_contained : (accesses : List CellAccess) → has_print accesses ≡ true → (value : ℤ) × Contains accesses (Prints value)
print_contained [] e = absurd (cc)
print_contained (Reads n value ∷ earlier) e = let rest = print_contained earlier e in (rest.0, contains_later (Reads n value) (Prints rest.0) earlier rest.1)
print_contained (Writes n value ∷ earlier) e = let rest = print_contained earlier e in (rest.0, contains_later (Writes n value) (Prints rest.0) earlier rest.1)
print_contained (Prints value ∷ earlier) e = (value, contains_first (Prints value) earlier)

pub contained_print : (accesses : List CellAccess) (value : ℤ) → Contains accesses (Prints value) → has_print accesses ≡ true
contained_print [] value has = absurd (contains_none (Prints value) has)
contained_print (Reads n other ∷ earlier) value has = elim (contains_cases (Reads n other) (Prints value) earlier has) [ inl same ↦ absurd (cc) | inr later ↦ contained_print earlier value later ]
contained_print (Writes n other ∷ earlier) value has = elim (contains_cases (Writes n other) (Prints value) earlier has) [ inl same ↦ absurd (cc) | inr later ↦ contained_print earlier value later ]
contained_print (Prints other ∷ earlier) value has = refl

module _ (p : Program) (places : NumberedPaths) (are : ArePlaces p places) (deed : Deed) (accesses : List CellAccess) (printed : deed.printed ≡ has_print accesses)
    (cells : List ℤ) (as_many : length cells ≡ cell_count p) (may : MayAll list_ways cells accesses) where
  abbrev reads : List ℕ
  reads = (read_by accesses (no_cells (cell_count p))).items

  abbrev writes : List ℕ
  writes = (written_by accesses (no_cells (cell_count p))).items

  -- what the entry did
  abbrev pub strand : Strand
  strand = record {
    task = deed.task;
    weight = deed.weight;
    made = made_task deed.end;
    taken = deed.taken;
    done = is_done deed.end;
    cells = accesses;
    accesses = map (access_of p) accesses;
  }

  -- the number of a path is one
  same_number : (m n : ℕ) (path : List Part) → IsNumber are.nodes m path → IsNumber are.nodes n path → m ≡ n
  same_number m n path a b = are.tree.once m n a.there b.there (a.path_is ∙ sym b.path_is)

  -- the access to a cell, and a print
  read_access : (cell : ℕ) → ReadsCell accesses cell → HasAccess are.nodes strand false (place_of places cell)
  read_access cell r = record {
    access = access_of p (Reads cell r.0);
    has = contains_map (access_of p) accesses (Reads cell r.0) r.1;
    writes = refl;
    number = are.cells cell (let there = read_there cells accesses cell may r in omega (arith, there, as_many));
  }

  write_access : (cell : ℕ) → WritesCell accesses cell → HasAccess are.nodes strand true (place_of places cell)
  write_access cell r = record {
    access = access_of p (Writes cell r.0);
    has = contains_map (access_of p) accesses (Writes cell r.0) r.1;
    writes = refl;
    number = are.cells cell (let there = write_there cells accesses cell may r in omega (arith, there, as_many));
  }

  print_access : deed.printed ≡ true → HasAccess are.nodes strand true places.console
  print_access e =
      let has = print_contained accesses (sym printed ∙ e) in
      record {
        access = access_of p (Prints has.0);
        has = contains_map (access_of p) accesses (Prints has.0) has.1;
        writes = refl;
        number = are.console;
      }

  -- each access has a number
  pub placed_by : (x : CellAccess) → Contains accesses x → (place : ℕ) × IsNumber are.nodes place (parts_of (access_of p x).path)
  placed_by (Reads cell value) has = (place_of places cell, are.cells cell (let there = read_there cells accesses cell may (value, has) in omega (arith, there, as_many)))
  placed_by (Writes cell value) has = (place_of places cell, are.cells cell (let there = write_there cells accesses cell may (value, has) in omega (arith, there, as_many)))
  placed_by (Prints value) has = (places.console, are.console)

  placed_access : (access : PathAccess) → Contains (map (access_of p) accesses) access → (place : ℕ) × IsNumber are.nodes place (parts_of access.path)
  placed_access access has =
      let x = map_contains (access_of p) accesses access has in
      let there = placed_by x.0 x.1 in
      (there.0, subst (λ (a : PathAccess). IsNumber are.nodes there.0 (parts_of a.path)) x.2 there.1)

  -- The keys of reads and writes.

  write_of_read : (x : CellAccess) → Contains accesses x → (access_of p x).write ≡ false → (place : ℕ) → IsNumber are.nodes place (parts_of (access_of p x).path) → Contains (write_keys places reads) (Write place)
  write_of_read (Reads cell value) has is place n =
      let there = are.cells cell (let t = read_there cells accesses cell may (value, has) in omega (arith, t, as_many)) in
      let same : place_of places cell ≡ place = same_number (place_of places cell) place (parts_of (access_of p (Reads cell value)).path) there n in
      subst (λ (m : ℕ). Contains (write_keys places reads) (Write m)) same
      (contains_map (λ (c : ℕ). Write (place_of places c)) reads cell ((reads_contain accesses (cell_count p) cell).1 (value, has)))
  write_of_read (Writes cell value) has is place n = absurd (cc)
  write_of_read (Prints value) has is place n = absurd (cc)

  access_of_read : (x : CellAccess) → Contains accesses x → (access_of p x).write ≡ false → (place : ℕ) → IsNumber are.nodes place (parts_of (access_of p x).path) → Contains (access_keys places reads) (Access place)
  access_of_read (Reads cell value) has is place n =
      let there = are.cells cell (let t = read_there cells accesses cell may (value, has) in omega (arith, t, as_many)) in
      let same : place_of places cell ≡ place = same_number (place_of places cell) place (parts_of (access_of p (Reads cell value)).path) there n in
      subst (λ (m : ℕ). Contains (access_keys places reads) (Access m)) same
      (contains_map (λ (c : ℕ). Access (place_of places c)) reads cell ((reads_contain accesses (cell_count p) cell).1 (value, has)))
  access_of_read (Writes cell value) has is place n = absurd (cc)
  access_of_read (Prints value) has is place n = absurd (cc)

  -- a write of a cell, or a print
  abbrev IsWriteTo : ℕ → Type 0
  IsWriteTo place = ((cell : ℕ) × Contains writes cell × (place_of places cell ≡ place)) ⊎ ((deed.printed ≡ true) × (places.console ≡ place))

  write_to : (x : CellAccess) → Contains accesses x → (access_of p x).write ≡ true → (place : ℕ) → IsNumber are.nodes place (parts_of (access_of p x).path) → IsWriteTo place
  write_to (Reads cell value) has is place n = absurd (cc)
  write_to (Writes cell value) has is place n =
      let there = are.cells cell (let t = write_there cells accesses cell may (value, has) in omega (arith, t, as_many)) in
      inl (cell, (writes_contain accesses (cell_count p) cell).1 (value, has), same_number (place_of places cell) place (parts_of (access_of p (Writes cell value)).path) there n)
  write_to (Prints value) has is place n =
      inr (printed ∙ contained_print accesses value has, same_number places.console place (parts_of (access_of p (Prints value)).path) are.console n)

  -- an access of the entry comes from one to a cell, or from a print
  from_read : (place : ℕ) → HasAccess are.nodes strand false place → Contains (write_keys places reads) (Write place) × Contains (access_keys places reads) (Access place)
  from_read place h =
      let x = map_contains (access_of p) accesses h.access h.has in
      let is : (access_of p x.0).write ≡ false = ap (λ (a : PathAccess). a.write) x.2 ∙ h.writes in
      let n : IsNumber are.nodes place (parts_of (access_of p x.0).path) = subst (λ (a : PathAccess). IsNumber are.nodes place (parts_of a.path)) (sym x.2) h.number in
      (write_of_read x.0 x.1 is place n, access_of_read x.0 x.1 is place n)

  from_write : (place : ℕ) → HasAccess are.nodes strand true place → IsWriteTo place
  from_write place h =
      let x = map_contains (access_of p) accesses h.access h.has in
      let is : (access_of p x.0).write ≡ true = ap (λ (a : PathAccess). a.write) x.2 ∙ h.writes in
      write_to x.0 x.1 is place (subst (λ (a : PathAccess). IsNumber are.nodes place (parts_of a.path)) (sym x.2) h.number)

  -- What the node asks for.

  asks_value : (taken : Option ℕ) (key : Key) → Contains (value_keys taken) key → (u : ℕ) × (key ≡ Value u) × (taken ≡ Some u)
  asks_value None key has = absurd (contains_none key has)
  asks_value (Some u) key has = elim (contains_cases (Value u) key [] has) [ inl same ↦ (u, sym same, refl) | inr later ↦ absurd (contains_none key later) ]

  asks_print : (t : Bool) (key : Key) → deed.printed ≡ t → Contains (print_asks places t) key → AsksKey are.nodes strand key
  asks_print false key e has = absurd (contains_none key has)
  asks_print true key e has = elim (contains_cases (Access places.console) key [] has) [
    | inl same ↦ subst (AsksKey are.nodes strand) same (print_access e)
    | inr later ↦ absurd (contains_none key later)
  ]

  asks_read : (key : Key) → Contains (write_keys places reads) key → AsksKey are.nodes strand key
  asks_read key has =
      let x = map_contains (λ (c : ℕ). Write (place_of places c)) reads key has in
      subst (AsksKey are.nodes strand) x.2 (read_access x.0 ((reads_contain accesses (cell_count p) x.0).0 x.1))

  asks_write : (key : Key) → Contains (access_keys places writes) key → AsksKey are.nodes strand key
  asks_write key has =
      let x = map_contains (λ (c : ℕ). Access (place_of places c)) writes key has in
      subst (AsksKey are.nodes strand) x.2 (write_access x.0 ((writes_contain accesses (cell_count p) x.0).0 x.1))

  abbrev asks_1 : List Key
  asks_1 = (Task deed.task ∷ []) ++ value_keys deed.taken

  abbrev asks_2 : List Key
  asks_2 = asks_1 ++ write_keys places reads

  abbrev asks_3 : List Key
  asks_3 = asks_2 ++ access_keys places writes

  asked_so : (key : Key) → Contains (asked places deed reads writes) key → AsksKey are.nodes strand key
  asked_so key has = elim (Contains-append_cases asks_3 (print_asks places deed.printed) key has) [
    | inl in_3 ↦ elim (Contains-append_cases asks_2 (access_keys places writes) key in_3) [
      | inl in_2 ↦ elim (Contains-append_cases asks_1 (write_keys places reads) key in_2) [
        | inl in_1 ↦ elim (Contains-append_cases (Task deed.task ∷ []) (value_keys deed.taken) key in_1) [
          | inl task ↦ elim (contains_cases (Task deed.task) key [] task) [ inl same ↦ subst (AsksKey are.nodes strand) same refl | inr later ↦ absurd (contains_none key later) ]
          | inr value ↦ (let v = asks_value deed.taken key value in subst (AsksKey are.nodes strand) (sym v.1) v.2)
        ]
        | inr read ↦ asks_read key read
      ]
      | inr write ↦ asks_write key write
    ]
    | inr print ↦ asks_print deed.printed key refl print
  ]

  from_asks_1 : (key : Key) → Contains asks_1 key → Contains (asked places deed reads writes) key
  from_asks_1 key has =
      Contains-append_left asks_3 (print_asks places deed.printed) key
      (Contains-append_left asks_2 (access_keys places writes) key (Contains-append_left asks_1 (write_keys places reads) key has))

  asks_so : (key : Key) → AsksKey are.nodes strand key → Contains (asked places deed reads writes) key
  asks_so (Task task) is =
      from_asks_1 (Task task)
      (Contains-append_left (Task deed.task ∷ []) (value_keys deed.taken) (Task task) (subst (λ (t : ℕ). Contains (Task deed.task ∷ []) (Task t)) is (contains_first (Task deed.task) [])))
  asks_so (Value task) is =
      from_asks_1 (Value task)
      (Contains-append_right (Task deed.task ∷ []) (value_keys deed.taken) (Value task) (subst (λ (o : Option ℕ). Contains (value_keys o) (Value task)) (sym is) (contains_first (Value task) [])))
  asks_so (Write place) is =
      Contains-append_left asks_3 (print_asks places deed.printed) (Write place)
      (Contains-append_left asks_2 (access_keys places writes) (Write place) (Contains-append_right asks_1 (write_keys places reads) (Write place) (from_read place is).0))
  asks_so (Access place) is = elim (from_write place is) [
    | inl cell ↦ Contains-append_left asks_3 (print_asks places deed.printed) (Access place)
        (Contains-append_right asks_2 (access_keys places writes) (Access place)
        (subst (λ (m : ℕ). Contains (access_keys places writes) (Access m)) cell.2 (contains_map (λ (c : ℕ). Access (place_of places c)) writes cell.0 cell.1)))
    | inr print ↦ Contains-append_right asks_3 (print_asks places deed.printed) (Access place)
        (subst (λ (m : ℕ). Contains (print_asks places deed.printed) (Access m)) print.1
        (subst (λ (t : Bool). Contains (print_asks places t) (Access places.console)) (sym print.0) (contains_first (Access places.console) [])))
  ]

  -- What it gives.

  gives_end : (end : End) (key : Key) → Contains (end_keys deed.task end) key → ((u : ℕ) × (key ≡ Task u) × (made_task end ≡ Some u)) ⊎ ((key ≡ Value deed.task) × (is_done end ≡ true))
  gives_end (ends.Made child) key has = elim (contains_cases (Task child) key [] has) [ inl same ↦ inl (child, sym same, refl) | inr later ↦ absurd (contains_none key later) ]
  gives_end (ends.Done value) key has = elim (contains_cases (Value deed.task) key [] has) [ inl same ↦ inr (sym same, refl) | inr later ↦ absurd (contains_none key later) ]
  gives_end ends.Admitted key has = absurd (contains_none key has)
  gives_end (ends.Waits on) key has = absurd (contains_none key has)
  gives_end (ends.Joins on) key has = absurd (contains_none key has)
  gives_end (ends.Fault kind place) key has = absurd (contains_none key has)

  end_made : (end : End) (task : ℕ) → made_task end ≡ Some task → Contains (end_keys deed.task end) (Task task)
  end_made (ends.Made child) task is = let same : child ≡ task = cc in subst (λ (t : ℕ). Contains (Task child ∷ []) (Task t)) same (contains_first (Task child) [])
  end_made (ends.Done value) task is = absurd (cc)
  end_made ends.Admitted task is = absurd (cc)
  end_made (ends.Waits on) task is = absurd (cc)
  end_made (ends.Joins on) task is = absurd (cc)
  end_made (ends.Fault kind place) task is = absurd (cc)

  end_done : (end : End) → is_done end ≡ true → Contains (end_keys deed.task end) (Value deed.task)
  end_done (ends.Done value) is = contains_first (Value deed.task) []
  end_done (ends.Made child) is = absurd (cc)
  end_done ends.Admitted is = absurd (cc)
  end_done (ends.Waits on) is = absurd (cc)
  end_done (ends.Joins on) is = absurd (cc)
  end_done (ends.Fault kind place) is = absurd (cc)

  gives_print : (t : Bool) (key : Key) → deed.printed ≡ t → Contains (print_gives places t) key → GivesKey are.nodes strand key
  gives_print false key e has = absurd (contains_none key has)
  gives_print true key e has = elim (contains_cases (Write places.console) key (Access places.console ∷ []) has) [
    | inl same ↦ subst (GivesKey are.nodes strand) same (print_access e)
    | inr later ↦ elim (contains_cases (Access places.console) key [] later) [
      | inl same ↦ subst (GivesKey are.nodes strand) same (inl (print_access e))
      | inr none ↦ absurd (contains_none key none)
    ]
  ]

  gives_read : (key : Key) → Contains (access_keys places reads) key → GivesKey are.nodes strand key
  gives_read key has =
      let x = map_contains (λ (c : ℕ). Access (place_of places c)) reads key has in
      subst (GivesKey are.nodes strand) x.2 (inr (read_access x.0 ((reads_contain accesses (cell_count p) x.0).0 x.1)))

  gives_write : (key : Key) → Contains (write_keys places writes) key → GivesKey are.nodes strand key
  gives_write key has =
      let x = map_contains (λ (c : ℕ). Write (place_of places c)) writes key has in
      subst (GivesKey are.nodes strand) x.2 (write_access x.0 ((writes_contain accesses (cell_count p) x.0).0 x.1))

  gives_access : (key : Key) → Contains (access_keys places writes) key → GivesKey are.nodes strand key
  gives_access key has =
      let x = map_contains (λ (c : ℕ). Access (place_of places c)) writes key has in
      subst (GivesKey are.nodes strand) x.2 (inl (write_access x.0 ((writes_contain accesses (cell_count p) x.0).0 x.1)))

  abbrev gives_1 : List Key
  gives_1 = (Task deed.task ∷ []) ++ end_keys deed.task deed.end

  abbrev gives_2 : List Key
  gives_2 = gives_1 ++ access_keys places reads

  abbrev gives_3 : List Key
  gives_3 = gives_2 ++ write_keys places writes

  abbrev gives_4 : List Key
  gives_4 = gives_3 ++ access_keys places writes

  given_so : (key : Key) → Contains (given places deed reads writes) key → GivesKey are.nodes strand key
  given_so key has = elim (Contains-append_cases gives_4 (print_gives places deed.printed) key has) [
    | inl in_4 ↦ elim (Contains-append_cases gives_3 (access_keys places writes) key in_4) [
      | inl in_3 ↦ elim (Contains-append_cases gives_2 (write_keys places writes) key in_3) [
        | inl in_2 ↦ elim (Contains-append_cases gives_1 (access_keys places reads) key in_2) [
          | inl in_1 ↦ elim (Contains-append_cases (Task deed.task ∷ []) (end_keys deed.task deed.end) key in_1) [
            | inl task ↦ elim (contains_cases (Task deed.task) key [] task) [ inl same ↦ subst (GivesKey are.nodes strand) same (inl refl) | inr later ↦ absurd (contains_none key later) ]
            | inr end ↦ elim (gives_end deed.end key end) [
              | inl made ↦ subst (GivesKey are.nodes strand) (sym made.1) (inr made.2)
              | inr done ↦ subst (GivesKey are.nodes strand) (sym done.0) (done.1, refl)
            ]
          ]
          | inr read ↦ gives_read key read
        ]
        | inr write ↦ gives_write key write
      ]
      | inr access ↦ gives_access key access
    ]
    | inr print ↦ gives_print deed.printed key refl print
  ]

  from_gives_4 : (key : Key) → Contains gives_4 key → Contains (given places deed reads writes) key
  from_gives_4 key has = Contains-append_left gives_4 (print_gives places deed.printed) key has

  from_gives_2 : (key : Key) → Contains gives_2 key → Contains (given places deed reads writes) key
  from_gives_2 key has = from_gives_4 key (Contains-append_left gives_3 (access_keys places writes) key (Contains-append_left gives_2 (write_keys places writes) key has))

  from_gives_1 : (key : Key) → Contains gives_1 key → Contains (given places deed reads writes) key
  from_gives_1 key has = from_gives_2 key (Contains-append_left gives_1 (access_keys places reads) key has)

  from_print : (place : ℕ) → deed.printed ≡ true → places.console ≡ place → Contains (print_gives places deed.printed) (Write place) × Contains (print_gives places deed.printed) (Access place)
  from_print place e same =
      let keys : List Key = Write places.console ∷ Access places.console ∷ [] in
      let all = ap (print_gives places) e in (
        subst (λ (l : List Key). Contains l (Write place)) (sym all) (subst (λ (m : ℕ). Contains keys (Write m)) same (contains_first (Write places.console) (Access places.console ∷ []))),
        subst (λ (l : List Key). Contains l (Access place)) (sym all)
            (subst (λ (m : ℕ). Contains keys (Access m)) same (contains_later (Write places.console) (Access places.console) (Access places.console ∷ []) (contains_first (Access places.console) []))),
      )

  gives_so : (key : Key) → GivesKey are.nodes strand key → Contains (given places deed reads writes) key
  gives_so (Task task) either = elim either [
    | inl is ↦ from_gives_1 (Task task)
        (Contains-append_left (Task deed.task ∷ []) (end_keys deed.task deed.end) (Task task) (subst (λ (t : ℕ). Contains (Task deed.task ∷ []) (Task t)) is (contains_first (Task deed.task) [])))
    | inr made ↦ from_gives_1 (Task task) (Contains-append_right (Task deed.task ∷ []) (end_keys deed.task deed.end) (Task task) (end_made deed.end task made))
  ]
  gives_so (Value task) is =
      from_gives_1 (Value task)
      (Contains-append_right (Task deed.task ∷ []) (end_keys deed.task deed.end) (Value task) (subst (λ (t : ℕ). Contains (end_keys deed.task deed.end) (Value t)) is.1 (end_done deed.end is.0)))
  gives_so (Write place) is = elim (from_write place is) [
    | inl cell ↦ from_gives_4 (Write place)
        (Contains-append_left gives_3 (access_keys places writes) (Write place)
        (Contains-append_right gives_2 (write_keys places writes) (Write place)
        (subst (λ (m : ℕ). Contains (write_keys places writes) (Write m)) cell.2 (contains_map (λ (c : ℕ). Write (place_of places c)) writes cell.0 cell.1))))
    | inr print ↦ Contains-append_right gives_4 (print_gives places deed.printed) (Write place) (from_print place print.0 print.1).0
  ]
  gives_so (Access place) either = elim either [
    | inl is ↦ elim (from_write place is) [
      | inl cell ↦ from_gives_4 (Access place)
          (Contains-append_right gives_3 (access_keys places writes) (Access place)
          (subst (λ (m : ℕ). Contains (access_keys places writes) (Access m)) cell.2 (contains_map (λ (c : ℕ). Access (place_of places c)) writes cell.0 cell.1)))
      | inr print ↦ Contains-append_right gives_4 (print_gives places deed.printed) (Access place) (from_print place print.0 print.1).1
    ]
    | inr is ↦ from_gives_2 (Access place) (Contains-append_right gives_1 (access_keys places reads) (Access place) (from_read place is).1)
  ]

  pub shows : Shows are.nodes (record { weight = deed.weight; asks = asked places deed reads writes; gives = given places deed reads writes }) strand
  shows = record {
    weight = refl;
    asks = λ key. (asked_so key, asks_so key);
    gives = λ key. (given_so key, gives_so key);
    placed = placed_access;
  }

-- Nodes share a key exactly if the entries that they show lead to one another.
module _ (nodes : List (List Part)) (m n : Node) (a b : Strand) (first : Shows nodes m a) (second : Shows nodes n b) where
  pub leads_shared : LeadsTo a b → SharesKey m n
  leads_shared (same_task same) = (Task b.task, (first.gives (Task b.task)).1 (inl same), (second.asks (Task b.task)).1 refl)
  leads_shared (makes made) = (Task b.task, (first.gives (Task b.task)).1 (inr made), (second.asks (Task b.task)).1 refl)
  leads_shared (gives_value done taken) = (Value a.task, (first.gives (Value a.task)).1 (done, refl), (second.asks (Value a.task)).1 taken)
  leads_shared (conflict x y in_a in_b meet) = by_writes x.write y.write refl refl meet.0
    where
      place : (place : ℕ) × IsNumber nodes place (parts_of y.path)
      place = second.placed y in_b

      at_x : IsNumber nodes place.0 (parts_of x.path)
      at_x = subst (λ (path : ConcretePath). IsNumber nodes place.0 (parts_of path)) (sym meet.1) place.1

      by_writes : (t u : Bool) → x.write ≡ t → y.write ≡ u → IsTrue (x.write || y.write) → SharesKey m n
      by_writes true true e f some = (
        Access place.0,
        (first.gives (Access place.0)).1 (inl (record { access = x; has = in_a; writes = e; number = at_x })),
        (second.asks (Access place.0)).1 (record { access = y; has = in_b; writes = f; number = place.1 }),
      )
      by_writes false true e f some = (
        Access place.0,
        (first.gives (Access place.0)).1 (inr (record { access = x; has = in_a; writes = e; number = at_x })),
        (second.asks (Access place.0)).1 (record { access = y; has = in_b; writes = f; number = place.1 }),
      )
      by_writes true false e f some = (
        Write place.0,
        (first.gives (Write place.0)).1 (record { access = x; has = in_a; writes = e; number = at_x }),
        (second.asks (Write place.0)).1 (record { access = y; has = in_b; writes = f; number = place.1 }),
      )
      by_writes false false e f some = let none : (x.write || y.write) ≡ false = λ i. e i || f i in absurd (cc)

  -- accesses to paths of one number are to one path
  meets : (place : ℕ) (t : Bool) → HasAccess nodes a true place → HasAccess nodes b t place → LeadsTo a b
  meets place t x y =
      let same : x.access.path ≡ y.access.path = same_path x.access.path y.access.path (sym x.number.path_is ∙ y.number.path_is) in
      conflict x.access y.access x.has y.has (ap (λ (w : Bool). w || y.access.write) x.writes, same)

  meets_write : (place : ℕ) (t : Bool) → HasAccess nodes a t place → HasAccess nodes b true place → LeadsTo a b
  meets_write place t x y =
      let same : x.access.path ≡ y.access.path = same_path x.access.path y.access.path (sym x.number.path_is ∙ y.number.path_is) in
      conflict x.access y.access x.has y.has (or_true x.access.write y.access.write y.writes, same)
    where
      or_true : (s u : Bool) → u ≡ true → IsTrue (s || u)
      or_true true u e = refl
      or_true false u e = e

  by_key : (key : Key) → GivesKey nodes a key → AsksKey nodes b key → LeadsTo a b
  by_key (Task task) gives asks = elim gives [ inl same ↦ same_task (same ∙ sym asks) | inr made ↦ makes (made ∙ ap Some (sym asks)) ]
  by_key (Value task) gives asks = gives_value gives.0 (asks ∙ ap Some (sym gives.1))
  by_key (Write place) gives asks = meets place false gives asks
  by_key (Access place) gives asks = elim gives [ inl write ↦ meets place true write asks | inr read ↦ meets_write place false read asks ]

  pub shared_leads : SharesKey m n → LeadsTo a b
  shared_leads shared = by_key shared.0 ((first.gives shared.0).0 shared.1) ((second.asks shared.0).0 shared.2)
