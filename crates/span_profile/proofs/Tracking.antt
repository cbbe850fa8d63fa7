-- A run goes on by one move, and so do the chains of its entries.
use Rattle.std.proofs.Common.{◌≡◌, ◌<◌, ◌++◌, ℕ, suc, Bool, true, false, List, [], ◌∷◌, length, Option, None, Some, refl, sym, ap, ◌∙◌, subst, arith}
use Rattle.std.specs.Prelude.{◌||◌, slice_get, sum_by}
use Rattle.std.specs.List.{AllZip}
use Rattle.std.proofs.lemmas.List.Sums.{sum_by_push}
use Rattle.span_profile.specs.heaviest_chain.Built.{HasRoom, FrontHolds}
use Rattle.schedules.specs.Timetables.{AreEarliest}
use Rattle.span_profile.specs.heaviest_chain.Chains.{IsHeaviest, Leads, weight_at}
use Rattle.span_profile.specs.heaviest_chain.Nodes.{Node, SharesKey}
use Rattle.span_profile.specs.heaviest_chain.Nodes as chain_nodes
use Rattle.span_profile.specs.declared.heaviest_chain.chains.Chains.{Chains}
use Rattle.prefix_tree.specs.declared.part.Part.{Part}
use Rattle.region_paths.specs.Concrete.{region}
use Rattle.seg_journal.specs.declared.journal.End.{End}
use Rattle.seg_journal.specs.declared.journal.Entry.{Entry}
use Rattle.seg_journal.specs.declared.moves.Kind.{Kind}
use Rattle.seg_journal.specs.declared.moves.Kind.TheVariants.{Admit, Run}
use Rattle.seg_journal.specs.declared.moves.Move.{Move}
use Rattle.twe_base.specs.Limits.{Bounds, IsWithin}
use Rattle.twe_program.specs.Program.{Program, cell_count}
use Rattle.twe_program.specs.WellFormed.{IsWellFormed}
use Rattle.seg_meaning.specs.Access.{Access, Reads, Writes, Prints}
use Rattle.seg_meaning.proofs.Accesses.{may_carry_out}
use Rattle.isolation_laws.specs.soundness.CellPaths.{path_of_cell}
use Rattle.machine_state.specs.declared.state.State.{State}
use Rattle.machine_state.specs.declared.state.TaskRow.{TaskRow}
use Rattle.machine_state.specs.Changes.{next_segment}
use Rattle.machine_state.specs.Legal.{MayMove, MayTake}
use Rattle.twe_machine.specs.Listings.{IsListing}
use Rattle.machine_state.specs.Moves.{move_result, ready_frame, start_of}
use Rattle.machine_state.specs.Rows.{IsRow}
use Rattle.machine_state.specs.Runs.{IsRun, Legal, counted, entry_of, is_done, is_fault}
use Rattle.machine_state.proofs.standing.ReachedStands.{reached_stands, start_stands}
use Rattle.machine_state.proofs.replays.Replayed.{run_more}
use Rattle.span_profile.specs.declared.deed.Deed.{Deed}
use Rattle.span_profile.specs.declared.places.NumberedPaths.{NumberedPaths}
use Rattle.span_profile.specs.declared.profiling.Tracked.{Tracked}
use Rattle.span_profile.specs.declared.trail.ChainTrail.{ChainTrail}
use Rattle.span_profile.specs.declared.watched.WatchedCells.{WatchedCells}
use Rattle.span_profile.specs.LeadsTo.{LeadsTo}
use Rattle.span_profile.specs.Strands.{Strand, admission, made_task, segment_strand, strand_by_kind, strand_of, strands, strands_from, weight_of}
use Rattle.span_profile.specs.inner.Deeds.{DidKind, DidMove, HasAdmitted, HasDone, admission_deed, node_of}
use Rattle.span_profile.specs.inner.Numbering.{ArePlaces, IsNumber, parts_of, place_of}
use Rattle.span_profile.specs.inner.Sets.{NumberSet, no_cells}
use Rattle.span_profile.specs.inner.Shows.{Shows}
use Rattle.span_profile.specs.inner.Tracked.{IsTracked, has_fault}
use Rattle.span_profile.specs.inner.Trails.{IsEntryOf, IsTrail}
use Rattle.span_profile.specs.inner.Watch.{read_by, written_by}
use Rattle.span_profile.proofs.Agreeing.{earliest_forth, heaviest_forth, sum_same}
use Rattle.span_profile.proofs.Counted.{all_counted, counted_legal, counted_more, counted_stays, has_fault_more, strands_more}
use Rattle.span_profile.proofs.FuelTaken.{work_fits}
use Rattle.span_profile.proofs.Lists.{zip_push}
use Rattle.span_profile.proofs.NumberSets.{with_size}
use Rattle.span_profile.proofs.Keyed.{leads_shared, shared_leads, shows}

module _ (p : Program) (well : IsWellFormed p) where
  -- the node shows what the entry did
  node_same : (places : NumberedPaths) (deed : Deed) (watched : WatchedCells) (reads writes : NumberSet) → watched.reads ≡ reads → watched.writes ≡ writes
      → record { weight = deed.weight; asks = (node_of places deed (record watched { reads = reads; writes = writes })).asks; gives = (node_of places deed (record watched { reads = reads; writes = writes })).gives }
      ≡ node_of places deed watched
  node_same places deed watched reads writes r w =
      λ i. node_of places deed (record watched { reads = sym r i; writes = sym w i })

  shows_admission : (places : NumberedPaths) (are : ArePlaces p places) (st : State) (t : ℕ) (deed : Deed) (watched : WatchedCells) → length st.cells ≡ cell_count p → HasAdmitted p t deed watched
      → Shows are.nodes (node_of places deed watched) (admission t)
  shows_admission places are st t deed watched many did =
      let shown = shows p places are (admission_deed t) [] refl st.cells many tt in
      subst (λ (n : Node). Shows are.nodes n (admission t)) (node_same places (admission_deed t) watched (no_cells (cell_count p)) (no_cells (cell_count p)) did.reads did.writes ∙ ap (λ (d : Deed). node_of places d watched) (sym did.deed_is))
      shown

  shows_segment : (places : NumberedPaths) (are : ArePlaces p places) (st : State) (t : ℕ) (row : TaskRow) (deed : Deed) (watched : WatchedCells) → length st.cells ≡ cell_count p → HasDone p st t row deed watched
      → Shows are.nodes (node_of places deed watched) (segment_strand p t row (next_segment p st row) deed.end)
  shows_segment places are st t row deed watched many did =
      let left = next_segment p st row in
      let shown = shows p places are deed left.accesses did.printed st.cells many (may_carry_out p well st.cells many (ready_frame st.tasks row.frame) st.cells) in
      let same : record { task = deed.task; weight = deed.weight; made = made_task deed.end; taken = deed.taken; done = is_done deed.end; cells = (segment_strand p t row left deed.end).cells; accesses = (segment_strand p t row left deed.end).accesses } ≡ segment_strand p t row left deed.end =
      λ i. record { task = did.task i; weight = did.weight i; made = made_task deed.end; taken = did.taken i; done = is_done deed.end; cells = (segment_strand p t row left deed.end).cells; accesses = (segment_strand p t row left deed.end).accesses } in
      subst (λ (n : Node). Shows are.nodes n (segment_strand p t row left deed.end)) (node_same places deed watched (read_by left.accesses (no_cells (cell_count p))) (written_by left.accesses (no_cells (cell_count p))) did.reads did.writes)
      (subst (Shows are.nodes (node_of places deed (record watched { reads = read_by left.accesses (no_cells (cell_count p)); writes = written_by left.accesses (no_cells (cell_count p)) }))) same shown)

  -- what an entry did, over its cells
  entry_admission : (places : NumberedPaths) (st : State) (t : ℕ) (deed : Deed) (watched : WatchedCells) → length st.cells ≡ cell_count p → HasAdmitted p t deed watched → IsEntryOf p places deed watched (admission t)
  entry_admission places st t deed watched many did = record {
    accesses = [];
    values = st.cells;
    many = many;
    may = tt;
    task = sym (ap (λ (d : Deed). d.task) did.deed_is);
    made = sym (ap (λ (d : Deed). made_task d.end) did.deed_is);
    taken = sym (ap (λ (d : Deed). d.taken) did.deed_is);
    done = sym (ap (λ (d : Deed). is_done d.end) did.deed_is);
    cells = refl;
    are = refl;
    printed = ap (λ (d : Deed). d.printed) did.deed_is;
    reads = ap (λ (s : NumberSet). s.items) did.reads;
    writes = ap (λ (s : NumberSet). s.items) did.writes;
  }

  entry_segment : (places : NumberedPaths) (st : State) (t : ℕ) (row : TaskRow) (deed : Deed) (watched : WatchedCells) → length st.cells ≡ cell_count p → HasDone p st t row deed watched
      → IsEntryOf p places deed watched (segment_strand p t row (next_segment p st row) deed.end)
  entry_segment places st t row deed watched many did = record {
    accesses = (next_segment p st row).accesses;
    values = st.cells;
    many = many;
    may = may_carry_out p well st.cells many (ready_frame st.tasks row.frame) st.cells;
    task = sym did.task;
    made = refl;
    taken = sym did.taken;
    done = refl;
    cells = refl;
    are = refl;
    printed = did.printed;
    reads = ap (λ (s : NumberSet). s.items) did.reads;
    writes = ap (λ (s : NumberSet). s.items) did.writes;
  }

  entry_kind : (places : NumberedPaths) (st : State) (kind : Kind) (t : ℕ) (found : Option TaskRow) → slice_get st.tasks t ≡ found → (row : TaskRow) → found ≡ Some row
      → (deed : Deed) (watched : WatchedCells) → length st.cells ≡ cell_count p → DidKind p st kind t deed watched → IsEntryOf p places deed watched (strand_by_kind p st kind t found deed.end)
  entry_kind places st Admit t found e row is deed watched many did = entry_admission places st t deed watched many did
  entry_kind places st Run t None e row is deed watched many did = absurd (cc)
  entry_kind places st Run t (Some other) e row is deed watched many did = entry_segment places st t other deed watched many (did other e)

  pub shows_kind : (places : NumberedPaths) (are : ArePlaces p places) (st : State) (kind : Kind) (t : ℕ) (found : Option TaskRow) → slice_get st.tasks t ≡ found → (row : TaskRow) → found ≡ Some row
      → (deed : Deed) (watched : WatchedCells) → length st.cells ≡ cell_count p → DidKind p st kind t deed watched → Shows are.nodes (node_of places deed watched) (strand_by_kind p st kind t found deed.end)
  shows_kind places are st Admit t found e row is deed watched many did = shows_admission places are st t deed watched many did
  shows_kind places are st Run t None e row is deed watched many did = absurd (cc)
  shows_kind places are st Run t (Some other) e row is deed watched many did = shows_segment places are st t other deed watched many (did other e)

-- The row of the task that may take a move.
pub mover_row : (st : State) (kind : Kind) (t : ℕ) → MayTake st kind t → (row : TaskRow) × IsRow st t row
mover_row st Admit t may = (may.0.0, may.0.1)
mover_row st Run t may = (may.0.0, may.0.1)

-- the sets keep their size, and an entry has weight
read_size : (accesses : List Access) (set : NumberSet) → (read_by accesses set).size ≡ set.size
read_size [] set = refl
read_size (Reads cell value ∷ earlier) set = with_size cell (read_by earlier set) ∙ read_size earlier set
read_size (Writes cell value ∷ earlier) set = read_size earlier set
read_size (Prints value ∷ earlier) set = read_size earlier set

written_size : (accesses : List Access) (set : NumberSet) → (written_by accesses set).size ≡ set.size
written_size [] set = refl
written_size (Reads cell value ∷ earlier) set = written_size earlier set
written_size (Writes cell value ∷ earlier) set = with_size cell (written_by earlier set) ∙ written_size earlier set
written_size (Prints value ∷ earlier) set = written_size earlier set

pub record IsNoted (p : Program) (deed : Deed) (watched : WatchedCells) : Type 0 where
  pub some : 0 < deed.weight
  pub reads : watched.reads.size ≡ cell_count p
  pub writes : watched.writes.size ≡ cell_count p

pub noted : (p : Program) (st : State) (kind : Kind) (t : ℕ) (row : TaskRow) → IsRow st t row → (deed : Deed) (watched : WatchedCells) → DidKind p st kind t deed watched → IsNoted p deed watched
noted p st Admit t row there deed watched did = record {
  some = let is = ap (λ (d : Deed). d.weight) did.deed_is in omega (arith, is);
  reads = ap (λ (s : NumberSet). s.size) did.reads;
  writes = ap (λ (s : NumberSet). s.size) did.writes;
}
noted p st Run t row there deed watched did =
    let done = did row there in
    let accesses = (next_segment p st row).accesses in
    record {
      some = let is = done.weight in omega (arith, is);
      reads = ap (λ (s : NumberSet). s.size) done.reads ∙ read_size accesses (no_cells (cell_count p));
      writes = ap (λ (s : NumberSet). s.size) done.writes ∙ written_size accesses (no_cells (cell_count p));
    }

-- there is a strand for each entry
strand_count : (p : Program) (lim : Bounds) (st : State) (entries : List Entry) → length (strands_from p lim st entries) ≡ length entries
strand_count p lim st [] = refl
strand_count p lim st (entry ∷ entries) = ap (λ (n : ℕ). suc n) (strand_count p lim (move_result p lim st entry.mv).0 entries)

-- The start of a run.
pub tracked_start : (p : Program) (lim : Bounds) (next : Tracked) → next.st ≡ start_of p lim → next.journal ≡ [] → next.over ≡ false → ArePlaces p next.places
    → next.watched.reads ≡ no_cells (cell_count p) → next.watched.writes ≡ no_cells (cell_count p) → FrontHolds [] next.chains
    → IsListing (start_of p lim) next.enabled → ((tree : List (List Part)) → IsTrail p tree [] next.trail) → IsTracked p lim next
tracked_start p lim next st_is journal_is over places reads writes holds listing trail = record {
  is_run = subst (λ (j : List Entry). IsRun p lim j next.st) (sym journal_is) (record { legal = tt; same = st_is });
  listing = subst (λ (st : State). IsListing st next.enabled) (sym st_is) listing;
  over = over ∙ sym (ap has_fault journal_is);
  places = places;
  reads = reads;
  writes = writes;
  nodes = [];
  holds = holds;
  shows = subst (λ (j : List Entry). AllZip (Shows places.nodes) [] (strands p lim (counted j))) (sym journal_is) tt;
  trail = subst (λ (j : List Entry). IsTrail p places.nodes (strands p lim (counted j)) next.trail) (sym journal_is) (trail places.nodes);
}

pub start_cells : (p : Program) (lim : Bounds) → IsWellFormed p → (size : ℕ) (st : State) → st ≡ start_of p lim → size ≡ length st.cells → size ≡ cell_count p
start_cells p lim well size st is many = many ∙ (ap (λ (s : State). length s.cells) is ∙ (start_stands p lim well).cells)

-- what is known of a move of a run under way
pub record IsMove (p : Program) (lim : Bounds) (st : State) (mv : Move) (deed : Deed) (watched : WatchedCells) (after : State) : Type 0 where
  pub may : MayMove st mv
  pub row : TaskRow
  pub there : IsRow st mv.task row
  pub moved : (after, deed.end) ≡ move_result p lim st mv
  pub did : DidMove p st mv deed watched

module _ (p : Program) (lim : Bounds) (well : IsWellFormed p) (within : IsWithin lim.fuel lim.tasks) (run : Tracked) (t : IsTracked p lim run) (mv : Move) (deed : Deed) (watched : WatchedCells) (after : State)
    (m : IsMove p lim run.st mv deed watched after) where
  abbrev entry : Entry
  entry = record { mv = mv; end = deed.end }

  abbrev all : List Entry
  all = run.journal ++ entry ∷ []

  end_is : deed.end ≡ (move_result p lim run.st mv).1
  end_is = ap (λ (x : State × End). x.1) m.moved

  -- the journal goes on
  pub runs_on : IsRun p lim all after
  runs_on =
      let entry_is : entry_of p lim run.st mv ≡ entry = ap (λ (e : End). record { mv = mv; end = e }) (sym end_is) in
      subst (λ (s : State). IsRun p lim all s) (sym (ap (λ (x : State × End). x.0) m.moved))
      (subst (λ (j : List Entry). IsRun p lim j (move_result p lim run.st mv).0) (ap (λ (e : Entry). run.journal ++ e ∷ []) entry_is) (run_more p lim run.journal run.st mv t.is_run m.may))

  many_cells : length run.st.cells ≡ cell_count p
  many_cells = (reached_stands p lim run.st well (record { journal = run.journal; legal = t.is_run.legal; same = t.is_run.same })).cells

  entered : IsEntryOf p run.places deed watched (strand_of p run.st entry)
  entered = entry_kind p well run.places run.st mv.kind mv.task (slice_get run.st.tasks mv.task) refl m.row m.there deed watched many_cells m.did

  shown : Shows t.places.nodes (node_of run.places deed watched) (strand_of p run.st entry)
  shown = shows_kind p well run.places t.places run.st mv.kind mv.task (slice_get run.st.tasks mv.task) refl m.row m.there deed watched many_cells m.did

  -- if no entry before has met a fault, the entry counts
  module _ (going : run.over ≡ false) where
    no_fault : has_fault run.journal ≡ false
    no_fault = sym t.over ∙ going

    strands_are : strands p lim (counted all) ≡ strands p lim (counted run.journal) ++ strand_of p run.st entry ∷ []
    strands_are =
        ap (strands p lim) (counted_more run.journal entry no_fault)
        ∙ (strands_more p lim (start_of p lim) run.journal entry
        ∙ (λ i. strands p lim (sym (all_counted run.journal no_fault) i) ++ strand_of p (sym t.is_run.same i) entry ∷ []))

    weighs : sum_by chain_nodes.weight_of t.nodes ≡ sum_by weight_of (strands p lim (counted run.journal))
    weighs =
        sum_same (Shows t.places.nodes) chain_nodes.weight_of weight_of SharesKey LeadsTo (λ x y s. s.weight) (λ x y a b r s shared. shared_leads t.places.nodes x y a b r s shared)
        (λ x y a b r s leads. leads_shared t.places.nodes x y a b r s leads) t.nodes (strands p lim (counted run.journal)) t.shows t.nodes (strands p lim (counted run.journal)) t.shows

    pub has_room : HasRoom run.chains deed.weight
    has_room =
        let legal : Legal p lim (counted all) = counted_legal p lim (start_of p lim) all runs_on.legal in
        let small = work_fits p lim well within (counted all) legal in
        let sum = ap (sum_by weight_of) strands_are ∙ sum_by_push weight_of (strands p lim (counted run.journal)) (strand_of p run.st entry) in
        let this = shown.weight in
        (t.nodes, t.holds, omega (arith, small, sum, this, weighs))

    pub shows_more : AllZip (Shows t.places.nodes) (t.nodes ++ node_of run.places deed watched ∷ []) (strands p lim (counted all))
    shows_more =
        subst (AllZip (Shows t.places.nodes) (t.nodes ++ node_of run.places deed watched ∷ [])) (sym strands_are)
        (zip_push (Shows t.places.nodes) t.nodes (strands p lim (counted run.journal)) (node_of run.places deed watched) (strand_of p run.st entry) t.shows shown)

    count : length (strands p lim (counted run.journal)) ≡ length run.journal
    count = strand_count p lim (start_of p lim) (counted run.journal) ∙ ap (λ (l : List Entry). length l) (all_counted run.journal no_fault)

    pub trail_more : (trail : ChainTrail) (number : ℕ) → number ≡ length run.journal
        → ((strands : List Strand) (b : Strand) → IsEntryOf p run.places deed watched b → Shows t.places.nodes (node_of run.places deed watched) b → length strands ≡ number
        → IsTrail p t.places.nodes strands run.trail → run.over ≡ false → IsTrail p t.places.nodes (strands ++ b ∷ []) trail)
        → IsTrail p t.places.nodes (strands p lim (counted all)) trail
    trail_more trail number number_is follow =
        subst (λ (l : List Strand). IsTrail p t.places.nodes l trail) (sym strands_are)
        (follow (strands p lim (counted run.journal)) (strand_of p run.st entry) entered shown (count ∙ sym number_is) t.trail going)

  -- so the run is tracked on
  module _ (chains : Chains) (ended : Bool) (over : ended ≡ (run.over || is_fault deed.end)) (kept : run.over ≡ true → chains ≡ run.chains)
      (added : run.over ≡ false → FrontHolds (t.nodes ++ node_of run.places deed watched ∷ []) chains) (next : Tracked)
      (st_is : next.st ≡ after) (journal_is : next.journal ≡ all) (over_is : next.over ≡ ended) (places_are : next.places ≡ run.places) (reads : next.watched.reads ≡ no_cells (cell_count p))
      (writes : next.watched.writes ≡ no_cells (cell_count p)) (chains_are : next.chains ≡ chains) (listing : IsListing next.st next.enabled)
      (trail : ChainTrail) (number : ℕ) (number_is : number ≡ length run.journal) (trail_is : next.trail ≡ trail) (trail_kept : run.over ≡ true → trail ≡ run.trail)
      (follow : (strands : List Strand) (b : Strand) → IsEntryOf p run.places deed watched b → Shows t.places.nodes (node_of run.places deed watched) b → length strands ≡ number
      → IsTrail p t.places.nodes strands run.trail → run.over ≡ false → IsTrail p t.places.nodes (strands ++ b ∷ []) trail) where
    places_next : ArePlaces p next.places
    places_next = subst (ArePlaces p) (sym places_are) t.places

    over_next : next.over ≡ has_fault next.journal
    over_next =
        over_is ∙ (over ∙ (ap (λ (b : Bool). b || is_fault deed.end) t.over ∙ (sym (has_fault_more run.journal entry) ∙ ap has_fault (sym journal_is))))

    tracked_with : (nodes : List Node) → FrontHolds nodes chains → AllZip (Shows t.places.nodes) nodes (strands p lim (counted all))
        → IsTrail p t.places.nodes (strands p lim (counted all)) trail → IsTracked p lim next
    tracked_with nodes holds show trails = record {
      is_run = subst (λ (j : List Entry). IsRun p lim j next.st) (sym journal_is) (subst (IsRun p lim all) (sym st_is) runs_on);
      listing = listing;
      over = over_next;
      places = record { nodes = t.places.nodes; tree = t.places.tree; cells = λ cell below. places_cell cell below; console = places_console };
      reads = reads;
      writes = writes;
      nodes = nodes;
      holds = subst (FrontHolds nodes) (sym chains_are) holds;
      shows = subst (λ (j : List Entry). AllZip (Shows t.places.nodes) nodes (strands p lim (counted j))) (sym journal_is) show;
      trail = subst (λ (j : List Entry). IsTrail p t.places.nodes (strands p lim (counted j)) next.trail) (sym journal_is)
          (subst (IsTrail p t.places.nodes (strands p lim (counted all))) (sym trail_is) trails);
    } where
      places_cell : (cell : ℕ) → cell < cell_count p → IsNumber t.places.nodes (place_of next.places cell) (parts_of (path_of_cell p cell))
      places_cell cell below = subst (λ (q : NumberedPaths). IsNumber t.places.nodes (place_of q cell) (parts_of (path_of_cell p cell))) (sym places_are) (t.places.cells cell below)

      places_console : IsNumber t.places.nodes next.places.console (parts_of (region 0 ∷ []))
      places_console = subst (λ (q : NumberedPaths). IsNumber t.places.nodes q.console (parts_of (region 0 ∷ []))) (sym places_are) t.places.console

    tracked_by : (b : Bool) → run.over ≡ b → IsTracked p lim next
    tracked_by true e =
        let faulty : has_fault run.journal ≡ true = sym t.over ∙ e in
        tracked_with t.nodes (subst (FrontHolds t.nodes) (sym (kept e)) t.holds)
        (subst (AllZip (Shows t.places.nodes) t.nodes) (ap (strands p lim) (sym (counted_stays run.journal entry faulty))) t.shows)
        (subst (IsTrail p t.places.nodes (strands p lim (counted all))) (sym (trail_kept e))
        (subst (λ (l : List Strand). IsTrail p t.places.nodes l run.trail) (ap (strands p lim) (sym (counted_stays run.journal entry faulty))) t.trail))
    tracked_by false e = tracked_with (t.nodes ++ node_of run.places deed watched ∷ []) (added e) (shows_more e) (trail_more e trail number number_is follow)

    pub tracked_on : IsTracked p lim next
    tracked_on = tracked_by run.over refl

-- The heaviest chain of the nodes is that of the entries.
pub profile_is : (p : Program) (lim : Bounds) (run : Tracked) (t : IsTracked p lim run) (work span : ℕ) (chain : List ℕ) → IsHeaviest SharesKey chain_nodes.weight_of t.nodes work span chain
    → IsHeaviest LeadsTo weight_of (strands p lim (counted run.journal)) work span chain
profile_is p lim run t work span chain is =
    heaviest_forth (Shows t.places.nodes) chain_nodes.weight_of weight_of SharesKey LeadsTo (λ x y s. s.weight) (λ x y a b r s shared. shared_leads t.places.nodes x y a b r s shared)
    (λ x y a b r s leads. leads_shared t.places.nodes x y a b r s leads) t.nodes (strands p lim (counted run.journal)) t.shows work span chain is

-- and so are the earliest times
pub earliest_is : (p : Program) (lim : Bounds) (run : Tracked) (t : IsTracked p lim run) (span : ℕ) (starts ends : List ℕ)
    → AreEarliest (Leads SharesKey t.nodes) (weight_at chain_nodes.weight_of t.nodes) (length t.nodes) span starts ends
    → AreEarliest (Leads LeadsTo (strands p lim (counted run.journal))) (weight_at weight_of (strands p lim (counted run.journal))) (length (strands p lim (counted run.journal))) span starts ends
earliest_is p lim run t span starts ends is =
    earliest_forth (Shows t.places.nodes) chain_nodes.weight_of weight_of SharesKey LeadsTo (λ x y s. s.weight) (λ x y a b r s shared. shared_leads t.places.nodes x y a b r s shared)
    (λ x y a b r s leads. leads_shared t.places.nodes x y a b r s leads) t.nodes (strands p lim (counted run.journal)) t.shows span starts ends is
