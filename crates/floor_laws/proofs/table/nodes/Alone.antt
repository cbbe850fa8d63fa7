-- What a seat finds that is the only one.
use Rattle.std.proofs.Common.{◌≡◌, ◌≢◌, ◌<◌, ℕ, zero, suc, List, ◌∷◌, [], Option, None, Some, length, refl, sym, ap, subst, ◌∙◌, inl, inr, ⊎_elim, arith}
use Rattle.std.specs.Prelude.{slice_get, slice_index}
use Rattle.std.proofs.lemmas.Bool.{cases_eq}
use Rattle.std.proofs.lemmas.Option.{slice_get_within}
use mathlib.Core.Option as core
use lib.ListN.{get_elem?}
use Rattle.atomic_table.proofs.Lists.{at_map}
use Rattle.region_paths.specs.declared.elements.Elem.{Elem}
use Rattle.twe_base.specs.Limits.{Bounds}
use Rattle.twe_program.specs.Program.{Program}
use Rattle.wait_graph.specs.declared.tasks.Link.{Link}
use Rattle.wait_graph.specs.Link.{link_of}
use Rattle.machine_state.specs.declared.state.State as machine
use Rattle.machine_state.specs.declared.state.TaskRow.{TaskRow}
use Rattle.machine_state.specs.declared.state.TaskStatus.{TaskStatus}
use Rattle.machine_state.specs.declared.state.TaskStatus.TheVariants as status
use Rattle.machine_state.specs.Rows.{IsRow, row_awaited}
use Rattle.machine_state.specs.Runs.{state_after}
use Rattle.machine_state.proofs.standing.ReachedStands.{reached_stands}
use Rattle.machine_state.proofs.standing.Standing.{Stands}
use Rattle.isolation_laws.proofs.admission.Statuses.{waiters_enabled}
use Rattle.isolation_laws.proofs.rows.LinksOfRows.{link_not_there, link_there}
use Rattle.seg_journal.specs.declared.numbered.NumberedEntry.{NumberedEntry}
use Rattle.seg_journal.specs.Merging.{journal_of}
use Rattle.floor_laws.specs.rule.Floors.{Floor, TurnWord, Free, Taken, New}
use Rattle.floor_laws.specs.declared.rule.view.Phase.{Phase}
use Rattle.floor_laws.specs.declared.rule.view.Phase.TheVariants.{Absent, Made, Running, Waits, Done, Faulted}
use Rattle.floor_laws.specs.rule.Fitting.{PhaseFits, TurnFits}
use Rattle.floor_laws.specs.rule.Rows.{phase_at, phase_of, unmarked}
use Rattle.floor_laws.proofs.rule.Puts.{none_some, some_one}
use Rattle.floor_laws.specs.table.Alone.{IsAloneAt, IsFreeIfAlone, awaited_by}
use Rattle.floor_laws.specs.table.FloorOf.{Table, turn_in}
use Rattle.floor_laws.specs.table.Layout.{free_word, phase_of_word, phase_place, phase_word_at, turn_of_word, turn_place, turn_word_at, word_count}
use Rattle.floor_laws.proofs.table.Alone.{merged, one_merge, turns_of_others}
use Rattle.floor_laws.proofs.table.Elements.{word_at}
use Rattle.floor_laws.specs.admission.admission_core.States.{IsAmong, Record}
use Rattle.floor_laws.specs.rule.nodes.Fitting.{IsPlaced, KeptFits}
use Rattle.floor_laws.proofs.rule.nodes.Bars.{enabled_or_not}
use Rattle.floor_laws.proofs.rule.nodes.Facts.{stands_placed}
use Rattle.floor_laws.specs.declared.table.nodes.view.TreeView.{TreeView}
use Rattle.floor_laws.specs.table.nodes.Alone.{IsOfEnabledTask, LearnsAlone}
use Rattle.floor_laws.specs.table.nodes.Holds.{TreeKeeps}
use Rattle.floor_laws.specs.table.nodes.TreeOf.{TreeTable, content_in, floor_part, floor_shown, floor_view, tree_of}
use Rattle.floor_laws.proofs.table.nodes.Elements.{take_there}
use Rattle.floor_laws.proofs.table.nodes.Seen.{held_id, kept_node}

free_of_word : (n : ℕ) → turn_of_word n ≡ Free → n ≡ free_word
free_of_word zero is = refl
free_of_word (suc zero) is = absurd (cc (is))
free_of_word (suc (suc worker)) is = absurd (cc (is))

-- What a task awaits.
module _ (p : Program) (lim : Bounds) (st : machine.State) (stands : Stands p lim st) (t : ℕ) where
  awaited_phase : (is : TaskStatus) (on : Option ℕ) → (is ≢ status.Enabled → on ≡ None) → on ≡ awaited_by (phase_at is on)
  awaited_phase status.Made on other = other (λ h. cc)
  awaited_phase status.Enabled None other = refl
  awaited_phase status.Enabled (Some u) other = refl
  awaited_phase status.Done on other = other (λ h. cc)
  awaited_phase status.Faulted on other = other (λ h. cc)

  waits_none : (row : TaskRow) → IsRow st t row → (on : Option ℕ) → row_awaited row.frame.next ≡ on → row.status ≢ status.Enabled → on ≡ None
  waits_none row there None is other = refl
  waits_none row there (Some u) is other =
      let enabled = waiters_enabled p lim st stands t u (ap (λ (l : Link). l.waits) (link_there st stands.links t row there) ∙ is) in
      let one : row ≡ enabled.0 = some_one (sym there ∙ enabled.1) in
      absurd (other (ap (λ (x : TaskRow). x.status) one ∙ enabled.2))

  by_row : (phase : Phase) → PhaseFits st t phase → ((row : TaskRow) → IsRow st t row → phase ≡ phase_of row) → (o : Option TaskRow) → slice_get st.tasks t ≡ o
      → (link_of st.links t).waits ≡ awaited_by phase
  by_row phase fits last (Some row) there =
      ap (λ (l : Link). l.waits) (link_there st stands.links t row there)
      ∙ (awaited_phase row.status (row_awaited row.frame.next) (waits_none row there (row_awaited row.frame.next) refl) ∙ sym (ap awaited_by (last row there)))
  by_row Absent fits last None there = ap (λ (l : Link). l.waits) (link_not_there st stands.links t there)
  by_row Made fits last None there = ap (λ (l : Link). l.waits) (link_not_there st stands.links t there)
  by_row Running fits last None there = ap (λ (l : Link). l.waits) (link_not_there st stands.links t there)
  by_row (Waits u) fits last None there = absurd (none_some (sym there ∙ fits.there))
  by_row Done fits last None there = ap (λ (l : Link). l.waits) (link_not_there st stands.links t there)
  by_row Faulted fits last None there = ap (λ (l : Link). l.waits) (link_not_there st stands.links t there)

  says_wait : (phase : Phase) → PhaseFits st t phase → ((row : TaskRow) → IsRow st t row → phase ≡ phase_of row) → (link_of st.links t).waits ≡ awaited_by phase
  says_wait phase fits last = by_row phase fits last (slice_get st.tasks t) refl

module _ (nodes : List (List Elem)) (p : Program) (lim : Bounds) (s : TreeTable) (kept : TreeKeeps nodes p lim s) (id : ℕ) (v : TreeView) (at : get_elem? s.views id ≡ core.some v) where
  abbrev fs : Table
  fs = floor_part p lim s

  abbrev f : Floor
  f = floor_shown p lim s

  abbrev now : machine.State
  now = state_after p lim (journal_of kept.floor.log)

  at_floor : get_elem? fs.views id ≡ core.some v.floor
  at_floor = at_map floor_view s.views id v at

  module _ (st : machine.State) (alone : IsAloneAt p lim v.floor st) where
    -- the entries of the seat are the log
    log_is : alone.log ≡ kept.floor.log
    log_is =
        one_merge (v.floor.part ∷ []) alone.log kept.floor.log alone.numbered alone.merge (merged p lim fs kept.floor id v.floor at_floor alone.main alone.none_out)

    state_is : st ≡ now
    state_is = alone.leads ∙ ap (λ (log : List NumberedEntry). state_after p lim (journal_of log)) log_is

    -- a turn that the seat does not have is at no seat
    unheld : (t : ℕ) → turn_in v.floor.turns t ≡ None → (i : ℕ) → f.held i t ≡ None
    unheld t not i =
        ⊎_elim
        (λ (same : i ≡ id). ap (λ (j : ℕ). f.held j t) same ∙ (held_id nodes p lim s id v at t ∙ not))
        (λ (other : i ≢ id). turns_of_others p lim fs kept.floor id v.floor at_floor alone.main alone.none_out i (get_elem? fs.views i) refl other t)
        (cases_eq i id)

    -- so it is free, if the task was made
    free_by : (t : ℕ) → turn_in v.floor.turns t ≡ None → t < length now.tasks → (word : TurnWord) → TurnFits now f.held f.workers t word → word ≡ Free
    free_by t not made Free fits = refl
    free_by t not made (Taken worker) fits = absurd (none_some (sym (unheld t not fits.by.seat) ∙ fits.by.has))
    free_by t not made New (inl (past, none)) = absurd (omega (arith, past, made))
    free_by t not made New (inr first) = absurd (none_some (sym (unheld t not first.by.seat) ∙ first.by.has))

    free_made : (t : ℕ) → turn_in v.floor.turns t ≡ None → t < length now.tasks → f.turns t ≡ Free
    free_made t not made = free_by t not made (f.turns t) (kept.floor.rule.fits.turns t)

    free : (t : ℕ) → turn_in v.floor.turns t ≡ None → t < length st.tasks → f.turns t ≡ Free
    free t not made = free_made t not (subst (λ (x : machine.State). t < length x.tasks) state_is made)

    -- the records of the nodes that the seat has locked
    of_enabled : (n : ℕ) (content : List Record) (r : Record) → content_in v.kept n ≡ Some content → IsAmong r content → turn_in v.floor.turns r.task ≡ None → IsOfEnabledTask st r
    of_enabled n content r has among not =
        let core_now = kept.core in
        let fits : KeptFits core_now.records (tree_of p lim s).activities id n (Some content) =
        subst (KeptFits core_now.records (tree_of p lim s).activities id n) (kept_node nodes p lim s id v at n ∙ has) (kept.both.nodes_keep.contents.out id n) in
        let stands : IsAmong r core_now.records = ((fits.1 r).0 among).0 in
        let placed : IsPlaced nodes now r = stands_placed nodes p lim kept.floor.log f (tree_of p lim s) core_now kept.both r stands in
        let enabled : placed.row.status ≡ status.Enabled =
        ⊎_elim
        (λ (is : placed.row.status ≡ status.Enabled). is)
        (λ (other : placed.row.status ≢ status.Enabled).
        let owned = kept.both.nodes_keep.known.owned r placed.row stands placed.there other in
        absurd (none_some (sym (unheld r.task not owned.0) ∙ owned.1.1)))
        (enabled_or_not placed.row.status) in
        subst (λ (x : machine.State). IsOfEnabledTask x r) (sym state_is) (record { row = placed.row; there = placed.there; enabled = enabled; effect = placed.effect })

  pub free_if_alone : (t : ℕ) → t < lim.tasks → IsFreeIfAlone p lim v.floor t (slice_index s.words (turn_place p t))
  free_if_alone t below st alone not made =
      let size = kept.words in
      let shown : f.turns t ≡ turn_of_word (slice_index s.words (turn_place p t)) =
      ap turn_word_at (take_there s.words (word_count p lim) (turn_place p t) (omega (arith, below)) ∙ word_at s.words (turn_place p t) (omega (arith, size, below))) in
      free_of_word (slice_index s.words (turn_place p t)) (sym shown ∙ free st alone t not made)

  pub learns_alone : (u : ℕ) → u < lim.tasks → LearnsAlone p lim v u (slice_index s.words (phase_place p u))
  learns_alone u below =
      let size = kept.words in
      let shown : f.phases u ≡ phase_of_word (slice_index s.words (phase_place p u)) =
      ap phase_word_at (take_there s.words (word_count p lim) (phase_place p u) (omega (arith, below)) ∙ word_at s.words (phase_place p u) (omega (arith, size, below))) in
      record {
        last = λ st row alone not there.
            let made : u < length st.tasks = slice_get_within st.tasks u row there in
            sym shown ∙ kept.floor.rule.fits.free_phases u row (free st alone u not made) (subst (λ (x : machine.State). IsRow x u row) (state_is st alone) there);
        waits = λ st alone not.
            let stands = reached_stands p lim now kept.floor.well (record { journal = journal_of kept.floor.log; legal = kept.floor.rule.legal; same = refl }) in
            let said = says_wait p lim now stands u (f.phases u) (kept.floor.rule.fits.phases u)
            (λ row there. kept.floor.rule.fits.free_phases u row (free_made st alone u not (slice_get_within now.tasks u row there)) there) in
            ap (λ (x : machine.State). (link_of x.links u).waits) (state_is st alone) ∙ (said ∙ ap awaited_by shown);
        rows = λ st t turn row alone has there.
            let known = kept.floor.rule.fits.rows id t turn (held_id nodes p lim s id v at t ∙ has) in
            let one : row ≡ known.row = some_one (sym (subst (λ (x : machine.State). IsRow x t row) (state_is st alone) there) ∙ known.there) in
            ap unmarked one ∙ known.same;
        legal = λ st alone. (kept.floor.well, record { journal = journal_of kept.floor.log; legal = kept.floor.rule.legal; same = state_is st alone });
        enabled = of_enabled;
      }
