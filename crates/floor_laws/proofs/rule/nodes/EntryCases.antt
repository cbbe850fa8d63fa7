-- Each way in which a segment can stop: an entry of it is one event of the core, and keeps the rule on nodes.
use Rattle.std.proofs.Common.{◌≡◌, ◌<◌, ◌+◌, ◌++◌, ℕ, ℤ, Bool, true, false, cond, List, [], ◌∷◌, length, Option, Some, None, nat_lt, refl, sym, ap, subst, ◌∙◌, ltb-true}
use Rattle.twe_base.specs.declared.place.Place.{Place}
use Rattle.region_paths.specs.declared.elements.Elem.{Elem}
use Rattle.effect_sets.specs.declared.effects.Summary.{Summary}
use Rattle.wait_graph.specs.declared.tasks.Link.{Link}
use Rattle.wait_graph.specs.Link.{new_link, with_done, with_wait}
use Rattle.twe_base.specs.Limits.{Bounds}
use Rattle.twe_base.specs.declared.fault.FaultKind.TheVariants.{TaskLimit}
use Rattle.twe_program.specs.Program.{Program}
use Rattle.seg_meaning.specs.declared.frame.Frame.{Frame}
use Rattle.seg_meaning.specs.declared.stop.Stop.{Stop}
use Rattle.seg_meaning.specs.declared.stop.Stop.TheVariants as stops
use Rattle.seg_meaning.specs.Segment.{Stopped}
use Rattle.machine_state.specs.segment_laws.Keeps.{NextAfter}
use Rattle.machine_state.proofs.segment_laws.SegmentKept.{segment_keeps}
use Rattle.seg_journal.specs.declared.journal.End.{End}
use Rattle.seg_journal.specs.declared.journal.End.TheVariants as ends
use Rattle.machine_state.specs.declared.state.State as machine
use Rattle.machine_state.specs.declared.state.TaskRow.{TaskRow}
use Rattle.machine_state.specs.declared.state.TaskStatus.{TaskStatus}
use Rattle.machine_state.specs.declared.state.TaskStatus.TheVariants as status
use Rattle.machine_state.specs.Changes.{made_by}
use Rattle.machine_state.specs.Moves.{faulted_row, going_row, making_frame, new_row, parent_of, ready_frame, state_after_asking, state_after_fault, state_after_join, state_after_make, stop_result, stopped_frame}
use Rattle.machine_state.specs.Rows.{row_awaited}
use Rattle.machine_state.specs.Runs.{IsReached, state_after}
use Rattle.machine_state.proofs.links.LinksAgree.{reached_linked}
use Rattle.isolation_laws.specs.Admission.{task_made}
use Rattle.seg_journal.specs.declared.numbered.NumberedEntry.{NumberedEntry}
use Rattle.seg_journal.specs.Merging.{journal_of}
use Rattle.floor_laws.specs.declared.rule.view.HeldTurn.{HeldTurn}
use Rattle.floor_laws.specs.rule.Floors.{Floor}
use Rattle.floor_laws.specs.rule.Rule.{KeepsRule}
use Rattle.floor_laws.specs.rule.Steps.{MayCommit, after_entry, end_after, entry_drawn, row_after, row_with_child, without_child}
use Rattle.floor_laws.proofs.rule.RuleSteps.{commit}
use Rattle.floor_laws.specs.admission.admission_core.Tasks.{Status}
use Rattle.floor_laws.specs.admission.admission_core.States.{State}
use Rattle.floor_laws.specs.admission.admission_core.Entries.{links_ended, links_joined}
use Rattle.floor_laws.specs.admission.TasksOf.{status_of}
use Rattle.floor_laws.specs.rule.nodes.Rule.{KeepsBoth}
use Rattle.floor_laws.specs.rule.nodes.Trees.{Tree}
use Rattle.floor_laws.specs.rule.nodes.TurnSteps.{HasPlacedChildren, IsTaskEvent}
use Rattle.floor_laws.proofs.rule.nodes.EntryEvents.{EndsSo, base, done_made, enabled_done, enabled_made, ended, faulted_done, faulted_made, joins, left, left_is, made_one, moved, next_is, run}

asked_joined : (st : machine.State) (o : Option ℕ) → (state_after_join st o).asked ≡ st.asked
asked_joined st None = refl
asked_joined st (Some c) = refl

-- the links after a join are those that the core has
base_links : (st : machine.State) (o : Option ℕ) → (state_after_join st o).links ≡ links_joined st.links o
base_links st None = refl
base_links st (Some c) = refl

going_so : (end : End) (waits : Option ℕ) (to : TaskStatus) → to ≡ status.Enabled → task_made end ≡ None → made_by end ≡ 0 → EndsSo end waits to
going_so end waits to is none none_more = record {
  none = none;
  none_more = none_more;
  ran = λ made. enabled_made (sym is ∙ made);
  last = λ done. absurd (enabled_done (sym is ∙ done));
}

module _ (nodes : List (List Elem)) (p : Program) (lim : Bounds) (log : List NumberedEntry) (f : Floor) (tree : Tree) (core : State)
    (both : KeepsBoth nodes p lim log f tree core) (i t : ℕ) (turn : HeldTurn) (frame : Frame) where
  abbrev st : machine.State
  st = state_after p lim (journal_of log)

  module _ (stop : Stop) (may : MayCommit p f i t turn frame stop) (placed : HasPlacedChildren f.held i t) where
    links_now : (links : List Link) → (stop_result lim (base nodes p lim log f tree core both i t turn frame stop may placed) t (run nodes p lim log f tree core both i t turn frame stop may placed).row frame stop).0.links ≡ links
        → (state_after p lim (journal_of (log ++ entry_drawn lim f t frame stop ∷ []))).links ≡ links
    links_now links is =
        ap (λ (s : machine.State). s.links) (sym (next_is nodes p lim log f tree core both i t turn frame stop may placed))
        ∙ (ap (λ (x : machine.State × End). x.0.links) (moved nodes p lim log f tree core both i t turn frame stop may placed) ∙ is)

    rule_now : KeepsRule p lim (log ++ entry_drawn lim f t frame stop ∷ []) (after_entry lim f i t turn frame stop)
    rule_now = commit p both.well both.effects lim log f both.floor i t turn frame stop may

    next_after : NextAfter stop frame
    next_after =
        subst (λ (s : Stopped). NextAfter s.stop s.frame) (left_is nodes p lim log f tree core both i t turn frame stop may placed)
        (segment_keeps p (ready_frame st.tasks (run nodes p lim log f tree core both i t turn frame stop may placed).row.frame) st.cells).next

    abbrev joining : List Link
    joining = (base nodes p lim log f tree core both i t turn frame stop may placed).links

    joining_is : (base nodes p lim log f tree core both i t turn frame stop may placed).links ≡ links_joined st.links (joins nodes p lim log f tree core both i t turn frame stop may placed)
    joining_is = base_links (record st { cells = (left nodes p lim log f tree core both i t turn frame stop may placed).cells }) (joins nodes p lim log f tree core both i t turn frame stop may placed)

    -- the links after a segment that goes on
    going_links : (stop_result lim (base nodes p lim log f tree core both i t turn frame stop may placed) t (run nodes p lim log f tree core both i t turn frame stop may placed).row frame stop).0.links
        ≡ with_wait joining t (row_awaited frame.next)
        → (state_after p lim (journal_of (log ++ entry_drawn lim f t frame stop ∷ []))).links
        ≡ links_ended (status_of turn.row.status) (with_wait (links_joined st.links (joins nodes p lim log f tree core both i t turn frame stop may placed)) t (row_awaited frame.next)) t
    going_links is =
        links_now (with_wait joining t (row_awaited frame.next)) is
        ∙ (ap (λ (ls : List Link). with_wait ls t (row_awaited frame.next)) joining_is
        ∙ ap (λ (s : Status). links_ended s (with_wait (links_joined st.links (joins nodes p lim log f tree core both i t turn frame stop may placed)) t (row_awaited frame.next)) t)
        (sym (ap status_of may.may.enabled)))

  abbrev row_now : Stop → HeldTurn
  row_now stop = record turn { row = row_after lim f.asked turn.row frame stop }

  -- A segment that stops at a make.
  module _ (child : Frame) (args : List ℤ) (effects : Summary) (spawned : Bool) (future : ℕ) (place : Place) where
    abbrev make : Stop
    make = stops.Make child args effects spawned future place

    abbrev number : ℕ
    number = f.asked + 1

    abbrev child_row : TaskRow
    child_row = new_row lim number (parent_of t spawned) child args effects

    abbrev drawn : Floor
    drawn = without_child lim f i t turn frame make

    abbrev floor_by : Bool → Floor
    floor_by b = cond {A = Floor} b (row_with_child drawn i number child_row) drawn

    abbrev row_by : Bool → TaskRow
    row_by b = cond {A = TaskRow} b (going_row turn.row (making_frame future spawned number frame)) (faulted_row turn.row (stopped_frame frame))

    abbrev end_by : Bool → End
    end_by b = cond {A = End} b (ends.Made number) (ends.Fault TaskLimit place)

    module _ (may : MayCommit p f i t turn frame (stops.Make child args effects spawned future place)) (placed : HasPlacedChildren f.held i t) where
      abbrev row_run : TaskRow
      row_run = (run nodes p lim log f tree core both i t turn frame make may placed).row

      abbrev before : machine.State
      before = base nodes p lim log f tree core both i t turn frame make may placed

      abbrev joining_links : List Link
      joining_links = links_joined st.links (joins nodes p lim log f tree core both i t turn frame make may placed)

      asked_before : before.asked ≡ f.asked
      asked_before =
          asked_joined (record st { cells = (left nodes p lim log f tree core both i t turn frame make may placed).cells }) (joins nodes p lim log f tree core both i t turn frame make may placed)
          ∙ sym both.floor.fits.asked

      abbrev links_by : Bool → List Link
      links_by b =
          (cond {A = machine.State × End} b
          (state_after_make lim before t row_run frame future spawned child args effects, ends.Made (before.asked + 1))
          (state_after_fault (state_after_asking before) t row_run (stopped_frame frame) TaskLimit place, ends.Fault TaskLimit place)).0.links

      links_when : (b : Bool) → nat_lt number lim.tasks ≡ b → (state_after p lim (journal_of (log ++ entry_drawn lim f t frame make ∷ []))).links ≡ links_by b
      links_when b is =
          links_now make may placed (links_by b) (ap links_by (ap (λ (n : ℕ). nat_lt (n + 1) lim.tasks) asked_before ∙ is))

      unmade : nat_lt number lim.tasks ≡ false → IsTaskEvent nodes p lim (log ++ entry_drawn lim f t frame make ∷ []) (after_entry lim f i t turn frame make) tree core
      unmade is =
          let faulted : (row_by (nat_lt number lim.tasks)).status ≡ status.Faulted = ap (λ (b : Bool). (row_by b).status) is in
          ended nodes p lim log f tree core both i t turn frame make may placed (after_entry lim f i t turn frame make) (row_now make)
          (ap (λ (b : Bool). (floor_by b).held) is)
          (ap (λ (b : Bool). (floor_by b).workers) is)
          may.may.taken
          (rule_now make may placed)
          (ap (λ (b : Bool). (row_by b).effects) is)
          None
          (record {
            none = ap (λ (b : Bool). task_made (end_by b)) is;
            none_more = ap (λ (b : Bool). made_by (end_by b)) is;
            ran = λ made. faulted_made (sym faulted ∙ made);
            last = λ done. refl;
          })
          (links_when false is
          ∙ (ap (λ (ls : List Link). with_wait ls t None) (joining_is make may placed)
          ∙ ap (λ (s : Status). links_ended s (with_wait joining_links t None) t) (sym (ap status_of faulted))))

      made : nat_lt number lim.tasks ≡ true → IsTaskEvent nodes p lim (log ++ entry_drawn lim f t frame make ∷ []) (after_entry lim f i t turn frame make) tree core
      made is =
          let reached : IsReached p lim st = record { journal = journal_of log; legal = both.floor.legal; same = refl } in
          let few : st.asked + 1 < lim.tasks = ltb-true (st.asked + 1) lim.tasks (ap (λ (n : ℕ). nat_lt (n + 1) lim.tasks) (sym both.floor.fits.asked) ∙ is) in
          let counted : st.asked + 1 ≡ length st.tasks = (reached_linked p lim st reached).number few in
          made_one nodes p lim log f tree core both i t turn frame make may placed (after_entry lim f i t turn frame make) (row_now make) number child_row
          (ap (λ (b : Bool). (floor_by b).held) is)
          (ap (λ (b : Bool). (floor_by b).workers) is)
          may.may.taken
          (rule_now make may placed)
          (ap (λ (b : Bool). (row_by b).effects) is)
          (ap (λ (b : Bool). (row_by b).status) is)
          (row_awaited frame.next)
          spawned
          (ap end_by is)
          (ap (λ (n : ℕ). n + 1) both.floor.fits.asked ∙ counted)
          refl
          refl
          (links_when true is
          ∙ ap (λ (ls : List Link). with_wait ls t (row_awaited frame.next) ++ new_link (parent_of t spawned) ∷ []) (joining_is make may placed))

      making : (b : Bool) → nat_lt number lim.tasks ≡ b → IsTaskEvent nodes p lim (log ++ entry_drawn lim f t frame make ∷ []) (after_entry lim f i t turn frame make) tree core
      making true is = made is
      making false is = unmade is

  pub entering : (stop : Stop) (may : MayCommit p f i t turn frame stop) → HasPlacedChildren f.held i t
      → IsTaskEvent nodes p lim (log ++ entry_drawn lim f t frame stop ∷ []) (after_entry lim f i t turn frame stop) tree core
  entering (stops.Waits on) may placed =
      let stop = stops.Waits on in
      ended nodes p lim log f tree core both i t turn frame stop may placed (after_entry lim f i t turn frame stop) (row_now stop) refl refl may.may.taken
      (rule_now stop may placed) refl (row_awaited frame.next) (going_so (end_after lim f.asked stop) (row_awaited frame.next) turn.row.status may.may.enabled refl refl)
      (going_links stop may placed refl)
  entering (stops.Joins on) may placed =
      let stop = stops.Joins on in
      ended nodes p lim log f tree core both i t turn frame stop may placed (after_entry lim f i t turn frame stop) (row_now stop) refl refl may.may.taken
      (rule_now stop may placed) refl (row_awaited frame.next) (going_so (end_after lim f.asked stop) (row_awaited frame.next) turn.row.status may.may.enabled refl refl)
      (going_links stop may placed refl)
  entering (stops.Done value) may placed =
      let stop = stops.Done value in
      ended nodes p lim log f tree core both i t turn frame stop may placed (after_entry lim f i t turn frame stop) (row_now stop) refl refl may.may.taken
      (rule_now stop may placed) refl (row_awaited frame.next)
      (record { none = refl; none_more = refl; ran = λ made. done_made made; last = λ done. ap row_awaited (next_after stop may placed).0 })
      (links_now stop may placed (with_done (with_wait (joining stop may placed) t (row_awaited frame.next)) t) refl
      ∙ ap (λ (ls : List Link). with_done (with_wait ls t (row_awaited frame.next)) t) (joining_is stop may placed))
  entering (stops.Fault kind place) may placed =
      let stop = stops.Fault kind place in
      ended nodes p lim log f tree core both i t turn frame stop may placed (after_entry lim f i t turn frame stop) (row_now stop) refl refl may.may.taken
      (rule_now stop may placed) refl (row_awaited frame.next)
      (record { none = refl; none_more = refl; ran = λ made. faulted_made made; last = λ done. absurd (faulted_done done) })
      (links_now stop may placed (with_wait (joining stop may placed) t (row_awaited frame.next)) refl
      ∙ ap (λ (ls : List Link). with_wait ls t (row_awaited frame.next)) (joining_is stop may placed))
  entering (stops.Make child args effects spawned future place) may placed =
      making child args effects spawned future place may placed (nat_lt (f.asked + 1) lim.tasks) refl
