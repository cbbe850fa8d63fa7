-- The entry of an admission is one event of the core, and keeps the rule on nodes.
use Rattle.std.proofs.Common.{◌≡◌, ◌≢◌, ◌++◌, ℕ, false, List, [], ◌∷◌, length, Some, None, refl, sym, ap, subst, ◌∙◌, ⊎_elim, length-set}
use Rattle.std.specs.Prelude.{Contains, slice_get, slice_set}
use Rattle.std.proofs.lemmas.Bool.{cases_eq}
use Rattle.std.proofs.lemmas.List.{map-append}
use Rattle.region_paths.specs.declared.elements.Elem.{Elem}
use Rattle.effect_sets.specs.declared.effects.Effect.{Effect}
use Rattle.wait_graph.specs.declared.tasks.Link.{Link}
use Rattle.wait_graph.specs.Waiting.{WaitsOnUnlessDone}
use Rattle.seg_journal.specs.declared.journal.End.TheVariants.{Admitted}
use Rattle.seg_journal.specs.declared.journal.Entry.{Entry}
use Rattle.seg_journal.specs.declared.moves.Kind.TheVariants.{Admit}
use Rattle.twe_base.specs.Limits.{Bounds}
use Rattle.twe_program.specs.Program.{Program}
use Rattle.machine_state.specs.declared.state.State as machine
use Rattle.machine_state.specs.declared.state.TaskRow.{TaskRow}
use Rattle.machine_state.specs.declared.state.TaskStatus.TheVariants as status
use Rattle.machine_state.specs.Legal.{MayAdmit}
use Rattle.machine_state.specs.Moves.{admitted_row}
use Rattle.machine_state.specs.Rows.{IsRow}
use Rattle.machine_state.specs.Runs.{state_after}
use Rattle.machine_state.proofs.lists.Places.{got_one, set_cases, set_other, set_same}
use Rattle.isolation_laws.specs.Admission.{made_last}
use Rattle.seg_journal.specs.declared.numbered.NumberedEntry.{NumberedEntry}
use Rattle.seg_journal.specs.Merging.{journal_of}
use Rattle.floor_laws.specs.declared.rule.view.HeldTurn.{HeldTurn}
use Rattle.floor_laws.specs.rule.Floors.{Floor, put_turn}
use Rattle.floor_laws.specs.rule.Rule.{KeepsRule}
use Rattle.floor_laws.proofs.rule.EntryLemmas.{Stays}
use Rattle.floor_laws.proofs.rule.TurnLemmas.{turn_here}
use Rattle.floor_laws.specs.admission.admission_core.Tasks.{Task, Tasks, Turn, Taken, IsTask}
use Rattle.floor_laws.specs.admission.admission_core.Tasks as tasks
use Rattle.floor_laws.specs.admission.admission_core.States.{State}
use Rattle.floor_laws.specs.admission.admission_core.Entries.{AllStand, TaskEvent, Enable}
use Rattle.floor_laws.specs.admission.admission_core.Rule.{by_task}
use Rattle.floor_laws.specs.admission.TasksOf.{AreTasksOf, status_of}
use Rattle.floor_laws.specs.rule.nodes.AdmitSteps.{MayDrawAdmission, admission_drawn, after_admission}
use Rattle.floor_laws.specs.rule.nodes.Fitting.{KnowledgeFits, TasksFit, TurnIs}
use Rattle.floor_laws.specs.rule.nodes.Rule.{KeepsBoth, KeepsNodes}
use Rattle.floor_laws.specs.rule.nodes.Trees.{Tree}
use Rattle.floor_laws.specs.rule.nodes.TurnSteps.{IsTaskEvent}
use Rattle.floor_laws.proofs.rule.nodes.AdmitFloor.{admitted_rule, next_is, other_row, own_row}
use Rattle.floor_laws.proofs.rule.nodes.EntryTasks.{ran_tasks}
use Rattle.floor_laws.proofs.rule.nodes.Facts.{admissible}
use Rattle.floor_laws.proofs.rule.nodes.KnownTasks.{KnownTask, taken_turn, task_of_turn}
use Rattle.floor_laws.proofs.rule.nodes.LastMade.{made_has_none, made_other, made_own}
use Rattle.floor_laws.proofs.rule.nodes.TaskChanges.{first_back, has_more, not_first, turn_else}

module _ (nodes : List (List Elem)) (p : Program) (lim : Bounds) (log : List NumberedEntry) (f : Floor) (tree : Tree) (core : State)
    (both : KeepsBoth nodes p lim log f tree core) (i t : ℕ) (may : MayDrawAdmission nodes f.held tree i t) where
  abbrev st : machine.State
  st = state_after p lim (journal_of log)

  abbrev keep : KeepsNodes nodes p lim log f tree core
  keep = both.nodes_keep

  abbrev turn : HeldTurn
  turn = may.placed.turn

  abbrev new : HeldTurn
  new = record turn { row = admitted_row turn.row }

  abbrev more : List NumberedEntry
  more = log ++ admission_drawn f t ∷ []

  abbrev after : machine.State
  after = state_after p lim (journal_of (log ++ admission_drawn f t ∷ []))

  abbrev entry : Entry
  entry = record { mv = record { kind = Admit; task = t }; end = Admitted }

  legal : MayAdmit (state_after p lim (journal_of log)) t
  legal = admissible nodes p lim log f tree core both i t may.placed

  pub floor_keeps : KeepsRule p lim (log ++ admission_drawn f t ∷ []) (after_admission f i t may.placed.turn)
  floor_keeps = admitted_rule p lim log f both.floor t legal i may.placed.turn may.placed.has may.placed.made

  -- the row of the task before
  row : TaskRow
  row = (both.floor.fits.rows i t turn may.placed.has).row

  row_there : IsRow st t row
  unfolding row
  row_there = (both.floor.fits.rows i t turn may.placed.has).there

  row_made : row.status ≡ status.Made
  unfolding row
  row_made = ap (λ (r : TaskRow). r.status) (both.floor.fits.rows i t turn may.placed.has).same ∙ may.placed.made

  abbrev next : machine.State
  next = record st { tasks = slice_set st.tasks t (admitted_row row) }

  is_next : next ≡ after
  is_next = next_is p lim log f both.floor t legal row row_there

  stay : (u : ℕ) (r : TaskRow) → u ≢ t → IsRow st u r → Stays after u r
  stay u r other there =
      subst (λ (s : machine.State). Stays s u r) is_next (record { now = r; there = other_row st t row row_there row_made u r other there; same = refl })

  was : (u : ℕ) (r : TaskRow) → u ≢ t → IsRow after u r → IsRow st u r
  was u r other there =
      sym (set_other st.tasks t u (admitted_row row) other) ∙ subst (λ (s : machine.State). IsRow s u r) (sym is_next) there

  own_now : IsRow after t (admitted_row row)
  own_now = subst (λ (s : machine.State). IsRow s t (admitted_row row)) is_next (own_row st t row row_there row_made)

  journal_is : journal_of more ≡ journal_of log ++ entry ∷ []
  journal_is = map-append (λ (x : NumberedEntry). x.entry) log (admission_drawn f t ∷ [])

  made_before : (u : ℕ) → u ≢ t → made_last u (journal_of more) ≡ made_last u (journal_of log)
  made_before u other = ap (made_last u) journal_is ∙ made_other u (journal_of log) entry (λ same. other (sym same))

  made_now : made_last t (journal_of more) ≡ None
  made_now = ap (made_last t) journal_is ∙ made_own t (journal_of log) entry refl

  -- The task, in the core.

  known : KnownTask core.tasks t turn.row
  known = task_of_turn (journal_of log) st f.held core.tasks keep.tasks both.floor.fits.rows both.floor.fits.one_holder i t turn may.placed.has

  abbrev old : Task
  old = known.task

  taken : known.task.turn ≡ Taken i
  taken =
      taken_turn (journal_of log) st f.held core.tasks keep.tasks both.floor.fits.rows both.floor.fits.one_holder i t turn known.task may.placed.has may.placed.taken known.is
      known.task.turn refl (keep.tasks.whose t known.task known.is)

  old_placed : known.task.unplaced ≡ false
  old_placed = (subst (λ (x : Turn). TurnIs f.held t x known.task.unplaced) taken (keep.tasks.whose t known.task known.is)).1

  old_made : known.task.made ≡ None
  old_made = (keep.tasks.rows.row t known.task known.is).4 ∙ made_has_none p lim (journal_of log) both.floor.legal t row row_there row_made

  old_effects : known.task.effects ≡ (admitted_row row).effects.effects
  unfolding row
  old_effects = known.effects ∙ ap (λ (r : TaskRow). r.effects.effects) (sym (both.floor.fits.rows i t turn may.placed.has).same)

  stand : AllStand nodes core.records t known.task
  stand e has =
      let found = may.placed.all e (subst (λ (es : List Effect). Contains es e) known.effects has) in
      (found.0, found.1, (keep.known.fresh_stand i (record { task = t; effect = e; node = found.0 }) found.2).0)

  abbrev enabled : Task
  enabled = record old { status = tasks.Enabled }

  abbrev later : Tasks
  later = record { tasks = slice_set core.tasks.tasks t enabled; links = after.links }

  are_tasks : AreTasksOf (journal_of more) after later
  are_tasks =
      ran_tasks (journal_of log) (journal_of more) st after core.tasks keep.tasks.rows t old known.is stay made_before (admitted_row row) own_now old_effects
      old.made (old_made ∙ sym made_now)
      (ap (λ (s : machine.State). length s.tasks) (sym is_next) ∙ length-set st.tasks t (admitted_row row))

  fits_tasks : TasksFit (journal_of more) after (put_turn f.held i t (Some new)) later
  fits_tasks = record {
    rows = are_tasks;
    whose = λ u task there.
        ⊎_elim
        (λ (mine : (u ≡ t) × (enabled ≡ task)).
        subst (λ (n : ℕ). TurnIs (put_turn f.held i t (Some new)) n task.turn task.unplaced) (sym mine.0)
        (subst (λ (y : Task). TurnIs (put_turn f.held i t (Some new)) t y.turn y.unplaced) mine.1
        (subst (λ (x : Turn). TurnIs (put_turn f.held i t (Some new)) t x old.unplaced) (sym taken)
        ((new, turn_here f.held i t (Some new), may.placed.taken), old_placed))))
        (λ (other : (u ≢ t) × (slice_get core.tasks.tasks u ≡ Some task)).
        turn_else f.held i t (Some new) u task.turn task.unplaced other.0 (keep.tasks.whose u task other.1))
        (set_cases core.tasks.tasks t u enabled task there);
  }

  links_same : after.links ≡ st.links
  links_same = ap (λ (s : machine.State). s.links) (sym is_next)

  event : TaskEvent nodes core later
  event =
      Enable i t old
      (record {
        is = known.is;
        made = known.status_is ∙ ap status_of may.placed.made;
        turn = taken;
        idle = keep.activities i ∙ may.idle;
        records = stand;
        becomes = record {
          own = set_same core.tasks.tasks t old enabled known.is;
          others = λ s other. set_other core.tasks.tasks t s enabled other;
        };
        links = links_same ∙ sym keep.tasks.rows.links;
      })

  known_now : KnowledgeFits after (put_turn f.held i t (Some new)) core.records tree.fresh tree.clear tree.waits
  known_now = record {
    owned = λ r at among there other.
        ⊎_elim
        (λ (same : r.task ≡ t).
        let one : admitted_row row ≡ at = got_one (slice_get after.tasks t) own_now (subst (λ (u : ℕ). IsRow after u at) same there) in
        absurd (other (ap (λ (x : TaskRow). x.status) (sym one))))
        (λ (differ : r.task ≢ t).
        let before = keep.known.owned r at among (was r.task at differ there) other in
        (before.0, has_more f.held i t new before.0 r.task before.1, before.2))
        (cases_eq r.task t);
    first_fresh = λ j r y stands at first.
        let before = first_back f.held i t new (not_first f.held i t new may.placed.taken) j r.task y at first in
        keep.known.first_fresh j r before.0 stands before.1 before.2;
    fresh_stand = λ j r among. let before = keep.known.fresh_stand j r among in (before.0, has_more f.held i t new j r.task before.1);
    clear_are = λ j fact among. let before = keep.known.clear_are j fact among in (has_more f.held i t new j fact.task before.0, before.1);
    waits_hold = λ j fact among.
        subst (λ (ls : List Link). WaitsOnUnlessDone ls fact.waiter fact.awaited) (sym links_same) (keep.known.waits_hold j fact among);
  }

  pub nodes_admit : IsTaskEvent nodes p lim (log ++ admission_drawn f t ∷ []) (after_admission f i t may.placed.turn) tree core
  nodes_admit = (
    later,
    event,
    record {
      reached = by_task later keep.reached event refl;
      tasks = fits_tasks;
      activities = keep.activities;
      locks = keep.locks;
      contents = keep.contents;
      records = keep.records;
      known = known_now;
    },
  )
