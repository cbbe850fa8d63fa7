-- An entry of a segment is one event of the core, and keeps the rule on nodes.
use Rattle.std.proofs.Common.{◌≡◌, ◌≢◌, ◌<◌, ◌+◌, ◌++◌, ℕ, zero, suc, Bool, true, false, List, [], ◌∷◌, length, Option, Some, None, is_some, if◌then◌else◌, refl, sym, ap, subst, ◌∙◌, ⊎_elim, arith, length-set}
use Rattle.std.specs.Prelude.{slice_get, slice_set}
use Rattle.std.proofs.lemmas.Bool.{cases_eq}
use Rattle.std.proofs.lemmas.List.{length-map, map-append}
use Rattle.std.proofs.lemmas.Option.{slice_get_within}
use Rattle.region_paths.specs.declared.elements.Elem.{Elem}
use Rattle.effect_sets.specs.declared.effects.Summary.{Summary}
use Rattle.wait_graph.specs.declared.tasks.Link.{Link}
use Rattle.wait_graph.specs.Link.{link_of, new_link, with_wait}
use Rattle.wait_graph.specs.Waiting.{WaitsForNobody, WaitsOnUnlessDone}
use Rattle.twe_base.specs.Limits.{Bounds}
use Rattle.twe_program.specs.Program.{Program}
use Rattle.seg_meaning.specs.declared.frame.Frame.{Frame}
use Rattle.seg_meaning.specs.declared.stop.Stop.{Stop}
use Rattle.seg_meaning.specs.Access.{after as cells_after}
use Rattle.seg_meaning.specs.Segment.{Stopped, segment}
use Rattle.seg_journal.specs.declared.journal.End.{End}
use Rattle.seg_journal.specs.declared.journal.End.TheVariants as ends
use Rattle.seg_journal.specs.declared.journal.Entry.{Entry}
use Rattle.seg_journal.specs.declared.moves.Kind.TheVariants.{Run}
use Rattle.seg_journal.specs.declared.moves.Move.{Move}
use Rattle.machine_state.specs.declared.state.State as machine
use Rattle.machine_state.specs.declared.state.TaskRow.{TaskRow}
use Rattle.machine_state.specs.declared.state.TaskStatus.{TaskStatus}
use Rattle.machine_state.specs.declared.state.TaskStatus.TheVariants as status
use Rattle.machine_state.specs.Changes.{made_by}
use Rattle.machine_state.specs.Moves.{joined_child, parent_of, ran, ready_frame, result_by_kind, state_after_join, status_at_start, stop_result}
use Rattle.machine_state.specs.Rows.{IsRow, LinksAgree, link_of_row}
use Rattle.machine_state.specs.Runs.{IsReached, IsRun, entry_of, state_after}
use Rattle.machine_state.proofs.links.ChainsStay.{chain_stays}
use Rattle.machine_state.proofs.tasks.LeftAlone.{moves_leave_alone}
use Rattle.machine_state.proofs.lists.Places.{got_one, put_before, put_cases, put_last, set_cases, set_other, set_same}
use Rattle.machine_state.proofs.standing.ReachedStands.{reached_stands}
use Rattle.machine_state.proofs.replays.Replayed.{run_more}
use Rattle.isolation_laws.specs.Admission.{made_last, task_made}
use Rattle.isolation_laws.specs.Conflicts.{MoversApart}
use Rattle.isolation_laws.proofs.rows.JoinedChild.{joined_child_done}
use Rattle.isolation_laws.proofs.rows.LinksOfRows.{done_row}
use Rattle.isolation_laws.proofs.running.Movers.{movers_apart}
use Rattle.seg_journal.specs.declared.numbered.NumberedEntry.{NumberedEntry}
use Rattle.seg_journal.specs.Merging.{journal_of}
use Rattle.floor_laws.specs.declared.rule.view.HeldTurn.{HeldTurn}
use Rattle.floor_laws.specs.rule.Fitting.{Turns}
use Rattle.floor_laws.specs.rule.Floors.{Floor, put_turn}
use Rattle.floor_laws.specs.rule.Rows.{unmarked}
use Rattle.floor_laws.specs.rule.Rule.{KeepsRule}
use Rattle.floor_laws.specs.rule.Steps.{MayCommit, end_after, entry_drawn, first_turn}
use Rattle.floor_laws.proofs.rule.EntryLemmas.{Stays, stays}
use Rattle.floor_laws.proofs.rule.EntrySteps.{end_is, may_move, running, segment_is}
use Rattle.floor_laws.proofs.rule.RunLemmas as run_lemmas
use Rattle.floor_laws.proofs.rule.TurnLemmas.{turn_here, turn_of_other, turn_was}
use Rattle.floor_laws.specs.admission.admission_core.Conditions.{MeetsConditions}
use Rattle.floor_laws.specs.admission.admission_core.Tasks.{Status, Task, Tasks, Turn, Free, Taken, New, IsTask, TaskHasStatus}
use Rattle.floor_laws.specs.admission.admission_core.Tasks as tasks
use Rattle.floor_laws.specs.admission.admission_core.States.{IsAmong, Record, State}
use Rattle.floor_laws.specs.admission.admission_core.Entries.{Becomes, IsJoined, MayRunEvent, TaskEvent, links_ended, links_joined, new_task, parent_if}
use Rattle.floor_laws.specs.admission.admission_core.Entries as events
use Rattle.floor_laws.specs.admission.admission_core.Rule.{by_task}
use Rattle.floor_laws.specs.admission.TasksOf.{AreTasksOf, status_of}
use Rattle.floor_laws.proofs.admission.MeetLemmas.{runs_meet}
use Rattle.floor_laws.specs.rule.nodes.Fitting.{HasTurn, KnowledgeFits, LocksFit, TasksFit, TurnIs}
use Rattle.floor_laws.specs.rule.nodes.Rule.{KeepsBoth, KeepsNodes}
use Rattle.floor_laws.specs.rule.nodes.Trees.{Tree}
use Rattle.floor_laws.specs.rule.nodes.TurnSteps.{HasPlacedChildren, IsTaskEvent}
use Rattle.floor_laws.proofs.rule.nodes.EntryTasks.{made_tasks, ran_tasks, tasks_long}
use Rattle.floor_laws.proofs.rule.nodes.Facts.{stands_placed}
use Rattle.floor_laws.proofs.rule.nodes.KnownTasks.{KnownTask, row_of, taken_turn, task_of_row, task_of_turn}
use Rattle.floor_laws.proofs.rule.nodes.LastMade.{made_other, made_own, never_made}
use Rattle.floor_laws.proofs.rule.nodes.LockEvents.{links_agree}
use Rattle.floor_laws.proofs.rule.nodes.TaskChanges.{first_back, has_more, not_first, turn_else}
use Rattle.floor_laws.proofs.rule.nodes.TurnEvents.{children_placed}

-- Lists.

none_past : {A : Type 0} (xs : List A) (n : ℕ) → n ≡ length xs → slice_get xs n ≡ None
none_past [] n is = refl
none_past (x ∷ xs) zero is = absurd (omega (arith, is))
none_past (x ∷ xs) (suc n) is = let same : n ≡ length xs = omega (arith, is) in none_past xs n same

get_else : {A : Type 0} (xs : List A) (y : A) (n : ℕ) → n ≢ length xs → slice_get (xs ++ y ∷ []) n ≡ slice_get xs n
get_else [] y zero other = absurd (other refl)
get_else [] y (suc n) other = refl
get_else (x ∷ xs) y zero other = refl
get_else (x ∷ xs) y (suc n) other = get_else xs y n (λ same. other (ap suc same))

links_long : (st : machine.State) → LinksAgree st → length st.links ≡ length st.tasks
links_long st agree = ap length agree ∙ length-map st.tasks link_of_row

-- A new task.

has_parent : (t : ℕ) (spawned : Bool) → spawned ≡ is_some (parent_of t spawned)
has_parent t true = refl
has_parent t false = refl

parent_same : (t : ℕ) (spawned : Bool) → parent_of t spawned ≡ parent_if spawned t
parent_same t true = refl
parent_same t false = refl

start_status : (t : ℕ) (spawned : Bool) → (if spawned then tasks.Enabled else tasks.Made) ≡ status_of (status_at_start (parent_of t spawned))
start_status t true = refl
start_status t false = refl

-- Statuses.

pub enabled_made : status.Enabled ≡ status.Made → ⊥
enabled_made h = cc

pub enabled_done : status.Enabled ≡ status.Done → ⊥
enabled_done h = cc

pub done_made : status.Done ≡ status.Made → ⊥
done_made h = cc

pub faulted_made : status.Faulted ≡ status.Made → ⊥
faulted_made h = cc

pub faulted_done : status.Faulted ≡ status.Done → ⊥
faulted_done h = cc

-- how a segment that makes no task leaves its task and the links
pub record EndsSo (end : End) (waits : Option ℕ) (to : TaskStatus) : Type 0 where
  pub none : task_made end ≡ None
  pub none_more : made_by end ≡ 0
  pub ran : to ≢ status.Made
  pub last : to ≡ status.Done → waits ≡ None

module _ (nodes : List (List Elem)) (p : Program) (lim : Bounds) (log : List NumberedEntry) (f : Floor) (tree : Tree) (core : State)
    (both : KeepsBoth nodes p lim log f tree core) (i t : ℕ) (turn : HeldTurn) (frame : Frame) (stop : Stop)
    (may : MayCommit p f i t turn frame stop) (placed : HasPlacedChildren f.held i t) where
  abbrev pub st : machine.State
  st = state_after p lim (journal_of log)

  abbrev keep : KeepsNodes nodes p lim log f tree core
  keep = both.nodes_keep

  abbrev pub more : List NumberedEntry
  more = log ++ entry_drawn lim f t frame stop ∷ []

  abbrev pub after : machine.State
  after = state_after p lim (journal_of (log ++ entry_drawn lim f t frame stop ∷ []))

  abbrev pub reached : IsReached p lim (state_after p lim (journal_of log))
  reached = record { journal = journal_of log; legal = both.floor.legal; same = refl }

  abbrev pub apart : MoversApart p (state_after p lim (journal_of log))
  apart = movers_apart p both.well both.effects lim (state_after p lim (journal_of log)) reached

  agree : LinksAgree (state_after p lim (journal_of log))
  agree = links_agree nodes p lim log f tree core both

  -- the machine runs the segment
  abbrev pub run : run_lemmas.Runs (state_after p lim (journal_of log)) t turn may.ready
  run = running p both.well lim (state_after p lim (journal_of log)) reached apart f both.floor.fits i t turn frame stop may

  abbrev pub left : Stopped
  left = record { frame = frame; cells = cells_after st.cells may.accesses; accesses = may.accesses; stop = stop }

  pub left_is : segment p (ready_frame st.tasks run.row.frame) st.cells ≡ left
  left_is = segment_is p both.well lim (state_after p lim (journal_of log)) reached apart f both.floor.fits i t turn frame stop may

  abbrev pub move : Move
  move = record { kind = Run; task = t }

  abbrev pub next : machine.State
  next = (result_by_kind p lim st Run t).0

  abbrev pub joins : Option ℕ
  joins = joined_child run.row.out (link_of st.links t).waits

  abbrev pub base : machine.State
  base = state_after_join (record st { cells = left.cells }) joins

  pub moved : result_by_kind p lim st Run t ≡ stop_result lim base t run.row frame stop
  moved =
      ap (ran p lim st t) run.there
      ∙ ap (λ (s : Stopped). stop_result lim (state_after_join (record st { cells = s.cells }) (joined_child run.row.out (link_of st.links t).waits)) t run.row s.frame s.stop) left_is

  end_same : (result_by_kind p lim st Run t).1 ≡ end_after lim f.asked stop
  end_same = end_is p both.well lim (state_after p lim (journal_of log)) reached apart f both.floor.fits i t turn frame stop may

  journal_same : journal_of log ++ entry_of p lim st move ∷ [] ≡ journal_of more
  journal_same =
      ap (λ (end : End). journal_of log ++ record { mv = move; end = end } ∷ []) end_same
      ∙ sym (map-append (λ (x : NumberedEntry). x.entry) log (entry_drawn lim f t frame stop ∷ []))

  pub next_is : next ≡ after
  next_is =
      (subst (λ (journal : List Entry). IsRun p lim journal next) journal_same
      (run_more p lim (journal_of log) st move (record { legal = both.floor.legal; same = refl })
      (may_move p both.well lim (state_after p lim (journal_of log)) reached apart f both.floor.fits i t turn frame stop may))).same

  journal_is : journal_of more ≡ journal_of log ++ record { mv = move; end = end_after lim f.asked stop } ∷ []
  journal_is = map-append (λ (x : NumberedEntry). x.entry) log (entry_drawn lim f t frame stop ∷ [])

  made_now : made_last t (journal_of more) ≡ task_made (end_after lim f.asked stop)
  made_now = ap (made_last t) journal_is ∙ made_own t (journal_of log) (record { mv = move; end = end_after lim f.asked stop }) refl

  made_before : (u : ℕ) → u ≢ t → made_last u (journal_of more) ≡ made_last u (journal_of log)
  made_before u other =
      ap (made_last u) journal_is ∙ made_other u (journal_of log) (record { mv = move; end = end_after lim f.asked stop }) (λ same. other (sym same))

  stay : (u : ℕ) (row : TaskRow) → u ≢ t → IsRow st u row → Stays after u row
  stay u row other there = subst (λ (s : machine.State). Stays s u row) next_is (stays p lim st t u row other there)

  grown : length after.tasks ≡ length st.tasks + made_by (end_after lim f.asked stop)
  grown =
      subst (λ (s : machine.State). length s.tasks ≡ length st.tasks + made_by (end_after lim f.asked stop)) next_is
      ((moves_leave_alone p lim st move both.well reached run.may).tasks ∙ ap (λ (end : End). length st.tasks + made_by end) end_same)

  -- The task of the entry, in the core.

  known : KnownTask core.tasks t turn.row
  known = task_of_turn (journal_of log) st f.held core.tasks keep.tasks both.floor.fits.rows both.floor.fits.one_holder i t turn may.has

  abbrev old : Task
  old = known.task

  taken : known.task.turn ≡ Taken i
  taken =
      taken_turn (journal_of log) st f.held core.tasks keep.tasks both.floor.fits.rows both.floor.fits.one_holder i t turn known.task may.has may.may.taken known.is
      known.task.turn refl (keep.tasks.whose t known.task known.is)

  old_placed : known.task.unplaced ≡ false
  old_placed = (subst (λ (x : Turn). TurnIs f.held t x known.task.unplaced) taken (keep.tasks.whose t known.task known.is)).1

  may_run : MayRunEvent core.tasks i t known.task
  may_run = record {
    is = known.is;
    enabled = known.status_is ∙ ap status_of may.may.enabled;
    turn = taken;
    placed = old_placed;
    children = children_placed nodes p lim log f tree core both i t known.task known.is taken placed;
    ready = subst (λ (ls : List Link). WaitsForNobody ls t) (sym keep.tasks.rows.links) run.may.1;
  }

  joined_by : (o : Option ℕ) → joined_child run.row.out (link_of st.links t).waits ≡ o → IsJoined core.tasks o
  joined_by None is = tt
  joined_by (Some c) is =
      let row = done_row st agree c (joined_child_done st.links run.row.out t c run.may.1 is) in
      let task = task_of_row (journal_of log) st f.held core.tasks keep.tasks c row.0 row.1 in
      (task.task, task.is, task.status_is ∙ ap status_of row.2)

  -- What the seats know, if each turn stays where it is.

  ran_known : (g : Turns) → ((j u : ℕ) → HasTurn f.held j u → HasTurn g j u)
      → ((j : ℕ) (r : Record) (y : HeldTurn) → IsAmong r core.records → g j r.task ≡ Some y → y.first ≡ true → (before : HeldTurn) × (f.held j r.task ≡ Some before) × (before.first ≡ true))
      → ((row : TaskRow) → IsRow after t row → row.status ≢ status.Made)
      → KnowledgeFits after g core.records tree.fresh tree.clear tree.waits
  ran_known g lift back own = record {
    owned = λ r row among there other.
        ⊎_elim
        (λ (same : r.task ≡ t). (
          i,
          subst (λ (u : ℕ). HasTurn g i u) (sym same) (lift i t (turn, may.has)),
          λ made. absurd (own row (subst (λ (u : ℕ). IsRow after u row) same there) made),
        ))
        (λ (differ : r.task ≢ t).
        let at = stands_placed nodes p lim log f tree core both r among in
        let now = stay r.task at.row differ at.there in
        let one : now.now ≡ row = got_one (slice_get after.tasks r.task) now.there there in
        let status_same : at.row.status ≡ row.status = ap (λ (x : TaskRow). x.status) (sym now.same) ∙ ap (λ (x : TaskRow). x.status) one in
        let before = keep.known.owned r at.row among at.there (λ enabled. other (sym status_same ∙ enabled)) in
        (before.0, lift before.0 r.task before.1, λ made. before.2 (status_same ∙ made)))
        (cases_eq r.task t);
    first_fresh = λ j r y stands at first. let before = back j r y stands at first in keep.known.first_fresh j r before.0 stands before.1 before.2;
    fresh_stand = λ j r among. let before = keep.known.fresh_stand j r among in (before.0, lift j r.task before.1);
    clear_are = λ j fact among. let before = keep.known.clear_are j fact among in (lift j fact.task before.0, before.1);
    waits_hold = λ j fact among.
        subst (λ (s : machine.State). WaitsOnUnlessDone s.links fact.waiter fact.awaited) next_is
        (chain_stays p lim both.well st Run t fact.waiter fact.awaited run.may (reached_stands p lim st both.well reached) (keep.known.waits_hold j fact among));
  }

  -- An entry that makes no task.
  module _ (g : Floor) (new : HeldTurn) (held : g.held ≡ put_turn f.held i t (Some new)) (workers : g.workers ≡ f.workers) (first : new.first ≡ false)
      (rule : KeepsRule p lim more g) (same_effects : new.row.effects ≡ turn.row.effects) (waits : Option ℕ)
      (so : EndsSo (end_after lim f.asked stop) waits new.row.status)
      (links : after.links ≡ links_ended (status_of new.row.status) (with_wait (links_joined st.links joins) t waits) t) where
    own : (row : TaskRow) × IsRow after t row × (unmarked row ≡ new.row)
    own =
        let at = rule.fits.rows i t new (ap (λ (h : Turns). h i t) held ∙ turn_here f.held i t (Some new)) in
        (at.row, at.there, at.same)

    own_status : own.0.status ≡ new.row.status
    own_status = ap (λ (x : TaskRow). x.status) own.2

    own_ran : (row : TaskRow) → IsRow after t row → row.status ≢ status.Made
    own_ran row there made =
        let one : own.0 ≡ row = got_one (slice_get after.tasks t) own.1 there in
        so.ran (sym own_status ∙ (ap (λ (x : TaskRow). x.status) one ∙ made))

    abbrev changed : Task
    changed = record old { status = status_of new.row.status; made = None }

    abbrev later : Tasks
    later = record { tasks = slice_set core.tasks.tasks t changed; links = after.links }

    are_tasks : AreTasksOf (journal_of more) after later
    are_tasks =
        subst (λ (s : Status). AreTasksOf (journal_of more) after (record { tasks = slice_set core.tasks.tasks t (record old { status = s; made = None }); links = after.links }))
        (ap status_of own_status)
        (ran_tasks (journal_of log) (journal_of more) st after core.tasks keep.tasks.rows t old known.is stay made_before own.0 own.1
        (known.effects ∙ (ap (λ (x : Summary). x.effects) (sym same_effects) ∙ ap (λ (x : TaskRow). x.effects.effects) (sym own.2)))
        None (sym (made_now ∙ so.none))
        (grown ∙ none_added (length st.tasks) (made_by (end_after lim f.asked stop)) so.none_more))
      where
        none_added : (a b : ℕ) → b ≡ 0 → a + b ≡ a
        none_added a b nothing = omega (arith, nothing)

    meets : MeetsConditions later
    meets = runs_meet p both.well both.effects lim (journal_of more) rule.legal later are_tasks

    fits_tasks : TasksFit (journal_of more) after g.held later
    fits_tasks = record {
      rows = are_tasks;
      whose = λ u task there.
          subst (λ (h : Turns). TurnIs h u task.turn task.unplaced) (sym held)
          (⊎_elim
          (λ (mine : (u ≡ t) × (changed ≡ task)).
          subst (λ (n : ℕ). TurnIs (put_turn f.held i t (Some new)) n task.turn task.unplaced) (sym mine.0)
          (subst (λ (y : Task). TurnIs (put_turn f.held i t (Some new)) t y.turn y.unplaced) mine.1
          (subst (λ (x : Turn). TurnIs (put_turn f.held i t (Some new)) t x old.unplaced) (sym taken)
          ((new, turn_here f.held i t (Some new), first), old_placed))))
          (λ (other : (u ≢ t) × (slice_get core.tasks.tasks u ≡ Some task)).
          turn_else f.held i t (Some new) u task.turn task.unplaced other.0 (keep.tasks.whose u task other.1))
          (set_cases core.tasks.tasks t u changed task there));
    }

    status_made : (x : TaskStatus) → status_of x ≡ tasks.Made → x ≡ status.Made
    status_made status.Made h = refl
    status_made status.Enabled h = absurd (cc)
    status_made status.Done h = absurd (cc)
    status_made status.Faulted h = absurd (cc)

    status_done : (x : TaskStatus) → status_of x ≡ tasks.Done → x ≡ status.Done
    status_done status.Made h = absurd (cc)
    status_done status.Enabled h = absurd (cc)
    status_done status.Done h = refl
    status_done status.Faulted h = absurd (cc)

    event : TaskEvent nodes core later
    event =
        events.Run i t old joins waits (status_of new.row.status)
        (record {
          may = may_run;
          joined = joined_by joins refl;
          ends = λ made. so.ran (status_made new.row.status made);
          last = λ done. so.last (status_done new.row.status done);
          becomes = record {
            own = set_same core.tasks.tasks t old changed known.is;
            others = λ s other. set_other core.tasks.tasks t s changed other;
          };
          links =
              links
              ∙ ap (λ (ls : List Link). links_ended (status_of new.row.status) (with_wait (links_joined ls joins) t waits) t) (sym keep.tasks.rows.links);
          conditions = meets;
        })

    pub ended : IsTaskEvent nodes p lim more g tree core
    ended = (
      later,
      event,
      record {
        reached = by_task later keep.reached event refl;
        tasks = fits_tasks;
        activities = keep.activities;
        locks = subst (λ (w : ℕ → ℕ). LocksFit w tree.activities tree.locks) (sym workers) keep.locks;
        contents = keep.contents;
        records = keep.records;
        known =
            ran_known g.held
            (λ j u has. subst (λ (h : Turns). HasTurn h j u) (sym held) (has_more f.held i t new j u has))
            (λ j r y stands at is. first_back f.held i t new (not_first f.held i t new first) j r.task y (ap (λ (h : Turns). h j r.task) (sym held) ∙ at) is)
            own_ran;
      },
    )

  -- An entry that makes task c.
  module _ (g : Floor) (new : HeldTurn) (c : ℕ) (child_row : TaskRow) (held : g.held ≡ put_turn (put_turn f.held i t (Some new)) i c (Some (first_turn child_row)))
      (workers : g.workers ≡ f.workers) (first : new.first ≡ false) (rule : KeepsRule p lim more g) (same_effects : new.row.effects ≡ turn.row.effects)
      (same_status : new.row.status ≡ turn.row.status) (waits : Option ℕ) (spawned : Bool) (makes : end_after lim f.asked stop ≡ ends.Made c)
      (number : c ≡ length st.tasks) (parent : child_row.parent ≡ parent_of t spawned) (at_start : child_row.status ≡ status_at_start (parent_of t spawned))
      (links : after.links ≡ with_wait (links_joined st.links joins) t waits ++ new_link (parent_of t spawned) ∷ []) where
    below_child : (u : ℕ) (row : TaskRow) → IsRow st u row → u ≢ c
    below_child u row there same =
        let under : u < length st.tasks = slice_get_within st.tasks u row there in
        omega (arith, under, same, number)

    not_child : t ≢ c
    not_child = below_child t run.row run.there

    turn_now : g.held i t ≡ Some new
    turn_now =
        ap (λ (h : Turns). h i t) held
        ∙ (turn_of_other (put_turn f.held i t (Some new)) i c (Some (first_turn child_row)) i t not_child ∙ turn_here f.held i t (Some new))

    child_now : g.held i c ≡ Some (first_turn child_row)
    child_now = ap (λ (h : Turns). h i c) held ∙ turn_here (put_turn f.held i t (Some new)) i c (Some (first_turn child_row))

    maker_row : (row : TaskRow) × IsRow after t row × (unmarked row ≡ new.row)
    maker_row = let at = rule.fits.rows i t new turn_now in (at.row, at.there, at.same)

    made_row : (row : TaskRow) × IsRow after c row × (unmarked row ≡ child_row)
    made_row = let at = rule.fits.rows i c (first_turn child_row) child_now in (at.row, at.there, at.same)

    maker_status : maker_row.0.status ≡ turn.row.status
    maker_status = ap (λ (x : TaskRow). x.status) maker_row.2 ∙ same_status

    maker_ran : (row : TaskRow) → IsRow after t row → row.status ≢ status.Made
    maker_ran row there made =
        let one : maker_row.0 ≡ row = got_one (slice_get after.tasks t) maker_row.1 there in
        let enabled : row.status ≡ status.Enabled = ap (λ (x : TaskRow). x.status) (sym one) ∙ (maker_status ∙ may.may.enabled) in
        enabled_made (sym enabled ∙ made)

    abbrev maker : Task
    maker = record old { made = Some c }

    abbrev child : Task
    child = new_task i child_row.effects.effects spawned

    abbrev grown_tasks : Tasks
    grown_tasks = record { tasks = slice_set core.tasks.tasks t maker ++ child ∷ []; links = after.links }

    made_are : AreTasksOf (journal_of more) after grown_tasks
    made_are =
        subst
        (λ (s : Status).
        AreTasksOf (journal_of more) after (record { tasks = slice_set core.tasks.tasks t (record old { status = s; made = Some c }) ++ child ∷ []; links = after.links }))
        (ap status_of maker_status ∙ sym known.status_is)
        (made_tasks (journal_of log) (journal_of more) st after core.tasks keep.tasks.rows t old known.is stay made_before maker_row.0 maker_row.1
        (known.effects ∙ (ap (λ (x : Summary). x.effects) (sym same_effects) ∙ ap (λ (x : TaskRow). x.effects.effects) (sym maker_row.2)))
        (Some c) (sym (made_now ∙ ap task_made makes)) c number
        (grown ∙ ap (λ (end : End). length st.tasks + made_by end) makes)
        child made_row.0 made_row.1
        (ap (λ (x : TaskRow). x.effects.effects) (sym made_row.2))
        (start_status t spawned ∙ (ap status_of (sym at_start) ∙ ap (λ (x : TaskRow). status_of x.status) (sym made_row.2)))
        (sym (made_before c (λ same. not_child (sym same)) ∙ never_made p both.well lim (journal_of log) both.floor.legal c number)))

    made_meets : MeetsConditions grown_tasks
    made_meets = runs_meet p both.well both.effects lim (journal_of more) rule.legal grown_tasks made_are

    -- who has which turn, in the core
    made_turn : (u : ℕ) (task : Task) → slice_get (slice_set core.tasks.tasks t maker) u ≡ Some task
        → TurnIs (put_turn (put_turn f.held i t (Some new)) i c (Some (first_turn child_row))) u task.turn task.unplaced
    made_turn u task there =
        ⊎_elim
        (λ (mine : (u ≡ t) × (maker ≡ task)).
        turn_else (put_turn f.held i t (Some new)) i c (Some (first_turn child_row)) u task.turn task.unplaced (λ same. not_child (sym mine.0 ∙ same))
        (subst (λ (n : ℕ). TurnIs (put_turn f.held i t (Some new)) n task.turn task.unplaced) (sym mine.0)
        (subst (λ (y : Task). TurnIs (put_turn f.held i t (Some new)) t y.turn y.unplaced) mine.1
        (subst (λ (x : Turn). TurnIs (put_turn f.held i t (Some new)) t x old.unplaced) (sym taken)
        ((new, turn_here f.held i t (Some new), first), old_placed)))))
        (λ (other : (u ≢ t) × (slice_get core.tasks.tasks u ≡ Some task)).
        let row = row_of (journal_of log) st f.held core.tasks keep.tasks u task other.1 in
        turn_else (put_turn f.held i t (Some new)) i c (Some (first_turn child_row)) u task.turn task.unplaced (below_child u row.row row.there)
        (turn_else f.held i t (Some new) u task.turn task.unplaced other.0 (keep.tasks.whose u task other.1)))
        (set_cases core.tasks.tasks t u maker task there)

    set_long : length (slice_set core.tasks.tasks t maker) ≡ c
    set_long = length-set core.tasks.tasks t maker ∙ (tasks_long (journal_of log) st core.tasks keep.tasks.rows ∙ sym number)

    child_turn : TurnIs (put_turn (put_turn f.held i t (Some new)) i c (Some (first_turn child_row))) c child.turn child.unplaced
    child_turn = (
      first_turn child_row,
      turn_here (put_turn f.held i t (Some new)) i c (Some (first_turn child_row)),
      refl,
      has_parent t spawned ∙ ap is_some (sym parent),
    )

    made_fits : TasksFit (journal_of more) after g.held grown_tasks
    made_fits = record {
      rows = made_are;
      whose = λ u task there.
          subst (λ (h : Turns). TurnIs h u task.turn task.unplaced) (sym held)
          (⊎_elim
          (λ (before : slice_get (slice_set core.tasks.tasks t maker) u ≡ Some task). made_turn u task before)
          (λ (last : (u ≡ length (slice_set core.tasks.tasks t maker)) × (child ≡ task)).
          subst (λ (n : ℕ). TurnIs (put_turn (put_turn f.held i t (Some new)) i c (Some (first_turn child_row))) n task.turn task.unplaced) (sym (last.0 ∙ set_long))
          (subst (λ (y : Task). TurnIs (put_turn (put_turn f.held i t (Some new)) i c (Some (first_turn child_row))) c y.turn y.unplaced) last.1 child_turn))
          (put_cases (slice_set core.tasks.tasks t maker) child u task there));
    }

    made_event : TaskEvent nodes core grown_tasks
    made_event =
        events.Make i t c old joins waits child_row.effects.effects spawned
        (record {
          may = may_run;
          joined = joined_by joins refl;
          number = number ∙ (sym (links_long st agree) ∙ ap length (sym keep.tasks.rows.links));
          fresh = none_past core.tasks.tasks c (sym (tasks_long (journal_of log) st core.tasks keep.tasks.rows ∙ sym number));
          maker = put_before (slice_set core.tasks.tasks t maker) child t maker (set_same core.tasks.tasks t old maker known.is);
          child = put_last (slice_set core.tasks.tasks t maker) child c (sym set_long);
          others = λ s not_t not_c.
              get_else (slice_set core.tasks.tasks t maker) child s (λ same. not_c (same ∙ set_long)) ∙ set_other core.tasks.tasks t s maker not_t;
          links =
              links
              ∙ (ap (λ (ls : List Link). with_wait (links_joined ls joins) t waits ++ new_link (parent_of t spawned) ∷ []) (sym keep.tasks.rows.links)
              ∙ ap (λ (o : Option ℕ). with_wait (links_joined core.tasks.links joins) t waits ++ new_link o ∷ []) (parent_same t spawned));
          conditions = made_meets;
        })

    -- no record of the child stands, and its maker's turn is no first one
    first_was : (j : ℕ) (r : Record) (y : HeldTurn) → IsAmong r core.records → g.held j r.task ≡ Some y → y.first ≡ true → (before : HeldTurn) × (f.held j r.task ≡ Some before) × (before.first ≡ true)
    first_was j r y stands at is =
        let placed = stands_placed nodes p lim log f tree core both r stands in
        ⊎_elim
        (λ (here : (j ≡ i) × (r.task ≡ c) × (Some (first_turn child_row) ≡ Some y)). absurd (below_child r.task placed.row placed.there here.1))
        (λ (there : ((j ≡ i) → r.task ≢ c) × (put_turn f.held i t (Some new) j r.task ≡ Some y)). first_back f.held i t new (not_first f.held i t new first) j r.task y there.1 is)
        (turn_was (put_turn f.held i t (Some new)) i c (Some (first_turn child_row)) j r.task y (ap (λ (h : Turns). h j r.task) (sym held) ∙ at))

    pub made_one : IsTaskEvent nodes p lim more g tree core
    made_one = (
      grown_tasks,
      made_event,
      record {
        reached = by_task grown_tasks keep.reached made_event refl;
        tasks = made_fits;
        activities = keep.activities;
        locks = subst (λ (w : ℕ → ℕ). LocksFit w tree.activities tree.locks) (sym workers) keep.locks;
        contents = keep.contents;
        records = keep.records;
        known =
            ran_known g.held
            (λ j u has.
            subst (λ (h : Turns). HasTurn h j u) (sym held)
            (has_more (put_turn f.held i t (Some new)) i c (first_turn child_row) j u (has_more f.held i t new j u has)))
            first_was
            maker_ran;
      },
    )
