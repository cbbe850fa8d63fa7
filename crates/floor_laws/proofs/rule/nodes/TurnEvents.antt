-- The steps of the floor on cells, phases and turns keep the rule on nodes.
use Rattle.std.proofs.Common.{◌≡◌, ◌≢◌, ℕ, Bool, true, false, List, Option, Some, None, is_some, refl, sym, ap, subst, ◌∙◌, ⊎_elim}
use Rattle.std.specs.Prelude.{Contains, slice_get}
use Rattle.std.proofs.lemmas.Bool.{cases_Bool, cases_eq}
use Rattle.region_paths.specs.declared.elements.Elem.{Elem}
use Rattle.effect_sets.specs.declared.effects.Effect.{Effect}
use Rattle.wait_graph.specs.Waiting.{SpawnedBy}
use Rattle.wait_graph.specs.declared.tasks.Link.{Link}
use Rattle.wait_graph.proofs.WaitingLemmas.{SpawnedBy-one}
use Rattle.twe_base.specs.Limits.{Bounds}
use Rattle.twe_program.specs.Program.{Program}
use Rattle.machine_state.specs.declared.state.State as machine
use Rattle.machine_state.specs.declared.state.TaskRow.{TaskRow}
use Rattle.machine_state.specs.declared.state.TaskStatus.{TaskStatus}
use Rattle.machine_state.specs.declared.state.TaskStatus.TheVariants as status
use Rattle.machine_state.specs.Rows.{IsRow}
use Rattle.machine_state.specs.Runs.{state_after}
use Rattle.machine_state.proofs.lists.Places.{below_there, got_one}
use Rattle.isolation_laws.proofs.rows.LinksOfRows.{spawned_row}
use Rattle.seg_journal.specs.declared.numbered.NumberedEntry.{NumberedEntry}
use Rattle.seg_journal.specs.Merging.{journal_of}
use Rattle.floor_laws.specs.declared.rule.view.HeldTurn.{HeldTurn}
use Rattle.floor_laws.specs.declared.rule.view.Phase.{Phase}
use Rattle.floor_laws.specs.rule.Fitting.{IsMade, IsUnheld, TurnFits, Turns}
use Rattle.floor_laws.specs.rule.Floors.{Floor, put, put_turn}
use Rattle.floor_laws.specs.rule.Floors as floors
use Rattle.floor_laws.specs.rule.Steps.{after_giving, after_phase, after_taking}
use Rattle.floor_laws.proofs.rule.Puts.{none_some, put_all, put_else, some_one}
use Rattle.floor_laws.proofs.rule.TurnLemmas.{turn_here, turn_was, turns_elsewhere}
use Rattle.floor_laws.specs.admission.admission_core.Tasks.{Task, Turn, Free, Taken, New, IsTask}
use Rattle.floor_laws.specs.admission.admission_core.States.{State, IsAmong, Record}
use Rattle.floor_laws.specs.admission.admission_core.Entries.{AllStand, ChildrenArePlaced, TaskEvent, TakeTurn, GiveTurn, GiveFirst}
use Rattle.floor_laws.specs.admission.admission_core.Rule.{by_task}
use Rattle.floor_laws.proofs.admission.admission_core.FamilyLemmas.{one_task}
use Rattle.floor_laws.specs.rule.nodes.Fitting.{HasFirst, HasTurn, KnowledgeFits, LocksFit, TasksFit, TurnIs}
use Rattle.floor_laws.specs.rule.nodes.Rule.{KeepsBoth, KeepsNodes}
use Rattle.floor_laws.specs.rule.nodes.Trees.{Tree, WaitFact}
use Rattle.floor_laws.specs.rule.nodes.TurnSteps.{IsClearOf, IsTaskEvent, LeavesNone, MayGiveFirst, MayGiveTaken, after_forgetting, of_others}
use Rattle.floor_laws.proofs.rule.nodes.Facts.{stands_placed}
use Rattle.floor_laws.proofs.rule.nodes.KnownTasks.{KnownTask, first_turn, taken_turn, task_of_row, task_of_turn}
use Rattle.floor_laws.proofs.rule.nodes.LockEvents.{invariant, links_agree}
use Rattle.floor_laws.proofs.rule.nodes.TaskChanges.{among_others, becomes, first_back, given_away, has_else, has_more, not_first, others_among, tasks_set, turn_else, with_task}

-- what the seats know stays if each turn stays where it is
known_more : (st : machine.State) (turns more : Turns) (standing : List Record) (fresh : ℕ → List Record) (clear : ℕ → List Record) (waits : ℕ → List WaitFact)
    → ((j u : ℕ) → HasTurn turns j u → HasTurn more j u)
    → ((j u : ℕ) (turn : HeldTurn) → more j u ≡ Some turn → turn.first ≡ true → (old : HeldTurn) × (turns j u ≡ Some old) × (old.first ≡ true))
    → KnowledgeFits st turns standing fresh clear waits → KnowledgeFits st more standing fresh clear waits
known_more st turns more standing fresh clear waits lift back known = record {
  owned = λ r row among there other. let old = known.owned r row among there other in (old.0, lift old.0 r.task old.1, old.2);
  first_fresh = λ i r turn stands has first. let old = back i r.task turn has first in known.first_fresh i r old.0 stands old.1 old.2;
  fresh_stand = λ i r among. let old = known.fresh_stand i r among in (old.0, lift i r.task old.1);
  clear_are = λ i fact among. let old = known.clear_are i fact among in (lift i fact.task old.0, old.1);
  waits_hold = known.waits_hold;
}

-- Phases.

-- a turn of which only the known phase changes is the same to the core
turn_phase : (turns : Turns) (i t : ℕ) (turn : HeldTurn) (phase : Phase) → turns i t ≡ Some turn → (x : Turn) (unplaced : Bool) → TurnIs turns t x unplaced
    → TurnIs (put_turn turns i t (Some (record turn { phase = phase }))) t x unplaced
turn_phase turns i t turn phase has Free unplaced is = absurd (none_some (sym (is.0 i) ∙ has))
turn_phase turns i t turn phase has (Taken j) unplaced is =
    ⊎_elim
    (λ (same : j ≡ i).
    let one : is.0.0 ≡ turn = some_one (sym is.0.1 ∙ (ap (λ (n : ℕ). turns n t) same ∙ has)) in (
      (
        record turn { phase = phase },
        ap (λ (n : ℕ). put_turn turns i t (Some (record turn { phase = phase })) n t) same ∙ turn_here turns i t (Some (record turn { phase = phase })),
        ap (λ (h : HeldTurn). h.first) (sym one) ∙ is.0.2,
      ),
      is.1,
    ))
    (λ (other : j ≢ i). (
      (is.0.0, ap (λ (g : ℕ → Option HeldTurn). g t) (turns_elsewhere turns i t (Some (record turn { phase = phase })) j other) ∙ is.0.1, is.0.2),
      is.1,
    ))
    (cases_eq j i)
turn_phase turns i t turn phase has (New j) unplaced is =
    ⊎_elim
    (λ (same : j ≡ i).
    let one : is.0 ≡ turn = some_one (sym is.1 ∙ (ap (λ (n : ℕ). turns n t) same ∙ has)) in (
      record turn { phase = phase },
      ap (λ (n : ℕ). put_turn turns i t (Some (record turn { phase = phase })) n t) same ∙ turn_here turns i t (Some (record turn { phase = phase })),
      ap (λ (h : HeldTurn). h.first) (sym one) ∙ is.2,
      is.3 ∙ ap (λ (h : HeldTurn). is_some h.row.parent) one,
    ))
    (λ (other : j ≢ i). (
      is.0,
      ap (λ (g : ℕ → Option HeldTurn). g t) (turns_elsewhere turns i t (Some (record turn { phase = phase })) j other) ∙ is.1,
      is.2,
      is.3,
    ))
    (cases_eq j i)

module _ (nodes : List (List Elem)) (p : Program) (lim : Bounds) (log : List NumberedEntry) (f : Floor) (tree : Tree) (core : State)
    (keep : KeepsNodes nodes p lim log f tree core) where
  -- a floor with the same turns and the same workers
  pub floor_same : (g : Floor) → g.held ≡ f.held → g.workers ≡ f.workers → KeepsNodes nodes p lim log g tree core
  floor_same g turns workers = record {
    reached = keep.reached;
    tasks = subst (λ (h : Turns). TasksFit (journal_of log) (state_after p lim (journal_of log)) h core.tasks) (sym turns) keep.tasks;
    activities = keep.activities;
    locks = subst (λ (w : ℕ → ℕ). LocksFit w tree.activities tree.locks) (sym workers) keep.locks;
    contents = keep.contents;
    records = keep.records;
    known = subst (λ (h : Turns). KnowledgeFits (state_after p lim (journal_of log)) h core.records tree.fresh tree.clear tree.waits) (sym turns) keep.known;
  }

  pub phase_stored : (i t : ℕ) (turn : HeldTurn) (phase : Phase) → f.held i t ≡ Some turn → KeepsNodes nodes p lim log (after_phase f i t turn phase) tree core
  phase_stored i t turn phase has = record {
    reached = keep.reached;
    tasks = record {
      rows = keep.tasks.rows;
      whose = λ u task is.
          ⊎_elim
          (λ (same : u ≡ t).
          subst (λ (n : ℕ). TurnIs (put_turn f.held i t (Some (record turn { phase = phase }))) n task.turn task.unplaced) (sym same)
          (turn_phase f.held i t turn phase has task.turn task.unplaced (subst (λ (n : ℕ). TurnIs f.held n task.turn task.unplaced) same (keep.tasks.whose u task is))))
          (λ (other : u ≢ t). turn_else f.held i t (Some (record turn { phase = phase })) u task.turn task.unplaced other (keep.tasks.whose u task is))
          (cases_eq u t);
    };
    activities = keep.activities;
    locks = keep.locks;
    contents = keep.contents;
    records = keep.records;
    known = known_more (state_after p lim (journal_of log)) f.held (put_turn f.held i t (Some (record turn { phase = phase }))) core.records tree.fresh tree.clear tree.waits
        (has_more f.held i t (record turn { phase = phase })) (first_back f.held i t (record turn { phase = phase }) (λ first. (turn, has, first))) keep.known;
  }

pub free_turn : (turns : Turns) (t : ℕ) → IsUnheld turns t → (turn : Turn) (unplaced : Bool) → TurnIs turns t turn unplaced → (turn ≡ Free) × (unplaced ≡ false)
free_turn turns t none Free unplaced is = (refl, is.1)
free_turn turns t none (Taken j) unplaced is = absurd (none_some (sym (none j) ∙ is.0.1))
free_turn turns t none (New j) unplaced is = absurd (none_some (sym (none j) ∙ is.1))

taken_one : {v w : ℕ} → Taken v ≡ Taken w → v ≡ w
taken_one h = cc

module _ (nodes : List (List Elem)) (p : Program) (lim : Bounds) (log : List NumberedEntry) (f : Floor) (tree : Tree) (core : State)
    (both : KeepsBoth nodes p lim log f tree core) where
  abbrev st : machine.State
  st = state_after p lim (journal_of log)

  abbrev keep : KeepsNodes nodes p lim log f tree core
  keep = both.nodes_keep

  known_task : (i t : ℕ) (turn : HeldTurn) → f.held i t ≡ Some turn → KnownTask core.tasks t turn.row
  known_task = task_of_turn (journal_of log) st f.held core.tasks keep.tasks both.floor.fits.rows both.floor.fits.one_holder

  -- Taking.

  pub takes : (i t : ℕ) (turn : HeldTurn) → f.turns t ≡ floors.Free → turn.first ≡ false → IsTaskEvent nodes p lim log (after_taking f i t turn) tree core
  takes i t turn free taken =
      let here : IsMade st t × IsUnheld f.held t = subst (TurnFits st f.held f.workers t) free (both.floor.fits.turns t) in
      let row = below_there st.tasks t here.0 in
      let known = task_of_row (journal_of log) st f.held core.tasks keep.tasks t row.0 row.1 in
      let old = known.task in
      let was = free_turn f.held t here.1 old.turn old.unplaced (keep.tasks.whose t old known.is) in
      let event : TaskEvent nodes core (with_task core.tasks t (record old { turn = Taken i })) =
      TakeTurn i t old (record { is = known.is; free = was.0; becomes = becomes core.tasks t old (record old { turn = Taken i }) known.is; links = refl }) in (
        with_task core.tasks t (record old { turn = Taken i }),
        event,
        record {
          reached = by_task (with_task core.tasks t (record old { turn = Taken i })) keep.reached event refl;
          tasks = tasks_set (journal_of log) st f.held core.tasks keep.tasks i t (Some turn) old (Taken i) old.unplaced known.is
              ((turn, turn_here f.held i t (Some turn), taken), was.1);
          activities = keep.activities;
          locks = keep.locks;
          contents = keep.contents;
          records = keep.records;
          known = known_more st f.held (put_turn f.held i t (Some turn)) core.records tree.fresh tree.clear tree.waits (has_more f.held i t turn)
              (first_back f.held i t turn (not_first f.held i t turn taken)) keep.known;
        },
      )

  -- Giving.

  module _ (i t : ℕ) (turn : HeldTurn) (has : f.held i t ≡ Some turn) (leaves : LeavesNone nodes tree i t turn.row.effects.effects turn.row.status) where
    alone : (j : ℕ) (u : ℕ) → u ≡ t → HasTurn f.held j u → j ≡ i
    alone j u same other =
        both.floor.fits.one_holder j i t other.0 turn (subst (λ (n : ℕ). f.held j n ≡ Some other.0) same other.1) has

    left_clear : (r : Record) → IsAmong r core.records → r.task ≡ t → (row : TaskRow) → IsRow st r.task row
        → (effects : List Effect) → row.effects.effects ≡ effects → IsClearOf nodes tree i t effects → ⊥
    left_clear r among same row there effects are clear =
        let placed = stands_placed nodes p lim log f tree core both r among in
        let one : placed.row ≡ row = got_one _ placed.there there in
        let effect : Contains effects r.effect =
        subst (λ (es : List Effect). Contains es r.effect) are (subst (λ (x : TaskRow). Contains x.effects.effects r.effect) one placed.effect) in
        let known : IsAmong r (tree.clear i) =
        subst (λ (n : ℕ). IsAmong (record { task = n; effect = r.effect; node = r.node }) (tree.clear i)) (sym same) (clear r.effect r.node effect placed.place) in
        (keep.known.clear_are i r known).1 among

    -- the record of the task that stands, if one does, is in the way
    left_by : (r : Record) → IsAmong r core.records → r.task ≡ t → (row : TaskRow) → IsRow st r.task row → (to : TaskStatus) → row.status ≡ to → to ≢ status.Enabled
        → (effects : List Effect) → row.effects.effects ≡ effects → LeavesNone nodes tree i t effects to → ⊥
    left_by r among same row there status.Enabled is other effects are leaves = other refl
    left_by r among same row there status.Made is other effects are leaves =
        let own = keep.known.owned r row among there (λ enabled. made_enabled (sym is ∙ enabled)) in
        leaves r (subst (λ (j : ℕ). IsAmong r (tree.fresh j)) (alone own.0 r.task same own.1) (own.2 is)) same
      where
        made_enabled : status.Made ≡ status.Enabled → ⊥
        made_enabled h = cc
    left_by r among same row there status.Done is other effects are leaves = left_clear r among same row there effects are leaves
    left_by r among same row there status.Faulted is other effects are leaves = left_clear r among same row there effects are leaves

    none_left : (r : Record) (row : TaskRow) → IsAmong r core.records → IsRow st r.task row → row.status ≢ status.Enabled → r.task ≢ t
    none_left r row among there other same =
        let known = both.floor.fits.rows i t turn has in
        let one : known.row ≡ row = got_one _ known.there (subst (λ (n : ℕ). IsRow st n row) same there) in
        let state : row.status ≡ turn.row.status = ap (λ (x : TaskRow). x.status) (sym one) ∙ ap (λ (x : TaskRow). x.status) known.same in
        let effects : row.effects.effects ≡ turn.row.effects.effects = ap (λ (x : TaskRow). x.effects.effects) (sym one) ∙ ap (λ (x : TaskRow). x.effects.effects) known.same in
        left_by r among same row there turn.row.status state (λ enabled. other (state ∙ enabled)) turn.row.effects.effects effects leaves

    abbrev after : Turns
    after = put_turn f.held i t None

    fresh_kept : (j : ℕ) (r : Record) → r.task ≢ t → IsAmong r (tree.fresh j) → IsAmong r (put tree.fresh i (of_others t (tree.fresh i)) j)
    fresh_kept j r other among =
        put_all (λ (k : ℕ) (xs : List Record). IsAmong r (tree.fresh k) → IsAmong r xs) tree.fresh i (of_others t (tree.fresh i))
        (λ old. others_among t r (tree.fresh i) old other) (λ k differ old. old) j among

    fresh_was : (j : ℕ) (r : Record) → IsAmong r (put tree.fresh i (of_others t (tree.fresh i)) j) → IsAmong r (tree.fresh j) × (r.task ≢ t)
    fresh_was =
        put_all (λ (j : ℕ) (xs : List Record). (r : Record) → IsAmong r xs → IsAmong r (tree.fresh j) × (r.task ≢ t)) tree.fresh i (of_others t (tree.fresh i))
        (λ r among. among_others t r (tree.fresh i) among)
        (λ j differ r among. (among, λ same. differ (alone j r.task same (keep.known.fresh_stand j r among).1)))

    clear_was : (j : ℕ) (r : Record) → IsAmong r (put tree.clear i (of_others t (tree.clear i)) j) → IsAmong r (tree.clear j) × (r.task ≢ t)
    clear_was =
        put_all (λ (j : ℕ) (xs : List Record). (r : Record) → IsAmong r xs → IsAmong r (tree.clear j) × (r.task ≢ t)) tree.clear i (of_others t (tree.clear i))
        (λ r among. among_others t r (tree.clear i) among)
        (λ j differ r among. (among, λ same. differ (alone j r.task same (keep.known.clear_are j r among).0)))

    -- a first turn that is left is of another task, or at another seat
    first_kept : (j : ℕ) (r : Record) (other : HeldTurn) → IsAmong r core.records → put_turn f.held i t None j r.task ≡ Some other → other.first ≡ true
        → IsAmong r (put tree.fresh i (of_others t (tree.fresh i)) j)
    first_kept j r other stands at first =
        ⊎_elim
        (λ (here : (j ≡ i) × (r.task ≡ t) × (None ≡ Some other)). absurd (none_some here.2))
        (λ (there : ((j ≡ i) → r.task ≢ t) × (f.held j r.task ≡ Some other)).
        let among = keep.known.first_fresh j r other stands there.1 first in
        ⊎_elim
        (λ (same : j ≡ i). fresh_kept j r (there.0 same) among)
        (λ (differ : j ≢ i). subst (IsAmong r) (sym (put_else tree.fresh i j (of_others t (tree.fresh i)) differ)) among)
        (cases_eq j i))
        (turn_was f.held i t None j r.task other at)

    known_given : KnowledgeFits (state_after p lim (journal_of log)) (put_turn f.held i t None) core.records (put tree.fresh i (of_others t (tree.fresh i)))
        (put tree.clear i (of_others t (tree.clear i))) tree.waits
    known_given = record {
      owned = λ r row among there other.
          let apart = none_left r row among there other in
          let old = keep.known.owned r row among there other in
          (old.0, has_else f.held i t None old.0 r.task apart old.1, λ made. fresh_kept old.0 r apart (old.2 made));
      first_fresh = λ j r other stands at first. first_kept j r other stands at first;
      fresh_stand = λ j r among.
          let was = fresh_was j r among in
          let old = keep.known.fresh_stand j r was.0 in
          (old.0, has_else f.held i t None j r.task was.1 old.1);
      clear_are = λ j fact among.
          let was = clear_was j fact among in
          let old = keep.known.clear_are j fact was.0 in
          (has_else f.held i t None j fact.task was.1 old.0, old.1);
      waits_hold = keep.known.waits_hold;
    }

    -- the turn is given, and the core sees it free
    given : (old : Task) → IsTask core.tasks t old → TaskEvent nodes core (with_task core.tasks t (record old { turn = Free; unplaced = false }))
        → IsTaskEvent nodes p lim log (after_giving f i t turn) (after_forgetting tree i t) core
    given old is event = (
      with_task core.tasks t (record old { turn = Free; unplaced = false }),
      event,
      record {
        reached = by_task (with_task core.tasks t (record old { turn = Free; unplaced = false })) keep.reached event refl;
        tasks = tasks_set (journal_of log) st f.held core.tasks keep.tasks i t None old Free false is
            (given_away f.held i t (λ j other at. alone j t refl (other, at)), refl);
        activities = keep.activities;
        locks = keep.locks;
        contents = keep.contents;
        records = keep.records;
        known = known_given;
      },
    )

  -- a seat that has the turn of a child knows its parent
  pub parent_known : (i c : ℕ) (turn : HeldTurn) → f.held i c ≡ Some turn → (row : TaskRow) → IsRow st c row → (parent : Option ℕ) → row.parent ≡ parent → turn.row.parent ≡ parent
  parent_known i c turn has row there parent is =
      let known = both.floor.fits.rows i c turn has in
      let same : known.row ≡ row = got_one (slice_get st.tasks c) known.there there in
      let first : turn.row.parent ≡ known.row.parent = ap (λ (x : TaskRow). x.parent) (sym known.same) in
      let second : known.row.parent ≡ row.parent = ap (λ (x : TaskRow). x.parent) same in
      first ∙ (second ∙ is)

  -- no child of a task is still to be placed if the seat with the task's turn has no first turn of one
  pub children_placed : (i t : ℕ) (task : Task) → IsTask core.tasks t task → task.turn ≡ Taken i
      → ((c : ℕ) (child : HeldTurn) → f.held i c ≡ Some child → child.first ≡ true → child.row.parent ≢ Some t) → ChildrenArePlaced core.tasks t
  children_placed i t task is taken none c child spawned is_c =
      ⊎_elim
      (λ (unplaced : child.unplaced ≡ true).
      let born = (invariant nodes p lim log f tree core both).born c child is_c unplaced in
      let maker : born.maker ≡ t = SpawnedBy-one spawned born.spawned in
      let parent : born.parent ≡ task = one_task core.tasks t born.parent task (subst (λ (n : ℕ). IsTask core.tasks n born.parent) maker born.is) is in
      let worker : born.worker ≡ i = taken_one (sym born.turns.1 ∙ (ap (λ (x : Task). x.turn) parent ∙ taken)) in
      let turn : child.turn ≡ New i = born.turns.0 ∙ ap New worker in
      let first : HasFirst f.held i c child.unplaced = subst (λ (x : Turn). TurnIs f.held c x child.unplaced) turn (keep.tasks.whose c child is_c) in
      let row = spawned_row st (links_agree nodes p lim log f tree core both) c t (subst (λ (ls : List Link). SpawnedBy ls c t) keep.tasks.rows.links spawned) in
      absurd (none c first.0 first.1 first.2 (parent_known i c first.0 first.1 row.0 row.1 (Some t) row.2)))
      (λ (placed : child.unplaced ≡ false). placed)
      (cases_Bool child.unplaced)

  pub gives : (i t : ℕ) (turn : HeldTurn) → MayGiveTaken nodes f.held tree i t turn → IsTaskEvent nodes p lim log (after_giving f i t turn) (after_forgetting tree i t) core
  gives i t turn may =
      let known = known_task i t turn may.has in
      let old = known.task in
      let fits : TurnIs f.held t old.turn old.unplaced = keep.tasks.whose t old known.is in
      let taken : old.turn ≡ Taken i =
      taken_turn (journal_of log) st f.held core.tasks keep.tasks both.floor.fits.rows both.floor.fits.one_holder i t turn old may.has may.taken known.is old.turn refl fits in
      let placed : old.unplaced ≡ false = (subst (λ (x : Turn). TurnIs f.held t x old.unplaced) taken fits).1 in
      let same : with_task core.tasks t (record old { turn = Free }) ≡ with_task core.tasks t (record old { turn = Free; unplaced = false }) =
      ap (λ (b : Bool). with_task core.tasks t (record old { turn = Free; unplaced = b })) placed in
      given i t turn may.has may.leaves old known.is
      (subst (TaskEvent nodes core) same
      (GiveTurn i t old
      (record {
        is = known.is;
        taken = taken;
        idle = keep.activities i ∙ may.idle;
        children = children_placed i t old known.is taken may.children;
        becomes = becomes core.tasks t old (record old { turn = Free }) known.is;
        links = refl;
      })))

  pub gives_first : (i t : ℕ) (turn : HeldTurn) → MayGiveFirst nodes f.held tree i t turn → IsTaskEvent nodes p lim log (after_giving f i t turn) (after_forgetting tree i t) core
  gives_first i t turn may =
      let known = known_task i t turn may.has in
      let old = known.task in
      let fits : TurnIs f.held t old.turn old.unplaced = keep.tasks.whose t old known.is in
      let first = first_turn (journal_of log) st f.held core.tasks keep.tasks both.floor.fits.rows both.floor.fits.one_holder i t turn old may.has may.first known.is old.turn refl fits in
      let stand : old.unplaced ≡ true → AllStand nodes core.records t old = λ unplaced e has.
      let found = may.placed (sym first.1 ∙ unplaced) e (subst (λ (es : List Effect). Contains es e) known.effects has) in
      (found.0, found.1, (keep.known.fresh_stand i (record { task = t; effect = e; node = found.0 }) found.2).0) in
      given i t turn may.has may.leaves old known.is
      (GiveFirst i t old
      (record {
        is = known.is;
        new = first.0;
        placed = stand;
        becomes = becomes core.tasks t old (record old { turn = Free; unplaced = false }) known.is;
        links = refl;
      }))
