-- What a seat learns of the nodes when it takes a turn, and that it may give the turn again as it was.
use Rattle.std.proofs.Common.{◌≡◌, ◌≢◌, ◌⊎◌, ◌<◌, ◌++◌, ℕ, zero, suc, false, true, List, [], ◌∷◌, length, Some, None, is_some, refl, sym, ap, subst, ◌∙◌, inl, inr, ⊎_elim, arith}
use Rattle.std.specs.Prelude.{Contains}
use Rattle.std.proofs.lemmas.Bool.{cases_eq}
use Rattle.region_paths.specs.declared.elements.Elem.{Elem}
use Rattle.effect_sets.specs.declared.effects.Effect.{Effect}
use Rattle.wait_graph.specs.Waiting.{SpawnedBy}
use Rattle.wait_graph.specs.declared.tasks.Link.{Link}
use Rattle.twe_base.specs.Limits.{Bounds}
use Rattle.twe_program.specs.Program.{Program}
use Rattle.machine_state.specs.declared.state.State as machine
use Rattle.machine_state.specs.declared.state.TaskRow.{TaskRow}
use Rattle.machine_state.specs.declared.state.TaskStatus.{TaskStatus}
use Rattle.machine_state.specs.declared.state.TaskStatus.TheVariants as status
use Rattle.machine_state.specs.Rows.{IsRow}
use Rattle.machine_state.specs.Runs.{state_after}
use Rattle.isolation_laws.proofs.rows.LinksOfRows.{spawned_row}
use Rattle.seg_journal.specs.declared.numbered.NumberedEntry.{NumberedEntry}
use Rattle.seg_journal.specs.Merging.{journal_of}
use Rattle.floor_laws.specs.declared.rule.view.HeldTurn.{HeldTurn}
use Rattle.floor_laws.specs.rule.Fitting.{IsUnheld, RowIs, TurnFits, Turns}
use Rattle.floor_laws.specs.rule.Floors.{Floor, put, put_turn}
use Rattle.floor_laws.specs.rule.Floors as floors
use Rattle.floor_laws.specs.rule.Steps.{after_taking}
use Rattle.floor_laws.proofs.rule.Puts.{none_some, put_all, some_one}
use Rattle.floor_laws.proofs.rule.TurnLemmas.{turn_here}
use Rattle.floor_laws.specs.admission.admission_core.Tasks.{Turn, Taken}
use Rattle.floor_laws.specs.admission.admission_core.States.{State, IsAmong, Record}
use Rattle.floor_laws.specs.rule.nodes.Fitting.{HasTurn, KnowledgeFits, TurnIs}
use Rattle.floor_laws.specs.rule.nodes.Rule.{KeepsBoth, KeepsNodes}
use Rattle.floor_laws.specs.rule.nodes.Taking.{after_taking_up, at_all_nodes, at_nodes, clear_after_taking}
use Rattle.floor_laws.specs.rule.nodes.Trees.{Tree}
use Rattle.floor_laws.specs.rule.nodes.TurnSteps.{HasPlacedChildren, IsClearOf, IsTaskEvent, LeavesNone, MayGiveTaken}
use Rattle.floor_laws.proofs.rule.nodes.KnownTasks.{first_turn, task_of_turn}
use Rattle.floor_laws.proofs.rule.nodes.LockEvents.{invariant, links_agree}
use Rattle.floor_laws.proofs.rule.nodes.TurnEvents.{parent_known, takes}

-- Records of a task at all nodes.

-- each is one of the task
at_nodes_of : (t : ℕ) (e : Effect) (n : ℕ) (r : Record) → IsAmong r (at_nodes t e n) → r.task ≡ t
at_nodes_of t e zero r among = absurd among
at_nodes_of t e (suc n) r (inl same) = ap (λ (x : Record). x.task) same
at_nodes_of t e (suc n) r (inr among) = at_nodes_of t e n r among

among_either : (xs ys : List Record) (r : Record) → IsAmong r (xs ++ ys) → IsAmong r xs ⊎ IsAmong r ys
among_either [] ys r among = inr among
among_either (x ∷ xs) ys r (inl same) = inl (inl same)
among_either (x ∷ xs) ys r (inr among) = ⊎_elim (λ (here : IsAmong r xs). inl (inr here)) (λ (there : IsAmong r ys). inr there) (among_either xs ys r among)

among_left : (xs ys : List Record) (r : Record) → IsAmong r xs → IsAmong r (xs ++ ys)
among_left [] ys r among = absurd among
among_left (x ∷ xs) ys r (inl same) = inl same
among_left (x ∷ xs) ys r (inr among) = inr (among_left xs ys r among)

among_right : (xs ys : List Record) (r : Record) → IsAmong r ys → IsAmong r (xs ++ ys)
among_right [] ys r among = among
among_right (x ∷ xs) ys r among = inr (among_right xs ys r among)

all_nodes_of : (nodes : List (List Elem)) (t : ℕ) (effects : List Effect) (r : Record) → IsAmong r (at_all_nodes nodes t effects) → r.task ≡ t
all_nodes_of nodes t [] r among = absurd among
all_nodes_of nodes t (e ∷ effects) r among =
    ⊎_elim
    (λ (here : IsAmong r (at_nodes t e (length nodes))). at_nodes_of t e (length nodes) r here)
    (λ (rest : IsAmong r (at_all_nodes nodes t effects)). all_nodes_of nodes t effects r rest)
    (among_either (at_nodes t e (length nodes)) (at_all_nodes nodes t effects) r among)

-- the record of each effect is there for each node
abbrev record_of : ℕ → Effect → ℕ → Record
record_of t e n = record { task = t; effect = e; node = n }

among_at : (t : ℕ) (e : Effect) (m n : ℕ) → n < m → IsAmong (record { task = t; effect = e; node = n }) (at_nodes t e m)
among_at t e zero n low = absurd (omega (arith, low))
among_at t e (suc m) n low =
    ⊎_elim (λ (same : n ≡ m). inl (ap (record_of t e) same)) (λ (other : n ≢ m). inr (among_at t e m n (omega (arith, low, other)))) (cases_eq n m)

among_all : (nodes : List (List Elem)) (t : ℕ) (effects : List Effect) (e : Effect) (n : ℕ) → n < length nodes → Contains effects e
    → IsAmong (record { task = t; effect = e; node = n }) (at_all_nodes nodes t effects)
among_all nodes t [] e n low (k, below, is) = absurd (omega (arith, below))
among_all nodes t (x ∷ effects) e n low (zero, below, is) =
    subst (λ (y : Effect). IsAmong (record { task = t; effect = e; node = n }) (at_nodes t y (length nodes) ++ at_all_nodes nodes t effects)) (sym is)
    (among_left (at_nodes t e (length nodes)) (at_all_nodes nodes t effects) (record_of t e n) (among_at t e (length nodes) n low))
among_all nodes t (x ∷ effects) e n low (suc k, below, is) =
    among_right (at_nodes t x (length nodes)) (at_all_nodes nodes t effects) (record_of t e n) (among_all nodes t effects e n low (k, omega (arith, below), is))

-- Whatever the status of a task, a seat that has learned this leaves none of its records.
all_leave_none : (nodes : List (List Elem)) (tree : Tree) (i t : ℕ) (effects : List Effect) (clear : List Record) → tree.clear i ≡ at_all_nodes nodes t effects ++ clear → IsClearOf nodes tree i t effects
all_leave_none nodes tree i t effects clear is e n has place =
    subst (IsAmong (record { task = t; effect = e; node = n })) (sym is)
    (among_left (at_all_nodes nodes t effects) clear (record_of t e n) (among_all nodes t effects e n place.there has))

leaves_as_taken : (nodes : List (List Elem)) (tree : Tree) (i t : ℕ) (effects : List Effect) (is : TaskStatus) (clear : List Record) → ((r : Record) → IsAmong r (tree.fresh i) → r.task ≢ t)
    → tree.clear i ≡ clear_after_taking nodes t is effects clear → LeavesNone nodes tree i t effects is
leaves_as_taken nodes tree i t effects status.Made clear none same = none
leaves_as_taken nodes tree i t effects status.Enabled clear none same = tt
leaves_as_taken nodes tree i t effects status.Done clear none same = all_leave_none nodes tree i t effects clear same
leaves_as_taken nodes tree i t effects status.Faulted clear none same = all_leave_none nodes tree i t effects clear same

pub given_as_taken : (nodes : List (List Elem)) (turns : Turns) (tree : Tree) (i t : ℕ) (turn : HeldTurn) (clear : List Record) → turns i t ≡ Some turn → turn.first ≡ false → tree.activities i ≡ None
    → HasPlacedChildren turns i t → ((r : Record) → IsAmong r (tree.fresh i) → r.task ≢ t) → tree.clear i ≡ clear_after_taking nodes t turn.row.status turn.row.effects.effects clear → MayGiveTaken nodes turns tree i t turn
given_as_taken nodes turns tree i t turn clear has taken idle children none same = record {
  has = has;
  taken = taken;
  idle = idle;
  children = children;
  leaves = leaves_as_taken nodes tree i t turn.row.effects.effects turn.row.status clear none same;
}

module _ (nodes : List (List Elem)) (p : Program) (lim : Bounds) (log : List NumberedEntry) (f : Floor) (tree : Tree) (core : State)
    (both : KeepsBoth nodes p lim log f tree core) where
  abbrev st : machine.State
  st = state_after p lim (journal_of log)

  abbrev keep : KeepsNodes nodes p lim log f tree core
  keep = both.nodes_keep

  module _ (i t : ℕ) (free : f.turns t ≡ floors.Free) where
    unheld : IsUnheld f.held t
    unheld = (subst (TurnFits st f.held f.workers t) free (both.floor.fits.turns t)).1

    not_held : (j u : ℕ) → u ≡ t → HasTurn f.held j u → ⊥
    not_held j u same has = none_some (sym (unheld j) ∙ subst (λ (n : ℕ). f.held j n ≡ Some has.0) same has.1)

    pub none_fresh : (r : Record) → IsAmong r (tree.fresh i) → r.task ≢ t
    none_fresh r among same = not_held i r.task same (keep.known.fresh_stand i r among).1

    -- a spawned child that is not placed has a parent whose turn is taken
    pub children_placed_free : HasPlacedChildren f.held i t
    children_placed_free c child has first parent =
        let known = task_of_turn (journal_of log) st f.held core.tasks keep.tasks both.floor.fits.rows both.floor.fits.one_holder i c child has in
        let old = known.task in
        let fits : TurnIs f.held c old.turn old.unplaced = keep.tasks.whose c old known.is in
        let new = first_turn (journal_of log) st f.held core.tasks keep.tasks both.floor.fits.rows both.floor.fits.one_holder i c child old has first known.is old.turn refl fits in
        let unplaced : old.unplaced ≡ true = new.1 ∙ ap is_some parent in
        let born = (invariant nodes p lim log f tree core both).born c old known.is unplaced in
        let row = spawned_row st (links_agree nodes p lim log f tree core both) c born.maker (subst (λ (ls : List Link). SpawnedBy ls c born.maker) keep.tasks.rows.links born.spawned) in
        let maker : born.maker ≡ t = some_one (sym (parent_known nodes p lim log f tree core both i c child has row.0 row.1 (Some born.maker) row.2) ∙ parent) in
        let held : TurnIs f.held born.maker (Taken born.worker) born.parent.unplaced =
        subst (λ (x : Turn). TurnIs f.held born.maker x born.parent.unplaced) born.turns.1 (keep.tasks.whose born.maker born.parent born.is) in
        not_held born.worker born.maker maker (held.0.0, held.0.1)

    none_stands : (row : TaskRow) → IsRow st t row → row.status ≢ status.Enabled → (r : Record) → IsAmong r core.records → r.task ≢ t
    none_stands row there other r among same =
        let own = keep.known.owned r row among (subst (λ (n : ℕ). IsRow st n row) (sym same) there) other in
        not_held own.0 r.task same own.1

    module _ (turn : HeldTurn) (known : RowIs st t turn.row) where
      abbrev after : Turns
      after = put_turn f.held i t (Some turn)

      abbrev IsClear : ℕ → Record → Type 0
      IsClear j r = HasTurn after j r.task × (¬ IsAmong r core.records)

      none_inactive : turn.row.status ≢ status.Enabled → (r : Record) → IsAmong r core.records → r.task ≢ t
      none_inactive other = none_stands known.row known.there (λ enabled. other (sym (ap (λ (x : TaskRow). x.status) known.same) ∙ enabled))

      all_are : (effects : List Effect) → ((r : Record) → IsAmong r core.records → r.task ≢ t) → ((r : Record) → IsAmong r (tree.clear i) → IsClear i r) → (r : Record)
          → IsAmong r (at_all_nodes nodes t effects ++ tree.clear i) → IsClear i r
      all_are effects none old r among =
          ⊎_elim
          (λ (new : IsAmong r (at_all_nodes nodes t effects)).
          let same = all_nodes_of nodes t effects r new in
          (subst (HasTurn after i) (sym same) (turn, turn_here f.held i t (Some turn)), λ stands. none r stands same))
          (λ (more : IsAmong r (tree.clear i)). old r more)
          (among_either (at_all_nodes nodes t effects) (tree.clear i) r among)

      learned : (is : TaskStatus) (effects : List Effect) → (is ≢ status.Enabled → (r : Record) → IsAmong r core.records → r.task ≢ t) → ((r : Record) → IsAmong r (tree.clear i) → IsClear i r)
          → (r : Record) → IsAmong r (clear_after_taking nodes t is effects (tree.clear i)) → IsClear i r
      learned status.Made effects none old = all_are effects (none (λ h. cc (h))) old
      learned status.Enabled effects none old = old
      learned status.Done effects none old = all_are effects (none (λ h. cc (h))) old
      learned status.Faulted effects none old = all_are effects (none (λ h. cc (h))) old

      knows_clear : KnowledgeFits st after core.records tree.fresh tree.clear tree.waits
          → KnowledgeFits st after core.records tree.fresh (put tree.clear i (clear_after_taking nodes t turn.row.status turn.row.effects.effects (tree.clear i))) tree.waits
      knows_clear old = record {
        owned = old.owned;
        first_fresh = old.first_fresh;
        fresh_stand = old.fresh_stand;
        clear_are = put_all (λ (j : ℕ) (records : List Record). (r : Record) → IsAmong r records → IsClear j r) tree.clear i
            (clear_after_taking nodes t turn.row.status turn.row.effects.effects (tree.clear i)) (learned turn.row.status turn.row.effects.effects none_inactive (old.clear_are i))
            (λ j differ. old.clear_are j);
        waits_hold = old.waits_hold;
      }

      pub takes_clear : turn.first ≡ false → IsTaskEvent nodes p lim log (after_taking f i t turn) (after_taking_up nodes tree i t turn.row) core
      takes_clear taken = by (takes nodes p lim log f tree core both i t turn free taken)
        where
          by : IsTaskEvent nodes p lim log (after_taking f i t turn) tree core → IsTaskEvent nodes p lim log (after_taking f i t turn) (after_taking_up nodes tree i t turn.row) core
          by (tasks, event, after_keep) = (
            tasks,
            event,
            record {
              reached = after_keep.reached;
              tasks = after_keep.tasks;
              activities = after_keep.activities;
              locks = after_keep.locks;
              contents = after_keep.contents;
              records = after_keep.records;
              known = knows_clear after_keep.known;
            },
          )
