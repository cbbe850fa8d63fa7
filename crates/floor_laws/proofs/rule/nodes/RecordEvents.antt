-- The steps on records are events of the core, and keep the rule.
use Rattle.std.proofs.Common.{◌≡◌, ℕ, true, List, [], ◌∷◌, Some, refl, sym, ap, subst, ◌∙◌, inl, inr, ⊎_elim}
use Rattle.std.specs.Prelude.{Contains}
use Rattle.region_paths.specs.declared.elements.Elem.{Elem}
use Rattle.effect_sets.specs.declared.effects.Effect.{Effect}
use Rattle.twe_base.specs.Limits.{Bounds}
use Rattle.twe_program.specs.Program.{Program}
use Rattle.machine_state.specs.declared.state.State as machine
use Rattle.machine_state.specs.Runs.{state_after}
use Rattle.seg_journal.specs.declared.numbered.NumberedEntry.{NumberedEntry}
use Rattle.seg_journal.specs.Merging.{journal_of}
use Rattle.floor_laws.specs.rule.Floors.{Floor, put}
use Rattle.floor_laws.specs.admission.admission_core.Tasks.{Task, Turn, IsLive, New, Taken}
use Rattle.floor_laws.specs.admission.admission_core.Tasks as tasks
use Rattle.floor_laws.specs.admission.admission_core.States.{State, Activity, HoldsNode, IsAmong, Record, Purpose, Admit, Stage, Walks, Leaves, held, with_stage}
use Rattle.floor_laws.specs.admission.admission_core.Events.{MayBegin, MayRemove, TreeEvent, Place, PlaceChild, TakeOut}
use Rattle.floor_laws.specs.admission.admission_core.Rule.{in_tree}
use Rattle.floor_laws.proofs.admission.admission_core.Invariant.{IsMine}
use Rattle.floor_laws.specs.rule.nodes.Fitting.{AreRecordsAt, ContentsFit, HasTurn, KeptFits, LocksFit}
use Rattle.floor_laws.specs.rule.nodes.LockSteps.{stopped}
use Rattle.floor_laws.specs.rule.nodes.RecordSteps.{IsWithout, MayPlace, MayPlaceChild, MayTakeOut, after_placing, after_removing, record_here}
use Rattle.floor_laws.specs.rule.nodes.Rule.{IsOneEvent, KeepsBoth, KeepsNodes}
use Rattle.floor_laws.specs.rule.nodes.Trees.{Tree}
use Rattle.floor_laws.proofs.rule.nodes.Counts.{counts_placed, counts_removed}
use Rattle.floor_laws.proofs.rule.nodes.Holding.{held_before, holds_here}
use Rattle.floor_laws.proofs.rule.nodes.KnownTasks.{first_turn, has_taken, made_or_dead, taken_turn, task_of_turn}
use Rattle.floor_laws.proofs.rule.nodes.Lists.{TakenOut, take_out, taken_distinct, taken_without}
use Rattle.floor_laws.proofs.rule.nodes.LockEvents.{active_core, activities_put, all_pass, alone, holds_all, invariant, once_held}
use Rattle.floor_laws.proofs.rule.nodes.Locking.{contents_same, locks_same}
use Rattle.floor_laws.proofs.rule.nodes.Records.{at_placed, at_removed, contents_changed, else_placed, else_removed, known_placed, known_removed}

module _ (nodes : List (List Elem)) (p : Program) (lim : Bounds) (log : List NumberedEntry) (f : Floor) (tree : Tree) (core : State)
    (both : KeepsBoth nodes p lim log f tree core) where
  abbrev st : machine.State
  st = state_after p lim (journal_of log)

  abbrev keep : KeepsNodes nodes p lim log f tree core
  keep = both.nodes_keep

  abbrev leaving : State → List Record → ℕ → Activity → State
  leaving s records i a = with_stage (record s { records = records }) i a (Leaves (held a.stage))

  module _ (i : ℕ) (a : Activity) (active : tree.activities i ≡ Some a) where
    locks_left : LocksFit f.workers (put tree.activities i (Some (stopped a))) tree.locks
    locks_left =
        locks_same f.workers tree.activities tree.locks tree.contents tree.kept core.records keep.locks keep.contents i (stopped a)
        (λ n. (holds_all nodes p lim log f tree core both i a (held a.stage) active refl n).0)
        (λ n. (holds_all nodes p lim log f tree core both i a (held a.stage) active refl n).1)
        (once_held nodes p lim log f tree core both i a (held a.stage) active refl)

    contents_left : ContentsFit core.records (put tree.activities i (Some (stopped a))) tree.contents tree.kept
    contents_left =
        contents_same f.workers tree.activities tree.locks tree.contents tree.kept core.records keep.locks keep.contents i (stopped a)
        (λ n. (holds_all nodes p lim log f tree core both i a (held a.stage) active refl n).0)
        (λ n. (holds_all nodes p lim log f tree core both i a (held a.stage) active refl n).1)
        (once_held nodes p lim log f tree core both i a (held a.stage) active refl)

    kept_at : (n : ℕ) (content : List Record) → tree.kept i n ≡ Some content → HoldsNode tree.activities i n × AreRecordsAt core.records n content
    kept_at n content has = subst (KeptFits core.records tree.activities i n) has (keep.contents.out i n)

    -- whoever holds the node once seat i has stopped is seat i
    alone_left : (n : ℕ) → HoldsNode (put tree.activities i (Some (stopped a))) i n → HoldsNode tree.activities i n
        → (j : ℕ) → HoldsNode (put tree.activities i (Some (stopped a))) j n → j ≡ i
    alone_left n own holds j h =
        alone nodes p lim log f tree core both i n holds j
        (held_before tree.activities i (stopped a) n (λ among. holds) j h)

    still_held : (n : ℕ) → HoldsNode tree.activities i n → HoldsNode (put tree.activities i (Some (stopped a))) i n
    still_held n holds =
        holds_here tree.activities i (stopped a) n ((holds_all nodes p lim log f tree core both i a (held a.stage) active refl n).0 holds)

    -- A record was placed.
    placed : (r : Record) (content : List Record) → tree.kept i r.node ≡ Some content → ¬ IsAmong r content → HasTurn f.held i r.task
        → TreeEvent nodes core (leaving core (r ∷ core.records) i a) → IsOneEvent nodes p lim log f core (after_placing tree i a r content)
    placed r content has missing turn event =
        let old = kept_at r.node content has in (
          leaving core (r ∷ core.records) i a,
          event,
          record {
            reached = in_tree keep.reached event;
            tasks = keep.tasks;
            activities = activities_put nodes p lim log f tree core both i (Some (stopped a));
            locks = locks_left;
            contents =
                contents_changed (put tree.activities i (Some (stopped a))) tree.contents tree.kept core.records (r ∷ core.records) contents_left i r.node (r ∷ content)
                (still_held r.node old.0) (alone_left r.node (still_held r.node old.0) old.0) (else_placed core.records r) (at_placed core.records content r old.1);
            records = record {
              once = (λ among. missing ((old.1 r).1 (among, refl)), keep.records.once);
              counts = counts_placed core.records tree.placed tree.removed keep.records.counts i r;
            };
            known = known_placed st f.held both.floor.fits.one_holder core.records tree.fresh tree.clear tree.waits keep.known i r turn;
          },
        )

    -- A record was removed.
    removed : (r : Record) (before content fresh left : List Record) → tree.kept i r.node ≡ Some before → IsWithout r before content
        → IsWithout r (tree.fresh i) fresh → HasTurn f.held i r.task → TakenOut r core.records left
        → TreeEvent nodes core (leaving core left i a) → IsOneEvent nodes p lim log f core (after_removing tree i a r content fresh)
    removed r before content fresh left has others fresh_others turn out event =
        let old = kept_at r.node before has in
        let without : IsWithout r core.records left = taken_without out keep.records.once in (
          leaving core left i a,
          event,
          record {
            reached = in_tree keep.reached event;
            tasks = keep.tasks;
            activities = activities_put nodes p lim log f tree core both i (Some (stopped a));
            locks = locks_left;
            contents =
                contents_changed (put tree.activities i (Some (stopped a))) tree.contents tree.kept core.records left contents_left i r.node content
                (still_held r.node old.0) (alone_left r.node (still_held r.node old.0) old.0) (else_removed core.records left r without)
                (at_removed core.records left before content r old.1 without others);
            records = record {
              once = taken_distinct out keep.records.once;
              counts = counts_removed core.records tree.placed tree.removed keep.records.counts i r left out;
            };
            known = known_removed st f.held both.floor.fits.one_holder core.records tree.fresh tree.clear tree.waits keep.known i r turn left fresh without fresh_others;
          },
        )

  -- The events.

  mine_of : (i : ℕ) (a : Activity) (t : ℕ) (e : Effect) (done : List ℕ) → tree.activities i ≡ Some a → a.purpose ≡ Admit t e → a.stage ≡ Walks (a.place ∷ []) done
      → MayBegin core.tasks i (Admit t e)
  mine_of i a t e done active purpose stage =
      let going = (invariant nodes p lim log f tree core both).going i a (active_core nodes p lim log f tree core both i a active) in
      let mine : MayBegin core.tasks i a.purpose = subst (λ (s : Stage). IsMine core.tasks i a.purpose s) stage going.mine in
      subst (λ (x : Purpose). MayBegin core.tasks i x) purpose mine

  pub placing : (i : ℕ) (a : Activity) (t : ℕ) (e : Effect) (done : List ℕ) (content : List Record) → MayPlace nodes tree i a t e done content
      → IsOneEvent nodes p lim log f core (after_placing tree i a (record_here t e a) content)
  placing i a t e done content may =
      let mine = mine_of i a t e done may.active may.purpose may.stage in
      let begin : MayBegin core.tasks i a.purpose = subst (λ (x : Purpose). MayBegin core.tasks i x) (sym may.purpose) mine in
      placed i a may.active (record_here t e a) content may.has may.missing
      (has_taken (journal_of log) st f.held core.tasks keep.tasks both.floor.fits.rows both.floor.fits.one_holder i t mine.0 mine.1 mine.3)
      (Place i a t e done
      (record {
        active = active_core nodes p lim log f tree core both i a may.active;
        purpose = may.purpose;
        stage = may.stage;
        pass = all_pass nodes p lim log f tree core both i a.purpose a.place content begin may.has may.pass;
        below = may.below;
      })
      refl)

  pub placing_child : (i : ℕ) (a : Activity) (c : ℕ) (e : Effect) (done : List ℕ) (content : List Record) → MayPlaceChild f.held tree i a c e done content
      → IsOneEvent nodes p lim log f core (after_placing tree i a (record_here c e a) content)
  placing_child i a c e done content may =
      let rows = both.floor.fits.rows in
      let one = both.floor.fits.one_holder in
      let child = task_of_turn (journal_of log) st f.held core.tasks keep.tasks rows one i c may.turn may.holds in
      let first = first_turn (journal_of log) st f.held core.tasks keep.tasks rows one i c may.turn child.task may.holds may.first child.is child.task.turn refl (keep.tasks.whose c child.task child.is) in
      let unplaced : child.task.unplaced ≡ true = first.1 ∙ may.spawned in
      let born = (invariant nodes p lim log f tree core both).born c child.task child.is unplaced in
      let worker : born.worker ≡ i = new_one (sym born.turns.0 ∙ first.0) in
      placed i a may.active (record_here c e a) content may.has may.missing (may.turn, may.holds)
      (PlaceChild i a c e done
      (record {
        active = active_core nodes p lim log f tree core both i a may.active;
        purpose = may.purpose;
        stage = may.stage;
        child = (child.task, child.is, subst (λ (es : List Effect). Contains es e) (sym child.effects) may.effect, unplaced, first.0);
        parent = (born.maker, born.spawned, (born.parent, born.is, born.turns.1 ∙ ap Taken worker));
      })
      refl)
    where
      new_one : {v w : ℕ} → New v ≡ New w → v ≡ w
      new_one h = cc

  pub taking_out : (i : ℕ) (a : Activity) (t : ℕ) (e : Effect) (done : List ℕ) (before content fresh : List Record) → MayTakeOut f.held tree i a t e done before content fresh
      → IsOneEvent nodes p lim log f core (after_removing tree i a (record_here t e a) content fresh)
  taking_out i a t e done before content fresh may =
      let rows = both.floor.fits.rows in
      let one = both.floor.fits.one_holder in
      let known = task_of_turn (journal_of log) st f.held core.tasks keep.tasks rows one i t may.turn may.holds in
      let turn = taken_turn (journal_of log) st f.held core.tasks keep.tasks rows one i t may.turn known.task may.holds may.taken known.is known.task.turn refl (keep.tasks.whose t known.task known.is) in
      let may_remove : MayRemove core.tasks i t =
      ⊎_elim
      (λ (made : known.task.status ≡ tasks.Made). inr (known.task, known.is, made, turn))
      (λ (dead : ¬ IsLive core.tasks t). inl dead)
      (made_or_dead core.tasks t known.task may.turn.row.status known.is known.status_is may.inactive) in
      let stands : IsAmong (record_here t e a) core.records = (((kept_at i a may.active a.place before may.has).1 (record_here t e a)).0 may.there).0 in
      let out = take_out (record_here t e a) core.records stands in
      removed i a may.active (record_here t e a) before content fresh out.0 may.has may.others may.fresh_others (may.turn, may.holds) out.1
      (TakeOut i a t e done out.0
      (record {
        active = active_core nodes p lim log f tree core both i a may.active;
        purpose = may.purpose;
        stage = may.stage;
        task = may_remove;
        others = taken_without out.1 keep.records.once;
      })
      refl)
