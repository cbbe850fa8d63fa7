-- The steps on locks are events of the core, and keep the rule.
use Rattle.std.proofs.Common.{◌≡◌, ◌≢◌, ◌↔◌, ℕ, List, [], ◌∷◌, Option, Some, None, if◌then◌else◌, refl, sym, ap, subst, ◌∙◌, inl, inr, ⊎_elim}
use Rattle.std.specs.Prelude.{◌==◌, Contains}
use Rattle.std.proofs.lemmas.Bool.{cases_eq}
use Rattle.region_paths.specs.declared.elements.Elem.{Elem}
use Rattle.effect_sets.specs.declared.effects.Effect.{Effect}
use Rattle.twe_base.specs.Limits.{Bounds}
use Rattle.twe_program.specs.Program.{Program}
use Rattle.machine_state.specs.declared.state.State as machine
use Rattle.machine_state.specs.Rows.{LinksAgree}
use Rattle.machine_state.specs.Runs.{state_after}
use Rattle.machine_state.proofs.links.LinksAgree.{reached_linked}
use Rattle.seg_journal.specs.declared.numbered.NumberedEntry.{NumberedEntry}
use Rattle.seg_journal.specs.Merging.{journal_of}
use Rattle.floor_laws.specs.rule.Floors.{Floor, put}
use Rattle.floor_laws.proofs.rule.Puts.{none_some}
use Rattle.floor_laws.specs.admission.admission_core.States.{State, Activity, HoldsNode, IsAbove, IsAmong, NodeIsFree, AllPassAt, Record, Purpose, Admit, Child, Remove, Stage, Descends, Steps, Walks, Leaves, held, with_activity}
use Rattle.floor_laws.specs.admission.admission_core.Events.{HasCome, MayBegin, TreeEvent, Begin, Down, Give, WalkDown, WalkUp, PassBy, Bar, GiveBack, End}
use Rattle.floor_laws.proofs.admission.admission_core.EventsKeep.{reached_kept}
use Rattle.floor_laws.proofs.admission.admission_core.Invariant.{IsMine, Kept}
use Rattle.floor_laws.proofs.admission.admission_core.TreeLemmas.{child_toward}
use Rattle.floor_laws.specs.admission.admission_core.Rule.{in_tree}
use Rattle.floor_laws.specs.admission.TasksOf.{status_of}
use Rattle.floor_laws.specs.rule.nodes.Fitting.{ContentFits, IsDistinct, IsUnlocked, KeptFits, LockFits}
use Rattle.floor_laws.specs.rule.nodes.LockSteps.{LocksNode, MayEnter, MayGiveNodeBack, MayGiveParent, MayGoDown, MayPassBy, MaySetOut, MayWalkDown, MayWalkUp, PassesHere, SeesPass, UnlocksNode, after_turning, stopped}
use Rattle.floor_laws.specs.rule.nodes.Rule.{IsOneEvent, KeepsBoth, KeepsNodes}
use Rattle.floor_laws.specs.rule.nodes.Trees.{Tree, Unlocked}
use Rattle.floor_laws.proofs.rule.nodes.Holding.{held_of, home_content, kept_content}
use Rattle.floor_laws.proofs.rule.nodes.KnownTasks.{task_of_turn, taken_turn}
use Rattle.floor_laws.proofs.rule.nodes.Locking.{HoldsAll, contents_idle, contents_locked, contents_same, contents_unlocked, locks_idle, locks_locked, locks_same, locks_unlocked}
use Rattle.floor_laws.proofs.rule.nodes.Passing.{passes_here}

-- a seat that comes to a node holds that one alone
come_held : (place n : ℕ) (stage : Stage) → HasCome place n stage → held stage ≡ n ∷ []
come_held place n stage (inl above) = ap held above.1
come_held place n stage (inr at) = ap held at.1

one_distinct : (n : ℕ) (nodes : List ℕ) → nodes ≡ n ∷ [] → IsDistinct nodes
one_distinct n nodes same = subst IsDistinct (sym same) (λ none. none, tt)

module _ (nodes : List (List Elem)) (p : Program) (lim : Bounds) (log : List NumberedEntry) (f : Floor) (tree : Tree) (core : State)
    (both : KeepsBoth nodes p lim log f tree core) where
  abbrev st : machine.State
  st = state_after p lim (journal_of log)

  abbrev keep : KeepsNodes nodes p lim log f tree core
  keep = both.nodes_keep

  pub invariant : Kept nodes core
  invariant = reached_kept nodes core both.paths both.nodes_keep.reached

  pub links_agree : LinksAgree (state_after p lim (journal_of log))
  links_agree = (reached_linked p lim st (record { journal = journal_of log; legal = both.floor.legal; same = refl })).links

  pub active_core : (i : ℕ) (a : Activity) → tree.activities i ≡ Some a → core.activities i ≡ Some a
  active_core i a active = keep.activities i ∙ active

  holds_core : (i n : ℕ) → HoldsNode tree.activities i n → HoldsNode core.activities i n
  holds_core i n h = (h.0, keep.activities i ∙ h.1, h.2)

  holds_tree : (i n : ℕ) → HoldsNode core.activities i n → HoldsNode tree.activities i n
  holds_tree i n h = (h.0, sym (keep.activities i) ∙ h.1, h.2)

  -- one seat at most holds a node
  pub alone : (i n : ℕ) → HoldsNode tree.activities i n → (j : ℕ) → HoldsNode tree.activities j n → j ≡ i
  alone i n h j k = invariant.owner j i n (holds_core j n k) (holds_core i n h)

  unlocked : (n : ℕ) → tree.locks n ≡ Unlocked → IsUnlocked tree.activities n
  unlocked n free = subst (LockFits f.workers tree.activities n) free (keep.locks.words n)

  free_core : (n : ℕ) → tree.locks n ≡ Unlocked → NodeIsFree core n
  free_core n free i h = unlocked n free i (holds_tree i n h)

  pub activities_put : (i : ℕ) (x : Option Activity) (j : ℕ) → put core.activities i x j ≡ put tree.activities i x j
  activities_put i x j = ap (λ (y : Option Activity). if j == i then x else y) (keep.activities j)

  -- the nodes that a seat that does this holds
  pub holds_all : (i : ℕ) (a : Activity) (before : List ℕ) → tree.activities i ≡ Some a → held a.stage ≡ before → HoldsAll tree.activities i before
  holds_all i a before active same n = (
    λ h. subst (λ (l : List ℕ). IsAmong n l) same (held_of tree.activities i n a active h),
    λ among. (a, active, subst (λ (l : List ℕ). IsAmong n l) (sym same) among),
  )

  pub once_held : (i : ℕ) (a : Activity) (before : List ℕ) → tree.activities i ≡ Some a → held a.stage ≡ before → IsDistinct before
  once_held i a before active same = subst IsDistinct same (keep.locks.once i a active)

  mine_at : (i : ℕ) (a : Activity) (stage : Stage) → tree.activities i ≡ Some a → a.stage ≡ stage → IsMine core.tasks i a.purpose stage
  mine_at i a stage active same = subst (λ (s : Stage). IsMine core.tasks i a.purpose s) same (invariant.going i a (active_core i a active)).mine

  -- the records of a node pass in the core, if a seat that has its content knows that each passes
  pub all_pass : (i : ℕ) (purpose : Purpose) (n : ℕ) (content : List Record) → MayBegin core.tasks i purpose → tree.kept i n ≡ Some content
      → ((r : Record) → IsAmong r content → PassesHere (tree.waits i) purpose r) → AllPassAt core purpose n
  all_pass i purpose n content mine has pass r among at =
      let fits = subst (KeptFits core.records tree.activities i n) has (keep.contents.out i n) in
      passes_here (journal_of log) st f.held core.tasks keep.tasks links_agree (tree.waits i) (keep.known.waits_hold i) i purpose r mine
      (pass r ((fits.1 r).1 (among, at)))

  sees_pass : (i : ℕ) (purpose : Purpose) (n : ℕ) → MayBegin core.tasks i purpose → SeesPass tree i purpose n → AllPassAt core purpose n
  sees_pass i purpose n mine sees = all_pass i purpose n sees.records mine sees.has sees.pass

  may_begin : (i : ℕ) (purpose : Purpose) → MaySetOut f.held i purpose → MayBegin core.tasks i purpose
  may_begin i (Admit t e) may =
      let known = task_of_turn (journal_of log) st f.held core.tasks keep.tasks both.floor.fits.rows both.floor.fits.one_holder i t may.turn may.has in
      let turn = taken_turn (journal_of log) st f.held core.tasks keep.tasks both.floor.fits.rows both.floor.fits.one_holder i t may.turn known.task may.has may.taken known.is
      known.task.turn refl (keep.tasks.whose t known.task known.is) in (
        known.task,
        known.is,
        known.status_is ∙ ap status_of may.made,
        turn,
        subst (λ (es : List Effect). Contains es e) (sym known.effects) may.effect,
      )
  may_begin i (Child t e) may = tt
  may_begin i (Remove t e) may = tt

  -- A node is locked, or unlocked.

  locks : (i n : ℕ) (a : Activity) (before : List ℕ) → tree.locks n ≡ Unlocked → HoldsAll tree.activities i before → IsDistinct before
      → held a.stage ≡ n ∷ before → TreeEvent nodes core (with_activity core i (Some a)) → LocksNode nodes p lim log f tree core i n a
  locks i n a before free old distinct grown event =
      let home = home_content core.records tree.activities n (tree.contents n) (unlocked n free) (keep.contents.homes n) in (
        home.0,
        home.1,
        (
          with_activity core i (Some a),
          event,
          record {
            reached = in_tree keep.reached event;
            tasks = keep.tasks;
            activities = activities_put i (Some a);
            locks = locks_locked f.workers tree.activities tree.locks tree.contents tree.kept core.records keep.locks keep.contents i a n before home.0 free home.2 old grown distinct;
            contents = contents_locked f.workers tree.activities tree.locks tree.contents tree.kept core.records keep.locks keep.contents i a n before home.0 free home.2 old grown distinct;
            records = keep.records;
            known = keep.known;
          },
        ),
      )

  unlocks : (i n : ℕ) (a : Activity) (before : List ℕ) → HoldsAll tree.activities i before → IsAmong n before
      → ((m : ℕ) → IsAmong m (held a.stage) ↔ (IsAmong m before × (m ≢ n))) → IsDistinct (held a.stage)
      → TreeEvent nodes core (with_activity core i (Some a)) → UnlocksNode nodes p lim log f tree core i n a
  unlocks i n a before old among shrunk distinct event =
      let holds = (old n).1 among in
      let home = kept_content core.records tree.activities i n (tree.kept i n) holds (keep.contents.out i n) in (
        home.0,
        home.1,
        (
          with_activity core i (Some a),
          event,
          record {
            reached = in_tree keep.reached event;
            tasks = keep.tasks;
            activities = activities_put i (Some a);
            locks = locks_unlocked f.workers tree.activities tree.locks tree.contents tree.kept core.records keep.locks keep.contents i a n before home.0 holds (alone i n holds) home.2 old shrunk distinct;
            contents = contents_unlocked f.workers tree.activities tree.locks tree.contents tree.kept core.records keep.locks keep.contents i a n before home.0 holds (alone i n holds) home.2 old shrunk distinct;
            records = keep.records;
            known = keep.known;
          },
        ),
      )

  -- the first of the nodes is given, which are held once each
  first_given : (n : ℕ) (others left : List ℕ) → IsDistinct (n ∷ others) → left ≡ others → (m : ℕ) → IsAmong m left ↔ (IsAmong m (n ∷ others) × (m ≢ n))
  first_given n others left distinct same m = (
    λ among.
        let rest = subst (λ (l : List ℕ). IsAmong m l) same among in
        (inr rest, λ is. distinct.0 (subst (λ (x : ℕ). IsAmong x others) is rest)),
    λ pair.
        ⊎_elim
        (λ (is : m ≡ n). absurd (pair.1 is))
        (λ (rest : IsAmong m others). subst (λ (l : List ℕ). IsAmong m l) (sym same) rest)
        pair.0,
  )

  -- of a child and its parent the parent is given
  second_given : (c n : ℕ) (left : List ℕ) → IsDistinct (c ∷ n ∷ []) → left ≡ c ∷ [] → (m : ℕ) → IsAmong m left ↔ (IsAmong m (c ∷ n ∷ []) × (m ≢ n))
  second_given c n left distinct same m = (
    λ among.
        ⊎_elim
        (λ (is : m ≡ c). (inl is, λ (parent : m ≡ n). distinct.0 (inl (sym is ∙ parent))))
        (λ none. absurd none)
        (subst (λ (l : List ℕ). IsAmong m l) same among),
    λ pair.
        subst (λ (l : List ℕ). IsAmong m l) (sym same)
        (⊎_elim
        (λ (is : m ≡ c). inl is)
        (λ (rest : IsAmong m (n ∷ [])). ⊎_elim (λ (is : m ≡ n). absurd (pair.1 is)) (λ none. absurd none) rest)
        pair.0),
  )

  -- The events.

  pub entering : (i : ℕ) (a : Activity) → MayEnter nodes f.held tree i a → tree.locks 0 ≡ Unlocked → LocksNode nodes p lim log f tree core i 0 a
  entering i a may free =
      locks i 0 a [] free
      (λ n. (λ h. none_some (sym may.idle ∙ h.1), λ none. absurd none))
      tt
      (come_held a.place 0 a.stage may.stage)
      (Begin i a
      (record {
        idle = keep.activities i ∙ may.idle;
        free = free_core 0 free;
        task = may_begin i a.purpose may.purpose;
        place = may.place;
        stage = may.stage;
      })
      refl)

  pub going_down : (i : ℕ) (a : Activity) (n c : ℕ) → MayGoDown nodes tree i a n c → tree.locks c ≡ Unlocked → LocksNode nodes p lim log f tree core i c (record a { stage = Steps n c })
  going_down i a n c may free =
      locks i c (record a { stage = Steps n c }) (n ∷ []) free
      (holds_all i a (n ∷ []) may.active (ap held may.stage))
      (once_held i a (n ∷ []) may.active (ap held may.stage))
      refl
      (Down i a n c
      (record {
        active = active_core i a may.active;
        stage = may.stage;
        child = may.child;
        way = may.way;
        free = free_core c free;
        pass = sees_pass i a.purpose n (mine_at i a (Descends n) may.active may.stage) may.pass;
      })
      refl)

  pub walking_down : (i : ℕ) (a : Activity) (t : ℕ) (e : Effect) (n c : ℕ) (stack done : List ℕ) → MayWalkDown nodes tree i a t e n c stack done
      → tree.locks c ≡ Unlocked → LocksNode nodes p lim log f tree core i c (record a { stage = Walks (c ∷ n ∷ stack) done })
  walking_down i a t e n c stack done may free =
      locks i c (record a { stage = Walks (c ∷ n ∷ stack) done }) (n ∷ stack) free
      (holds_all i a (n ∷ stack) may.active (ap held may.stage))
      (once_held i a (n ∷ stack) may.active (ap held may.stage))
      refl
      (WalkDown i a t e n c stack done
      (record {
        active = active_core i a may.active;
        purpose = may.purpose;
        stage = may.stage;
        wild = may.wild;
        child = may.child;
        free = free_core c free;
        unfinished = may.unfinished;
        pass = sees_pass i a.purpose n (mine_at i a (Walks (n ∷ stack) done) may.active may.stage) may.pass;
      })
      refl)

  pub giving_parent : (i : ℕ) (a : Activity) (n c : ℕ) (stage : Stage) → MayGiveParent tree i a n c stage → UnlocksNode nodes p lim log f tree core i n (record a { stage = stage })
  giving_parent i a n c stage may =
      let only : held stage ≡ c ∷ [] = come_held a.place c stage may.come in
      unlocks i n (record a { stage = stage }) (c ∷ n ∷ [])
      (holds_all i a (c ∷ n ∷ []) may.active (ap held may.at))
      (inr (inl refl))
      (second_given c n (held stage) (once_held i a (c ∷ n ∷ []) may.active (ap held may.at)) only)
      (one_distinct c (held stage) only)
      (Give i a n c stage (record { active = active_core i a may.active; at = may.at; come = may.come }) refl)

  pub walking_up : (i : ℕ) (a : Activity) (c n : ℕ) (stack done : List ℕ) → MayWalkUp nodes tree i a c n stack done
      → UnlocksNode nodes p lim log f tree core i c (record a { stage = Walks (n ∷ stack) (c ∷ done) })
  walking_up i a c n stack done may =
      let distinct : IsDistinct (c ∷ n ∷ stack) = once_held i a (c ∷ n ∷ stack) may.active (ap held may.stage) in
      unlocks i c (record a { stage = Walks (n ∷ stack) (c ∷ done) }) (c ∷ n ∷ stack)
      (holds_all i a (c ∷ n ∷ stack) may.active (ap held may.stage))
      (inl refl)
      (first_given c (n ∷ stack) (n ∷ stack) distinct refl)
      distinct.1
      (WalkUp i a c n stack done
      (record {
        active = active_core i a may.active;
        stage = may.stage;
        pass = sees_pass i a.purpose c (mine_at i a (Walks (c ∷ n ∷ stack) done) may.active may.stage) may.pass;
        below = may.below;
      })
      refl)

  pub giving_back : (i : ℕ) (a : Activity) (n : ℕ) (others : List ℕ) → MayGiveNodeBack tree i a n others
      → UnlocksNode nodes p lim log f tree core i n (record a { stage = Leaves others })
  giving_back i a n others may =
      let distinct : IsDistinct (n ∷ others) = once_held i a (n ∷ others) may.active (ap held may.stage) in
      unlocks i n (record a { stage = Leaves others }) (n ∷ others)
      (holds_all i a (n ∷ others) may.active (ap held may.stage))
      (inl refl)
      (first_given n others others distinct refl)
      distinct.1
      (GiveBack i a n others (active_core i a may.active) may.stage refl)

  pub stopping : (i : ℕ) (a : Activity) → tree.activities i ≡ Some a → IsOneEvent nodes p lim log f core (after_turning tree i (Some (stopped a)))
  stopping i a active =
      let event : TreeEvent nodes core (with_activity core i (Some (stopped a))) = Bar i a (active_core i a active) refl in (
        with_activity core i (Some (stopped a)),
        event,
        record {
          reached = in_tree keep.reached event;
          tasks = keep.tasks;
          activities = activities_put i (Some (stopped a));
          locks = locks_same f.workers tree.activities tree.locks tree.contents tree.kept core.records keep.locks keep.contents i (stopped a)
              (λ n. (holds_all i a (held a.stage) active refl n).0) (λ n. (holds_all i a (held a.stage) active refl n).1) (once_held i a (held a.stage) active refl);
          contents = contents_same f.workers tree.activities tree.locks tree.contents tree.kept core.records keep.locks keep.contents i (stopped a)
              (λ n. (holds_all i a (held a.stage) active refl n).0) (λ n. (holds_all i a (held a.stage) active refl n).1) (once_held i a (held a.stage) active refl);
          records = keep.records;
          known = keep.known;
        },
      )

  -- a child without children at which no record lies is passed by
  pub passing_by : (i : ℕ) (a : Activity) (n c : ℕ) (stack done : List ℕ) → MayPassBy nodes tree i a n c stack done → tree.contents c ≡ Some []
      → IsOneEvent nodes p lim log f core (after_turning tree i (Some (record a { stage = Walks (n ∷ stack) (c ∷ done) })))
  passing_by i a n c stack done may empty =
      let next : Activity = record a { stage = Walks (n ∷ stack) (c ∷ done) } in
      let fits = subst (ContentFits core.records tree.activities c) empty (keep.contents.homes c) in
      let only : (m : ℕ) → IsAbove nodes c m → c ≡ m =
      λ m above.
      ⊎_elim
      (λ (same : c ≡ m). same)
      (λ (other : c ≢ m). let down = child_toward nodes both.paths c m (record { above = above; other = other }) in absurd (may.lowest down.0 down.1))
      (cases_eq c m) in
      let event : TreeEvent nodes core (with_activity core i (Some next)) =
      PassBy i a n c stack done
      (record {
        active = active_core i a may.active;
        stage = may.stage;
        child = may.child;
        free = λ m above j holds. fits.0 j (holds_tree j c (subst (λ (x : ℕ). HoldsNode core.activities j x) (sym (only m above)) holds));
        bare = λ r among above. (fits.1 r).1 (among, sym (only r.node above));
      })
      refl in
      let holds = holds_all i a (n ∷ stack) may.active (ap held may.stage) in
      let once = once_held i a (n ∷ stack) may.active (ap held may.stage) in (
        with_activity core i (Some next),
        event,
        record {
          reached = in_tree keep.reached event;
          tasks = keep.tasks;
          activities = activities_put i (Some next);
          locks = locks_same f.workers tree.activities tree.locks tree.contents tree.kept core.records keep.locks keep.contents i next
              (λ m. (holds m).0) (λ m. (holds m).1) once;
          contents = contents_same f.workers tree.activities tree.locks tree.contents tree.kept core.records keep.locks keep.contents i next
              (λ m. (holds m).0) (λ m. (holds m).1) once;
          records = keep.records;
          known = keep.known;
        },
      )

  pub ending : (i : ℕ) (a : Activity) → tree.activities i ≡ Some a → a.stage ≡ Leaves [] → IsOneEvent nodes p lim log f core (after_turning tree i None)
  ending i a active stage =
      let event : TreeEvent nodes core (with_activity core i None) = End i a (active_core i a active) stage refl in
      let nothing : (n : ℕ) → ¬ HoldsNode tree.activities i n = λ n h. absurd ((holds_all i a [] active (ap held stage) n).0 h) in (
        with_activity core i None,
        event,
        record {
          reached = in_tree keep.reached event;
          tasks = keep.tasks;
          activities = activities_put i None;
          locks = locks_idle f.workers tree.activities tree.locks tree.contents tree.kept core.records keep.locks keep.contents i nothing;
          contents = contents_idle f.workers tree.activities tree.locks tree.contents tree.kept core.records keep.locks keep.contents i nothing;
          records = keep.records;
          known = keep.known;
        },
      )
