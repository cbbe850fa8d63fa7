-- What seats learn keeps the rule, and what they know licenses an admission.
use Rattle.std.proofs.Common.{refl, ◌≡◌, ◌≢◌, ℕ, List, ◌∷◌, Some, sym, ap, subst, ◌∙◌, inl, inr, ⊎_elim, ◌+◌, ◌<◌, length, arith}
use Rattle.std.specs.Prelude.{Contains}
use Rattle.region_paths.specs.declared.elements.Elem.{Elem}
use Rattle.effect_sets.specs.declared.effects.Effect.{Effect}
use Rattle.effect_sets.specs.Interference.{SomeInterfere}
use Rattle.twe_base.specs.Limits.{Bounds}
use Rattle.twe_program.specs.Program.{Program}
use Rattle.wait_graph.specs.declared.tasks.Link.{Link}
use Rattle.wait_graph.specs.Chain.{none}
use Rattle.wait_graph.specs.Link.{link_of}
use Rattle.wait_graph.specs.Waiting.{WaitsOn, WaitsOnUnlessDone, YieldsTo}
use Rattle.wait_graph.proofs.WaitingLemmas.{WaitsOnUnlessDone-push}
use Rattle.machine_state.specs.declared.state.State as machine
use Rattle.machine_state.specs.declared.state.TaskRow.{TaskRow}
use Rattle.machine_state.specs.declared.state.TaskStatus.TheVariants as status
use Rattle.machine_state.specs.Legal.{Interfere, MayAdmit}
use Rattle.machine_state.specs.Rows.{HasStatus, IsRow}
use Rattle.machine_state.specs.Runs.{state_after}
use Rattle.machine_state.proofs.links.LinksAgree.{reached_linked}
use Rattle.std.proofs.lemmas.Option.{slice_get_within}
use Rattle.isolation_laws.proofs.rows.LinksOfRows.{enabled_undone, link_there}
use Rattle.seg_journal.specs.declared.numbered.NumberedEntry.{NumberedEntry}
use Rattle.seg_journal.specs.Merging.{journal_of}
use Rattle.floor_laws.specs.declared.rule.view.Phase.TheVariants.{Waits}
use Rattle.floor_laws.specs.rule.Fitting.{PhaseFits, PhaseWaitsAt}
use Rattle.floor_laws.specs.rule.Floors.{Floor, put}
use Rattle.floor_laws.proofs.rule.Puts.{put_all}
use Rattle.floor_laws.specs.admission.admission_core.Tasks as tasks
use Rattle.floor_laws.specs.admission.admission_core.States.{State, IsAmong, Record}
use Rattle.floor_laws.specs.admission.admission_core.Entries.{AllStand}
use Rattle.floor_laws.proofs.admission.admission_core.AdmissionLemmas.{may_be_admitted}
use Rattle.floor_laws.specs.admission.TasksOf.{status_of}
use Rattle.floor_laws.specs.rule.nodes.Fitting.{HasTurn, IsPlaced, KeptFits, KnowledgeFits}
use Rattle.floor_laws.specs.rule.nodes.FactSteps.{FindsClear, HasPlacedAll, IsKnownToWait, after_finding_clear, after_following}
use Rattle.floor_laws.specs.rule.nodes.Rule.{KeepsBoth, KeepsNodes}
use Rattle.floor_laws.specs.rule.nodes.Trees.{Tree, WaitFact}
use Rattle.floor_laws.proofs.rule.nodes.KnownTasks.{row_of, task_of_row, task_of_turn}
use Rattle.floor_laws.proofs.rule.nodes.LockEvents.{invariant, links_agree}

module _ (nodes : List (List Elem)) (p : Program) (lim : Bounds) (log : List NumberedEntry) (f : Floor) (tree : Tree) (core : State)
    (both : KeepsBoth nodes p lim log f tree core) where
  abbrev st : machine.State
  st = state_after p lim (journal_of log)

  abbrev keep : KeepsNodes nodes p lim log f tree core
  keep = both.nodes_keep

  -- What is known changes alone.
  knows : (fresh : ℕ → List Record) (clear : ℕ → List Record) (waits : ℕ → List WaitFact) → KnowledgeFits st f.held core.records fresh clear waits
      → KeepsNodes nodes p lim log f (record tree { fresh = fresh; clear = clear; waits = waits }) core
  knows fresh clear waits fits = record {
    reached = keep.reached;
    tasks = keep.tasks;
    activities = keep.activities;
    locks = keep.locks;
    contents = keep.contents;
    records = keep.records;
    known = fits;
  }

  -- A record that stands.

  pub stands_placed : (r : Record) → IsAmong r core.records → IsPlaced nodes (state_after p lim (journal_of log)) r
  stands_placed r among =
      let home = (invariant nodes p lim log f tree core both).home r among in
      let row = row_of (journal_of log) st f.held core.tasks keep.tasks r.task home.task.0 home.task.1 in
      record {
        place = home.place;
        row = row.row;
        there = row.there;
        effect = subst (λ (es : List Effect). Contains es r.effect) row.effects home.task.2;
      }

  -- no record of the task that is made next was placed
  pub next_unplaced : (i : ℕ) (r : Record) → f.asked + 1 < lim.tasks → IsAmong r (tree.fresh i) → r.task ≢ f.asked + 1
  next_unplaced i r few among same =
      let placed = stands_placed r (keep.known.fresh_stand i r among).0 in
      let made : r.task < length st.tasks = slice_get_within st.tasks r.task placed.row placed.there in
      let asked : f.asked ≡ st.asked = both.floor.fits.asked in
      let small : st.asked + 1 < lim.tasks = subst (λ (n : ℕ). n + 1 < lim.tasks) asked few in
      let number = (reached_linked p lim st (record { journal = journal_of log; legal = both.floor.legal; same = refl })).number small in
      omega (arith, made, asked, number, same)

  -- A record is not found.

  abbrev IsClear : ℕ → Record → Type 0
  IsClear j r = HasTurn f.held j r.task × (¬ IsAmong r core.records)

  pub finding_clear : (i : ℕ) (r : Record) → FindsClear f.held tree i r → KeepsNodes nodes p lim log f (after_finding_clear tree i r) core
  finding_clear i r finds =
      let fits = subst (KeptFits core.records tree.activities i r.node) finds.has (keep.contents.out i r.node) in
      let new : IsClear i r = (finds.turn, λ stands. finds.none ((fits.1 r).1 (stands, refl))) in
      knows tree.fresh (put tree.clear i (r ∷ tree.clear i)) tree.waits
      (record {
        owned = keep.known.owned;
        first_fresh = keep.known.first_fresh;
        fresh_stand = keep.known.fresh_stand;
        clear_are = put_all (λ (j : ℕ) (records : List Record). (x : Record) → IsAmong x records → IsClear j x) tree.clear i (r ∷ tree.clear i)
            (λ x among.
            ⊎_elim
            (λ (is : x ≡ r). subst (IsClear i) (sym is) new)
            (λ (rest : IsAmong x (tree.clear i)). keep.known.clear_are i x rest)
            among)
            (λ j other. keep.known.clear_are j);
        waits_hold = keep.known.waits_hold;
      })

  -- A wait is followed.

  abbrev Holds : WaitFact → Type 0
  Holds fact = WaitsOnUnlessDone (state_after p lim (journal_of log)).links fact.waiter fact.awaited

  known_wait : (i s u : ℕ) → IsKnownToWait (tree.waits i) s u → WaitsOnUnlessDone (state_after p lim (journal_of log)).links s u
  known_wait i s u (inl same) = inl (subst (λ (x : ℕ). WaitsOn st.links s x) same none)
  known_wait i s u (inr among) = keep.known.waits_hold i (record { waiter = s; awaited = u }) among

  pub following : (i s u v : ℕ) → IsKnownToWait (tree.waits i) s u → f.phases u ≡ Waits v → KeepsNodes nodes p lim log f (after_following tree i s v) core
  following i s u v known phase =
      let at : PhaseWaitsAt st u v = subst (PhaseFits st u) phase (both.floor.fits.phases u) in
      let agree = links_agree nodes p lim log f tree core both in
      let undone = enabled_undone st agree u (at.row, at.there, at.enabled) in
      let waits : (link_of st.links u).waits ≡ Some v = ap (λ (l : Link). l.waits) (link_there st agree u at.row at.there) ∙ at.on in
      let new : Holds (record { waiter = s; awaited = v }) = WaitsOnUnlessDone-push (known_wait i s u known) undone waits in
      knows tree.fresh tree.clear (put tree.waits i (record { waiter = s; awaited = v } ∷ tree.waits i))
      (record {
        owned = keep.known.owned;
        first_fresh = keep.known.first_fresh;
        fresh_stand = keep.known.fresh_stand;
        clear_are = keep.known.clear_are;
        waits_hold = put_all (λ (j : ℕ) (facts : List WaitFact). (fact : WaitFact) → IsAmong fact facts → Holds fact) tree.waits i (record { waiter = s; awaited = v } ∷ tree.waits i)
            (λ fact among.
            ⊎_elim
            (λ (is : fact ≡ record { waiter = s; awaited = v }). subst Holds (sym is) new)
            (λ (rest : IsAmong fact (tree.waits i)). keep.known.waits_hold i fact rest)
            among)
            (λ j other. keep.known.waits_hold j);
      })

  -- A task all of whose records are placed.

  made_row : (t : ℕ) (row : TaskRow) → IsRow st t row → row.status ≡ status.Made → HasStatus (state_after p lim (journal_of log)) t status.Made
  made_row t row there made = (row, there, made)

  -- the core's tasks interfere if their rows do
  interfere_core : (s t : ℕ) → Interfere (state_after p lim (journal_of log)) s t → tasks.TasksInterfere core.tasks s t
  interfere_core s t i =
      let first = task_of_row (journal_of log) st f.held core.tasks keep.tasks s i.0 i.2 in
      let second = task_of_row (journal_of log) st f.held core.tasks keep.tasks t i.1 i.3 in (
        first.task,
        second.task,
        first.is,
        second.is,
        subst (λ (es : List Effect). SomeInterfere first.task.effects es) (sym second.effects)
            (subst (λ (es : List Effect). SomeInterfere es i.1.effects.effects) (sym first.effects) i.4),
      )

  pub admissible : (i t : ℕ) → HasPlacedAll nodes f.held tree i t → MayAdmit (state_after p lim (journal_of log)) t
  admissible i t placed =
      let row = both.floor.fits.rows i t placed.turn placed.has in
      let known = task_of_turn (journal_of log) st f.held core.tasks keep.tasks both.floor.fits.rows both.floor.fits.one_holder i t placed.turn placed.has in
      let stand : AllStand nodes core.records t known.task = λ e has.
      let found = placed.all e (subst (λ (es : List Effect). Contains es e) known.effects has) in
      (found.0, found.1, (keep.known.fresh_stand i (record { task = t; effect = e; node = found.0 }) found.2).0) in
      let yield = may_be_admitted nodes both.paths core (invariant nodes p lim log f tree core both) t known.task known.is (known.status_is ∙ ap status_of placed.made) stand in (
        made_row t row.row row.there (ap (λ (r : TaskRow). r.status) row.same ∙ placed.made),
        λ s other enabled i.
            let task = task_of_row (journal_of log) st f.held core.tasks keep.tasks s enabled.0 enabled.1 in
            subst (λ (ls : List Link). YieldsTo ls s t) keep.tasks.rows.links
            (yield s other (task.task, task.is, task.status_is ∙ ap status_of enabled.2) (interfere_core s t i)),
      )
