-- Each condition is a law on the states of runs, read for the tasks as the core knows them.
use Rattle.std.proofs.Common.{◌≡◌, ℕ, Bool, true, false, not, ◌||◌, IsTrue, List, None, refl, sym, ap, subst, ◌∙◌, ◌⊎◌, inl, inr, ⊎_elim}
use Rattle.std.specs.Prelude.{Contains}
use Rattle.std.proofs.lemmas.Bool.{and_from}
use Rattle.region_paths.specs.Inside.{inside}
use Rattle.effect_sets.specs.declared.effects.Effect.{Effect}
use Rattle.effect_sets.specs.Filled.{all_filled}
use Rattle.effect_sets.specs.Covers.{effect_covers}
use Rattle.effect_sets.specs.Interference.{SomeInterfere}
use Rattle.seg_journal.specs.declared.journal.Entry.{Entry}
use Rattle.twe_base.specs.Limits.{Bounds}
use Rattle.twe_program.specs.Program.{Program}
use Rattle.twe_program.specs.WellFormed.{IsWellFormed}
use Rattle.isolation_laws.specs.soundness.KeepsEffects.{KeepsEffects}
use Rattle.wait_graph.specs.declared.tasks.Link.{Link}
use Rattle.wait_graph.specs.Link.{link_of}
use Rattle.wait_graph.specs.Waiting.{SpawnedBy, WaitsFor, WaitsForNobody, YieldsTo}
use Rattle.machine_state.specs.declared.state.State.{State}
use Rattle.machine_state.specs.declared.state.TaskRow.{TaskRow}
use Rattle.machine_state.specs.declared.state.TaskStatus.{TaskStatus}
use Rattle.machine_state.specs.declared.state.TaskStatus.TheVariants as machine
use Rattle.machine_state.specs.Rows.{IsRow}
use Rattle.machine_state.specs.Rows as rows
use Rattle.machine_state.specs.Runs.{IsReached, Legal, state_after}
use Rattle.machine_state.proofs.tasks.Filled.{reached_filled}
use Rattle.isolation_laws.specs.Admission.{EffectInside}
use Rattle.isolation_laws.proofs.journals.Journals.{reached_kept, children_apart}
use Rattle.isolation_laws.proofs.admission.Inside.{children_inside}
use Rattle.isolation_laws.proofs.admission.LastMakers.{last_makers_free}
use Rattle.isolation_laws.proofs.admission.Statuses.{reached_made, reached_parents, reached_waiters}
use Rattle.floor_laws.specs.admission.admission_core.Tasks.{Status, Task, Tasks, IsTask, TaskHasStatus, TasksInterfere}
use Rattle.floor_laws.specs.admission.admission_core.Tasks as core
use Rattle.floor_laws.specs.admission.admission_core.Conditions.{MeetsConditions}
use Rattle.floor_laws.specs.admission.TasksOf.{status_of, AreTasksOf}

writes_if : (e d : Bool) → (e ≡ true → d ≡ true) → (not e || d) ≡ true
writes_if true d h = h refl
writes_if false d h = refl

pub inside_covers : (d e : Effect) → EffectInside d e → IsTrue (effect_covers d e)
inside_covers d e h = and_from (inside e.path d.path) _ h.1 (writes_if e.write d.write h.0)

made_back : (x : TaskStatus) → status_of x ≡ core.Made → x ≡ machine.Made
made_back machine.Made h = refl
made_back machine.Enabled h = absurd (cc)
made_back machine.Done h = absurd (cc)
made_back machine.Faulted h = absurd (cc)

enabled_back : (x : TaskStatus) → status_of x ≡ core.Enabled → x ≡ machine.Enabled
enabled_back machine.Made h = absurd (cc)
enabled_back machine.Enabled h = refl
enabled_back machine.Done h = absurd (cc)
enabled_back machine.Faulted h = absurd (cc)

one_row : (st : State) (t : ℕ) (a b : TaskRow) → IsRow st t a → IsRow st t b → a ≡ b
one_row st t a b is_a is_b = let same = sym is_a ∙ is_b in cc

module _ (p : Program) (wf : IsWellFormed p) (keeps : KeepsEffects p) (lim : Bounds) (journal : List Entry) (legal : Legal p lim journal)
    (ts : Tasks) (of : AreTasksOf journal (state_after p lim journal) ts) where
  abbrev st : State
  st = state_after p lim journal

  reached : IsReached p lim (state_after p lim journal)
  reached = record { journal = journal; legal = legal; same = refl }

  enabled_row : (t : ℕ) → TaskHasStatus ts t core.Enabled → rows.HasStatus st t machine.Enabled
  enabled_row t h = let row = of.row t h.0 h.1 in (row.0, row.1, enabled_back row.0.status (sym row.3 ∙ h.2))

  -- a status of a row is that of its task
  has_status : (t : ℕ) (status : TaskStatus) → rows.HasStatus st t status → TaskHasStatus ts t (status_of status)
  has_status t status h =
      let task = of.task t h.0 h.1 in
      let row = of.row t task.0 task.1 in
      (task.0, task.1, row.3 ∙ ap (λ (x : TaskRow). status_of x.status) (one_row st t row.0 h.0 row.1 h.1) ∙ ap status_of h.2)

  interfere_rows : (s t : ℕ) (i : TasksInterfere ts s t) → (a : TaskRow) × (b : TaskRow) × IsRow st s a × IsRow st t b × SomeInterfere a.effects.effects b.effects.effects
  interfere_rows s t i =
      let a = of.row s i.0 i.2 in
      let b = of.row t i.1 i.3 in
      (a.0, b.0, a.1, b.1, subst (λ (es : List Effect). SomeInterfere a.0.effects.effects es) b.2 (subst (λ (es : List Effect). SomeInterfere es i.1.effects) a.2 i.4))

  pub runs_meet : MeetsConditions ts
  runs_meet = record {
    isolated = λ s t other s_enabled t_enabled i.
        subst (λ (ls : List Link). YieldsTo ls s t ⊎ YieldsTo ls t s) (sym of.links)
        ((reached_kept p wf keeps lim st reached).isolated s t other (enabled_row s s_enabled) (enabled_row t t_enabled) (interfere_rows s t i));
    filled = λ t task is.
        let row = of.row t task is in
        subst (λ (es : List Effect). IsTrue (all_filled es)) (sym row.2) (reached_filled p lim st wf reached t row.0 row.1);
    inside = λ c t child parent is_c is_t spawned e has.
        let a = of.row c child is_c in
        let b = of.row t parent is_t in
        let found = children_inside p wf keeps lim st reached c t a.0 b.0 a.1 b.1 (subst (λ (ls : List Link). SpawnedBy ls c t) of.links spawned) e (subst (λ (es : List Effect). Contains es e) a.2 has) in (
          found.1,
          subst (λ (es : List Effect). Contains es found.1) (sym b.2) (found.0, found.2, found.3),
          inside_covers found.1 e found.4,
        );
    apart = λ c d t other first second i.
        let both = interfere_rows c d i in
        children_apart p wf keeps lim st reached c d t both.0 both.1 other both.2 both.3
        (subst (λ (ls : List Link). SpawnedBy ls c t) of.links first) (subst (λ (ls : List Link). SpawnedBy ls d t) of.links second) both.4;
    waiter = λ s u wait.
        inl (has_status s machine.Enabled (reached_waiters p wf lim st reached s u (subst (λ (ls : List Link). WaitsFor ls s u) of.links wait).waits));
    parent = λ c t spawned.
        ⊎_elim
        (λ (enabled : rows.HasStatus st t machine.Enabled). inl (has_status t machine.Enabled enabled))
        (λ (faulted : rows.HasStatus st t machine.Faulted). inr (has_status t machine.Faulted faulted))
        (reached_parents p wf lim st reached c t (subst (λ (ls : List Link). SpawnedBy ls c t) of.links spawned));
    alone = λ t made.
        let row = of.row t made.0 made.1 in
        subst (λ (ls : List Link). (link_of ls t).parent ≡ None) (sym of.links)
        (reached_made p wf lim st reached t row.0 row.1 (made_back row.0.status (sym row.3 ∙ made.2))).linked_parent;
    maker = λ t c task is makes.
        let row = of.row t task is in
        subst (λ (ls : List Link). WaitsForNobody ls t) (sym of.links) (last_makers_free p wf lim journal legal t c (sym row.4 ∙ makes));
  }
