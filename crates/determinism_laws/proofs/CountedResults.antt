-- The sequential execution of a finished deterministic task made as many tasks as there are below the task.
use Rattle.std.proofs.Common.{◌≡◌, ◌⊎◌, ◌≤◌, ◌<◌, ◌+◌, ◌==◌, ◌||◌, ℕ, ℤ, Bool, true, false, List, [], ◌∷◌, length, inl, inr, refl, sym, ap, ◌∙◌, subst, arith, eq-eqb, eqb-true}
use Rattle.std.specs.List.{list_any}
use Rattle.std.proofs.lemmas.Option.{slice_get_within}
use Rattle.effect_check.proofs.Members.{IsIn, contains-in, in-contains, list_any-in}
use Rattle.seg_journal.specs.declared.journal.Entry.{Entry}
use Rattle.twe_base.specs.Limits.{Bounds}
use Rattle.wait_graph.specs.Chain.{Chain, none, more}
use Rattle.twe_program.specs.Program.{Program}
use Rattle.twe_program.specs.WellFormed.{IsWellFormed}
use Rattle.isolation_laws.specs.soundness.KeepsEffects.{KeepsEffects}
use Rattle.machine_state.specs.declared.state.State.{State}
use Rattle.machine_state.specs.declared.state.TaskRow.{TaskRow}
use Rattle.machine_state.specs.declared.state.TaskStatus.TheVariants.{Done}
use Rattle.machine_state.specs.Rows.{IsRow}
use Rattle.machine_state.specs.Runs.{Legal, state_after}
use Rattle.determinism_laws.specs.declared.elision.progress.Progress.{Progress}
use Rattle.determinism_laws.specs.elision.Elision as elision
use Rattle.determinism_laws.specs.Deterministic.{IsDeterministic}
use Rattle.determinism_laws.specs.Orders.{EachStandsOnce, SegmentAccesses}
use Rattle.determinism_laws.specs.Ranks.{BelowTask, HasParent}
use Rattle.determinism_laws.specs.Segments.{Spawns, state_before}
use Rattle.determinism_laws.specs.numbering.Numberings.{AllDiffer}
use Rattle.determinism_laws.specs.numbering.Played.{ElidesTo}
use Rattle.determinism_laws.specs.theorem.Steps.{AreSpawned, ElidesAsRun, tasks_after}
use Rattle.determinism_laws.proofs.ExecutedOrder.{all_listed}
use Rattle.determinism_laws.proofs.RankExecution.{listed_at}
use Rattle.determinism_laws.proofs.RankLaws.{ancestor, segments_ranked}
use Rattle.determinism_laws.proofs.Spawners.{spawner}
use Rattle.determinism_laws.proofs.results.Results.{HasPlaces, all_between, has_places}
use Rattle.determinism_laws.proofs.results.TaskCount.{spawned_listed}
use Rattle.determinism_laws.proofs.theorem.Elided.{IsElidedBySteps, deterministic_tasks_as_run, elided_by_steps, elided_whole}
use Rattle.determinism_laws.proofs.theorem.FirstSegments.{starts_first}
use Rattle.determinism_laws.proofs.theorem.Numbered.{has_numbering, tasks_counted}
use Rattle.determinism_laws.specs.Counts.{AreTasksBelow, HasCountedResult}

any_here : (a b : Bool) → a ≡ true → (a || b) ≡ true
any_here true b e = refl
any_here false b e = absurd (cc (e))

any_more : (a b : Bool) → b ≡ true → (a || b) ≡ true
any_more true b e = refl
any_more false b e = e

is_in_any : (n : ℕ) (names : List ℕ) → IsIn n names → list_any (λ m. m == n) names ≡ true
is_in_any n [] there = absurd there
is_in_any n (first ∷ others) (inl here) = any_here (first == n) (list_any (λ m. m == n) others) (eq-eqb first n (sym here))
is_in_any n (first ∷ others) (inr later) = any_more (first == n) (list_any (λ m. m == n) others) (is_in_any n others later)

any_is_in : (n : ℕ) (names : List ℕ) → list_any (λ m. m == n) names ≡ true → IsIn n names
any_is_in n names there =
    let found = list_any-in (λ m. m == n) names there in
    subst (λ (k : ℕ). IsIn k names) (eqb-true found.0 n found.2) found.1

once_of : (names : List ℕ) → AllDiffer names → EachStandsOnce names
once_of [] differ = tt
once_of (first ∷ others) differ = ((λ there. differ.0 (is_in_any first others (contains-in others first there))), once_of others differ.1)

first_step : {Step : ℕ → ℕ → Type 0} {a c : ℕ} → Chain Step a c → (a ≡ c) ⊎ ((b : ℕ) × Step a b × Chain Step b c)
first_step none = inl refl
first_step (more {b = b} step rest) = inr (b, step, rest)

one_later : (first second : ℤ) (a b : Progress) → elision.ends first a ≡ elision.ends second b → a ≡ b
one_later first second a b same = cc (same)

module _ (p : Program) (lim : Bounds) (journal : List Entry) where
  -- a task of the list was spawned by one of the segments
  record SpawnedBy (segments : List SegmentAccesses) (c : ℕ) : Type 0 where
    by : SegmentAccesses
    member : IsIn by segments
    parent : ℕ
    spawn : Spawns p lim journal parent by.key c

  by_later : (s : SegmentAccesses) (segments : List SegmentAccesses) (c : ℕ) → SpawnedBy segments c → SpawnedBy (s ∷ segments) c
  by_later s segments c found = record { by = found.by; member = inr found.member; parent = found.parent; spawn = found.spawn }

  spawned_by : (segments : List SegmentAccesses) (children : List ℕ) → AreSpawned p lim journal segments children → (c : ℕ) → IsIn c children → SpawnedBy segments c
  spawned_by [] [] spawned c there = absurd there
  spawned_by [] (name ∷ names) spawned c there = absurd spawned
  spawned_by (s ∷ segments) [] spawned c there = absurd there
  spawned_by (s ∷ segments) (name ∷ names) (inl later) c there = by_later s segments c (spawned_by segments (name ∷ names) later.1 c there)
  spawned_by (s ∷ segments) (name ∷ names) (inr own) c (inl here) =
      record { by = s; member = inl refl; parent = own.0.0; spawn = subst (λ (n : ℕ). Spawns p lim journal own.0.0 s.key n) (sym here) own.0.1 }
  spawned_by (s ∷ segments) (name ∷ names) (inr own) c (inr later) = by_later s segments c (spawned_by segments names own.1 c later)

module _ (p : Program) (wf : IsWellFormed p) (keeps : KeepsEffects p) (lim : Bounds) (some : 1 ≤ lim.tasks) (journal : List Entry) (legal : Legal p lim journal) (t : ℕ) (row : TaskRow)
    (there : IsRow (state_after p lim journal) t row) (done : row.status ≡ Done) (flag : IsDeterministic p row) where
  abbrev final : State
  final = state_after p lim journal

  places : HasPlaces p lim journal t row
  places = has_places p wf keeps lim journal legal t row there done

  module _ (at : HasPlaces p lim journal t row) where
    abbrev from : ℕ
    from = at.enabling + 1

    run : (upto : ℕ) × ElidesAsRun p lim journal t row from at.count row.decl row.args upto
    run = deterministic_tasks_as_run p wf keeps lim journal legal t at.first from at.count row there done flag some at.is_first at.early at.enabled at.ended

    abbrev Steps : Type 0
    Steps = IsElidedBySteps p lim journal t at.first from at.count row row.decl row.args

    steps : Steps
    steps =
        elided_by_steps p wf keeps lim journal legal t at.first from at.count row row.decl row.args there done flag some at.is_first at.early at.enabled at.ended
        (starts_first p wf keeps lim journal legal t at.first at.is_first row there)

    module _ (by : Steps) where
      abbrev children : List ℕ
      children = by.played.children

      whole : ElidesTo p lim row.decl row.args (state_before p lim journal from).cells row.value by.played.steps (tasks_after 1 children)
      whole =
          elided_whole p wf keeps lim journal legal t at.first from at.count row row.decl row.args there done flag some at.is_first at.early at.enabled at.ended
          (starts_first p wf keeps lim journal legal t at.first at.is_first row there) by

      -- the count is that of these tasks
      counted : run.0 ≡ length (t ∷ children)
      counted =
          let r = run.1 in
          let w = whole in
          let same = one_later row.value row.value r.later w.later (sym r.ends ∙ w.ends) in
          let one : length r.later.values ≡ run.0 = r.tasks_are in
          let two : length w.later.values ≡ tasks_after 1 children = w.tasks_are in
          let both : length r.later.values ≡ length w.later.values = ap (λ (s : Progress). length s.values) same in
          let many = tasks_counted 1 children in
          omega (arith, one, two, both, many)

      differ : AllDiffer (t ∷ children)
      differ =
          (has_numbering p wf keeps lim journal legal t at.first row by.alike.executed children some there by.alike.execution at.is_first.segment by.alike.order.once by.played.spawned).differ

      -- each of them is below t
      child_below : (c : ℕ) → IsIn c children → (c < length final.tasks) × BelowTask final t c
      child_below c listed =
          let found = spawned_by p lim journal by.alike.executed children by.played.spawned c listed in
          let member = contains-in by.alike.segments found.by ((by.alike.order.members found.by).1 (in-contains by.alike.executed found.by found.member)) in
          let known = listed_at p wf keeps lim journal legal t from at.count by.alike.segments by.alike.listed found.by member in
          let chain = ancestor p wf keeps lim journal legal known.below.0 t found.by.key found.parent known.below.1 found.spawn.segment in
          let parent : HasParent final c found.parent = (found.spawn.child, found.spawn.there, found.spawn.parent) in
          (slice_get_within final.tasks c found.spawn.child found.spawn.there, more parent chain)

      listed_below : (u : ℕ) → IsIn u (t ∷ children) → (u < length final.tasks) × BelowTask final t u
      listed_below u (inl here) = (
        subst (λ (n : ℕ). n < length final.tasks) (sym here) (slice_get_within final.tasks t row there),
        subst (λ (n : ℕ). BelowTask final t n) (sym here) none,
      )
      listed_below u (inr later) = child_below u later

      -- and each task below t is one of them
      below_listed : (u : ℕ) → BelowTask final t u → IsIn u (t ∷ children)
      below_listed u below = elim (first_step below) [
        | inl same ↦ inl same
        | inr chain ↦
            let parent = chain.1 in
            let spawn = spawner p wf lim journal legal chain.0 u parent.0 parent.1 parent.2 in
            let ranked = segments_ranked p wf keeps lim journal legal t spawn.0 chain.0 spawn.1.segment chain.2 in
            let place = all_between p wf keeps lim journal legal t row there done at spawn.0 ranked in
            let among = all_listed p wf keeps lim journal legal t from at.count by.alike.segments by.alike.listed spawn.0 (omega (arith, place.0)) (omega (arith, place.1)) ranked in
            let member = contains-in by.alike.executed among.0 ((by.alike.order.members among.0).0 (in-contains by.alike.segments among.0 among.1)) in
            let spawns = subst (λ (n : ℕ). Spawns p lim journal chain.0 n u) (sym among.2.key) spawn.1 in
            inr (any_is_in u children (spawned_listed p lim journal by.alike.executed children by.played.spawned among.0 member chain.0 u spawns))
      ]

      tasks_below : AreTasksBelow final t (t ∷ children)
      tasks_below = record {
        once = once_of (t ∷ children) differ;
        members = λ u. (
          (λ here. listed_below u (contains-in (t ∷ children) u here)),
          (λ below. in-contains (t ∷ children) u (below_listed u below.1)),
        );
      }

      with_count : HasCountedResult p lim journal t row
      with_count = record {
        result = record {
          enabling = at.enabling;
          count = at.count;
          enabled = at.enabled_by;
          finished = at.finished;
          between = all_between p wf keeps lim journal legal t row there done at;
          made = run.0;
          elides = run.1;
        };
        tasks = t ∷ children;
        below = tasks_below;
        counted = counted;
      }

pub counted_results : (p : Program) → IsWellFormed p → KeepsEffects p → (lim : Bounds) → 1 ≤ lim.tasks → (journal : List Entry) → Legal p lim journal → (t : ℕ) (row : TaskRow)
    → IsRow (state_after p lim journal) t row → row.status ≡ Done → IsDeterministic p row → HasCountedResult p lim journal t row
counted_results p wf keeps lim some journal legal t row there done flag =
    let at = places p wf keeps lim some journal legal t row there done flag in
    with_count p wf keeps lim some journal legal t row there done flag at (steps p wf keeps lim some journal legal t row there done flag at)
