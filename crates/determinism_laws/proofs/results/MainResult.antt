-- A run whose main is deterministic, and in which all tasks are done, has the result of the sequential execution of main.
use Rattle.std.proofs.Common.{◌≡◌, ◌≤◌, ◌<◌, ◌+◌, ◌++◌, ℕ, suc, ℤ, List, [], ◌∷◌, length, Some, inl, inr, refl, sym, ap, ◌∙◌, subst, arith, take_all}
use Rattle.std.specs.Prelude.{slice_get, take}
use Rattle.std.proofs.lemmas.List.{append-nil}
use Rattle.effect_check.proofs.Members.{contains-in, in-contains}
use Rattle.seg_journal.specs.declared.journal.Entry.{Entry}
use Rattle.twe_base.specs.Limits.{Bounds}
use Rattle.twe_program.specs.Program.{Program}
use Rattle.twe_program.specs.WellFormed.{IsWellFormed}
use Rattle.isolation_laws.specs.soundness.KeepsEffects.{KeepsEffects}
use Rattle.machine_state.specs.declared.state.State.{State}
use Rattle.machine_state.specs.declared.state.TaskRow.{TaskRow}
use Rattle.machine_state.specs.declared.state.TaskStatus.TheVariants.{Done}
use Rattle.machine_state.specs.Moves.{initial_values}
use Rattle.machine_state.specs.Rows.{IsRow}
use Rattle.machine_state.specs.Runs.{AllTasksDone, Legal, state_after}
use Rattle.machine_state.proofs.lists.Places.{below_there, got_one}
use Rattle.determinism_laws.specs.Orders.{SegmentAccesses, after_all}
use Rattle.determinism_laws.specs.Segments.{IsSegmentOf, Spawns, state_before}
use Rattle.determinism_laws.proofs.ExecutedOrder.{all_listed}
use Rattle.determinism_laws.proofs.JournalPlaces.{later_end}
use Rattle.determinism_laws.proofs.RankExecution.{orders_agree}
use Rattle.determinism_laws.proofs.RankLaws.{final_stands}
use Rattle.determinism_laws.proofs.SameValues.{same_cells}
use Rattle.determinism_laws.proofs.Spawners.{spawner}
use Rattle.determinism_laws.specs.declared.elision.progress.Progress.{Progress}
use Rattle.determinism_laws.specs.elision.Elision.{elided}
use Rattle.determinism_laws.specs.elision.Elision as elision
use Rattle.determinism_laws.specs.numbering.Played.{ElidesTo}
use Rattle.determinism_laws.specs.theorem.Steps.{printed_by, tasks_after}
use Rattle.determinism_laws.proofs.theorem.Elided.{IsElidedBySteps, elided_by_steps, elided_whole}
use Rattle.determinism_laws.proofs.theorem.Finds.{steps_leave}
use Rattle.determinism_laws.proofs.theorem.FirstSegments.{starts_first}
use Rattle.determinism_laws.proofs.theorem.Numbered.{has_numbering, tasks_counted}
use Rattle.determinism_laws.proofs.theorem.Printing.{printed_alike, steps_print}
use Rattle.determinism_laws.specs.results.Main.{HaveSameResult, IsResultOfMain, MainHasItsResult, MainIsDeterministic}
use Rattle.determinism_laws.proofs.results.MainTree.{all_below_main, in_tree}
use Rattle.determinism_laws.proofs.results.Results.{HasPlaces, all_between, has_places}
use Rattle.determinism_laws.proofs.results.TaskCount.{IsListed, as_long, listed_first, listed_later, spawned_listed, spawned_there}
use Rattle.determinism_laws.proofs.results.WholeRun.{ChangesBy, listed_entries, silent_entries}

-- lists that have the same element at each place are the same
same_list : (xs ys : List ℤ) → ((k : ℕ) → slice_get xs k ≡ slice_get ys k) → xs ≡ ys
same_list [] [] same = refl
same_list [] (y ∷ ys) same = let first = same 0 in absurd (cc (first))
same_list (x ∷ xs) [] same = let first = same 0 in absurd (cc (first))
same_list (x ∷ xs) (y ∷ ys) same =
    let first : Some x ≡ Some y = same 0 in
    let one : x ≡ y = cc (first) in
    let rest = same_list xs ys (λ k. same (suc k)) in
    λ i. one i ∷ rest i

module _ (p : Program) (wf : IsWellFormed p) (keeps : KeepsEffects p) (lim : Bounds) (some : 1 ≤ lim.tasks) (journal : List Entry) (legal : Legal p lim journal) (flag : MainIsDeterministic p)
    (all_done : AllTasksDone (state_after p lim journal)) where
  abbrev st : ℕ → State
  st n = state_before p lim journal n

  abbrev final : State
  final = state_after p lim journal

  -- The row of main at the end.
  record MainRow : Type 0 where
    row : TaskRow
    there : IsRow final 0 row
    decl : row.decl ≡ p.main
    args : row.args ≡ []

  main_row : MainRow
  main_row =
      let start = below_there (st 0).tasks 0 (omega arith) in
      let same = got_one (slice_get (st 0).tasks 0) refl start.1 in
      let kept = (later_end p wf lim journal legal 0).kept 0 start.0 start.1 in
      record {
        row = kept.now;
        there = kept.there;
        decl = kept.decl ∙ ap (λ (r : TaskRow). r.decl) (sym same);
        args = kept.args ∙ ap (λ (r : TaskRow). r.args) (sym same);
      }

  -- Its execution, on the cells as they were right after the entry that enabled it.
  module _ (main : MainRow) (places : HasPlaces p lim journal 0 main.row) where
    abbrev from : ℕ
    from = places.enabling + 1

    abbrev end : ℕ
    end = from + places.count

    main_done : main.row.status ≡ Done
    main_done = all_done 0 main.row main.there

    record Whole : Type 0 where
      by : IsElidedBySteps p lim journal 0 places.first from places.count main.row main.row.decl main.row.args
      elides : ElidesTo p lim main.row.decl main.row.args (st from).cells main.row.value by.played.steps (tasks_after 1 by.played.children)

    whole : Whole
    whole =
        let row = main.row in
        let deterministic = (in_tree p wf keeps lim journal legal flag 0 row main.there).deterministic in
        let starts = starts_first p wf keeps lim journal legal 0 places.first places.is_first row main.there in
        let by = elided_by_steps p wf keeps lim journal legal 0 places.first from places.count row row.decl row.args main.there main_done deterministic some places.is_first places.early
        places.enabled places.ended starts in
        record {
          by = by;
          elides = elided_whole p wf keeps lim journal legal 0 places.first from places.count row row.decl row.args main.there main_done deterministic some places.is_first places.early
              places.enabled places.ended starts by;
        }

    -- each segment of the run is between the two entries
    between : (t n : ℕ) → IsSegmentOf journal t n → (places.enabling < n) × (n ≤ places.enabling + places.count)
    between t n segment =
        all_between p wf keeps lim journal legal 0 main.row main.there main_done places n (all_below_main p wf keeps lim journal legal flag t n segment)

    -- so nothing changes before the first of them and after the second
    before_it : ChangesBy (st 0) (st from) []
    before_it =
        let none : (n t : ℕ) → 0 ≤ n → n < 0 + from → ¬ IsSegmentOf journal t n = λ n t least most segment. let b = between t n segment in omega (arith, most, b.0) in
        let place : 0 + from ≡ from = omega arith in
        subst (λ (n : ℕ). ChangesBy (st 0) (st n) []) place (silent_entries p wf lim journal legal 0 from none)

    after_it : ChangesBy (st end) final []
    after_it =
        let none : (n t : ℕ) → end ≤ n → n < end + length journal → ¬ IsSegmentOf journal t n = λ n t least most segment. let b = between t n segment in omega (arith, least, b.1) in
        let all : take (end + length journal) journal ≡ journal = take_all (end + length journal) journal (omega arith) in
        subst (λ (entries : List Entry). ChangesBy (st end) (state_after p lim entries) []) all (silent_entries p wf lim journal legal end (length journal) none)

    module _ (w : Whole) where
      abbrev segments : List SegmentAccesses
      segments = w.by.alike.segments

      abbrev executed : List SegmentAccesses
      executed = w.by.alike.executed

      abbrev children : List ℕ
      children = w.by.played.children

      during : ChangesBy (st from) (st end) segments
      during =
          listed_entries p wf lim journal legal 0 from places.count (λ n t segment. all_below_main p wf keeps lim journal legal flag t n segment) segments w.by.alike.listed

      cells_first : (st from).cells ≡ initial_values p.cells
      cells_first = before_it.cells

      executed_alike : after_all (st from).cells segments ≡ after_all (st from).cells executed
      executed_alike =
          let agree = orders_agree p wf keeps lim journal legal 0 from places.count segments executed w.by.alike.listed w.by.alike.order in
          same_list (after_all (st from).cells segments) (after_all (st from).cells executed) (λ k. same_cells p segments executed agree (st from).cells k)

      cells_last : final.cells ≡ w.elides.later.cells
      cells_last =
          after_it.cells ∙ (during.cells ∙ (executed_alike
          ∙ (sym (steps_leave p lim journal executed w.by.played.steps (st from).cells w.by.played.same) ∙ sym w.elides.cells_are)))

      prints_last : final.prints ≡ w.elides.later.prints
      prints_last =
          let steps = steps_print p lim journal executed w.by.played.steps w.by.played.same in
          let alike = printed_alike segments executed w.by.alike.alike.prints in
          after_it.prints ∙ (append-nil (st end).prints ∙ (during.prints ∙ (ap (λ (l : List ℤ). l ++ printed_by segments) before_it.prints
          ∙ (alike ∙ (sym steps ∙ sym w.elides.prints_are)))))

      -- The tasks.

      task_listed : (c : ℕ) (row : TaskRow) → IsRow final c row → IsListed c (0 ∷ children)
      task_listed c row here = elim (in_tree p wf keeps lim journal legal flag c row here).spawned [
        | inl first ↦ subst (λ (n : ℕ). IsListed n (0 ∷ children)) (sym first) (listed_first 0 children)
        | inr parent ↦
            let spawn = spawner p wf lim journal legal parent.0 c row here parent.1 in
            let below = all_below_main p wf keeps lim journal legal flag parent.0 spawn.0 spawn.1.segment in
            let place = between parent.0 spawn.0 spawn.1.segment in
            let among = all_listed p wf keeps lim journal legal 0 from places.count segments w.by.alike.listed spawn.0 (omega (arith, place.0)) (omega (arith, place.1)) below in
            let s = among.0 in
            let member = contains-in executed s ((w.by.alike.order.members s).0 (in-contains segments s among.1)) in
            let spawns = subst (λ (n : ℕ). Spawns p lim journal parent.0 n c) (sym among.2.key) spawn.1 in
            listed_later c 0 children (spawned_listed p lim journal executed children w.by.played.spawned s member parent.0 c spawns)
      ]

      tasks_last : length final.tasks ≡ length w.elides.later.values
      tasks_last =
          let n = has_numbering p wf keeps lim journal legal 0 places.first main.row executed children some main.there w.by.alike.execution places.is_first.segment
          w.by.alike.order.once w.by.played.spawned in
          let room = (final_stands p wf keeps lim journal legal).some in
          let all : (k : ℕ) → k < length final.tasks → IsListed k (0 ∷ children) = λ k below. let found = below_there final.tasks k below in task_listed k found.0 found.1 in
          let long = as_long (length final.tasks) (0 ∷ children) n.differ (room, spawned_there p lim journal executed children w.by.played.spawned) all in
          let counted = tasks_counted 1 children in
          let made = w.elides.tasks_are in
          omega (arith, long, counted, made)

      main_result : IsResultOfMain p lim final
      main_result = record {
        value = main.row.value;
        later = w.elides.later;
        ends = sym (λ i. elided p lim (main.decl i) (main.args i) (cells_first i)) ∙ w.elides.ends;
        cells = cells_last;
        prints = prints_last;
        tasks = tasks_last;
      }

  the_result : IsResultOfMain p lim final
  the_result =
      let main = main_row in
      let places = has_places p wf keeps lim journal legal 0 main.row main.there (all_done 0 main.row main.there) in
      main_result main places (whole main places)

pub main_has_its_result : (p : Program) → IsWellFormed p → KeepsEffects p → (lim : Bounds) → 1 ≤ lim.tasks → (journal : List Entry) → Legal p lim journal → MainHasItsResult p lim journal
main_has_its_result p wf keeps lim some journal legal flag all_done = the_result p wf keeps lim some journal legal flag all_done

-- an execution has one result
one_later : (first second : ℤ) (a b : Progress) → elision.ends first a ≡ elision.ends second b → a ≡ b
one_later first second a b same = cc (same)

pub mains_have_one_result : (p : Program) → IsWellFormed p → KeepsEffects p → MainIsDeterministic p → (lim : Bounds) → 1 ≤ lim.tasks → (one other : List Entry) → Legal p lim one → Legal p lim other
    → AllTasksDone (state_after p lim one) → AllTasksDone (state_after p lim other) → HaveSameResult (state_after p lim one) (state_after p lim other)
mains_have_one_result p wf keeps flag lim some one other legal_one legal_other done_one done_other =
    let a = main_has_its_result p wf keeps lim some one legal_one flag done_one in
    let b = main_has_its_result p wf keeps lim some other legal_other flag done_other in
    let same = one_later a.value b.value a.later b.later (sym a.ends ∙ b.ends) in
    record {
      cells = a.cells ∙ (ap (λ (s : Progress). s.cells) same ∙ sym b.cells);
      prints = a.prints ∙ (ap (λ (s : Progress). s.prints) same ∙ sym b.prints);
      tasks = a.tasks ∙ (ap (λ (s : Progress). length s.values) same ∙ sym b.tasks);
    }
