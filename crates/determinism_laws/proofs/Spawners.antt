-- Each task that has a parent was spawned by a segment of it, so each segment of a task below t has a rank below t.
use Rattle.std.proofs.Common.{◌≡◌, ◌≤◌, ◌<◌, ℕ, zero, suc, List, [], ◌∷◌, length, None, Some, inl, inr, refl, sym, ap, ◌∙◌, arith}
use Rattle.std.specs.Prelude.{slice_get}
use Rattle.std.proofs.lemmas.Bool.{cases_lt}
use Rattle.std.proofs.lemmas.Option.{slice_get_within}
use Rattle.seg_journal.specs.declared.journal.End.TheVariants as ends
use Rattle.seg_journal.specs.declared.journal.Entry.{Entry}
use Rattle.twe_base.specs.Limits.{Bounds}
use Rattle.twe_program.specs.Program.{Program}
use Rattle.twe_program.specs.WellFormed.{IsWellFormed}
use Rattle.machine_state.specs.declared.state.State.{State}
use Rattle.machine_state.specs.declared.state.TaskRow.{TaskRow}
use Rattle.machine_state.specs.Moves.{move_result, start_of}
use Rattle.machine_state.specs.Rows.{IsRow}
use Rattle.machine_state.specs.Runs.{Legal, LegalFrom, replayed, state_after}
use Rattle.machine_state.proofs.standing.LaterStates.{replayed_later}
use Rattle.machine_state.proofs.lists.Places.{below_there, got_one}
use Rattle.machine_state.proofs.standing.ReachedStands.{linked_of, start_stands, taken_stands}
use Rattle.machine_state.proofs.standing.Standing.{Stands}
use Rattle.determinism_laws.specs.Ranks.{IsBelow}
use Rattle.determinism_laws.specs.Segments.{IsSegmentOf, Spawns, number_of_segment, state_before}
use Rattle.determinism_laws.proofs.JournalPlaces.{later_end}
use Rattle.determinism_laws.proofs.NewTasks.{move_row}
use Rattle.determinism_laws.proofs.Forks.{the_parent}

-- a segment of q, somewhere in the journal, made c
record IsSpawned (journal : List Entry) (q c : ℕ) : Type 0 where
  place : ℕ
  segment : IsSegmentOf journal q place
  made : segment.entry.end ≡ ends.Made c

module _ (p : Program) (wf : IsWellFormed p) (lim : Bounds) where
  spawned_first : (st : State) (entry : Entry) (journal : List Entry) (q c : ℕ) (final : TaskRow) → LegalFrom p lim st (entry ∷ journal) → Stands p lim st
      → length st.tasks ≤ c → c < length (move_result p lim st entry.mv).0.tasks → IsRow (replayed p lim st (entry ∷ journal)) c final → final.parent ≡ Some q
      → IsSpawned (entry ∷ journal) q c
  spawned_first st entry journal q c final legal stands past below is of =
      let next : State = (move_result p lim st entry.mv).0 in
      let found = below_there next.tasks c below in
      let after = taken_stands p lim wf st entry.mv.kind entry.mv.task legal.0 stands in
      let kept = (replayed_later p lim next journal legal.2 (linked_of p lim wf next after)).kept c found.0 found.1 in
      let same : final ≡ kept.now = got_one (slice_get (replayed p lim next journal).tasks c) is kept.there in
      let parent : found.0.parent ≡ Some q = sym kept.parent ∙ (sym (ap (λ (r : TaskRow). r.parent) same) ∙ of) in
      let made = move_row p lim st stands entry.mv.task entry.mv.kind c past found.0 found.1 in
      record {
        place = 0;
        segment = record { entry = entry; there = refl; runs = made.runs; task = the_parent entry.mv.task q made.makes.spawned (sym made.makes.parent ∙ parent) };
        made = sym legal.1 ∙ made.makes.end_is;
      }

  spawned_later : (entry : Entry) (journal : List Entry) (q c : ℕ) → IsSpawned journal q c → IsSpawned (entry ∷ journal) q c
  spawned_later entry journal q c spawned = record {
    place = suc spawned.place;
    segment = record { entry = spawned.segment.entry; there = spawned.segment.there; runs = spawned.segment.runs; task = spawned.segment.task };
    made = spawned.made;
  }

  spawned_from : (journal : List Entry) (st : State) (q c : ℕ) (final : TaskRow) → LegalFrom p lim st journal → Stands p lim st
      → length st.tasks ≤ c → IsRow (replayed p lim st journal) c final → final.parent ≡ Some q → IsSpawned journal q c
  spawned_from [] st q c final legal stands past is of = let below = slice_get_within st.tasks c final is in absurd (omega (arith, past, below))
  spawned_from (entry ∷ journal) st q c final legal stands past is of =
      elim (cases_lt c (length (move_result p lim st entry.mv).0.tasks)) [
        | inl below ↦ spawned_first st entry journal q c final legal stands past below is of
        | inr above ↦
            let after = taken_stands p lim wf st entry.mv.kind entry.mv.task legal.0 stands in
            spawned_later entry journal q c (spawned_from journal (move_result p lim st entry.mv).0 q c final legal.2 after above is of)
      ]

  first_parent : (c q : ℕ) (row : TaskRow) → IsRow (start_of p lim) c row → ¬ (row.parent ≡ Some q)
  first_parent zero q row is of = let none : row.parent ≡ None = cc in absurd (cc)
  first_parent (suc c) q row is of = absurd (cc (is))

  module _ (journal : List Entry) (legal : Legal p lim journal) where
    -- a task with a parent was spawned
    pub spawner : (q c : ℕ) (final : TaskRow) → IsRow (state_after p lim journal) c final → final.parent ≡ Some q
        → (place : ℕ) × Spawns p lim journal q place c
    spawner q c final is of =
        elim (cases_lt c (length (start_of p lim).tasks)) [
          | inl below ↦
              let found = below_there (start_of p lim).tasks c below in
              let kept = (replayed_later p lim (start_of p lim) journal legal (linked_of p lim wf (start_of p lim) (start_stands p lim wf))).kept c found.0 found.1 in
              let same : final ≡ kept.now = got_one (slice_get (state_after p lim journal).tasks c) is kept.there in
              absurd (first_parent c q found.0 found.1 (sym kept.parent ∙ (sym (ap (λ (r : TaskRow). r.parent) same) ∙ of)))
          | inr past ↦
              let spawned = spawned_from journal (start_of p lim) q c final legal (start_stands p lim wf) past is of in
              (spawned.place, record { segment = spawned.segment; made = spawned.made; child = final; there = is; parent = of })
        ]

    -- a segment below a task is below the task's parent, too
    pub below_parent : (n q c i : ℕ) (row : TaskRow) → IsRow (state_before p lim journal n) c row → row.parent ≡ Some q → IsBelow p lim journal c i → IsBelow p lim journal q i
    below_parent n q c i row is of ([], has) = absurd has
    below_parent n q c i row is of (number ∷ others, has) =
        let kept = (later_end p wf lim journal legal n).kept c row is in
        let spawn = spawner q c kept.now kept.there (kept.parent ∙ of) in
        (number_of_segment journal q spawn.0 ∷ number ∷ others, (spawn.0, c, spawn.1, refl, has))
