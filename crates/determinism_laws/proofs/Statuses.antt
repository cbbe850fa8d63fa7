-- The status of a task changes by its own entries alone, and it is done only after a segment that finishes it. So a task
-- that is not done yet, but is done at the end, has a next segment.
use Rattle.std.proofs.Common.{◌≡◌, ◌≢◌, ◌⊎◌, ◌≤◌, ◌<◌, ◌+◌, ◌++◌, ◌==◌, ◌&&◌, ℕ, zero, suc, ℤ, Bool, true, false, cond, List, [], ◌∷◌, length, take, count_by, Option, None, Some, inl, inr, refl, sym, ap, ◌∙◌, subst, arith, nat_lt, eq-eqb, eqb-true, ◌-◌, take_all}
use Rattle.std.specs.Prelude.{get_or, slice_get, slice_set}
use Rattle.std.proofs.lemmas.Bool.{and_from, cases_Bool, cases_eq}
use Rattle.std.proofs.lemmas.List.Sums.{count_by_more_no, count_by_more_yes}
use Rattle.std.proofs.lemmas.Option.{get_or_from_slice_get, slice_get_within}
use Rattle.twe_base.proofs.Members.{both-true}
use Rattle.twe_base.specs.declared.place.Place.{Place}
use Rattle.effect_sets.specs.declared.effects.Summary.{Summary}
use Rattle.twe_base.specs.declared.fault.FaultKind.TheVariants.{TaskLimit}
use Rattle.twe_base.specs.Limits.{Bounds}
use Rattle.seg_journal.specs.declared.journal.End.{End}
use Rattle.seg_journal.specs.declared.journal.End.TheVariants as ends
use Rattle.seg_journal.specs.declared.journal.Entry.{Entry}
use Rattle.seg_journal.specs.declared.moves.Kind.{Kind}
use Rattle.seg_journal.specs.declared.moves.Kind.TheVariants.{Admit, Run}
use Rattle.wait_graph.specs.Link.{link_of}
use Rattle.twe_program.specs.Program.{Program}
use Rattle.twe_program.specs.WellFormed.{IsWellFormed}
use Rattle.seg_meaning.specs.declared.frame.Frame.{Frame}
use Rattle.seg_meaning.specs.declared.stop.Stop.{Stop}
use Rattle.seg_meaning.specs.declared.stop.Stop.TheVariants as stops
use Rattle.machine_state.specs.declared.state.State.{State}
use Rattle.machine_state.specs.declared.state.TaskRow.{TaskRow}
use Rattle.machine_state.specs.declared.state.TaskStatus.{TaskStatus}
use Rattle.machine_state.specs.declared.state.TaskStatus.TheVariants.{Done, Faulted, Made}
use Rattle.machine_state.specs.Legal.{MayTake}
use Rattle.machine_state.specs.Moves.{admitted, done_row, faulted_row, going_row, joined_child, making_frame, new_row, parent_of, ran, result_by_kind, state_after_asking, state_after_fault, state_after_join, state_after_make, stop_result, stopped_frame}
use Rattle.machine_state.specs.Rows.{HasStatus, IsRow}
use Rattle.machine_state.specs.Runs.{Legal, state_after}
use Rattle.machine_state.proofs.standing.Halfway.{halfway}
use Rattle.machine_state.proofs.tasks.OtherRows.{row_after}
use Rattle.machine_state.proofs.lists.Places.{got_one, put_before, set_same}
use Rattle.machine_state.proofs.standing.Standing.{Stands}
use Rattle.determinism_laws.specs.Execution.{IsNextSegment}
use Rattle.determinism_laws.specs.Segments.{IsSegmentOf, is_run, number_of_segment, state_before}
use Rattle.determinism_laws.proofs.JournalPlaces.{stands_at, taken_at}
use Rattle.determinism_laws.proofs.NewTasks.{left_by}
use Rattle.determinism_laws.proofs.OwnCells.{take_past}

-- the status of t after a segment with this end: as before, or done if the end says so, or faulted
abbrev pub StatusAfter : TaskStatus → End → TaskStatus → Type 0
StatusAfter old (ends.Done value) new = new ≡ Done
StatusAfter old (ends.Fault kind place) new = new ≡ Faulted
StatusAfter old ends.Admitted new = new ≡ old
StatusAfter old (ends.Made child) new = new ≡ old
StatusAfter old (ends.Waits on) new = new ≡ old
StatusAfter old (ends.Joins on) new = new ≡ old

module _ (lim : Bounds) (st : State) (t : ℕ) (row : TaskRow) (frame : Frame) (there : IsRow st t row) (new : TaskRow) where
  set_status : (changed : TaskRow) → slice_get (slice_set st.tasks t changed) t ≡ Some new → new.status ≡ changed.status
  set_status changed here =
      sym (ap (λ (r : TaskRow). r.status) (got_one (slice_get (slice_set st.tasks t changed) t) (set_same st.tasks t row changed there) here))

  made_status : (b : Bool) → (child : Frame) (args : List ℤ) (effects : Summary) (spawned : Bool) (future : ℕ) (place : Place)
      → let after = cond {A = State × End} b (state_after_make lim st t row frame future spawned child args effects, ends.Made (st.asked + 1))
      (state_after_fault (state_after_asking st) t row (stopped_frame frame) TaskLimit place, ends.Fault TaskLimit place) in
      IsRow after.0 t new → StatusAfter row.status after.1 new.status
  made_status true child args effects spawned future place here =
      let going = going_row row (making_frame future spawned (st.asked + 1) frame) in
      let added = new_row lim (st.asked + 1) (parent_of t spawned) child args effects in
      let own = put_before (slice_set st.tasks t going) added t going (set_same st.tasks t row going there) in
      sym (ap (λ (r : TaskRow). r.status) (got_one (slice_get (slice_set st.tasks t going ++ added ∷ []) t) own here))
  made_status false child args effects spawned future place here = set_status (faulted_row row (stopped_frame frame)) here

  stopped_status : (stop : Stop) → IsRow (stop_result lim st t row frame stop).0 t new → StatusAfter row.status (stop_result lim st t row frame stop).1 new.status
  stopped_status (stops.Make child args effects spawned future place) here = made_status (nat_lt (st.asked + 1) lim.tasks) child args effects spawned future place here
  stopped_status (stops.Waits on) here = set_status (going_row row frame) here
  stopped_status (stops.Joins on) here = set_status (going_row row frame) here
  stopped_status (stops.Done value) here = set_status (done_row row frame value) here
  stopped_status (stops.Fault kind place) here = set_status (faulted_row row frame) here

module _ (p : Program) (lim : Bounds) (st : State) (stands : Stands p lim st) (t : ℕ) (may : MayTake st Run t) (row new : TaskRow) where
  ran_status : (found : Option TaskRow) → slice_get st.tasks t ≡ found → found ≡ Some row → IsRow (ran p lim st t found).0 t new
      → StatusAfter row.status (ran p lim st t found).1 new.status
  ran_status None e is here = absurd (cc (is))
  ran_status (Some other) e is here =
      let same : other ≡ row = cc (is) in
      let left = left_by p st other in
      let later : State = record st { cells = left.cells } in
      let child = joined_child other.out (link_of st.links t).waits in
      subst (λ (r : TaskRow). StatusAfter r.status (ran p lim st t (Some other)).1 new.status) same
      (stopped_status lim (state_after_join later child) t other left.frame (halfway p lim st stands t other e may.1).almost.own new left.stop here)

  segment_status : IsRow st t row → IsRow (result_by_kind p lim st Run t).0 t new → StatusAfter row.status (result_by_kind p lim st Run t).1 new.status
  segment_status there here = ran_status (slice_get st.tasks t) refl there here

module _ (p : Program) (wf : IsWellFormed p) (lim : Bounds) (journal : List Entry) (legal : Legal p lim journal) where
  abbrev st : ℕ → State
  st n = state_before p lim journal n

  -- after a segment of u
  pub status_after : (u n : ℕ) (segment : IsSegmentOf journal u n) (row new : TaskRow) → IsRow (st n) u row → IsRow (st (suc n)) u new
      → StatusAfter row.status segment.entry.end new.status
  status_after u n segment row new there here =
      let taken = taken_at p wf lim journal legal n segment.entry segment.there in
      let may = subst (MayTake (st n) Run) segment.task (subst (λ (kind : Kind). MayTake (st n) kind segment.entry.mv.task) segment.runs taken.may) in
      by_task segment.entry.mv.kind segment.entry.mv.task segment.runs segment.task taken.leads taken.end may
    where
      by_task : (kind : Kind) (t : ℕ) → kind ≡ Run → t ≡ u → st (suc n) ≡ (result_by_kind p lim (st n) kind t).0
          → (result_by_kind p lim (st n) kind t).1 ≡ segment.entry.end → MayTake (st n) Run u → StatusAfter row.status segment.entry.end new.status
      by_task kind t runs task leads end may =
          let to : (result_by_kind p lim (st n) kind t) ≡ (result_by_kind p lim (st n) Run u) = λ i. result_by_kind p lim (st n) (runs i) (task i) in
          let row_there : IsRow (result_by_kind p lim (st n) Run u).0 u new =
          subst (λ (s : State). IsRow s u new) (ap (λ (r : State × End). r.0) to) (subst (λ (s : State). IsRow s u new) leads here) in
          subst (λ (e : End). StatusAfter row.status e new.status) (sym (ap (λ (r : State × End). r.1) to) ∙ end)
          (segment_status p lim (st n) (stands_at p wf lim journal legal n) u may row new there row_there)

  -- whether an entry is a segment of u
  by_kind : (u n : ℕ) (entry : Entry) (kind : Kind) → slice_get journal n ≡ Some entry → entry.mv.kind ≡ kind → IsSegmentOf journal u n ⊎ ¬ IsSegmentOf journal u n
  by_kind u n entry Admit there is =
      inr (λ segment.
      let same : entry ≡ segment.entry = got_one (slice_get journal n) there segment.there in
      let both : Admit ≡ Run = sym is ∙ (ap (λ (e : Entry). e.mv.kind) same ∙ segment.runs) in
      cc (both))
  by_kind u n entry Run there is = elim (cases_eq entry.mv.task u) [
    | inl same ↦ inl (record { entry = entry; there = there; runs = is; task = same })
    | inr differ ↦ inr (λ segment.
        let same : entry ≡ segment.entry = got_one (slice_get journal n) there segment.there in
        differ (ap (λ (e : Entry). e.mv.task) same ∙ segment.task))
  ]

  by_entry : (u n : ℕ) (found : Option Entry) → slice_get journal n ≡ found → IsSegmentOf journal u n ⊎ ¬ IsSegmentOf journal u n
  by_entry u n None gone = inr (λ segment. let some = segment.there in cc (some, gone))
  by_entry u n (Some entry) there = by_kind u n entry entry.mv.kind there refl

  pub segment_or_not : (u n : ℕ) → IsSegmentOf journal u n ⊎ ¬ IsSegmentOf journal u n
  segment_or_not u n = by_entry u n (slice_get journal n) refl

  -- another entry keeps the status of a task that is admitted
  other_entry : (u n : ℕ) (entry : Entry) (kind : Kind) → slice_get journal n ≡ Some entry → entry.mv.kind ≡ kind → ¬ IsSegmentOf journal u n → (status : TaskStatus) → status ≢ Made
      → HasStatus (st n) u status → HasStatus (st (suc n)) u status
  other_entry u n entry kind there is outside status admitted has =
      let taken = taken_at p wf lim journal legal n entry there in
      elim (cases_eq u entry.mv.task) [
        | inr differ ↦ elim (row_after p lim (st n) entry.mv.task u differ has.0 has.1 entry.mv.kind) [
          | inl stays ↦ (has.0, subst (λ (s : State). IsRow s u has.0) (sym taken.leads) stays.1, has.2)
          | inr marked ↦ (record has.0 { joined = true }, subst (λ (s : State). IsRow s u (record has.0 { joined = true })) (sym taken.leads) marked.1, has.2)
        ]
        | inl own ↦ absurd (not_own kind is own (subst (λ (k : Kind). MayTake (st n) k entry.mv.task) is taken.may))
      ]
    where
      not_own : (k : Kind) → entry.mv.kind ≡ k → u ≡ entry.mv.task → MayTake (st n) k entry.mv.task → ⊥
      not_own Run runs own may = outside (record { entry = entry; there = there; runs = runs; task = sym own })
      not_own Admit admits own may =
          let here = subst (λ (t : ℕ). HasStatus (st n) t status) own has in
          let same : here.0 ≡ may.0.0 = got_one (slice_get (st n).tasks entry.mv.task) here.1 may.0.1 in
          admitted (sym here.2 ∙ (ap (λ (r : TaskRow). r.status) same ∙ may.0.2))

  pub status_kept : (u n : ℕ) (found : Option Entry) → slice_get journal n ≡ found → ¬ IsSegmentOf journal u n → (status : TaskStatus) → status ≢ Made
      → HasStatus (st n) u status → HasStatus (st (suc n)) u status
  status_kept u n None gone outside status admitted has =
      subst (λ (entries : List Entry). HasStatus (state_after p lim entries) u status) (sym (take_past journal n gone)) has
  status_kept u n (Some entry) there outside status admitted has = other_entry u n entry entry.mv.kind there refl outside status admitted has

  -- among `count` entries from `from` on there is a next segment of u, with the status that u has now; or there is none,
  -- and u keeps its status
  abbrev Found : ℕ → ℕ → ℕ → TaskStatus → Type 0
  Found u from count status = (place : ℕ) × IsNextSegment journal u from place × HasStatus (st place) u status

  abbrev NoneThere : ℕ → ℕ → ℕ → TaskStatus → Type 0
  NoneThere u from count status = ((n : ℕ) → from ≤ n → n < from + count → ¬ IsSegmentOf journal u n) × HasStatus (st (from + count)) u status

  search_from : (count u from : ℕ) (status : TaskStatus) → status ≢ Made → HasStatus (st from) u status → Found u from count status ⊎ NoneThere u from count status
  search_from zero u from status admitted has =
      let place : from ≡ from + 0 = omega arith in
      inr ((λ n least most. absurd (omega (arith, least, most))), subst (λ (n : ℕ). HasStatus (st n) u status) place has)
  search_from (suc count) u from status admitted has =
      elim (search_from count u from status admitted has) [
        | inl found ↦ inl found
        | inr nothing ↦ elim (segment_or_not u (from + count)) [
          | inl segment ↦ inl (from + count, record { segment = segment; least = omega arith; first = nothing.0 }, nothing.1)
          | inr outside ↦
              let place : suc (from + count) ≡ from + suc count = omega arith in
              let later = status_kept u (from + count) (slice_get journal (from + count)) refl outside status admitted nothing.1 in
              inr (
                (λ n least most. elim (cases_eq n (from + count)) [
                  | inl same ↦ λ segment. outside (subst (λ (k : ℕ). IsSegmentOf journal u k) same segment)
                  | inr differ ↦ nothing.0 n least (omega (arith, most, differ))
                ]),
                subst (λ (n : ℕ). HasStatus (st n) u status) place later,
              )
        ]
      ]

  -- a task that is not done yet, but is done at the end, has a next segment
  pub next_segment_of : (u from : ℕ) (status : TaskStatus) → status ≢ Made → status ≢ Done → HasStatus (st from) u status → HasStatus (state_after p lim journal) u Done
      → (place : ℕ) × IsNextSegment journal u from place × HasStatus (st place) u status
  next_segment_of u from status admitted undone has done =
      elim (search_from (length journal) u from status admitted has) [
        | inl found ↦ found
        | inr nothing ↦
            let all : take (from + length journal) journal ≡ journal = take_all (from + length journal) journal (omega arith) in
            let last = subst (λ (entries : List Entry). HasStatus (state_after p lim entries) u status) all nothing.1 in
            let same : last.0 ≡ done.0 = got_one (slice_get (state_after p lim journal).tasks u) last.1 done.1 in
            absurd (undone (sym last.2 ∙ (ap (λ (r : TaskRow). r.status) same ∙ done.2)))
      ]

  -- The number of the next segment.

  abbrev pub is_own : ℕ → Entry → Bool
  is_own u entry = is_run entry.mv.kind && (entry.mv.task == u)

  is_run_is : (kind : Kind) → is_run kind ≡ true → kind ≡ Run
  is_run_is Admit e = absurd (cc (e))
  is_run_is Run e = refl

  not_counted : (u n : ℕ) (found : Option Entry) → slice_get journal n ≡ found → ¬ IsSegmentOf journal u n → count_by (is_own u) (take (n + 1) journal) ≡ count_by (is_own u) (take n journal)
  not_counted u n None gone outside =
      let place : n + 1 ≡ suc n = omega arith in
      ap (λ (k : ℕ). count_by (is_own u) (take k journal)) place ∙ ap (count_by (is_own u)) (take_past journal n gone)
  not_counted u n (Some entry) there outside =
      let within = slice_get_within journal n entry there in
      let read : get_or journal n entry ≡ entry = get_or_from_slice_get journal n entry entry there in
      let no_match : is_own u entry ≡ false = elim (cases_Bool (is_own u entry)) [
        | inl matches ↦
            let both = both-true (is_run entry.mv.kind) (entry.mv.task == u) matches in
            absurd (outside (record { entry = entry; there = there; runs = is_run_is entry.mv.kind both.0; task = eqb-true entry.mv.task u both.1 }))
        | inr not_own ↦ not_own
      ] in
      count_by_more_no (is_own u) journal n entry within (ap (is_own u) read ∙ no_match)

  none_counted : (count u from : ℕ) → ((n : ℕ) → from ≤ n → n < from + count → ¬ IsSegmentOf journal u n)
      → count_by (is_own u) (take (from + count) journal) ≡ count_by (is_own u) (take from journal)
  none_counted zero u from outside = let place : from + 0 ≡ from = omega arith in ap (λ (k : ℕ). count_by (is_own u) (take k journal)) place
  none_counted (suc count) u from outside =
      let place : from + suc count ≡ (from + count) + 1 = omega arith in
      ap (λ (k : ℕ). count_by (is_own u) (take k journal)) place
      ∙ (not_counted u (from + count) (slice_get journal (from + count)) refl (outside (from + count) (omega arith) (omega arith))
      ∙ none_counted count u from (λ n least most. outside n least (omega (arith, most))))

  pub next_number : (u from place : ℕ) → IsNextSegment journal u from place → number_of_segment journal u place ≡ count_by (is_own u) (take from journal) + 1
  next_number u from place next =
      let segment = next.segment in
      let within = slice_get_within journal place segment.entry segment.there in
      let read : get_or journal place segment.entry ≡ segment.entry = get_or_from_slice_get journal place segment.entry segment.entry segment.there in
      let own : is_own u segment.entry ≡ true = and_from (is_run segment.entry.mv.kind) (segment.entry.mv.task == u) (ap is_run segment.runs) (eq-eqb segment.entry.mv.task u segment.task) in
      let more = count_by_more_yes (is_own u) journal place segment.entry within (ap (is_own u) read ∙ own) in
      let least = next.least in
      let place_is : from + (place - from) ≡ place = omega arith in
      let before : count_by (is_own u) (take place journal) ≡ count_by (is_own u) (take from journal) =
      ap (λ (k : ℕ). count_by (is_own u) (take k journal)) (sym place_is) ∙ none_counted (place - from) u from (λ n low high. next.first n low (omega (arith, high, place_is))) in
      more ∙ ap (λ (k : ℕ). k + 1) before

  -- no segment of u stands before this place
  pub none_before : (u from : ℕ) → ((n : ℕ) → n < from → ¬ IsSegmentOf journal u n) → count_by (is_own u) (take from journal) ≡ 0
  none_before u from outside = let place : from ≡ 0 + from = omega arith in
      ap (λ (k : ℕ). count_by (is_own u) (take k journal)) place ∙ none_counted from u 0 (λ n low high. outside n (omega (arith, high)))
