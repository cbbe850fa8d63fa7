-- If main is deterministic, and some moves lead from a state to one in which all tasks are done, then so it is after each legal
-- move: the move changes places with those before the first move of its task.
use Rattle.std.proofs.Common.{◌≡◌, ◌≢◌, ◌⊎◌, ◌≤◌, ◌<◌, ℕ, zero, suc, Bool, true, false, List, [], ◌∷◌, length, Option, None, Some, inl, inr, refl, sym, ap, ◌∙◌, subst, arith}
use Rattle.std.specs.Prelude.{◌==◌, Contains, if◌then◌else◌, slice_get}
use Rattle.std.proofs.lemmas.Bool.{cases_eq}
use Rattle.std.proofs.lemmas.Option.{slice_get_within}
use Rattle.twe_base.specs.Limits.{Bounds}
use Rattle.seg_journal.specs.declared.journal.Entry.{Entry}
use Rattle.seg_journal.specs.declared.moves.Kind.{Kind}
use Rattle.seg_journal.specs.declared.moves.Kind.TheVariants.{Admit, Run}
use Rattle.seg_journal.specs.declared.moves.Move.{Move}
use Rattle.twe_program.specs.Program.{Program}
use Rattle.twe_program.specs.WellFormed.{IsWellFormed}
use Rattle.seg_meaning.specs.declared.frame.Frame.{Frame}
use Rattle.seg_meaning.specs.declared.stop.Stop.{Stop}
use Rattle.seg_meaning.specs.declared.stop.Stop.TheVariants as stops
use Rattle.seg_meaning.specs.Segment.{Stopped}
use Rattle.isolation_laws.specs.soundness.KeepsEffects.{KeepsEffects}
use Rattle.machine_state.specs.declared.state.State.{State}
use Rattle.machine_state.specs.declared.state.TaskRow.{TaskRow}
use Rattle.machine_state.specs.declared.state.TaskStatus.TheVariants.{Made, Enabled, Done}
use Rattle.machine_state.specs.Changes.{next_segment}
use Rattle.machine_state.specs.Legal.{MayMove, MayRun, MayTake}
use Rattle.machine_state.specs.Moves.{joined_row, move_result, result_by_kind}
use Rattle.machine_state.specs.Rows.{HasStatus, IsRow}
use Rattle.machine_state.specs.Runs.{AllTasksDone, IsReached, LegalFrom, entry_of, replayed}
use Rattle.machine_state.proofs.lists.Members.{contains_in}
use Rattle.machine_state.proofs.lists.Places.{below_there, got_one}
use Rattle.machine_state.proofs.standing.ReachedStands.{reached_stands}
use Rattle.machine_state.proofs.tasks.Movers.{mover_undone}
use Rattle.determinism_laws.specs.numbering.Renumbering.{Numbering}
use Rattle.determinism_laws.specs.results.Main.{MainIsDeterministic}
use Rattle.determinism_laws.proofs.results.MainTree.{in_tree}
use Rattle.determinism_laws.specs.Endings.{CanFinish}
use Rattle.determinism_laws.specs.Independence.{KeepsNextSegment}
use Rattle.determinism_laws.proofs.EndedRuns.{no_move}
use Rattle.determinism_laws.proofs.Exchanged.{Ready, after_run, count_is, orders_lead_alike}
use Rattle.determinism_laws.proofs.KeptSegments.{keeps_next_segment}
use Rattle.determinism_laws.proofs.MovedRows.{child_joined, marked, own_after, rows_after}
use Rattle.determinism_laws.proofs.NearFaults.{ends_in_fault, finishing_meets_none, reached_more, run_ends}
use Rattle.determinism_laws.proofs.SameMoves.{Exchanges, SameStates, WasRow, its_own, may_too, row_back, same_after, was_made, was_row, was_there}
use Rattle.determinism_laws.proofs.Swaps.{swapped}

-- Statuses.

not_made : (stop : Stop) (number : ℕ) (row : TaskRow) (frame : Frame) → row.status ≡ Enabled → (own_after stop number row frame).status ≢ Made
not_made (stops.Make child args effects spawned future place) number row frame enabled made = let both : Enabled ≡ Made = sym enabled ∙ made in cc (both)
not_made (stops.Waits on) number row frame enabled made = let both : Enabled ≡ Made = sym enabled ∙ made in cc (both)
not_made (stops.Joins on) number row frame enabled made = let both : Enabled ≡ Made = sym enabled ∙ made in cc (both)
not_made (stops.Done value) number row frame enabled made = cc (made)
not_made (stops.Fault kind place) number row frame enabled made = cc (made)

mark_status : (row : TaskRow) (b : Bool) → (if b then joined_row row else row).status ≡ row.status
mark_status row true = refl
mark_status row false = refl

marked_status : (child : Option ℕ) (u : ℕ) (row : TaskRow) → (marked child u row).status ≡ row.status
marked_status None u row = refl
marked_status (Some c) u row = mark_status row (c == u)

-- the status of a task says the kind of its move
same_kind : (st : State) (t : ℕ) (one other : Kind) → MayTake st one t → MayTake st other t → one ≡ other
same_kind st t Admit Admit may may_too = refl
same_kind st t Run Run may may_too = refl
same_kind st t Admit Run may may_too =
    let both : Made ≡ Enabled = sym may.0.2 ∙ (ap (λ (r : TaskRow). r.status) (got_one (slice_get st.tasks t) may.0.1 may_too.0.1) ∙ may_too.0.2) in
    absurd (cc (both))
same_kind st t Run Admit may may_too =
    let both : Enabled ≡ Made = sym may.0.2 ∙ (ap (λ (r : TaskRow). r.status) (got_one (slice_get st.tasks t) may.0.1 may_too.0.1) ∙ may_too.0.2) in
    absurd (cc (both))

-- main is admitted
abbrev MainHasBegun : State → Type 0
MainHasBegun st = ¬ HasStatus st 0 Made

-- a segment, and what follows
finishes_after : (p : Program) (lim : Bounds) (st : State) (t : ℕ) → MayRun st t → CanFinish p lim (after_run p lim st t) → CanFinish p lim st
finishes_after p lim st t may finish = record {
  entries = entry_of p lim st (record { task = t; kind = Run }) ∷ finish.entries;
  legal = (may, refl, finish.legal);
  done = finish.done;
}

module _ (p : Program) (wf : IsWellFormed p) (keeps : KeepsEffects p) (lim : Bounds) where
  reached_after : (st : State) (t : ℕ) → IsReached p lim st → MayRun st t → IsReached p lim (after_run p lim st t)
  reached_after st t reached may = reached_more p wf keeps lim st (record { task = t; kind = Run }) reached may

  -- a move that meets no fault has room for what it makes
  ready : (st : State) (t : ℕ) → IsReached p lim st → CanFinish p lim st → MayRun st t → Ready p lim st t
  ready st t reached finish may = record {
    row = may.0.0;
    here = may.0.1;
    may = may;
    fits = sym (run_ends p wf keeps lim st t may.0.0 (record { task = t; kind = Run }) may.0.1 refl refl) ∙ finishing_meets_none p wf keeps lim st reached finish (record { task = t; kind = Run }) may;
  }

  -- main has begun after a segment, too
  begun_after : (st : State) (t : ℕ) → IsReached p lim st → (of_t : Ready p lim st t) → MainHasBegun st → MainHasBegun (after_run p lim st t)
  begun_after st t reached of_t begun made =
      let rows = rows_after p wf lim st reached t of_t.row of_t.here of_t.may of_t.fits in
      by_row (was_row lim st (after_run p lim st t) t of_t.row (next_segment p st of_t.row) rows 0 made.0 made.1)
    where
      by_row : WasRow lim st t of_t.row (next_segment p st of_t.row) 0 made.0 → ⊥
      by_row (its_own is row_is) =
          let enabled : of_t.row.status ≡ Enabled = ap (λ (r : TaskRow). r.status) (got_one (slice_get st.tasks t) of_t.here of_t.may.0.1) ∙ of_t.may.0.2 in
          not_made (next_segment p st of_t.row).stop (length st.tasks) of_t.row (next_segment p st of_t.row).frame enabled (sym (ap (λ (r : TaskRow). r.status) row_is) ∙ made.2)
      by_row (was_there old differ at is) =
          begun (old, at, sym (marked_status (child_joined of_t.row) 0 old) ∙ (sym (ap (λ (r : TaskRow). r.status) is) ∙ made.2))
      by_row (was_made is asked new) = let some = (reached_stands p lim st wf reached).some in omega (arith, is, some)

  module _ (flag : MainIsDeterministic p) where
    spawned : (st : State) → IsReached p lim st → (t : ℕ) (row : TaskRow) → IsRow st t row → (t ≡ 0) ⊎ ((q : ℕ) × (row.parent ≡ Some q))
    spawned st reached t row here = (in_tree p wf keeps lim reached.journal reached.legal flag t row (subst (λ (s : State). IsRow s t row) reached.same here)).spawned

    -- only main is ever admitted
    admits_main : (st : State) → IsReached p lim st → (t : ℕ) → HasStatus st t Made → t ≡ 0
    admits_main st reached t made = elim (spawned st reached t made.0 made.1) [
      | inl is ↦ is
      | inr parent ↦
          let none = ap (λ (r : TaskRow). r.parent) (((reached_stands p lim st wf reached).rows t made.0 made.1).made made.2) in
          absurd (cc (none, parent.1))
    ]

    runs : (st : State) → IsReached p lim st → MainHasBegun st → (kind : Kind) (t : ℕ) → MayTake st kind t → kind ≡ Run
    runs st reached begun Run t may = refl
    runs st reached begun Admit t may = absurd (begun (subst (λ (n : ℕ). HasStatus st n Made) (admits_main st reached t may.0) may.0))

    -- main has begun if another task is not done
    unjoined : (b : Bool) → ¬ (b ≡ true) → b ≡ false
    unjoined true not = absurd (not refl)
    unjoined false not = refl

    begun_by : (fuel : ℕ) (st : State) → IsReached p lim st → (u : ℕ) → u ≤ fuel → u ≢ 0 → (row : TaskRow) → IsRow st u row → row.status ≢ Done → MainHasBegun st
    begun_by zero st reached u le other row here undone made = other (omega (arith, le))
    begun_by (suc fuel) st reached u le other row here undone made = elim (spawned st reached u row here) [
      | inl is ↦ other is
      | inr parent ↦
          let stands = reached_stands p lim st wf reached in
          let q = parent.0 in
          let lower : q < u = (stands.rows u row here).parent q parent.1 in
          let found = below_there st.tasks q (let within = slice_get_within st.tasks u row here in omega (arith, lower, within)) in
          let listed : Contains found.0.out u = (stands.children q found.0 found.1 u).1 (record {
            row = row;
            there = here;
            parent = parent.1;
            unjoined = unjoined row.joined (λ joined. undone ((stands.rows u row here).joined joined));
          }) in
          let busy : ¬ (found.0.out ≡ []) = λ none. contains_in [] u (subst (λ (out : List ℕ). Contains out u) none listed) in
          elim (cases_eq q 0) [
            | inl is ↦
                let same : found.0 ≡ made.0 = got_one (slice_get st.tasks 0) (subst (λ (n : ℕ). IsRow st n found.0) is found.1) made.1 in
                busy (ap (λ (r : TaskRow). r.out) same ∙ ap (λ (r : TaskRow). r.out) ((stands.rows 0 made.0 made.1).made made.2))
            | inr differ ↦ begun_by fuel st reached q (omega (arith, lower, le)) differ found.0 found.1 (λ done. busy ((stands.rows q found.0 found.1).done done)) made
          ]
    ]

    begun_if_undone : (st : State) → IsReached p lim st → (kind : Kind) (u : ℕ) → u ≢ 0 → MayTake st kind u → MainHasBegun st
    begun_if_undone st reached kind u other may =
        let undone = mover_undone st kind u may in
        let found = below_there st.tasks u (there kind may) in
        begun_by u st reached u (omega arith) other found.0 found.1 (λ done. undone (found.0, found.1, done))
      where
        there : (k : Kind) → MayTake st k u → u < length st.tasks
        there Admit m = slice_get_within st.tasks u m.0.0 m.0.1
        there Run m = slice_get_within st.tasks u m.0.0 m.0.1

    begun_if_two : (st : State) → IsReached p lim st → (one other : Move) → one.task ≢ other.task → MayMove st one → MayMove st other → MainHasBegun st
    begun_if_two st reached one other differ may may_too = elim (cases_eq one.task 0) [
      | inr busy ↦ begun_if_undone st reached one.kind one.task busy may
      | inl main ↦ begun_if_undone st reached other.kind other.task (λ is. differ (main ∙ sym is)) may_too
    ]

    -- States that are the same but for numbers can finish alike.

    finishes_too : (entries : List Entry) (st other : State) (to : Numbering) → Exchanges to (length st.tasks) → IsReached p lim st → IsReached p lim other → SameStates to st other → MainHasBegun st
        → LegalFrom p lim st entries → AllTasksDone (replayed p lim st entries) → CanFinish p lim other
    finishes_too [] st other to exchanges reached reached_too same begun legal done = record {
      entries = [];
      legal = tt;
      done = λ u r here. let was = row_back p wf lim to st other exchanges reached reached_too same u r here in ap (λ (x : TaskRow). x.status) was.2 ∙ done (to u) was.0 was.1;
    }
    finishes_too (entry ∷ entries) st other to exchanges reached reached_too same begun legal done =
        let is : entry.mv.kind ≡ Run = runs st reached begun entry.mv.kind entry.mv.task legal.0 in
        let may : MayRun st entry.mv.task = subst (λ (k : Kind). MayTake st k entry.mv.task) is legal.0 in
        let leads : (move_result p lim st entry.mv).0 ≡ after_run p lim st entry.mv.task = ap (λ (k : Kind). (result_by_kind p lim st k entry.mv.task).0) is in
        let of_t = ready st entry.mv.task reached (record { entries = entry ∷ entries; legal = legal; done = done }) may in
        let may_there = may_too p wf lim to st other exchanges reached reached_too same entry.mv.task of_t.row of_t.here of_t.may in
        let rows = rows_after p wf lim st reached entry.mv.task of_t.row of_t.here of_t.may of_t.fits in
        let longer : length st.tasks ≤ length (after_run p lim st entry.mv.task).tasks = omega (arith, rows.count) in
        finishes_after p lim other (to entry.mv.task) may_there
        (finishes_too entries (after_run p lim st entry.mv.task) (after_run p lim other (to entry.mv.task)) to
        (record { back = exchanges.back; beyond = λ k least. exchanges.beyond k (omega (arith, least, longer)) })
        (reached_after st entry.mv.task reached may) (reached_after other (to entry.mv.task) reached_too may_there)
        (same_after p wf lim to st other exchanges reached reached_too same entry.mv.task of_t.row of_t.here of_t.may of_t.fits)
        (begun_after st entry.mv.task reached of_t begun)
        (subst (λ (s : State). LegalFrom p lim s entries) leads legal.2) (subst (λ (s : State). AllTasksDone (replayed p lim s entries)) leads done))

    -- The move of t, after that of s and before it.
    module _ (st : State) (reached : IsReached p lim st) (s t : ℕ) (differ : s ≢ t) (of_s : Ready p lim st s) (of_t : Ready p lim st t) (begun : MainHasBegun st)
        (finish : CanFinish p lim (after_run p lim st s)) where
      abbrev st_one : State
      st_one = after_run p lim st s

      abbrev st_two : State
      st_two = after_run p lim st t

      kept_t : KeepsNextSegment p st st_one t of_t.row
      kept_t = keeps_next_segment p wf keeps lim st reached t of_t.row (record { task = s; kind = Run }) differ of_t.here of_t.may of_s.may

      kept_s : KeepsNextSegment p st st_two s of_s.row
      kept_s = keeps_next_segment p wf keeps lim st reached s of_s.row (record { task = t; kind = Run }) (λ e. differ (sym e)) of_s.here of_s.may of_t.may

      reached_one : IsReached p lim st_one
      reached_one = reached_after st s reached of_s.may

      reached_two : IsReached p lim st_two
      reached_two = reached_after st t reached of_t.may

      fits : ends_in_fault lim st_one.asked (next_segment p st of_t.row).stop ≡ false
      fits =
          sym (ap (λ (x : Stopped). ends_in_fault lim st_one.asked x.stop) kept_t.same)
          ∙ (sym (run_ends p wf keeps lim st_one t of_t.row (record { task = t; kind = Run }) kept_t.there refl refl)
          ∙ finishing_meets_none p wf keeps lim st_one reached_one finish (record { task = t; kind = Run }) kept_t.may)

      second : Ready p lim st_one t
      second = record {
        row = of_t.row;
        here = kept_t.there;
        may = kept_t.may;
        fits = ap (λ (x : Stopped). ends_in_fault lim st_one.asked x.stop) kept_t.same ∙ fits;
      }

      exchanged : CanFinish p lim (after_run p lim st_one t) → CanFinish p lim st_two
      exchanged done =
          let swap = swapped (length st.tasks) (next_segment p st of_s.row).stop (next_segment p st of_t.row).stop in
          let count = count_is p wf keeps lim st reached s t differ of_s of_t fits in
          let same = orders_lead_alike p wf keeps lim st reached s t differ of_s of_t fits swap.to swap.swaps in
          finishes_after p lim st_two s kept_s.may
          (finishes_too done.entries (after_run p lim st_one t) (after_run p lim st_two s) swap.to (subst (Exchanges swap.to) (sym count) swap.exchanges)
          (reached_after st_one t reached_one kept_t.may) (reached_after st_two s reached_two kept_s.may) same
          (begun_after st_one t reached_one second (begun_after st s reached of_s begun)) done.legal done.done)

    -- a move by its task and its kind
    by_move : (st : State) (one other : Move) → one.task ≡ other.task → one.kind ≡ other.kind → CanFinish p lim (move_result p lim st one).0 → CanFinish p lim (move_result p lim st other).0
    by_move st one other task kind finish = subst (CanFinish p lim) (λ i. (result_by_kind p lim st (kind i) (task i)).0) finish

    -- the run that is left starts with another move
    past_another : (entry : Entry) (entries : List Entry) (st : State) → IsReached p lim st → LegalFrom p lim st (entry ∷ entries) → AllTasksDone (replayed p lim st (entry ∷ entries)) → (mv : Move) → MayMove st mv
        → entry.mv.task ≢ mv.task
        → ((x : State) → IsReached p lim x → LegalFrom p lim x entries → AllTasksDone (replayed p lim x entries) → (m : Move) → MayMove x m → CanFinish p lim (move_result p lim x m).0)
        → CanFinish p lim (move_result p lim st mv).0
    past_another entry entries st reached legal done mv may differ rest =
        let begun = begun_if_two st reached entry.mv mv differ legal.0 may in
        let one = runs st reached begun entry.mv.kind entry.mv.task legal.0 in
        let two = runs st reached begun mv.kind mv.task may in
        let whole : CanFinish p lim st = record { entries = entry ∷ entries; legal = legal; done = done } in
        let leads : (move_result p lim st entry.mv).0 ≡ after_run p lim st entry.mv.task = ap (λ (k : Kind). (result_by_kind p lim st k entry.mv.task).0) one in
        let of_s = ready st entry.mv.task reached whole (subst (λ (k : Kind). MayTake st k entry.mv.task) one legal.0) in
        let of_t = ready st mv.task reached whole (subst (λ (k : Kind). MayTake st k mv.task) two may) in
        let legal_on = subst (λ (x : State). LegalFrom p lim x entries) leads legal.2 in
        let done_on = subst (λ (x : State). AllTasksDone (replayed p lim x entries)) leads done in
        let left : CanFinish p lim (after_run p lim st entry.mv.task) = record { entries = entries; legal = legal_on; done = done_on } in
        let kept = kept_t st reached entry.mv.task mv.task differ of_s of_t begun left in
        let on = rest (after_run p lim st entry.mv.task) (reached_after st entry.mv.task reached of_s.may) legal_on done_on (record { task = mv.task; kind = Run }) kept.may in
        by_move st (record { task = mv.task; kind = Run }) mv refl (sym two) (exchanged st reached entry.mv.task mv.task differ of_s of_t begun left on)

    stays_from : (entries : List Entry) (st : State) → IsReached p lim st → LegalFrom p lim st entries → AllTasksDone (replayed p lim st entries) → (mv : Move) → MayMove st mv
        → CanFinish p lim (move_result p lim st mv).0
    stays_from [] st reached legal done mv may = absurd (no_move st done mv may)
    stays_from (entry ∷ entries) st reached legal done mv may = elim (cases_eq entry.mv.task mv.task) [
      | inl same ↦
          let kind = same_kind st mv.task entry.mv.kind mv.kind (subst (λ (t : ℕ). MayTake st entry.mv.kind t) same legal.0) may in
          by_move st entry.mv mv same kind (record { entries = entries; legal = legal.2; done = done })
      | inr differ ↦ past_another entry entries st reached legal done mv may differ (stays_from entries)
    ]

pub finishing_stays : (p : Program) → IsWellFormed p → KeepsEffects p → MainIsDeterministic p → (lim : Bounds) (st : State) → IsReached p lim st → CanFinish p lim st → (mv : Move) → MayMove st mv
    → CanFinish p lim (move_result p lim st mv).0
finishing_stays p wf keeps flag lim st reached finish mv may = stays_from p wf keeps lim flag finish.entries st reached finish.legal finish.done mv may
