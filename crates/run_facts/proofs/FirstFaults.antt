-- The first entry of a legal journal that met a fault is that of the first fault of its state.
use Rattle.std.proofs.Common.{◌≡◌, ◌<◌, ◌++◌, ℕ, zero, suc, true, false, List, [], ◌∷◌, Option, None, Some, length, take, drop, get_or, refl, sym, ap, ◌∙◌, subst, arith}
use Rattle.std.proofs.Math.Seq.{drop-cons}
use Rattle.seg_journal.specs.declared.journal.End.{End}
use Rattle.seg_journal.specs.declared.journal.End.TheVariants as ends
use Rattle.seg_journal.specs.declared.journal.Entry.{Entry}
use Rattle.seg_journal.specs.declared.moves.Kind.{Kind}
use Rattle.seg_journal.specs.declared.moves.Kind.TheVariants.{Admit, Run}
use Rattle.seg_journal.specs.declared.moves.Move.{Move}
use Rattle.twe_base.specs.Limits.{Bounds}
use Rattle.twe_program.specs.Program.{Program}
use Rattle.twe_program.specs.WellFormed.{IsWellFormed}
use Rattle.machine_state.specs.declared.state.FirstFault.{FirstFault}
use Rattle.machine_state.specs.declared.state.State.{State}
use Rattle.machine_state.specs.Changes.{fault_after}
use Rattle.machine_state.specs.Legal.{MayMove}
use Rattle.machine_state.specs.Moves.{move_result, result_by_kind, start_of}
use Rattle.machine_state.specs.Runs.{IsReached, Legal, LegalFrom, entry_of, is_fault, replayed, state_after}
use Rattle.machine_state.proofs.replays.Replayed.{run_more}
use Rattle.machine_state.proofs.tasks.LeftAlone.{moves_leave_alone}
use Rattle.run_facts.specs.FaultSnapshots.{faulty_entry}
use Rattle.run_facts.proofs.Beginnings.{begins_legal}

-- a first fault stays the first, and an end without one adds none
stays_first : (first : FirstFault) (t : ℕ) (end : End) → fault_after (Some first) t end ≡ Some first
stays_first first t ends.Admitted = refl
stays_first first t (ends.Made child) = refl
stays_first first t (ends.Waits on) = refl
stays_first first t (ends.Joins on) = refl
stays_first first t (ends.Done value) = refl
stays_first first t (ends.Fault kind place) = refl

adds_none : (t : ℕ) (end : End) → is_fault end ≡ false → fault_after None t end ≡ None
adds_none t ends.Admitted quiet = refl
adds_none t (ends.Made child) quiet = refl
adds_none t (ends.Waits on) quiet = refl
adds_none t (ends.Joins on) quiet = refl
adds_none t (ends.Done value) quiet = refl
adds_none t (ends.Fault kind place) quiet = cc

same_fault : (a b : FirstFault) → Some a ≡ Some b → a ≡ b
same_fault a b same = cc

module _ (p : Program) (lim : Bounds) where
  -- the rest of a legal journal is legal behind its beginning, and leads to the same state
  rest_legal : (st : State) (journal : List Entry) (n : ℕ) → LegalFrom p lim st journal → LegalFrom p lim (replayed p lim st (take n journal)) (drop n journal)
  rest_legal st [] zero legal = tt
  rest_legal st [] (suc n) legal = tt
  rest_legal st (entry ∷ journal) zero legal = legal
  rest_legal st (entry ∷ journal) (suc n) legal = rest_legal (move_result p lim st entry.mv).0 journal n legal.2

  rest_leads : (st : State) (journal : List Entry) (n : ℕ) → replayed p lim (replayed p lim st (take n journal)) (drop n journal) ≡ replayed p lim st journal
  rest_leads st [] zero = refl
  rest_leads st [] (suc n) = refl
  rest_leads st (entry ∷ journal) zero = refl
  rest_leads st (entry ∷ journal) (suc n) = rest_leads (move_result p lim st entry.mv).0 journal n

  reached_more : (st : State) (mv : Move) → IsReached p lim st → MayMove st mv → IsReached p lim (move_result p lim st mv).0
  reached_more st mv reached may =
      let run = run_more p lim reached.journal st mv (record { legal = reached.legal; same = reached.same }) may in
      record { journal = reached.journal ++ entry_of p lim st mv ∷ []; legal = run.legal; same = run.same }

  module _ (well : IsWellFormed p) where
    -- the first fault of a state stays the first over further moves
    stays : (entries : List Entry) (st : State) (first : FirstFault) → IsReached p lim st → LegalFrom p lim st entries → st.first_fault ≡ Some first
        → (replayed p lim st entries).first_fault ≡ Some first
    stays [] st first reached legal is = is
    stays (entry ∷ entries) st first reached legal is =
        let end : End = (move_result p lim st entry.mv).1 in
        let still = (moves_leave_alone p lim st entry.mv well reached legal.0).first_fault
        ∙ (ap (λ (o : Option FirstFault). fault_after o entry.mv.task end) is ∙ stays_first first entry.mv.task end) in
        stays entries (move_result p lim st entry.mv).0 first (reached_more st entry.mv reached legal.0) legal.2 still

    -- a move that meets no fault leaves a state without one
    pub still_none : (st : State) (entry : Entry) → IsReached p lim st → MayMove st entry.mv → (move_result p lim st entry.mv).1 ≡ entry.end → is_fault entry.end ≡ false
        → st.first_fault ≡ None → (move_result p lim st entry.mv).0.first_fault ≡ None
    still_none st entry reached may ended quiet none =
        (moves_leave_alone p lim st entry.mv well reached may).first_fault
        ∙ (ap (λ (o : Option FirstFault). fault_after o entry.mv.task (move_result p lim st entry.mv).1) none
        ∙ (ap (λ (end : End). fault_after None entry.mv.task end) ended ∙ adds_none entry.mv.task entry.end quiet))

    -- the entry that meets one is that of the fault
    faulty_is : (st : State) (entry : Entry) (later : List Entry) (fault : FirstFault) → IsReached p lim st → LegalFrom p lim st (entry ∷ later) → st.first_fault ≡ None
        → is_fault entry.end ≡ true → (replayed p lim st (entry ∷ later)).first_fault ≡ Some fault → entry ≡ faulty_entry fault
    faulty_is st entry later fault reached legal none is last = from entry.mv.kind entry.end refl refl
      where
        after : State
        after = (move_result p lim st entry.mv).0

        from : (kind : Kind) (end : End) → entry.mv.kind ≡ kind → entry.end ≡ end → entry ≡ faulty_entry fault
        from kind ends.Admitted k e = let never : false ≡ true = ap is_fault (sym e) ∙ is in cc
        from kind (ends.Made child) k e = let never : false ≡ true = ap is_fault (sym e) ∙ is in cc
        from kind (ends.Waits on) k e = let never : false ≡ true = ap is_fault (sym e) ∙ is in cc
        from kind (ends.Joins on) k e = let never : false ≡ true = ap is_fault (sym e) ∙ is in cc
        from kind (ends.Done value) k e = let never : false ≡ true = ap is_fault (sym e) ∙ is in cc
        from Admit (ends.Fault kind place) k e =
            let admits : ends.Admitted ≡ ends.Fault kind place = sym (ap (λ (x : Kind). (result_by_kind p lim st x entry.mv.task).1) k) ∙ (legal.1 ∙ e) in
            cc
        from Run (ends.Fault kind place) k e =
            let here : FirstFault = record { task = entry.mv.task; kind = kind; place = place } in
            let met : after.first_fault ≡ Some here =
            (moves_leave_alone p lim st entry.mv well reached legal.0).first_fault
            ∙ (ap (λ (o : Option FirstFault). fault_after o entry.mv.task (move_result p lim st entry.mv).1) none
            ∙ ap (λ (end : End). fault_after None entry.mv.task end) (legal.1 ∙ e)) in
            let still = stays later after here (reached_more st entry.mv reached legal.0) legal.2 met in
            let same : here ≡ fault = same_fault here fault (sym still ∙ last) in
            (λ i. record { mv = record { kind = k i; task = entry.mv.task }; end = e i }) ∙ ap faulty_entry same

    pub first_entry_is : (journal : List Entry) (n : ℕ) (none : Entry) (fault : FirstFault) → Legal p lim journal → n < length journal → (state_after p lim (take n journal)).first_fault ≡ None
        → is_fault (get_or journal n none).end ≡ true → (state_after p lim journal).first_fault ≡ Some fault → get_or journal n none ≡ faulty_entry fault
    first_entry_is journal n none fault legal below quiet is last =
        let st : State = state_after p lim (take n journal) in
        let reached : IsReached p lim st = record { journal = take n journal; legal = begins_legal p lim (start_of p lim) journal n legal; same = refl } in
        let split : drop n journal ≡ get_or journal n none ∷ drop (suc n) journal = drop-cons journal n none below in
        faulty_is st (get_or journal n none) (drop (suc n) journal) fault reached
        (subst (λ (l : List Entry). LegalFrom p lim st l) split (rest_legal (start_of p lim) journal n legal)) quiet is
        (ap (λ (l : List Entry). (replayed p lim st l).first_fault) (sym split)
        ∙ (ap (λ (s : State). s.first_fault) (rest_leads (start_of p lim) journal n) ∙ last))

  -- the end that the next entry has
  pub ended_so : (st : State) (journal : List Entry) (n : ℕ) (none : Entry) → LegalFrom p lim st journal → n < length journal
      → (move_result p lim (replayed p lim st (take n journal)) (get_or journal n none).mv).1 ≡ (get_or journal n none).end
  ended_so st [] n none legal below = absurd (omega (arith, below))
  ended_so st (entry ∷ journal) zero none legal below = legal.1
  ended_so st (entry ∷ journal) (suc n) none legal below = ended_so (move_result p lim st entry.mv).0 journal n none legal.2 (omega (arith, below))
