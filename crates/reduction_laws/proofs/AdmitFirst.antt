-- A task that may be admitted and that nothing meets may be admitted first.
use Rattle.std.proofs.Common.{◌≡◌, ◌≢◌, ℕ, List, [], ◌∷◌, Option, None, Some, refl, sym, ap, ◌∙◌, subst, inl, inr}
use Rattle.std.proofs.lemmas.Bool.{cases_Bool, cases_eq}
use Rattle.twe_base.specs.Limits.{Bounds}
use Rattle.seg_journal.specs.declared.journal.Entry.{Entry}
use Rattle.seg_journal.specs.declared.moves.Kind.{Kind}
use Rattle.seg_journal.specs.declared.moves.Kind.TheVariants.{Admit, Run}
use Rattle.seg_journal.specs.declared.moves.Move.{Move}
use Rattle.twe_program.specs.Program.{Program}
use Rattle.twe_program.specs.WellFormed.{IsWellFormed}
use Rattle.seg_meaning.specs.Segment.{Stopped}
use Rattle.isolation_laws.specs.soundness.KeepsEffects.{KeepsEffects}
use Rattle.machine_state.specs.declared.state.FirstFault.{FirstFault}
use Rattle.machine_state.specs.declared.state.State.{State}
use Rattle.machine_state.specs.declared.state.TaskStatus.TheVariants.{Done, Made}
use Rattle.machine_state.specs.Changes.{next_segment}
use Rattle.machine_state.specs.Legal.{MayAdmit, MayRun, MayTake}
use Rattle.machine_state.specs.Moves.{result_by_kind}
use Rattle.machine_state.specs.Runs.{IsReached, LegalFrom, replayed}
use Rattle.determinism_laws.specs.Endings.{HasMetFault}
use Rattle.determinism_laws.proofs.Exchanged.{Ready, after_run}
use Rattle.determinism_laws.proofs.KeptSegments.{keeps_next_segment}
use Rattle.determinism_laws.proofs.NearFaults.{ends_in_fault, reached_more}
use Rattle.reduction_laws.specs.Meeting.{NothingMeets}
use Rattle.reduction_laws.specs.WaysToEnd.{CanEndSo, HasEndedSo, WayToEnd, all_done, stuck, faulty}
use Rattle.reduction_laws.proofs.AdmissionsAndSegments.{kept_first, orders_agree, still_admits}
use Rattle.reduction_laws.proofs.Admissions.{admits_still, admitted_asked, after_admission, interferes_back}
use Rattle.reduction_laws.proofs.Faults.{ends_after, ends_as_met, met_stays, same_kind, segment_met}
use Rattle.reduction_laws.proofs.NothingMeetsLater.{alone_after_admission, alone_after_segment}
use Rattle.reduction_laws.proofs.RunFirst.{by_move}
use Rattle.reduction_laws.proofs.TwoAdmissions.{admissions_agree}

module _ (p : Program) (wf : IsWellFormed p) (keeps : KeepsEffects p) (lim : Bounds) (way : WayToEnd) where
  abbrev admission_of : ℕ → Move
  admission_of t = record { task = t; kind = Admit }

  abbrev segment_of : ℕ → Move
  segment_of t = record { task = t; kind = Run }

  -- a task that may be admitted has not ended
  may_still_begin : (st : State) (t : ℕ) → MayAdmit st t → (w : WayToEnd) → HasEndedSo st w → HasMetFault st
  may_still_begin st t may (all_done cells prints tasks) ended = let both : Done ≡ Made = sym (ended.0.1 t may.0.0 may.0.1) ∙ may.0.2 in absurd (cc (both))
  may_still_begin st t may stuck ended = absurd (ended.2 (admission_of t) may)
  may_still_begin st t may faulty ended = ended

  -- the law for what follows a move
  abbrev AdmitsFirst : List Entry → Type 0
  AdmitsFirst entries =
      (x : State) (t : ℕ) → IsReached p lim x → LegalFrom p lim x entries → HasEndedSo (replayed p lim x entries) way → MayAdmit x t → NothingMeets p x t
      → CanEndSo p lim (after_admission x t) way

  module _ (entries : List Entry) (st : State) (s t : ℕ) (reached : IsReached p lim st) (faultless : st.first_fault ≡ None) (differ : s ≢ t) (rest : AdmitsFirst entries)
      (may_t : MayAdmit st t) (alone : NothingMeets p st t) where
    back : t ≢ s
    back e = differ (sym e)

    reached_t : IsReached p lim (after_admission st t)
    reached_t = reached_more p wf keeps lim st (admission_of t) reached may_t

    -- another admission comes before it
    past_admission : MayAdmit st s → LegalFrom p lim (after_admission st s) entries → HasEndedSo (replayed p lim (after_admission st s) entries) way
        → CanEndSo p lim (after_admission st t) way
    past_admission may_s legal ended =
        let apart = alone.made s differ may_s.0 in
        let t_later = admits_still st s t differ apart may_s.0 may_t in
        let s_later = admits_still st t s back (λ meets. apart (interferes_back st t s meets)) may_t.0 may_s in
        let reached_s = reached_more p wf keeps lim st (admission_of s) reached may_s in
        let later = rest (after_admission st s) t reached_s legal ended t_later (alone_after_admission p st s t differ may_s alone) in
        let same = admissions_agree st s t differ may_s.0.0 may_t.0.0 may_s.0.1 may_t.0.1 p wf lim
        (reached_more p wf keeps lim (after_admission st s) (admission_of t) reached_s t_later) (reached_more p wf keeps lim (after_admission st t) (admission_of s) reached_t s_later) in
        ends_after p lim (after_admission st t) (admission_of s) way s_later (subst (λ (x : State). CanEndSo p lim x way) same later)

    -- a segment comes before it
    past_run : MayRun st s → LegalFrom p lim (after_run p lim st s) entries → HasEndedSo (replayed p lim (after_run p lim st s) entries) way
        → CanEndSo p lim (after_admission st t) way
    past_run may_s legal ended =
        let row = may_s.0.0 in
        let here = may_s.0.1 in
        let stop = (next_segment p st row).stop in
        let reached_s = reached_more p wf keeps lim st (segment_of s) reached may_s in
        elim (cases_Bool (ends_in_fault lim st.asked stop)) [
          | inr fits ↦
              let of_s : Ready p lim st s = record { row = row; here = here; may = may_s; fits = fits } in
              let t_later = still_admits p wf keeps lim st reached t s back may_t of_s in
              let later = rest (after_run p lim st s) t reached_s legal ended t_later (alone_after_segment p wf keeps lim st reached s t differ of_s may_t.0.0 may_t.0.1 alone) in
              let same = orders_agree p wf keeps lim st reached t s back may_t of_s faultless in
              ends_after p lim (after_admission st t) (segment_of s) way (kept_first p wf keeps lim st reached t s back may_t of_s).may
              (subst (λ (x : State). CanEndSo p lim x way) (sym same) later)
          | inl fault ↦
              let kept = keeps_next_segment p wf keeps lim st reached s row (admission_of t) back here may_s may_t in
              let asked = admitted_asked st t may_t.0.0 may_t.0.1 in
              let still = ap (λ (x : Stopped). ends_in_fault lim (after_admission st t).asked x.stop) kept.same ∙ (ap (λ (n : ℕ). ends_in_fault lim n stop) asked ∙ fault) in
              ends_after p lim (after_admission st t) (segment_of s) way kept.may
              (ends_as_met p wf keeps lim (after_run p lim st s) (after_run p lim (after_admission st t) s) way reached_s (segment_met p wf keeps lim st s row reached here may_s fault)
              (record { entries = entries; legal = legal; ended = ended }) (segment_met p wf keeps lim (after_admission st t) s row reached_t kept.there kept.may still))
        ]

    past_move : (kind : Kind) → MayTake st kind s → LegalFrom p lim (result_by_kind p lim st kind s).0 entries
        → HasEndedSo (replayed p lim (result_by_kind p lim st kind s).0 entries) way → CanEndSo p lim (after_admission st t) way
    past_move Admit may legal ended = past_admission may legal ended
    past_move Run may legal ended = past_run may legal ended

  -- no fault was met so far
  faultless_first : (entry : Entry) (entries : List Entry) → AdmitsFirst entries → (st : State) (t : ℕ) → IsReached p lim st → LegalFrom p lim st (entry ∷ entries)
      → HasEndedSo (replayed p lim st (entry ∷ entries)) way → MayAdmit st t → NothingMeets p st t → st.first_fault ≡ None → CanEndSo p lim (after_admission st t) way
  faultless_first entry entries rest st t reached legal ended may alone none = elim (cases_eq entry.mv.task t) [
    | inl same ↦
        let kind = same_kind st t entry.mv.kind Admit (subst (λ (n : ℕ). MayTake st entry.mv.kind n) same legal.0) may in
        by_move p lim st way entry.mv.kind Admit entry.mv.task t kind same (record { entries = entries; legal = legal.2; ended = ended })
    | inr differ ↦ past_move entries st entry.mv.task t reached none differ rest may alone entry.mv.kind legal.0 legal.2 ended
  ]

  has_met : (st : State) (t : ℕ) → IsReached p lim st → MayAdmit st t → HasMetFault st → CanEndSo p lim st way → CanEndSo p lim (after_admission st t) way
  has_met st t reached may met can = ends_as_met p wf keeps lim st (after_admission st t) way reached met can (met_stays p wf keeps lim st (admission_of t) reached may met)

  by_fault : (entry : Entry) (entries : List Entry) → AdmitsFirst entries → (st : State) (t : ℕ) → IsReached p lim st → LegalFrom p lim st (entry ∷ entries)
      → HasEndedSo (replayed p lim st (entry ∷ entries)) way → MayAdmit st t → NothingMeets p st t → (fault : Option FirstFault) → st.first_fault ≡ fault
      → CanEndSo p lim (after_admission st t) way
  by_fault entry entries rest st t reached legal ended may alone None is = faultless_first entry entries rest st t reached legal ended may alone is
  by_fault entry entries rest st t reached legal ended may alone (Some first) is =
      has_met st t reached may (first, is) (record { entries = entry ∷ entries; legal = legal; ended = ended })

  pub admits_first : (entries : List Entry) (st : State) (t : ℕ) → IsReached p lim st → LegalFrom p lim st entries → HasEndedSo (replayed p lim st entries) way → MayAdmit st t
      → NothingMeets p st t → CanEndSo p lim (after_admission st t) way
  admits_first [] st t reached legal ended may alone =
      has_met st t reached may (may_still_begin st t may way ended) (record { entries = []; legal = tt; ended = ended })
  admits_first (entry ∷ entries) st t reached legal ended may alone =
      by_fault entry entries (λ x u at legal_on ended_on may_on alone_on. admits_first entries x u at legal_on ended_on may_on alone_on) st t reached legal ended may alone st.first_fault refl

pub admit_first : (p : Program) → IsWellFormed p → KeepsEffects p → (lim : Bounds) (st : State) → IsReached p lim st → (t : ℕ) → MayAdmit st t → NothingMeets p st t
    → (way : WayToEnd) → CanEndSo p lim st way → CanEndSo p lim (after_admission st t) way
admit_first p wf keeps lim st reached t may alone way can = admits_first p wf keeps lim way can.entries st t reached can.legal can.ended may alone
