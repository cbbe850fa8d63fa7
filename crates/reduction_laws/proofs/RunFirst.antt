-- A task that may run may run first: its segment changes places with the moves before it.
use Rattle.std.proofs.Common.{◌≡◌, ◌≢◌, ◌≤◌, ℕ, List, [], ◌∷◌, Option, None, Some, refl, sym, ap, ◌∙◌, subst, inl, inr}
use Rattle.std.proofs.lemmas.Bool.{cases_Bool, cases_eq}
use Rattle.twe_base.specs.Limits.{Bounds}
use Rattle.seg_journal.specs.declared.journal.Entry.{Entry}
use Rattle.seg_journal.specs.declared.moves.Kind.{Kind}
use Rattle.seg_journal.specs.declared.moves.Kind.TheVariants.{Admit, Run}
use Rattle.seg_journal.specs.declared.moves.Move.{Move}
use Rattle.twe_program.specs.Program.{Program}
use Rattle.twe_program.specs.WellFormed.{IsWellFormed}
use Rattle.seg_meaning.specs.Segment.{Stopped}
use Rattle.isolation_laws.specs.soundness.KeepsEffects.{KeepsEffects}
use Rattle.machine_state.specs.declared.state.FirstFault.{FirstFault}
use Rattle.machine_state.specs.declared.state.State.{State}
use Rattle.machine_state.specs.Changes.{next_segment}
use Rattle.machine_state.specs.Legal.{MayAdmit, MayRun, MayTake}
use Rattle.machine_state.specs.Moves.{result_by_kind}
use Rattle.machine_state.specs.Runs.{IsReached, LegalFrom, replayed}
use Rattle.determinism_laws.specs.Endings.{HasMetFault}
use Rattle.determinism_laws.proofs.Exchanged.{Ready, after_run}
use Rattle.determinism_laws.proofs.KeptSegments.{keeps_next_segment}
use Rattle.determinism_laws.proofs.NearFaults.{ends_in_fault, reached_more}
use Rattle.reduction_laws.specs.WaysToEnd.{CanEndSo, HasEndedSo, WayToEnd}
use Rattle.reduction_laws.proofs.AdmissionsAndSegments.{kept_first, orders_agree, still_admits}
use Rattle.reduction_laws.proofs.Admissions.{after_admission}
use Rattle.reduction_laws.proofs.AlikeEnds.{ends_alike}
use Rattle.reduction_laws.proofs.Faults.{asked_more, doomed, ends_after, ends_as_met, may_still_run, met_stays, same_kind, segment_met, still_faults}
use Rattle.reduction_laws.proofs.SegmentsExchanged.{full_after, kept_one, kept_two, orders_alike, reached_one, reached_two, swap}

-- the end of a run does not see which of two equal moves was taken
pub by_move : (p : Program) (lim : Bounds) (st : State) (way : WayToEnd) (kind other : Kind) (t u : ℕ) → kind ≡ other → t ≡ u → CanEndSo p lim (result_by_kind p lim st kind t).0 way
    → CanEndSo p lim (result_by_kind p lim st other u).0 way
by_move p lim st way kind other t u kinds tasks can = subst (λ (s : State). CanEndSo p lim s way) (λ i. (result_by_kind p lim st (kinds i) (tasks i)).0) can

module _ (p : Program) (wf : IsWellFormed p) (keeps : KeepsEffects p) (lim : Bounds) (way : WayToEnd) where
  abbrev segment_of : ℕ → Move
  segment_of t = record { task = t; kind = Run }

  -- the law for what follows a move
  abbrev RunsFirst : List Entry → Type 0
  RunsFirst entries =
      (x : State) (t : ℕ) → IsReached p lim x → LegalFrom p lim x entries → HasEndedSo (replayed p lim x entries) way → MayRun x t
      → CanEndSo p lim (after_run p lim x t) way

  module _ (entries : List Entry) (st : State) (s t : ℕ) (reached : IsReached p lim st) (faultless : st.first_fault ≡ None) (differ : s ≢ t) (rest : RunsFirst entries) where
    -- an admission comes before it
    past_admission : MayAdmit st s → Ready p lim st t → LegalFrom p lim (after_admission st s) entries → HasEndedSo (replayed p lim (after_admission st s) entries) way
        → CanEndSo p lim (after_run p lim st t) way
    past_admission may_s of_t legal ended =
        let kept = kept_first p wf keeps lim st reached s t differ may_s of_t in
        let reached_s = reached_more p wf keeps lim st (record { task = s; kind = Admit }) reached may_s in
        let later = rest (after_admission st s) t reached_s legal ended kept.may in
        ends_after p lim (after_run p lim st t) (record { task = s; kind = Admit }) way (still_admits p wf keeps lim st reached s t differ may_s of_t)
        (subst (λ (x : State). CanEndSo p lim x way) (orders_agree p wf keeps lim st reached s t differ may_s of_t faultless) later)

    -- a segment that meets no fault comes before it
    past_segment : (of_s : Ready p lim st s) (of_t : Ready p lim st t) → LegalFrom p lim (after_run p lim st s) entries → HasEndedSo (replayed p lim (after_run p lim st s) entries) way
        → CanEndSo p lim (after_run p lim st t) way
    past_segment of_s of_t legal ended =
        let st_one = after_run p lim st s in
        let st_two = after_run p lim st t in
        let r_one = reached_one p wf keeps lim st reached s t differ of_s of_t in
        let r_two = reached_two p wf keeps lim st reached s t differ of_s of_t in
        let first = kept_one p wf keeps lim st reached s t differ of_s of_t in
        let second = kept_two p wf keeps lim st reached s t differ of_s of_t in
        let stop_one = (next_segment p st of_s.row).stop in
        let stop_two = (next_segment p st of_t.row).stop in
        ends_after p lim st_two (segment_of s) way first.may (elim (cases_Bool (ends_in_fault lim st_one.asked stop_two)) [
          | inr fits ↦
              let later = rest st_one t r_one legal ended second.may in
              ends_alike p wf keeps lim (swap p wf keeps lim st reached s t differ of_s of_t faultless fits).to later.entries (after_run p lim st_one t) (after_run p lim st_two s) way
              (orders_alike p wf keeps lim st reached s t differ of_s of_t faultless fits) later.legal later.ended
          | inl full ↦
              let full_too = full_after p wf keeps lim st reached s t differ of_s of_t full in
              let met = segment_met p wf keeps lim st_two s of_s.row r_two first.there first.may (ap (λ (x : Stopped). ends_in_fault lim st_two.asked x.stop) first.same ∙ full_too) in
              doomed p wf keeps lim entries st_one (after_run p lim st_two s) way r_one legal ended t of_t.row second.there second.may
              (ap (λ (x : Stopped). ends_in_fault lim st_one.asked x.stop) second.same ∙ full) met
        ])

    -- a segment comes before it
    past_run : MayRun st s → Ready p lim st t → LegalFrom p lim (after_run p lim st s) entries → HasEndedSo (replayed p lim (after_run p lim st s) entries) way
        → CanEndSo p lim (after_run p lim st t) way
    past_run may_s of_t legal ended =
        let row = may_s.0.0 in
        let here = may_s.0.1 in
        let stop = (next_segment p st row).stop in
        elim (cases_Bool (ends_in_fault lim st.asked stop)) [
          | inr fits ↦ past_segment (record { row = row; here = here; may = may_s; fits = fits }) of_t legal ended
          | inl fault ↦
              let st_two = after_run p lim st t in
              let r_one = reached_more p wf keeps lim st (segment_of s) reached may_s in
              let r_two = reached_more p wf keeps lim st (segment_of t) reached of_t.may in
              let kept = keeps_next_segment p wf keeps lim st reached s row (segment_of t) (λ e. differ (sym e)) here may_s of_t.may in
              let more : st.asked ≤ st_two.asked = asked_more p wf keeps lim st (segment_of t) reached of_t.may in
              let still = ap (λ (x : Stopped). ends_in_fault lim st_two.asked x.stop) kept.same ∙ still_faults lim st.asked st_two.asked more stop fault in
              ends_after p lim st_two (segment_of s) way kept.may
              (ends_as_met p wf keeps lim (after_run p lim st s) (after_run p lim st_two s) way r_one (segment_met p wf keeps lim st s row reached here may_s fault)
              (record { entries = entries; legal = legal; ended = ended }) (segment_met p wf keeps lim st_two s row r_two kept.there kept.may still))
        ]

    past_move : (kind : Kind) → MayTake st kind s → Ready p lim st t → LegalFrom p lim (result_by_kind p lim st kind s).0 entries
        → HasEndedSo (replayed p lim (result_by_kind p lim st kind s).0 entries) way → CanEndSo p lim (after_run p lim st t) way
    past_move Admit may of_t legal ended = past_admission may of_t legal ended
    past_move Run may of_t legal ended = past_run may of_t legal ended

  -- no fault was met so far
  faultless_first : (entry : Entry) (entries : List Entry) → RunsFirst entries → (st : State) (t : ℕ) → IsReached p lim st → LegalFrom p lim st (entry ∷ entries)
      → HasEndedSo (replayed p lim st (entry ∷ entries)) way → (may : MayRun st t) → st.first_fault ≡ None → CanEndSo p lim (after_run p lim st t) way
  faultless_first entry entries rest st t reached legal ended may none = elim (cases_eq entry.mv.task t) [
    | inl same ↦
        let kind = same_kind st t entry.mv.kind Run (subst (λ (n : ℕ). MayTake st entry.mv.kind n) same legal.0) may in
        by_move p lim st way entry.mv.kind Run entry.mv.task t kind same (record { entries = entries; legal = legal.2; ended = ended })
    | inr differ ↦ elim (cases_Bool (ends_in_fault lim st.asked (next_segment p st may.0.0).stop)) [
      | inl fault ↦
          doomed p wf keeps lim (entry ∷ entries) st (after_run p lim st t) way reached legal ended t may.0.0 may.0.1 may fault
          (segment_met p wf keeps lim st t may.0.0 reached may.0.1 may fault)
      | inr fits ↦
          past_move entries st entry.mv.task t reached none differ rest entry.mv.kind legal.0 (record { row = may.0.0; here = may.0.1; may = may; fits = fits }) legal.2 ended
    ]
  ]

  has_met : (st : State) (t : ℕ) → IsReached p lim st → MayRun st t → HasMetFault st → CanEndSo p lim st way → CanEndSo p lim (after_run p lim st t) way
  has_met st t reached may met can = ends_as_met p wf keeps lim st (after_run p lim st t) way reached met can (met_stays p wf keeps lim st (segment_of t) reached may met)

  by_fault : (entry : Entry) (entries : List Entry) → RunsFirst entries → (st : State) (t : ℕ) → IsReached p lim st → LegalFrom p lim st (entry ∷ entries)
      → HasEndedSo (replayed p lim st (entry ∷ entries)) way → MayRun st t → (fault : Option FirstFault) → st.first_fault ≡ fault → CanEndSo p lim (after_run p lim st t) way
  by_fault entry entries rest st t reached legal ended may None is = faultless_first entry entries rest st t reached legal ended may is
  by_fault entry entries rest st t reached legal ended may (Some first) is = has_met st t reached may (first, is) (record { entries = entry ∷ entries; legal = legal; ended = ended })

  pub runs_first : (entries : List Entry) (st : State) (t : ℕ) → IsReached p lim st → LegalFrom p lim st entries → HasEndedSo (replayed p lim st entries) way → MayRun st t
      → CanEndSo p lim (after_run p lim st t) way
  runs_first [] st t reached legal ended may =
      has_met st t reached may (may_still_run p wf keeps lim st t way may ended) (record { entries = []; legal = tt; ended = ended })
  runs_first (entry ∷ entries) st t reached legal ended may =
      by_fault entry entries (λ x u at legal_on ended_on may_on. runs_first entries x u at legal_on ended_on may_on) st t reached legal ended may st.first_fault refl

pub run_first : (p : Program) → IsWellFormed p → KeepsEffects p → (lim : Bounds) (st : State) → IsReached p lim st → (t : ℕ) → MayRun st t → (way : WayToEnd) → CanEndSo p lim st way
    → CanEndSo p lim (after_run p lim st t) way
run_first p wf keeps lim st reached t may way can = runs_first p wf keeps lim way can.entries st t reached can.legal can.ended may
