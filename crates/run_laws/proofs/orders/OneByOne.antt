-- Tasks are enabled one by one, so of two that are enabled one was enabled before the other.
use Rattle.std.proofs.Common.{◌≡◌, ◌≢◌, ◌⊎◌, ◌<◌, ◌+◌, ◌++◌, ℕ, zero, suc, List, [], ◌∷◌, length, length-set, take, drop, Option, None, Some, inl, inr, refl, sym, ◌∙◌, subst, arith}
use Rattle.std.specs.Prelude.{slice_get}
use Rattle.std.proofs.lemmas.Bool.{cases_eq}
use Rattle.std.proofs.lemmas.List.{take-append-drop}
use Rattle.std.proofs.lemmas.Option.{slice_get_within}
use Rattle.seg_journal.specs.declared.journal.Entry.{Entry}
use Rattle.seg_journal.specs.declared.moves.Kind.{Kind}
use Rattle.seg_journal.specs.declared.moves.Kind.TheVariants.{Admit, Run}
use Rattle.twe_base.specs.Limits.{Bounds}
use Rattle.twe_program.specs.Program.{Program}
use Rattle.twe_program.specs.WellFormed.{IsWellFormed}
use Rattle.machine_state.specs.declared.state.State.{State}
use Rattle.machine_state.specs.declared.state.TaskRow.{TaskRow}
use Rattle.machine_state.specs.declared.state.TaskStatus.{TaskStatus}
use Rattle.machine_state.specs.declared.state.TaskStatus.TheVariants.{Done, Enabled, Faulted, Made}
use Rattle.machine_state.specs.Legal.{MayTake}
use Rattle.machine_state.specs.Moves.{admitted, admitted_row, move_result, result_by_kind, start_of}
use Rattle.machine_state.specs.Rows.{HasStatus, IsRow}
use Rattle.machine_state.specs.Runs.{Legal, LegalFrom, replayed}
use Rattle.machine_state.proofs.standing.ReachedStands.{start_stands, taken_stands}
use Rattle.machine_state.proofs.standing.Standing.{IsOver, Stands}
use Rattle.machine_state.proofs.tasks.LeftAlone.{left_alone}
use Rattle.machine_state.proofs.tasks.OtherRows.{row_after}
use Rattle.run_laws.specs.Orders.{IsNotEnabledYet, WasEnabledBefore}
use Rattle.run_laws.proofs.orders.Enabling.{at_most_one}
use Rattle.run_laws.proofs.orders.TasksStay.{IsOut, enabled_or_not, legal_both, not_there, one_status, out_at_end, over_at_end}

-- a task that is not enabled yet is not enabled, and not over
yet_not_out : (status : TaskStatus) → status ≡ Made → IsOut status → ⊥
yet_not_out status made (inl enabled) = cc (made, enabled)
yet_not_out status made (inr over) = subst IsOver made over

made_or_out : (status : TaskStatus) → (status ≡ Made) ⊎ IsOut status
made_or_out Made = inl refl
made_or_out Enabled = inr (inl refl)
made_or_out Done = inr (inr tt)
made_or_out Faulted = inr (inr tt)

admission_makes_none : (st : State) (t : ℕ) (found : Option TaskRow) → length (admitted st t found).tasks ≡ length st.tasks
admission_makes_none st t None = refl
admission_makes_none st t (Some row) = length-set st.tasks t (admitted_row row)

module _ (p : Program) (lim : Bounds) (well : IsWellFormed p) where
  none_by_admission : (st : State) (kind : Kind) (t : ℕ) → kind ≡ Admit → length (result_by_kind p lim st kind t).0.tasks ≡ length st.tasks
  none_by_admission st Admit t is = admission_makes_none st t (slice_get st.tasks t)
  none_by_admission st Run t is = absurd (cc (is))

  -- A move.

  module _ (st : State) (kind : Kind) (t : ℕ) (may : MayTake st kind t) (stands : Stands p lim st) where
    abbrev next : State
    next = (result_by_kind p lim st kind t).0

    -- it has admitted u, or made it
    abbrev IsEnabledNow : ℕ → Type 0
    IsEnabledNow u = ((u ≡ t) × (kind ≡ Admit)) ⊎ ((u ≡ length st.tasks) × (length next.tasks ≡ length st.tasks + 1))

    own_enabled : (k : Kind) → MayTake st k t → IsNotEnabledYet st t → k ≡ Admit
    own_enabled Admit legal yet = refl
    own_enabled Run legal yet = let both : Made ≡ Enabled = sym (yet legal.0.0 legal.0.1) ∙ legal.0.2 in absurd (cc (both))

    other_enabled : (u : ℕ) → u ≢ t → (found : Option TaskRow) → slice_get st.tasks u ≡ found → IsNotEnabledYet st u → HasStatus next u Enabled → IsEnabledNow u
    other_enabled u other None is yet now =
        let past = not_there st.tasks u is in
        let there = slice_get_within next.tasks u now.0 now.1 in
        let many = (left_alone p lim well st kind t may stands).tasks in
        let few = at_most_one (result_by_kind p lim st kind t).1 in
        inr (omega (arith, past, there, many, few), omega (arith, past, there, many, few))
    other_enabled u other (Some row) is yet now = elim (row_after p lim st t u other row is kind) [
      | inl stays ↦ let both : Made ≡ Enabled = sym (yet row is) ∙ one_status next u row Enabled now stays.1 in absurd (cc (both))
      | inr marked ↦ let both : Made ≡ Enabled = sym (yet row is) ∙ one_status next u _ Enabled now marked.1 in absurd (cc (both))
    ]

    enabled_now : (u : ℕ) → IsNotEnabledYet st u → HasStatus next u Enabled → IsEnabledNow u
    enabled_now u yet now = elim (cases_eq u t) [
      | inl same ↦ inl (same, own_enabled kind may (subst (IsNotEnabledYet st) same yet))
      | inr other ↦ other_enabled u other (slice_get st.tasks u) refl yet now
    ]

    -- so it enables one task at most
    one_at_a_time : (s u : ℕ) → s ≢ u → IsEnabledNow s → IsEnabledNow u → ⊥
    one_at_a_time s u differ (inl first) (inl second) = differ (first.0 ∙ sym second.0)
    one_at_a_time s u differ (inl first) (inr second) = let none = none_by_admission st kind t first.1 in omega (arith, none, second.1)
    one_at_a_time s u differ (inr first) (inl second) = let none = none_by_admission st kind t second.1 in omega (arith, none, first.1)
    one_at_a_time s u differ (inr first) (inr second) = differ (first.0 ∙ sym second.0)

  -- A journal.

  -- who is enabled at its end, and not at its start, is not enabled yet at its start
  not_yet : (st : State) (entries : List Entry) → LegalFrom p lim st entries → (u : ℕ) → ¬ HasStatus st u Enabled → HasStatus (replayed p lim st entries) u Enabled → IsNotEnabledYet st u
  not_yet st entries legal u before at_end row is = elim (made_or_out row.status) [
    | inl made ↦ made
    | inr (inl enabled) ↦ absurd (before (row, is, enabled))
    | inr (inr over) ↦
        let end = over_at_end p lim well st entries legal u row is over in
        absurd (subst IsOver (one_status (replayed p lim st entries) u end.0 Enabled at_end end.1) end.2)
  ]

  -- after so many of its moves one of the two is enabled, and the other is not enabled yet
  abbrev IsFirst : State → List Entry → ℕ → ℕ → ℕ → Type 0
  IsFirst st entries n s t = HasStatus (replayed p lim st (take n entries)) s Enabled × IsNotEnabledYet (replayed p lim st (take n entries)) t

  one_first : (st : State) (entries : List Entry) → LegalFrom p lim st entries → Stands p lim st → (s t : ℕ) → s ≢ t → IsNotEnabledYet st s → IsNotEnabledYet st t
      → HasStatus (replayed p lim st entries) s Enabled → HasStatus (replayed p lim st entries) t Enabled → (n : ℕ) × (IsFirst st entries n s t ⊎ IsFirst st entries n t s)
  one_first st [] legal stands s t differ yet_s yet_t may_s may_t = absurd (yet_not_out may_s.0.status (yet_s may_s.0 may_s.1) (inl may_s.2))
  one_first st (entry ∷ entries) legal stands s t differ yet_s yet_t may_s may_t =
      let kind = entry.mv.kind in
      let mover = entry.mv.task in
      let after : State = (move_result p lim st entry.mv).0 in
      elim (enabled_or_not after s) [
        | inl s_now ↦ elim (enabled_or_not after t) [
          | inl t_now ↦
              absurd (one_at_a_time st kind mover legal.0 stands s t differ (enabled_now st kind mover legal.0 stands s yet_s s_now) (enabled_now st kind mover legal.0 stands t yet_t t_now))
          | inr t_not ↦ (1, inl (s_now, not_yet after entries legal.2 t t_not may_t))
        ]
        | inr s_not ↦ elim (enabled_or_not after t) [
          | inl t_now ↦ (1, inr (t_now, not_yet after entries legal.2 s s_not may_s))
          | inr t_not ↦
              let rest = one_first after entries legal.2 (taken_stands p lim well st kind mover legal.0 stands) s t differ
              (not_yet after entries legal.2 s s_not may_s) (not_yet after entries legal.2 t t_not may_t) may_s may_t in
              (suc rest.0, rest.1)
        ]
      ]

  -- a task that is enabled or over after n moves, and not enabled yet after m, takes more than m moves
  before_out : (st : State) (entries : List Entry) → LegalFrom p lim st entries → Stands p lim st → (n m u : ℕ) (row : TaskRow) → IsRow (replayed p lim st (take n entries)) u row
      → IsOut row.status → IsNotEnabledYet (replayed p lim st (take m entries)) u → m < n
  before_out st entries legal stands zero m u row is out yet =
      let split : take m entries ++ drop m entries ≡ entries = take-append-drop m entries in
      let both = legal_both p lim st (take m entries) (drop m entries) (subst (LegalFrom p lim st) (sym split) legal) in
      let end = out_at_end p lim well st (take m entries) both.0 stands u row is out in
      absurd (yet_not_out end.0.status (yet end.0 end.1) end.2)
  before_out st entries legal stands (suc n) zero u row is out yet = omega arith
  before_out st [] legal stands (suc n) (suc m) u row is out yet = absurd (yet_not_out row.status (yet row is) out)
  before_out st (entry ∷ entries) legal stands (suc n) (suc m) u row is out yet =
      let rest = before_out (move_result p lim st entry.mv).0 entries legal.2 (taken_stands p lim well st entry.mv.kind entry.mv.task legal.0 stands) n m u row is out yet in omega (arith, rest)

  -- From the start.

  start_not_yet : (u : ℕ) → IsNotEnabledYet (start_of p lim) u
  start_not_yet zero row is = cc (is)
  start_not_yet (suc u) row is = absurd (cc (is))

  module _ (journal : List Entry) (legal : Legal p lim journal) where
    pub some_first : (s t : ℕ) → s ≢ t → HasStatus (replayed p lim (start_of p lim) journal) s Enabled → HasStatus (replayed p lim (start_of p lim) journal) t Enabled
        → WasEnabledBefore p lim journal s t ⊎ WasEnabledBefore p lim journal t s
    some_first s t differ may_s may_t =
        let found = one_first (start_of p lim) journal legal (start_stands p lim well) s t differ (start_not_yet s) (start_not_yet t) may_s may_t in
        elim found.1 [
          | inl is ↦ inl (record { moves = found.0; first = is.0; second = is.1 })
          | inr is ↦ inr (record { moves = found.0; first = is.0; second = is.1 })
        ]

    earlier : (s t : ℕ) (first : WasEnabledBefore p lim journal s t) (m : ℕ) → IsNotEnabledYet (replayed p lim (start_of p lim) (take m journal)) s → m < first.moves
    earlier s t first m yet = before_out (start_of p lim) journal legal (start_stands p lim well) first.moves m s first.first.0 first.first.1 (inl first.first.2) yet

    pub never_both : (s t : ℕ) → WasEnabledBefore p lim journal s t → ¬ WasEnabledBefore p lim journal t s
    never_both s t first second =
        let one = earlier s t first second.moves second.second in
        let other = earlier t s second first.moves first.second in
        omega (arith, one, other)

    pub one_after_another : (s t u : ℕ) → WasEnabledBefore p lim journal s t → WasEnabledBefore p lim journal t u → WasEnabledBefore p lim journal s u
    one_after_another s t u first second =
        let sooner : first.moves < second.moves = earlier t u second first.moves first.second in
        record {
          moves = first.moves;
          first = first.first;
          second = λ row is. elim (made_or_out row.status) [
            | inl made ↦ made
            | inr out ↦ let late = before_out (start_of p lim) journal legal (start_stands p lim well) first.moves second.moves u row is out second.second in absurd (omega (arith, sooner, late))
          ];
        }
