-- Of two tasks that may run at most one prints in its next segment, so the printed numbers do not depend on the order.
use Rattle.std.proofs.Common.{◌≡◌, ◌≢◌, ◌++◌, ℕ, ℤ, true, false, List, [], ◌∷◌, refl, sym, ap, ◌∙◌, inl, inr}
use Rattle.std.specs.List.{list_any}
use Rattle.std.proofs.lemmas.Bool.{cases_Bool}
use Rattle.std.proofs.lemmas.List.{append-nil}
use Rattle.effect_check.proofs.Members.{in-contains, list_any-in}
use Rattle.effect_sets.specs.Access.{Conflict}
use Rattle.twe_base.specs.Limits.{Bounds}
use Rattle.twe_program.specs.Program.{Program}
use Rattle.twe_program.specs.WellFormed.{IsWellFormed}
use Rattle.seg_meaning.specs.Access.{Access, Prints, Reads, Writes, printed}
use Rattle.seg_meaning.specs.Segment.{Stopped}
use Rattle.isolation_laws.specs.soundness.DeclaredNow.{access_of}
use Rattle.isolation_laws.specs.soundness.KeepsEffects.{KeepsEffects}
use Rattle.isolation_laws.proofs.running.Movers.{movers_apart}
use Rattle.machine_state.specs.declared.state.State.{State}
use Rattle.machine_state.specs.declared.state.TaskRow.{TaskRow}
use Rattle.machine_state.specs.Changes.{next_segment}
use Rattle.machine_state.specs.Legal.{MayRun}
use Rattle.machine_state.specs.Moves.{awaited_value, ready_frame}
use Rattle.machine_state.specs.Rows.{IsRow, row_awaited}
use Rattle.machine_state.specs.Runs.{IsReached}
use Rattle.machine_state.proofs.standing.ReachedStands.{reached_stands}
use Rattle.determinism_laws.specs.Orders.{is_print}
use Rattle.determinism_laws.proofs.theorem.Played.{given_prints}
use Rattle.determinism_laws.proofs.theorem.Printing.{step_prints_its}

none_printed : (accesses : List Access) → list_any is_print accesses ≡ false → printed accesses ≡ []
none_printed [] none = refl
none_printed (Reads cell value ∷ earlier) none = none_printed earlier none
none_printed (Writes cell value ∷ earlier) none = none_printed earlier none
none_printed (Prints value ∷ earlier) none = absurd (cc (none))

prints_conflict : (p : Program) (x y : Access) → is_print x ≡ true → is_print y ≡ true → Conflict (access_of p x) (access_of p y)
prints_conflict p (Prints one) (Prints two) a b = (refl, refl)
prints_conflict p (Prints one) (Reads cell value) a b = absurd (cc (b))
prints_conflict p (Prints one) (Writes cell value) a b = absurd (cc (b))
prints_conflict p (Reads cell value) y a b = absurd (cc (a))
prints_conflict p (Writes cell value) y a b = absurd (cc (a))

nothing_more : (before one two : List ℤ) → one ≡ [] → (before ++ one) ++ two ≡ (before ++ two) ++ one
nothing_more before one two none =
    ap (λ (l : List ℤ). l ++ two) (ap (λ (l : List ℤ). before ++ l) none ∙ append-nil before)
    ∙ sym (ap (λ (l : List ℤ). (before ++ two) ++ l) none ∙ append-nil (before ++ two))

module _ (p : Program) (wf : IsWellFormed p) (keeps : KeepsEffects p) (lim : Bounds) (st : State) (reached : IsReached p lim st) where
  segment_prints : (t : ℕ) (row : TaskRow) → IsRow st t row → (next_segment p st row).frame.prints ≡ printed (next_segment p st row).accesses
  segment_prints t row there =
      let frame = ready_frame st.tasks row.frame in
      let bare : frame.prints ≡ [] =
      given_prints row.frame.next row.frame (awaited_value st.tasks (row_awaited row.frame.next)) ∙ ((reached_stands p lim st wf reached).rows t row there).prints in
      step_prints_its p (record { frame = frame; cells = st.cells }) bare

  no_prints : (t : ℕ) (row : TaskRow) → IsRow st t row → list_any is_print (next_segment p st row).accesses ≡ false → (next_segment p st row).frame.prints ≡ []
  no_prints t row there none = segment_prints t row there ∙ none_printed (next_segment p st row).accesses none

  module _ (s t : ℕ) (a b : TaskRow) (differ : s ≢ t) (is_a : IsRow st s a) (is_b : IsRow st t b) (may_s : MayRun st s) (may_t : MayRun st t) where
    abbrev one : Stopped
    one = next_segment p st a

    abbrev two : Stopped
    two = next_segment p st b

    not_both : list_any is_print one.accesses ≡ true → list_any is_print two.accesses ≡ true → ⊥
    not_both in_one in_two =
        let x = list_any-in is_print one.accesses in_one in
        let y = list_any-in is_print two.accesses in_two in
        movers_apart p wf keeps lim st reached s t a b differ is_a is_b may_s may_t st.cells st.cells x.0 y.0
        (in-contains one.accesses x.0 x.1) (in-contains two.accesses y.0 y.1) (prints_conflict p x.0 y.0 x.2 y.2)

    pub prints_agree : (before : List ℤ) → (before ++ one.frame.prints) ++ two.frame.prints ≡ (before ++ two.frame.prints) ++ one.frame.prints
    prints_agree before = elim (cases_Bool (list_any is_print one.accesses)) [
      | inr none ↦ nothing_more before one.frame.prints two.frame.prints (no_prints s a is_a none)
      | inl some ↦ elim (cases_Bool (list_any is_print two.accesses)) [
        | inr none ↦ sym (nothing_more before two.frame.prints one.frame.prints (no_prints t b is_b none))
        | inl both ↦ absurd (not_both some both)
      ]
    ]
