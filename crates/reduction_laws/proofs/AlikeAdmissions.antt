-- States that are the same but for numbers allow the same admissions, and these lead to such states again.
use Rattle.std.proofs.Common.{◌≡◌, ◌≢◌, ℕ, length, Option, None, Some, inl, inr, refl, sym, ap, ◌∙◌, subst}
use Rattle.std.specs.Prelude.{option_map, slice_get}
use Rattle.twe_base.specs.Limits.{Bounds}
use Rattle.seg_journal.specs.declared.moves.Kind.TheVariants.{Admit}
use Rattle.wait_graph.specs.declared.tasks.Link.{Link}
use Rattle.wait_graph.specs.Chain.{none, more}
use Rattle.wait_graph.specs.Link.{link_of}
use Rattle.wait_graph.specs.Waiting.{WaitsFor, WaitsOn, YieldsTo}
use Rattle.twe_program.specs.Program.{Program}
use Rattle.twe_program.specs.WellFormed.{IsWellFormed}
use Rattle.isolation_laws.specs.soundness.KeepsEffects.{KeepsEffects}
use Rattle.isolation_laws.proofs.rows.LinksOfRows.{link_not_there, link_there}
use Rattle.machine_state.specs.declared.state.State.{State}
use Rattle.machine_state.specs.declared.state.TaskRow.{TaskRow}
use Rattle.machine_state.specs.declared.state.TaskStatus.TheVariants.{Enabled}
use Rattle.machine_state.specs.Legal.{Interfere, MayAdmit}
use Rattle.machine_state.specs.Rows.{HasStatus, IsRow, row_awaited}
use Rattle.machine_state.proofs.standing.ReachedStands.{reached_stands}
use Rattle.machine_state.proofs.standing.Standing.{Stands}
use Rattle.determinism_laws.specs.numbering.Renumbering.{Numbering}
use Rattle.determinism_laws.proofs.NearFaults.{reached_more}
use Rattle.determinism_laws.proofs.RenumberedRows.{awaited_renumbered, row_renumbered}
use Rattle.determinism_laws.proofs.SameMoves.{Exchanges, tells_apart}
use Rattle.reduction_laws.proofs.Admissions.{admitted_asked, admitted_cells, admitted_count, admitted_fault, admitted_itself, admitted_other, admitted_prints, admitted_was, after_admission, rows_interfere, waits_yields, yields_waits}
use Rattle.reduction_laws.proofs.AlikeStates.{Alike, its_row}

module _ (p : Program) (wf : IsWellFormed p) (lim : Bounds) (to : Numbering) (st other : State) (alike : Alike p lim to st other) where
  stands : Stands p lim st
  stands = reached_stands p lim st wf alike.reached

  stands_too : Stands p lim other
  stands_too = reached_stands p lim other wf alike.reached_too

  -- Waits.

  done_too : (v : ℕ) → (link_of other.links (to v)).done ≡ (link_of st.links v).done
  done_too v = by_found (slice_get st.tasks v) refl
    where
      by_found : (found : Option TaskRow) → slice_get st.tasks v ≡ found → (link_of other.links (to v)).done ≡ (link_of st.links v).done
      by_found (Some b) at =
          ap (λ (l : Link). l.done) (link_there other stands_too.links (to v) (row_renumbered to b) (alike.same.rows v b at))
          ∙ sym (ap (λ (l : Link). l.done) (link_there st stands.links v b at))
      by_found None gone = by_other (slice_get other.tasks (to v)) refl
        where
          by_other : (found : Option TaskRow) → slice_get other.tasks (to v) ≡ found → (link_of other.links (to v)).done ≡ (link_of st.links v).done
          by_other None is =
              ap (λ (l : Link). l.done) (link_not_there other stands_too.links (to v) is) ∙ sym (ap (λ (l : Link). l.done) (link_not_there st stands.links v gone))
          by_other (Some r) is =
              let was = its_row p wf lim to st other alike (to v) r is in
              let at : slice_get st.tasks v ≡ Some was.0 = subst (λ (n : ℕ). slice_get st.tasks n ≡ Some was.0) (alike.exchanges.back v) was.1 in
              absurd (cc (gone, at))

  waits_too : (u v : ℕ) → WaitsFor st.links u v → WaitsFor other.links (to u) (to v)
  waits_too u v wait = record { waits = by_found (slice_get st.tasks u) refl; undone = done_too v ∙ wait.undone }
    where
      by_found : (found : Option TaskRow) → slice_get st.tasks u ≡ found → (link_of other.links (to u)).waits ≡ Some (to v)
      by_found None gone = let both : None ≡ Some v = sym (ap (λ (l : Link). l.waits) (link_not_there st stands.links u gone)) ∙ wait.waits in absurd (cc (both))
      by_found (Some b) at =
          let awaits : row_awaited b.frame.next ≡ Some v = sym (ap (λ (l : Link). l.waits) (link_there st stands.links u b at)) ∙ wait.waits in
          ap (λ (l : Link). l.waits) (link_there other stands_too.links (to u) (row_renumbered to b) (alike.same.rows u b at))
          ∙ (awaited_renumbered to b.frame.next ∙ ap (option_map to) awaits)

  chain_too : (u v : ℕ) → WaitsOn st.links u v → WaitsOn other.links (to u) (to v)
  chain_too u v chain = along chain
    where
      along : {a b : ℕ} → WaitsOn st.links a b → WaitsOn other.links (to a) (to b)
      along none = none
      along {a} (more {b = c} wait rest) = more (waits_too a c wait) (along rest)

  -- An admission.
  module _ (t : ℕ) (may : MayAdmit st t) where
    abbrev row : TaskRow
    row = may.0.0

    there : IsRow other (to t) (row_renumbered to row)
    there = alike.same.rows t row may.0.1

    yields_too : (s : ℕ) → s ≢ to t → HasStatus other s Enabled → Interfere other s (to t) → YieldsTo other.links s (to t)
    yields_too s differ enabled meets =
        let was = its_row p wf lim to st other alike s enabled.0 enabled.1 in
        let before : HasStatus st (to s) Enabled = (was.0, was.1, sym (ap (λ (r : TaskRow). r.status) was.2) ∙ enabled.2) in
        let apart : to s ≢ t = λ e. differ (sym (alike.exchanges.back s) ∙ ap to e) in
        let one = its_row p wf lim to st other alike s meets.0 meets.2 in
        let two = its_row p wf lim to st other alike (to t) meets.1 meets.3 in
        let at : IsRow st t two.0 = subst (λ (n : ℕ). IsRow st n two.0) (alike.exchanges.back t) two.1 in
        let met : Interfere st (to s) t =
        rows_interfere st (to s) t one.0 two.0 one.1 at (meets.0).effects.effects (meets.1).effects.effects
        (sym (ap (λ (r : TaskRow). r.effects.effects) one.2)) (sym (ap (λ (r : TaskRow). r.effects.effects) two.2)) meets.4 in
        let chain = chain_too (to s) t (yields_waits p wf lim st alike.reached t may.0 (to s) (may.1 (to s) apart before met)) in
        subst (λ (n : ℕ). YieldsTo other.links n (to t)) (alike.exchanges.back s) (waits_yields other.links (to (to s)) (to t) chain)

    pub admits_too : MayAdmit other (to t)
    admits_too = ((row_renumbered to row, there, may.0.2), yields_too)

    row_after : (u : ℕ) (r : TaskRow) → IsRow (after_admission st t) u r → IsRow (after_admission other (to t)) (to u) (row_renumbered to r)
    row_after u r at = elim (admitted_was st t row may.0.1 u r at) [
      | inl own ↦
          subst (λ (n : ℕ). IsRow (after_admission other (to t)) (to n) (row_renumbered to r)) (sym own.0)
          (admitted_itself other (to t) (row_renumbered to row) there ∙ ap Some (ap (row_renumbered to) own.1))
      | inr old ↦
          admitted_other other (to t) (row_renumbered to row) there (to u) (row_renumbered to r) (λ e. old.0 (tells_apart to (length st.tasks) alike.exchanges u t e))
          (alike.same.rows u r old.1)
    ]

    pub alike_admitted : KeepsEffects p → Alike p lim to (after_admission st t) (after_admission other (to t))
    alike_admitted keeps =
        let row_too = row_renumbered to row in
        record {
          same = record {
            rows = row_after;
            count = admitted_count other (to t) row_too there ∙ (alike.same.count ∙ sym (admitted_count st t row may.0.1));
            cells = admitted_cells other (to t) row_too there ∙ (alike.same.cells ∙ sym (admitted_cells st t row may.0.1));
            asked = admitted_asked other (to t) row_too there ∙ (alike.same.asked ∙ sym (admitted_asked st t row may.0.1));
          };
          prints = admitted_prints other (to t) row_too there ∙ (alike.prints ∙ sym (admitted_prints st t row may.0.1));
          exchanges = subst (Exchanges to) (sym (admitted_count st t row may.0.1)) alike.exchanges;
          reached = reached_more p wf keeps lim st (record { task = t; kind = Admit }) alike.reached may;
          reached_too = reached_more p wf keeps lim other (record { task = to t; kind = Admit }) alike.reached_too admits_too;
          faultless = admitted_fault st t row may.0.1 ∙ alike.faultless;
          faultless_too = admitted_fault other (to t) row_too there ∙ alike.faultless_too;
        }
