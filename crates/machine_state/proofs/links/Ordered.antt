-- The links of each reached state are in order: waits are of tasks with higher numbers, and parents have lower ones.
use Rattle.std.proofs.Common.{◌≡◌, ◌≤◌, ◌<◌, ℕ, zero, suc, List, [], ◌∷◌, length, map, Option, None, Some, refl, sym, subst, arith}
use Rattle.std.specs.Prelude.{slice_get}
use Rattle.twe_base.specs.Limits.{Bounds, IsWithin}
use Rattle.wait_graph.specs.declared.tasks.Link.{Link}
use Rattle.wait_graph.specs.Link.{IsOrdered, link_of, new_link}
use Rattle.twe_program.specs.Program.{Program}
use Rattle.twe_program.specs.WellFormed.{IsWellFormed}
use Rattle.machine_state.specs.declared.state.State.{State}
use Rattle.machine_state.specs.declared.state.TaskRow.{TaskRow}
use Rattle.machine_state.specs.Rows.{link_of_row}
use Rattle.machine_state.specs.Runs.{IsReached}
use Rattle.machine_state.proofs.standing.ReachedStands.{reached_stands}
use Rattle.machine_state.proofs.standing.SettlesNext.{as_many_links, awaited_above}
use Rattle.machine_state.proofs.standing.Standing.{Stands}

-- the links of a task are those of its row, or those of a new task without a parent if it has no row
pub link_from : (rows : List TaskRow) (t : ℕ) (found : Option TaskRow) → slice_get rows t ≡ found
    → (P : Link → Type 0) → (found ≡ None → P (new_link None)) → ((row : TaskRow) → found ≡ Some row → P (link_of_row row)) → P (link_of (map link_of_row rows) t)
link_from [] t found e P none some = none (sym e)
link_from (r ∷ rows) zero found e P none some = some r (sym e)
link_from (r ∷ rows) (suc t) found e P none some = link_from rows t found e P none some

module _ (p : Program) (lim : Bounds) (st : State) (stands : Stands p lim st) where
  pub waits_up : (t u : ℕ) → (link_of st.links t).waits ≡ Some u → (t < u) × (u < length st.links)
  waits_up t u waits =
      let as_many : length st.links ≡ length st.tasks = as_many_links p lim st stands in
      let up : (t < u) × (u < length st.tasks) =
      link_from st.tasks t (slice_get st.tasks t) refl (λ (l : Link). l.waits ≡ Some u → (t < u) × (u < length st.tasks))
      (λ none is. absurd (cc (is)))
      (λ row found is. awaited_above p lim st.tasks t row.frame (stands.rows t row found).frame u is)
      (subst (λ (links : List Link). (link_of links t).waits ≡ Some u) stands.links waits) in
      (up.0, omega (arith, as_many, up.1))

  pub parent_down : (t q : ℕ) → (link_of st.links t).parent ≡ Some q → q < t
  parent_down t q parent =
      link_from st.tasks t (slice_get st.tasks t) refl (λ (l : Link). l.parent ≡ Some q → q < t)
      (λ none is. absurd (cc (is)))
      (λ row found is. (stands.rows t row found).parent q is)
      (subst (λ (links : List Link). (link_of links t).parent ≡ Some q) stands.links parent)

  pub links_ordered : IsWithin lim.fuel lim.tasks → IsOrdered st.links
  links_ordered within =
      let as_many : length st.links ≡ length st.tasks = as_many_links p lim st stands in
      let limit : length st.tasks ≤ lim.tasks = stands.limit within.tasks_least in
      record { waits_up = waits_up; parent_down = parent_down; numbered = omega (arith, as_many, limit, within.tasks_most) }

pub reached_ordered : (p : Program) (lim : Bounds) (st : State) → IsWellFormed p → IsWithin lim.fuel lim.tasks → IsReached p lim st → IsOrdered st.links
reached_ordered p lim st well within reached = links_ordered p lim st (reached_stands p lim st well reached) within
