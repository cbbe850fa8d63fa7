-- The child whose join a move takes is the one that its task has waited for, if it is an unjoined child.
use Rattle.std.proofs.Common.{◌≡◌, ◌↔◌, ℕ, Bool, true, false, cond, List, Option, None, Some, refl, ap, sym, ◌∙◌, subst}
use Rattle.std.specs.Prelude.{nat_eq, slice_get}
use Rattle.std.specs.List.{list_any}
use Rattle.seg_journal.specs.declared.moves.Kind.{Kind}
use Rattle.seg_journal.specs.declared.moves.Kind.TheVariants.{Admit, Run}
use Rattle.twe_base.specs.Limits.{Bounds}
use Rattle.wait_graph.specs.declared.tasks.Link.{Link}
use Rattle.wait_graph.specs.Link.{link_of}
use Rattle.wait_graph.specs.Waiting.{SpawnedBy}
use Rattle.twe_program.specs.Program.{Program}
use Rattle.machine_state.specs.declared.state.State.{State}
use Rattle.machine_state.specs.declared.state.TaskRow.{TaskRow}
use Rattle.machine_state.specs.Changes.{TakesJoin}
use Rattle.machine_state.specs.Legal.{MayTake}
use Rattle.machine_state.specs.Moves.{joined_child}
use Rattle.machine_state.specs.Rows.{IsRow, link_of_row}
use Rattle.machine_state.proofs.links.Linked.{child_in, link_at}
use Rattle.machine_state.proofs.lists.Members.{IsIn, contains_in, in_contains, none_in}
use Rattle.machine_state.proofs.links.Ordered.{link_from}
use Rattle.machine_state.proofs.tasks.OtherRows.{child_of, taken_child}
use Rattle.machine_state.proofs.standing.Standing.{IsChild, Stands}

waited_by : (on c : ℕ) (b : Bool) → cond b (Some on) None ≡ Some c → Some on ≡ Some c
waited_by on c true e = e
waited_by on c false e = absurd (cc (e))

child_waited : (out : List ℕ) (waits : Option ℕ) (c : ℕ) → joined_child out waits ≡ Some c → waits ≡ Some c
child_waited out None c e = absurd (cc (e))
child_waited out (Some on) c e = waited_by on c (list_any (λ (k : ℕ). nat_eq k on) out) e

child_by : (out : List ℕ) (on : ℕ) (b : Bool) → list_any (λ (k : ℕ). nat_eq k on) out ≡ b → IsIn on out → cond b (Some on) None ≡ Some on
child_by out on true is h = refl
child_by out on false is h = absurd (none_in out on is h)

child_is : (out : List ℕ) (on : ℕ) → IsIn on out → joined_child out (Some on) ≡ Some on
child_is out on h = child_by out on (list_any (λ (k : ℕ). nat_eq k on) out) refl h

module _ (p : Program) (lim : Bounds) (st : State) (stands : Stands p lim st) where
  -- the links of a task are those of its row
  pub row_link : (u : ℕ) (row : TaskRow) → IsRow st u row → link_of st.links u ≡ link_of_row row
  row_link u row here = ap (λ (links : List Link). link_of links u) stands.links ∙ link_at st.tasks u row here

  -- so an unjoined child is one by its row too
  pub spawned_child : (c t : ℕ) → SpawnedBy st.links c t → IsChild st.tasks t c
  spawned_child c t spawned =
      let by_links = subst (λ (links : List Link). SpawnedBy links c t) stands.links spawned in
      link_from st.tasks c (slice_get st.tasks c) refl (λ (l : Link). l.parent ≡ Some t → l.joined ≡ false → IsChild st.tasks t c)
      (λ none parent unjoined. absurd (cc (parent)))
      (λ row there parent unjoined. record { row = row; there = there; parent = parent; unjoined = unjoined })
      by_links.parent by_links.unjoined

  child_spawned : (c t : ℕ) → IsChild st.tasks t c → SpawnedBy st.links c t
  child_spawned c t child =
      let link = row_link c child.row child.there in
      record { parent = ap (λ (l : Link). l.parent) link ∙ child.parent; unjoined = ap (λ (l : Link). l.joined) link ∙ child.unjoined }

  module _ (t : ℕ) (row : TaskRow) (found : IsRow st t row) where
    taken_join : (c : ℕ) → joined_child row.out (link_of st.links t).waits ≡ Some c → TakesJoin st (record { kind = Run; task = t }) c
    taken_join c e = record {
      runs = refl;
      waited = child_waited row.out (link_of st.links t).waits c e;
      child = child_spawned c t ((stands.children t row found c).0 (in_contains row.out c (child_in row.out (link_of st.links t).waits c e)));
    }

    join_taken : (c : ℕ) → TakesJoin st (record { kind = Run; task = t }) c → joined_child row.out (link_of st.links t).waits ≡ Some c
    join_taken c takes =
        let listed : IsIn c row.out = contains_in row.out c ((stands.children t row found c).1 (spawned_child c t takes.child)) in
        ap (joined_child row.out) takes.waited ∙ child_is row.out c listed

  pub takes_child : (kind : Kind) (t c : ℕ) → MayTake st kind t → (taken_child st kind t ≡ Some c) ↔ TakesJoin st (record { kind = kind; task = t }) c
  takes_child Admit t c may = (λ e. absurd (cc (e)), λ takes. absurd (cc (takes.runs)))
  takes_child Run t c may =
      let row = may.0.0 in
      let found = may.0.1 in
      let is : child_of st t (slice_get st.tasks t) ≡ joined_child row.out (link_of st.links t).waits = ap (child_of st t) found in
      (λ e. taken_join t row found c (sym is ∙ e), λ takes. is ∙ join_taken t row found c takes)
