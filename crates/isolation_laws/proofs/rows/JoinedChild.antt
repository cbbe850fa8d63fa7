-- What a state keeps when a done child is joined.
use Rattle.std.proofs.Common.{◌≡◌, ◌==◌, ℕ, Bool, true, false, List, Option, None, Some, inl, inr, refl, sym, ap, ◌∙◌, subst}
use Rattle.std.specs.Prelude.{slice_get, if◌then◌else◌}
use Rattle.std.specs.List.{list_any}
use Rattle.wait_graph.specs.declared.tasks.Link.{Link}
use Rattle.wait_graph.specs.Waiting.{DescendsFrom, IsDone, SpawnedBy, WaitsForNobody, YieldsTo}
use Rattle.wait_graph.specs.Link.{link_of}
use Rattle.wait_graph.proofs.ChainLemmas.{Chain-arrives}
use Rattle.wait_graph.proofs.SettingLemmas.{WaitsFor-with_joined, YieldsTo-with_joined}
use Rattle.wait_graph.proofs.WaitingLemmas.{WaitsForNobody-waits}
use Rattle.machine_state.specs.declared.state.State.{State}
use Rattle.machine_state.specs.declared.state.TaskRow.{TaskRow}
use Rattle.machine_state.specs.declared.state.TaskStatus.TheVariants.{Enabled}
use Rattle.machine_state.specs.Moves.{state_after_join, joined_child, joined_row, joined_rows}
use Rattle.machine_state.specs.Rows.{HasStatus, IsRow, LinksAgree}
use Rattle.isolation_laws.proofs.rows.RowsLater.{Became, became_itself}
use Rattle.isolation_laws.proofs.rows.ListElements.{get_set}
use Rattle.isolation_laws.proofs.rows.LinksOfRows.{enabled_undone}

-- the second row is the first, except that the task may have been joined
pub record Untouched (a b : TaskRow) : Type 0 where
  pub became : Became a b
  pub status : b.status ≡ a.status
  pub frame : b.frame ≡ a.frame

pub untouched_itself : (a : TaskRow) → Untouched a a
untouched_itself a = record { became = became_itself a; status = refl; frame = refl }

untouched_joined : (a : TaskRow) → Untouched a (joined_row a)
untouched_joined a = record {
  became = record { decl = refl; args = refl; effects = refl; parent = refl; unjoined = λ h. absurd (cc) };
  status = refl;
  frame = refl;
}

-- each row was there before
abbrev pub Untouches : State → State → Type 0
Untouches old new = (s : ℕ) (b : TaskRow) → IsRow new s b → (a : TaskRow) × IsRow old s a × Untouched a b

untouches_rows : (rows : List TaskRow) (child : ℕ) (r : Option TaskRow) → slice_get rows child ≡ r → (s : ℕ) (b : TaskRow)
    → slice_get (joined_rows rows child r) s ≡ Some b → (a : TaskRow) × (slice_get rows s ≡ Some a) × Untouched a b
untouches_rows rows child None found s b is = (b, is, untouched_itself b)
untouches_rows rows child (Some row) found s b is = elim (get_set rows child s (joined_row row) b is) [
  | inl here ↦
      (row, ap (slice_get rows) here.0 ∙ found, subst (λ (x : TaskRow). Untouched row x) (sym here.1) (untouched_joined row))
  | inr other ↦ (b, other.1, untouched_itself b)
]

pub untouches_joined : (st : State) (o : Option ℕ) → Untouches st (state_after_join st o)
untouches_joined st None s b is = (b, is, untouched_itself b)
untouches_joined st (Some child) s b is = untouches_rows st.tasks child (slice_get st.tasks child) refl s b is

-- the child that a segment joins is the task that was waited for, and it is done
chosen : (b : Bool) (on child : ℕ) → (if b then Some on else None) ≡ Some child → Some on ≡ Some child
chosen true on child e = e
chosen false on child e = absurd (cc)

joined_child_waits : (out : List ℕ) (waits : Option ℕ) (child : ℕ) → joined_child out waits ≡ Some child → waits ≡ Some child
joined_child_waits out None child e = absurd (cc)
joined_child_waits out (Some on) child e = chosen (list_any (λ c. c == on) out) on child e

pub joined_child_done : (links : List Link) (out : List ℕ) (t child : ℕ) → WaitsForNobody links t → joined_child out (link_of links t).waits ≡ Some child → IsDone links child
joined_child_done links out t child nobody e = (WaitsForNobody-waits links t).0 nobody child (joined_child_waits out (link_of links t).waits child e)

-- a done task has no unjoined child
abbrev pub DoneAreChildless : List Link → Type 0
DoneAreChildless links = (u c : ℕ) → IsDone links u → ¬ SpawnedBy links c u

pub nobody_joined : (st : State) (o : Option ℕ) (t : ℕ) → WaitsForNobody st.links t → WaitsForNobody (state_after_join st o).links t
nobody_joined st None t nobody = nobody
nobody_joined st (Some child) t nobody = λ u w. nobody u ((WaitsFor-with_joined st.links child t u).0 w)

pub yields_joined : (st : State) (o : Option ℕ) → LinksAgree st → DoneAreChildless st.links → ((child : ℕ) → o ≡ Some child → IsDone st.links child)
    → (s c : ℕ) → HasStatus st c Enabled → YieldsTo st.links s c → YieldsTo (state_after_join st o).links s c
yields_joined st None agree childless done s c may yields = yields
yields_joined st (Some child) agree childless done s c may yields =
    let is_done = done child refl in
    let apart : ¬ DescendsFrom st.links c child =
    λ chain. enabled_undone st agree c may (subst (IsDone st.links) (sym (Chain-arrives (λ x. childless child x is_done) chain)) is_done) in
    (YieldsTo-with_joined st.links child s c apart).1 yields
