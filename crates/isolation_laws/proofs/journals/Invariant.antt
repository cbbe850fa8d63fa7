-- The invariant of a run of an accepted program, beside the machine's own invariant, and what follows from the two.
use Rattle.std.proofs.Common.{◌≡◌, ◌<◌, ℕ, List, length, Contains, Option, None, Some, refl, sym, subst, arith}
use Rattle.std.proofs.lemmas.Option.{slice_get_within}
use Rattle.twe_base.specs.Limits.{Bounds}
use Rattle.twe_program.specs.declared.program.Decl.{Decl}
use Rattle.twe_program.specs.Fitting.{TakesArguments}
use Rattle.twe_program.specs.Program.{Program}
use Rattle.seg_meaning.specs.declared.frame.Next.{Next}
use Rattle.seg_meaning.specs.declared.frame.Next.TheVariants.{Go, Get, Join, Closing, Ended}
use Rattle.effect_check.proofs.Members.{IsIn, in-contains}
use Rattle.isolation_laws.specs.soundness.RunsWith.{RunsWith}
use Rattle.wait_graph.specs.Waiting.{SpawnedBy}
use Rattle.machine_state.specs.declared.state.State.{State}
use Rattle.machine_state.specs.declared.state.TaskRow.{TaskRow}
use Rattle.machine_state.specs.declared.state.TaskStatus.TheVariants.{Done}
use Rattle.machine_state.specs.Legal.{Isolated}
use Rattle.machine_state.specs.Rows.{IsRow}
use Rattle.machine_state.proofs.standing.Standing.{IsChild, Stands}
use Rattle.isolation_laws.specs.Within.{SpawnedWithin}
use Rattle.isolation_laws.proofs.rows.AddedTask.{ParentsAreThere}
use Rattle.isolation_laws.proofs.frames.AfterSegment.{in_without}
use Rattle.isolation_laws.proofs.rows.RowsLater.{SiblingsApart}
use Rattle.isolation_laws.proofs.frames.Frames.{FramesOnPaths, still_out}
use Rattle.isolation_laws.proofs.rows.JoinedChild.{DoneAreChildless}
use Rattle.isolation_laws.proofs.rows.LinksOfRows.{done_row, spawned_row}

-- Each task runs with its arguments. The effects of a spawned task lie within those of its parent, and interfere with
-- those of no other unjoined child of the parent. Each frame is on a control path of its body. The state is isolated.
pub record Kept (p : Program) (st : State) : Type 0 where
  pub runs : (t : ℕ) (row : TaskRow) → IsRow st t row → RunsWith p row.args row.frame
  pub within : SpawnedWithin st
  pub siblings : SiblingsApart st
  pub paths : FramesOnPaths p st
  pub isolated : Isolated st

-- a declaration that takes these arguments exists
pub taker : (o : Option Decl) (n : ℕ) → TakesArguments o n → (decl : Decl) × (o ≡ Some decl)
taker None n takes = absurd takes
taker (Some decl) n takes = (decl, refl)

-- the children that are still out once the awaited value is taken were out before
still_in : (next : Next) (u : ℕ) (out : List ℕ) → IsIn u (still_out next out) → IsIn u out
still_in Go u out h = h
still_in (Get on into) u out h = h
still_in (Join on into) u out h = in_without u on out h
still_in (Closing on) u out h = in_without u on out h
still_in Ended u out h = h

module _ (p : Program) (lim : Bounds) (st : State) (stands : Stands p lim st) where
  -- the parent of each task has a row
  pub parents_there : ParentsAreThere st
  parents_there c q a is parent =
      let below : q < c = (stands.rows c a is).parent q parent in
      let here : c < length st.tasks = slice_get_within st.tasks c a is in
      omega arith

  -- a child that is out has a row
  pub child_there : (t : ℕ) (row : TaskRow) → IsRow st t row → (u : ℕ) → IsIn u (still_out row.frame.next row.frame.out.items) → (a : TaskRow) × IsRow st u a
  child_there t row is u here =
      let inside = in-contains row.frame.out.items u (still_in row.frame.next u row.frame.out.items here) in
      let child = (stands.children t row is u).0 (subst (λ (out : List ℕ). Contains out u) (sym (stands.rows t row is).out) inside) in
      (child.row, child.there)

  -- a done task has no unjoined child
  pub done_alone : (u : ℕ) (row : TaskRow) → IsRow st u row → row.status ≡ Done → (c : ℕ) → ¬ SpawnedBy st.links c u
  done_alone u row is done c by =
      let child = spawned_row st stands.links c u by in
      let known : IsChild st.tasks u c = record { row = child.0; there = child.1; parent = child.2; unjoined = child.3 } in
      let listed = (stands.children u row is c).1 known in
      let none = subst (λ (out : List ℕ). Contains out c) ((stands.rows u row is).done done) listed in
      omega (arith, none.1)

  pub done_childless : DoneAreChildless st.links
  done_childless u c done = let row = done_row st stands.links u done in done_alone u row.0 row.1 row.2 c
