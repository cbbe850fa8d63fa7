-- Each stop of a segment leaves a state in which all rows stand.
use Rattle.std.proofs.Common.{◌≡◌, ◌≢◌, ◌≤◌, ◌<◌, ◌+◌, ◌++◌, ℕ, zero, suc, ℤ, Bool, true, false, List, [], ◌∷◌, length, Option, None, Some, refl, sym, ap, subst, arith, length-set, length-append}
use Rattle.std.specs.Prelude.{slice_get, slice_set}
use Rattle.std.specs.Option.{ForSome}
use Rattle.std.proofs.lemmas.Option.{slice_get_within}
use Rattle.twe_base.specs.declared.place.Place.{Place}
use Rattle.effect_sets.specs.declared.effects.Summary.{Summary}
use Rattle.twe_base.specs.declared.fault.FaultKind.{FaultKind}
use Rattle.twe_base.specs.Limits.{Bounds}
use Rattle.wait_graph.specs.declared.tasks.Link.{Link}
use Rattle.twe_program.specs.Fitting.{TakesArguments}
use Rattle.twe_program.specs.Program.{Program, cell_count}
use Rattle.twe_program.specs.WellFormed.{IsWellFormed}
use Rattle.seg_meaning.specs.declared.frame.Frame.{Frame}
use Rattle.seg_meaning.specs.declared.frame.Next.TheVariants.{Go}
use Rattle.seg_meaning.specs.Entry.{effects_at, entry_frame}
use Rattle.machine_state.specs.segment_laws.Ready.{IsReady, MakesDeclared, futures_at}
use Rattle.machine_state.specs.declared.state.FirstFault.{FirstFault}
use Rattle.machine_state.specs.declared.state.State.{State}
use Rattle.seg_meaning.specs.Children.{Children}
use Rattle.machine_state.specs.declared.state.TaskRow.{TaskRow}
use Rattle.machine_state.specs.declared.state.TaskStatus.TheVariants.{Enabled, Faulted}
use Rattle.machine_state.specs.Moves.{new_row, parent_of, status_at_start, children_with, out_with, making_frame, going_row, done_row, state_after_make, state_after_storing, state_after_finish, first_fault_of}
use Rattle.machine_state.proofs.standing.AfterStop.{going_stands}
use Rattle.machine_state.proofs.standing.Almost.{Almost, AllSettled, set_settled, put_almost}
use Rattle.machine_state.proofs.standing.Beginning.{new_stands, maker_stands}
use Rattle.machine_state.proofs.standing.Counts.{Counts, set_counts, fault_counts, put_counts}
use Rattle.machine_state.proofs.standing.Halfway.{Halfway}
use Rattle.machine_state.proofs.standing.Later.{IsSameTask}
use Rattle.machine_state.proofs.lists.Members.{IsIn}
use Rattle.machine_state.proofs.lists.Places.{put_last}
use Rattle.machine_state.proofs.standing.Standing.{StandsFor, FrameStands, RowStands}

-- the rows stand and list their unjoined children, tasks and faults are counted, and the cells are as many as they were
pub record Kept (p : Program) (lim : Bounds) (st : State) : Type 0 where
  pub settled : AllSettled p lim st.tasks
  pub counts : Counts lim st.tasks st.asked st.first_fault
  pub cells : length st.cells ≡ cell_count p

set_put : {A : Type 0} (xs : List A) (x y : A) (t : ℕ) → t < length xs → slice_set (xs ++ x ∷ []) t y ≡ slice_set xs t y ++ x ∷ []
set_put [] x y t lt = absurd (omega arith)
set_put (z ∷ zs) x y zero lt = refl
set_put (z ∷ zs) x y (suc t) lt = ap (λ ws. z ∷ ws) (set_put zs x y t (omega arith))

parent_below : (t n : ℕ) (spawned : Bool) → t < n → ForSome (parent_of t spawned) (λ q. q < n)
parent_below t n true lt q is = let same : t ≡ q = cc in omega arith
parent_below t n false lt q is = absurd (cc)

starts_well : (parent : Option ℕ) → status_at_start parent ≢ Faulted
starts_well None is = cc
starts_well (Some q) is = cc

pub same_task : (row new : TaskRow) → new.decl ≡ row.decl → new.args ≡ row.args → new.effects ≡ row.effects → new.parent ≡ row.parent → IsSameTask row new
same_task row new decl args effects parent = record { decl = decl; args = args; effects = effects; parent = parent }

module _ (p : Program) (lim : Bounds) (well : IsWellFormed p) (t : ℕ) (row : TaskRow) (enabled : row.status ≡ Enabled) (frame : Frame) where
  no_fault_yet : row.status ≢ Faulted
  no_fault_yet is = cc (enabled)

  -- The task has made one of this declaration with these arguments.
  module _ (rows : List TaskRow) (almost : Almost p lim rows t row frame.out.items) (stands : FrameStands p lim rows t frame) (go : frame.next ≡ Go)
      (decl : frame.decl ≡ row.frame.decl) (future : ℕ) (spawned : Bool) (task : ℕ) (args : List ℤ) (takes : TakesArguments (slice_get p.tasks task) (length args))
      (declared : slice_get (futures_at p frame.decl) future ≡ Some (record { future = future; task = task; spawned = spawned }))
      (ready : IsReady p (making_frame future spawned (length rows) frame)) where
    abbrev child_row : TaskRow
    child_row = new_row lim (length rows) (parent_of t spawned) (entry_frame p task args) args (effects_at p task args)

    abbrev going : TaskRow
    going = going_row row (making_frame future spawned (length rows) frame)

    below : t < length rows
    below = slice_get_within rows t row almost.own

    longer : length rows < length (rows ++ child_row ∷ [])
    longer = omega (arith, length-append rows (child_row ∷ []))

    put : Almost p lim (rows ++ child_row ∷ []) t row (out_with spawned (length rows) frame.out.items)
    put = put_almost p lim rows t row frame.out.items almost child_row spawned refl refl refl
        (new_stands p lim (rows ++ child_row ∷ []) (length rows) well task args (parent_of t spawned) takes (parent_below t (length rows) spawned below))

    stands_for : StandsFor p (rows ++ child_row ∷ []) t frame.decl future (length rows)
    stands_for = record {
      declared = record { future = future; task = task; spawned = spawned };
      found = declared;
      made = record { row = child_row; there = put_last rows child_row (length rows) refl; above = below; below = longer; parent_is = refl };
      task = refl;
    }

    fresh : ¬ IsIn (length rows) frame.out.items
    fresh h =
        let child = (almost.own_children (length rows)).0 h in
        let less : length rows < length rows = slice_get_within rows (length rows) child.row child.there in
        omega arith

    going_on : RowStands p lim (rows ++ child_row ∷ []) t going
    going_on = going_stands p lim (rows ++ child_row ∷ []) t row (put.stand t row put.own) enabled (making_frame future spawned (length rows) frame)
        (maker_stands p lim rows t frame stands go child_row future spawned stands_for fresh) ready decl (λ is. cc (go, is))

    made_settled : AllSettled p lim (slice_set rows t going ++ child_row ∷ [])
    made_settled =
        subst (AllSettled p lim) (set_put rows child_row going t below)
        (set_settled p lim (rows ++ child_row ∷ []) t row going (out_with spawned (length rows) frame.out.items) put (same_task row going refl refl refl refl) refl refl going_on)

    made_counts : (asked : ℕ) (first : Option FirstFault) → Counts lim rows asked first → asked + 1 ≡ length rows → asked + 1 < lim.tasks
        → Counts lim (slice_set rows t going ++ child_row ∷ []) (asked + 1) first
    made_counts asked first counts is few =
        put_counts lim (slice_set rows t going) asked first
        (set_counts lim rows asked first counts t row going almost.own no_fault_yet no_fault_yet)
        child_row (starts_well (parent_of t spawned)) (omega (arith, length-set rows t going, is, few))

  module _ (st : State) (half : Halfway p lim st t row frame) where
    pub going_kept : RowStands p lim st.tasks t (going_row row frame) → Kept p lim (state_after_storing st t frame (going_row row frame))
    going_kept stands = record {
      settled = set_settled p lim st.tasks t row (going_row row frame) frame.out.items half.almost (same_task row (going_row row frame) refl refl refl refl) refl refl stands;
      counts = set_counts lim st.tasks st.asked st.first_fault half.counts t row (going_row row frame) half.almost.own no_fault_yet no_fault_yet;
      cells = half.cells;
    }

    pub done_kept : (value : ℤ) → RowStands p lim st.tasks t (done_row row frame value) → Kept p lim (state_after_finish st t row frame value)
    done_kept value stands = record {
      settled = set_settled p lim st.tasks t row (done_row row frame value) frame.out.items half.almost (same_task row (done_row row frame value) refl refl refl refl) refl refl stands;
      counts = set_counts lim st.tasks st.asked st.first_fault half.counts t row (done_row row frame value) half.almost.own no_fault_yet (λ is. cc (is));
      cells = half.cells;
    }

    -- a fault, before which the task may have asked for one more task; the frame is the one that the segment left, or
    -- what is left of it
    pub fault_kept : (new : TaskRow) → IsSameTask row new → new.joined ≡ row.joined → new.out ≡ frame.out.items → new.status ≡ Faulted → RowStands p lim st.tasks t new
        → (asked : ℕ) → asked ≤ st.asked + 1 → (kind : FaultKind) (place : Place) (links : List Link) (prints : List ℤ)
        → Kept p lim (record { cells = st.cells; tasks = slice_set st.tasks t new; links = links; prints = prints; asked = asked; first_fault = first_fault_of st.first_fault t kind place })
    fault_kept new same joined out is stands asked more kind place links prints = record {
      settled = set_settled p lim st.tasks t row new frame.out.items half.almost same joined out stands;
      counts = fault_counts lim st.tasks st.asked st.first_fault half.counts t row new half.almost.own no_fault_yet is asked more kind place;
      cells = half.cells;
    }

    -- a task is made
    pub make_kept : (child : Frame) (args : List ℤ) (effects : Summary) (spawned : Bool) (future : ℕ) → MakesDeclared p frame child args effects spawned future
        → frame.next ≡ Go → frame.decl ≡ row.frame.decl → ((task : ℕ) (out : Children) → IsReady p (record frame { futures = slice_set frame.futures future (Some task); out = out }))
        → st.asked + 1 < lim.tasks → Kept p lim (state_after_make lim st t row frame future spawned child args effects)
    make_kept child args effects spawned future declared go decl ready few =
        let rows = st.tasks in
        let is : st.asked + 1 ≡ length rows = half.number few in
        let task = declared.task in
        let settled = made_settled rows half.almost half.frame_stands go decl future spawned task args declared.takes declared.declared (ready (length rows) (children_with spawned (length rows) frame.out)) in
        let counts = made_counts rows half.almost half.frame_stands go decl future spawned task args declared.takes declared.declared (ready (length rows) (children_with spawned (length rows) frame.out))
        st.asked st.first_fault half.counts is few in
        let family = λ (number : ℕ) (c : Frame) (e : Summary).
        slice_set rows t (going_row row (making_frame future spawned number frame)) ++ new_row lim number (parent_of t spawned) c args e ∷ [] in
        let same : family (length rows) (entry_frame p task args) (effects_at p task args) ≡ family (st.asked + 1) child effects
        = λ i. family (sym is i) (sym declared.child_is i) (sym declared.effects_are i) in
        record {
          settled = subst (AllSettled p lim) same settled;
          counts = subst (λ (l : List TaskRow). Counts lim l (st.asked + 1) st.first_fault) same counts;
          cells = half.cells;
        }
