-- Each task has one maker at most, as the state shows it: the task one of whose futures stands for it, or its parent.
use Rattle.std.proofs.Common.{◌≡◌, ◌⊎◌, ◌<◌, ◌≤◌, ◌+◌, ℕ, ℤ, zero, suc, Bool, true, false, cond, List, [], ◌∷◌, length, replicate, Option, None, Some, inl, inr, nat_lt, refl, sym, ap, ◌∙◌, subst, arith}
use Rattle.std.specs.Prelude.{slice_get, slice_set}
use Rattle.std.proofs.lemmas.Bool.{ltb-true}
use Rattle.std.proofs.lemmas.Option.{slice_get_within}
use Rattle.twe_base.specs.declared.place.Place.{Place}
use Rattle.twe_base.specs.declared.fault.FaultKind.TheVariants.{TaskLimit}
use Rattle.twe_base.specs.Limits.{Bounds}
use Rattle.effect_sets.specs.declared.effects.Summary.{Summary}
use Rattle.seg_journal.specs.declared.journal.End.{End}
use Rattle.seg_journal.specs.declared.journal.End.TheVariants as ends
use Rattle.seg_journal.specs.declared.journal.Entry.{Entry}
use Rattle.seg_journal.specs.declared.moves.Kind.{Kind}
use Rattle.seg_journal.specs.declared.moves.Kind.TheVariants.{Admit, Run}
use Rattle.twe_program.specs.Program.{Program}
use Rattle.twe_program.specs.WellFormed.{IsWellFormed}
use Rattle.seg_meaning.specs.declared.frame.Frame.{Frame}
use Rattle.seg_meaning.specs.declared.frame.Next.TheVariants.{Get, Go}
use Rattle.seg_meaning.specs.declared.stop.Stop.{Stop}
use Rattle.seg_meaning.specs.declared.stop.Stop.TheVariants as stops
use Rattle.seg_meaning.specs.Entry.{effects_at, entry_frame}
use Rattle.seg_meaning.specs.Giving.{given}
use Rattle.seg_meaning.specs.Segment.{Stopped, segment}
use Rattle.wait_graph.specs.Link.{link_of}
use Rattle.machine_state.specs.segment_laws.Keeps.{NextAfter, SegmentKeeps}
use Rattle.machine_state.specs.segment_laws.Ready.{IsReady, MakesDeclared}
use Rattle.machine_state.specs.declared.state.State.{State}
use Rattle.machine_state.specs.declared.state.TaskRow.{TaskRow}
use Rattle.machine_state.specs.Legal.{MayTake}
use Rattle.machine_state.specs.Moves.{admitted, admitted_row, awaited_value, done_row, faulted_row, going_row, joined_child, making_frame, move_result, new_row, parent_of, ran, result_by_kind, start_of, state_after_asking, state_after_fault, state_after_join, state_after_make, state_after_storing, stop_result, stopped_frame}
use Rattle.machine_state.specs.Rows.{IsRow, row_awaited}
use Rattle.machine_state.specs.Changes.{made_by}
use Rattle.machine_state.specs.Runs.{IsReached, Legal, LegalFrom, replayed, state_after}
use Rattle.machine_state.proofs.segment_laws.BeingReady.{ready_declared, ready_gets, ready_given}
use Rattle.machine_state.proofs.segment_laws.SegmentKept.{segment_keeps}
use Rattle.machine_state.proofs.standing.ReachedStands.{start_stands, taken_stands}
use Rattle.machine_state.proofs.standing.Standing.{Stands}
use Rattle.machine_state.proofs.tasks.LeftAlone.{left_alone}
use Rattle.isolation_laws.proofs.frames.AfterSegment.{after_futures}
use Rattle.isolation_laws.proofs.rows.FramePutBack.{rows_home}
use Rattle.isolation_laws.proofs.rows.JoinedChild.{Untouched}
use Rattle.isolation_laws.proofs.journals.MakersRow.{length_joined}
use Rattle.isolation_laws.proofs.rows.ListElements.{get_added, get_set, length_set}
use Rattle.run_laws.specs.Orders.{HasMade}
use Rattle.run_laws.proofs.orders.Enabling.{at_most_one}

-- a future of the frame stands for u
pub record HasFuture (frame : Frame) (u : ℕ) : Type 0 where
  pub future : ℕ
  pub stands : slice_get frame.futures future ≡ Some (Some u)

-- a future of task s stands for u
pub record HoldsFuture (st : State) (s u : ℕ) : Type 0 where
  pub row : TaskRow
  pub there : IsRow st s row
  pub has : HasFuture row.frame u

-- s is the parent of u
pub record IsParent (st : State) (s u : ℕ) : Type 0 where
  pub row : TaskRow
  pub there : IsRow st u row
  pub parent : row.parent ≡ Some s

-- the state shows that s has made u: a future of s stands for it, or s is its parent
abbrev pub IsMaker : State → ℕ → ℕ → Type 0
IsMaker st s u = HoldsFuture st s u ⊎ IsParent st s u

-- the value that the frame waits for is that of a task for which one of its futures stands
abbrev pub GetsFromFuture : Frame → Type 0
GetsFromFuture frame = (on : ℕ) (into : Option ℕ) → frame.next ≡ Get on into → HasFuture frame on

-- each task has one maker at most, and values come from futures
pub record HaveOneMaker (st : State) : Type 0 where
  pub one : (s r u : ℕ) → IsMaker st s u → IsMaker st r u → s ≡ r
  pub gets : (s : ℕ) (row : TaskRow) → IsRow st s row → GetsFromFuture row.frame

-- the task t, which moves, makes u
abbrev IsNew : State → ℕ → ℕ → ℕ → Type 0
IsNew old t s u = (s ≡ t) × (length old.tasks ≤ u)

-- What a move of t leaves of a row of s: whom s has made was made before or is new, and so is s itself, if it has a parent.
record ComesFrom (old : State) (t s : ℕ) (row : TaskRow) : Type 0 where
  gets : GetsFromFuture row.frame
  from : (u : ℕ) → HasFuture row.frame u → IsMaker old s u ⊎ IsNew old t s u
  child : (q : ℕ) → row.parent ≡ Some q → IsMaker old q s ⊎ IsNew old t q s

has_same : (frame other : Frame) → other.futures ≡ frame.futures → (u : ℕ) → HasFuture frame u → HasFuture other u
has_same frame other same u has = record { future = has.future; stands = ap (λ (l : List (Option ℕ)). slice_get l has.future) same ∙ has.stands }

gets_same : (frame other : Frame) → other.futures ≡ frame.futures → other.next ≡ frame.next → GetsFromFuture frame → GetsFromFuture other
gets_same frame other futures next gets on into is = has_same frame other futures on (gets on into (sym next ∙ is))

-- what the rows of the new state come from
makers_before : (old new : State) (t : ℕ) → ((s : ℕ) (row : TaskRow) → IsRow new s row → ComesFrom old t s row) → (s u : ℕ) → IsMaker new s u → IsMaker old s u ⊎ IsNew old t s u
makers_before old new t comes s u (inl held) = (comes s held.row held.there).from u held.has
makers_before old new t comes s u (inr child) = (comes u child.row child.there).child s child.parent

-- who was made is there
pub made_there : (p : Program) (lim : Bounds) (st : State) → Stands p lim st → (s u : ℕ) → IsMaker st s u → u < length st.tasks
made_there p lim st stands s u (inl held) = ((stands.rows s held.row held.there).frame.futures held.has.future u held.has.stands).made.below
made_there p lim st stands s u (inr child) = slice_get_within st.tasks u child.row child.there

module _ (p : Program) (lim : Bounds) (old : State) (stands : Stands p lim old) (own : HaveOneMaker old) where
  -- a row with the futures, the wait and the parent that it had
  same_comes : (t s : ℕ) (row other : TaskRow) → IsRow old s row → other.frame.futures ≡ row.frame.futures → other.frame.next ≡ row.frame.next → other.parent ≡ row.parent → ComesFrom old t s other
  same_comes t s row other is futures next parent = record {
    gets = gets_same row.frame other.frame futures next (own.gets s row is);
    from = λ u has. inl (inl (record { row = row; there = is; has = has_same other.frame row.frame (sym futures) u has }));
    child = λ q of. inl (inr (record { row = row; there = is; parent = sym parent ∙ of }));
  }

  -- so it is kept
  one_maker_later : (new : State) (t : ℕ) → ((s : ℕ) (row : TaskRow) → IsRow new s row → ComesFrom old t s row) → HaveOneMaker new
  one_maker_later new t comes = record {
    one = λ s r u first second.
        elim (makers_before old new t comes s u first) [
          | inl one ↦ elim (makers_before old new t comes r u second) [
            | inl other ↦ own.one s r u one other
            | inr made ↦ let there = made_there p lim old stands s u one in absurd (omega (arith, there, made.1))
          ]
          | inr made ↦ elim (makers_before old new t comes r u second) [
            | inl other ↦ let there = made_there p lim old stands r u other in absurd (omega (arith, there, made.1))
            | inr both ↦ made.0 ∙ sym both.0
          ]
        ];
    gets = λ s row is. (comes s row is).gets;
  }

  -- An admission.

  admitted_comes : (t : ℕ) (found : Option TaskRow) → slice_get old.tasks t ≡ found → (s : ℕ) (b : TaskRow) → IsRow (admitted old t found) s b → ComesFrom old t s b
  admitted_comes t None is s b there = same_comes t s b b there refl refl refl
  admitted_comes t (Some row) is s b there = elim (get_set old.tasks t s (admitted_row row) b there) [
    | inl here ↦
        same_comes t s row b (subst (λ (x : ℕ). IsRow old x row) (sym here.0) is)
        (ap (λ (r : TaskRow). r.frame.futures) here.1) (ap (λ (r : TaskRow). r.frame.next) here.1) (ap (λ (r : TaskRow). r.parent) here.1)
    | inr other ↦ same_comes t s b b other.1 refl refl refl
  ]

none_stands : (n f u : ℕ) → ¬ (slice_get (replicate n None) f ≡ Some (Some u))
none_stands zero f u e = cc (e)
none_stands (suc n) zero u e = cc (e)
none_stands (suc n) (suc f) u e = none_stands n f u e

-- a task that is made has made nobody
entry_comes : (p : Program) (lim : Bounds) (old : State) (t s task number : ℕ) (args given_args : List ℤ) (effects : Summary) (parent : Option ℕ)
    → ((q : ℕ) → parent ≡ Some q → IsNew old t q s) → ComesFrom old t s (new_row lim number parent (entry_frame p task args) given_args effects)
entry_comes p lim old t s task number args given_args effects parent new = record {
  gets = λ on into is. absurd (cc (is));
  from = λ u has. absurd (none_stands _ has.future u has.stands);
  child = λ q of. inr (new q of);
}

spawner : (t q : ℕ) (spawned : Bool) → parent_of t spawned ≡ Some q → q ≡ t
spawner t q true of = cc (of)
spawner t q false of = absurd (cc (of))

-- A segment of t.

module _ (p : Program) (lim : Bounds) (old : State) (stands : Stands p lim old) (own : HaveOneMaker old) (t : ℕ) (row : TaskRow) (is_t : IsRow old t row) where
  abbrev value : ℤ
  value = awaited_value old.tasks (row_awaited row.frame.next)

  abbrev left : Stopped
  left = segment p (given row.frame value) old.cells

  abbrev mid : State
  mid = record old { cells = left.cells }

  abbrev o : Option ℕ
  o = joined_child row.out (link_of old.links t).waits

  ready : IsReady p (given row.frame value)
  ready = ready_given p row.frame value (stands.rows t row is_t).ready

  keeps : SegmentKeeps (given row.frame value) old.cells left
  keeps = segment_keeps p (given row.frame value) old.cells

  same_futures : left.frame.futures ≡ row.frame.futures
  same_futures = after_futures p row.frame value old.cells

  left_gets : GetsFromFuture left.frame
  left_gets on into is =
      let awaits = ready_gets p (given row.frame value) old.cells ready on into is in
      has_same (given row.frame value) left.frame keeps.futures on (record { future = awaits.future; stands = awaits.stands })

  left_from : (u : ℕ) → HasFuture left.frame u → IsMaker old t u
  left_from u has = inl (record { row = row; there = is_t; has = has_same left.frame row.frame (sym same_futures) u has })

  own_parent : (q : ℕ) → row.parent ≡ Some q → IsMaker old q t ⊎ IsNew old t q t
  own_parent q of = inl (inr (record { row = row; there = is_t; parent = of }))

  -- the other rows
  other_comes : (s : ℕ) (a b : TaskRow) → IsRow old s a → Untouched a b → ComesFrom old t s b
  other_comes s a b is untouched =
      same_comes p lim old stands own t s a b is (ap (λ (f : Frame). f.futures) untouched.frame) (ap (λ (f : Frame). f.next) untouched.frame) untouched.became.parent

  -- the row that was put back
  module _ (frame : Frame) (new : TaskRow) (comes : ComesFrom old t t new) where
    home_comes : (s : ℕ) (b : TaskRow) → IsRow (state_after_storing (state_after_join mid o) t frame new) s b → ComesFrom old t s b
    home_comes s b is = elim (rows_home mid o t row is_t frame new s b is) [
      | inl here ↦ subst (λ (x : ℕ). ComesFrom old t x b) (sym here.0) (subst (ComesFrom old t t) (sym here.1) comes)
      | inr other ↦ other_comes s other.1.0 b other.1.1 other.1.2
    ]

  going_comes : ComesFrom old t t (going_row row left.frame)
  going_comes = record { gets = gets_same left.frame (going_row row left.frame).frame refl refl left_gets; from = λ u has. inl (left_from u (record { future = has.future; stands = has.stands })); child = own_parent }

  done_comes : (result : ℤ) → ComesFrom old t t (done_row row left.frame result)
  done_comes result = record { gets = gets_same left.frame (done_row row left.frame result).frame refl refl left_gets; from = λ u has. inl (left_from u (record { future = has.future; stands = has.stands })); child = own_parent }

  faulted_comes : ComesFrom old t t (faulted_row row left.frame)
  faulted_comes = record { gets = gets_same left.frame (faulted_row row left.frame).frame refl refl left_gets; from = λ u has. inl (left_from u (record { future = has.future; stands = has.stands })); child = own_parent }

  stopped_comes : ComesFrom old t t (faulted_row row (stopped_frame left.frame))
  stopped_comes = record { gets = λ on into is. absurd (cc (is)); from = λ u has. inl (left_from u (record { future = has.future; stands = has.stands })); child = own_parent }

  asked_joined : (child : Option ℕ) → (state_after_join mid child).asked ≡ old.asked
  asked_joined None = refl
  asked_joined (Some child) = refl

  -- t makes a task
  module _ (child : Frame) (args : List ℤ) (effects : Summary) (spawned : Bool) (future : ℕ) (place : Place) (is : left.stop ≡ stops.Make child args effects spawned future place) where
    abbrev number : ℕ
    number = (state_after_join mid o).asked + 1

    abbrev going : TaskRow
    going = going_row row (making_frame future spawned number left.frame)

    next_is : left.frame.next ≡ Go
    next_is = let next : NextAfter (stops.Make child args effects spawned future place) left.frame = subst (λ (s : Stop). NextAfter s left.frame) is keeps.next in next

    making_from : number < lim.tasks → (u : ℕ) → HasFuture going.frame u → IsMaker old t u ⊎ IsNew old t t u
    making_from few u has = elim (get_set left.frame.futures future has.future (Some number) (Some u) has.stands) [
      | inl here ↦
          let same : u ≡ number = cc (here.1) in
          let counted : old.asked + 1 ≡ length old.tasks = stands.number (omega (arith, few, asked_joined o)) in
          inr (refl, omega (arith, same, counted, asked_joined o))
      | inr other ↦ inl (left_from u (record { future = has.future; stands = other.1 }))
    ]

    making_comes : number < lim.tasks → ComesFrom old t t going
    making_comes few = record { gets = λ on into gets. absurd (cc (next_is, gets)); from = making_from few; child = own_parent }

    abbrev made : State
    made = state_after_make lim (state_after_join mid o) t row left.frame future spawned child args effects

    made_comes : number < lim.tasks → (s : ℕ) (b : TaskRow) → IsRow made s b → ComesFrom old t s b
    made_comes few s b there =
        let as_many : length (slice_set (state_after_join mid o).tasks t going) ≡ length old.tasks = length_set (state_after_join mid o).tasks t going ∙ length_joined mid o in
        let past : s ≡ length (slice_set (state_after_join mid o).tasks t going) → length old.tasks ≤ s = λ last. omega (arith, last, as_many) in
        let declared : MakesDeclared p (given row.frame value) child args effects spawned future = ready_declared p (given row.frame value) old.cells ready child args effects spawned future place is in
        elim (get_added (slice_set (state_after_join mid o).tasks t going) s (new_row lim number (parent_of t spawned) child args effects) b there) [
          | inl new ↦
              subst (ComesFrom old t s) (sym new.1)
              (subst (λ (f : Frame). ComesFrom old t s (new_row lim number (parent_of t spawned) f args effects)) (sym declared.child_is)
              (entry_comes p lim old t s declared.task number args args effects (parent_of t spawned) (λ q of. (spawner t q spawned of, past new.0))))
          | inr before ↦ home_comes left.frame going (making_comes few) s b before
        ]

    by_limit : (b : Bool) → nat_lt number lim.tasks ≡ b
        → (s : ℕ) (r : TaskRow) → IsRow (cond {A = State × End} b (made, ends.Made number) (state_after_fault (state_after_asking (state_after_join mid o)) t row (stopped_frame left.frame) TaskLimit place, ends.Fault TaskLimit place)).0 s r
        → ComesFrom old t s r
    by_limit true few s r there = made_comes (ltb-true number lim.tasks few) s r there
    by_limit false few s r there = home_comes (stopped_frame left.frame) (faulted_row row (stopped_frame left.frame)) stopped_comes s r there

  stop_comes : (stop : Stop) → left.stop ≡ stop → (s : ℕ) (b : TaskRow) → IsRow (stop_result lim (state_after_join mid o) t row left.frame stop).0 s b → ComesFrom old t s b
  stop_comes (stops.Make child args effects spawned future place) is s b there =
      by_limit child args effects spawned future place is (nat_lt ((state_after_join mid o).asked + 1) lim.tasks) refl s b there
  stop_comes (stops.Waits on) is s b there = home_comes left.frame (going_row row left.frame) going_comes s b there
  stop_comes (stops.Joins on) is s b there = home_comes left.frame (going_row row left.frame) going_comes s b there
  stop_comes (stops.Done result) is s b there = home_comes left.frame (done_row row left.frame result) (done_comes result) s b there
  stop_comes (stops.Fault kind place) is s b there = home_comes left.frame (faulted_row row left.frame) faulted_comes s b there

module _ (p : Program) (lim : Bounds) (well : IsWellFormed p) where
  ran_comes : (st : State) (t : ℕ) (found : Option TaskRow) → slice_get st.tasks t ≡ found → Stands p lim st → HaveOneMaker st
      → (s : ℕ) (b : TaskRow) → IsRow (ran p lim st t found).0 s b → ComesFrom st t s b
  ran_comes st t None is stands own s b there = same_comes p lim st stands own t s b b there refl refl refl
  ran_comes st t (Some row) is stands own s b there = stop_comes p lim st stands own t row is (segment p (given row.frame (awaited_value st.tasks (row_awaited row.frame.next))) st.cells).stop refl s b there

  move_comes : (st : State) (kind : Kind) (t : ℕ) → Stands p lim st → HaveOneMaker st → (s : ℕ) (b : TaskRow) → IsRow (result_by_kind p lim st kind t).0 s b → ComesFrom st t s b
  move_comes st Admit t stands own s b there = admitted_comes p lim st stands own t (slice_get st.tasks t) refl s b there
  move_comes st Run t stands own s b there = ran_comes st t (slice_get st.tasks t) refl stands own s b there

  move_one : (st : State) (kind : Kind) (t : ℕ) → Stands p lim st → HaveOneMaker st → HaveOneMaker (result_by_kind p lim st kind t).0
  move_one st kind t stands own = one_maker_later p lim st stands own (result_by_kind p lim st kind t).0 t (move_comes st kind t stands own)

  journal_one : (st : State) (entries : List Entry) → LegalFrom p lim st entries → Stands p lim st → HaveOneMaker st → HaveOneMaker (replayed p lim st entries)
  journal_one st [] legal stands own = own
  journal_one st (entry ∷ entries) legal stands own =
      let kind = entry.mv.kind in
      let t = entry.mv.task in
      journal_one (move_result p lim st entry.mv).0 entries legal.2 (taken_stands p lim well st kind t legal.0 stands) (move_one st kind t stands own)

  -- At the start only `main` is there, and it has made nobody.

  abbrev first : TaskRow
  first = new_row lim 0 None (entry_frame p p.main []) [] (effects_at p p.main [])

  the_first : (s : ℕ) (row : TaskRow) → IsRow (start_of p lim) s row → row ≡ first
  the_first zero row is = let same : row ≡ first = cc in same
  the_first (suc s) row is = absurd (cc)

  first_gets : GetsFromFuture first.frame
  first_gets on into is = absurd (cc (is))

  start_none : (s u : ℕ) → ¬ IsMaker (start_of p lim) s u
  start_none s u (inl held) =
      none_stands _ held.has.future u (ap (λ (r : TaskRow). slice_get r.frame.futures held.has.future) (sym (the_first s held.row held.there)) ∙ held.has.stands)
  start_none s u (inr child) =
      let none : None ≡ Some s = sym (ap (λ (r : TaskRow). r.parent) (the_first u child.row child.there)) ∙ child.parent in cc (none)

  start_one : HaveOneMaker (start_of p lim)
  start_one = record {
    one = λ s r u first second. absurd (start_none s u first);
    gets = λ s row is. subst (λ (r : TaskRow). GetsFromFuture r.frame) (sym (the_first s row is)) first_gets;
  }

  pub reached_one : (st : State) → IsReached p lim st → HaveOneMaker st
  reached_one st reached =
      subst HaveOneMaker (sym reached.same) (journal_one (start_of p lim) reached.journal reached.legal (start_stands p lim well) start_one)

  -- The entry that made a task.

  made_one : (end : End) → 0 < made_by end → (child : ℕ) × (end ≡ ends.Made child)
  made_one ends.Admitted some = absurd (omega (arith, some))
  made_one (ends.Made child) some = (child, refl)
  made_one (ends.Waits on) some = absurd (omega (arith, some))
  made_one (ends.Joins on) some = absurd (omega (arith, some))
  made_one (ends.Done value) some = absurd (omega (arith, some))
  made_one (ends.Fault kind place) some = absurd (omega (arith, some))

  -- who is new was made by the move
  new_made : (st : State) (kind : Kind) (t u : ℕ) → MayTake st kind t → Stands p lim st → length st.tasks ≤ u → u < length (result_by_kind p lim st kind t).0.tasks
      → (result_by_kind p lim st kind t).1 ≡ ends.Made u
  new_made st kind t u may stands past there =
      let alone = left_alone p lim well st kind t may stands in
      let found = made_one (result_by_kind p lim st kind t).1 (omega (arith, past, there, alone.tasks)) in
      let few = at_most_one (result_by_kind p lim st kind t).1 in
      let number : found.0 ≡ length st.tasks = alone.made found.0 found.1 in
      found.1 ∙ ap ends.Made (omega (arith, past, there, alone.tasks, few, number))

  -- who has made a task by the end of a journal had made it before, or made it by an entry
  maker_entry : (st : State) (entries : List Entry) → LegalFrom p lim st entries → Stands p lim st → HaveOneMaker st → (s u : ℕ) → IsMaker (replayed p lim st entries) s u
      → IsMaker st s u ⊎ HasMade entries s u
  maker_entry st [] legal stands own s u maker = inl maker
  maker_entry st (entry ∷ entries) legal stands own s u maker =
      let kind = entry.mv.kind in
      let t = entry.mv.task in
      let next : State = (move_result p lim st entry.mv).0 in
      let next_stands = taken_stands p lim well st kind t legal.0 stands in
      elim (maker_entry next entries legal.2 next_stands (move_one st kind t stands own) s u maker) [
        | inl now ↦ elim (makers_before st next t (move_comes st kind t stands own) s u now) [
          | inl before ↦ inl before
          | inr new ↦
              let made = new_made st kind t u legal.0 stands new.1 (made_there p lim next next_stands s u now) in
              inr (record { entry = entry; place = 0; there = refl; by = sym new.0; made = sym legal.1 ∙ made })
        ]
        | inr later ↦ inr (record { entry = later.entry; place = suc later.place; there = later.there; by = later.by; made = later.made })
      ]

  pub made_by_entry : (journal : List Entry) → Legal p lim journal → (s u : ℕ) → IsMaker (state_after p lim journal) s u → HasMade journal s u
  made_by_entry journal legal s u maker = elim (maker_entry (start_of p lim) journal legal (start_stands p lim well) start_one s u maker) [
    | inl before ↦ absurd (start_none s u before)
    | inr made ↦ made
  ]
