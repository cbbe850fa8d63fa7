-- Frames stay ready.
use Rattle.std.proofs.Common.{◌≡◌, ◌<◌, ◌||◌, ℕ, zero, suc, ℤ, Bool, true, false, IsTrue, List, [], ◌∷◌, length, replicate, Option, None, Some, inl, inr, refl, sym, ap, ◌∙◌, subst, arith}
use Rattle.std.specs.Prelude.{nat_eq, slice_get, slice_set}
use Rattle.std.specs.List.{AllByRecursion}
use Rattle.std.proofs.lemmas.Bool.{eqb-true}
use Rattle.std.proofs.lemmas.List.{length-replicate, length-set}
use Rattle.std.proofs.lemmas.Option.{slice_get_within}
use Rattle.twe_base.specs.declared.place.Place.{Place}
use Rattle.effect_sets.specs.declared.effects.Summary.{Summary}
use Rattle.twe_program.specs.declared.program.Decl.{Decl}
use Rattle.twe_program.specs.Expression.{Arguments, argument}
use Rattle.twe_program.specs.Expression as exprs
use Rattle.twe_program.specs.Fitting.{TakesArguments, count_of}
use Rattle.twe_program.specs.Futures.{AllWaitsFollow, made_after}
use Rattle.twe_program.specs.Numbering.{futures_of_all}
use Rattle.twe_program.specs.Program.{Program}
use Rattle.twe_program.specs.Statement.{Make, Wait, Statements, no_more, statement}
use Rattle.twe_program.specs.WellFormed.{IsWellFormed, DeclFits, scope_of}
use Rattle.seg_meaning.specs.declared.frame.Frame.{Frame}
use Rattle.seg_meaning.specs.declared.frame.Next.{Next}
use Rattle.seg_meaning.specs.declared.frame.Next.TheVariants.{Go, Get, Join, Closing, Ended}
use Rattle.seg_meaning.specs.declared.stop.Stop.{Stop}
use Rattle.seg_meaning.specs.declared.stop.Stop.TheVariants as ends
use Rattle.seg_meaning.specs.Children.{Children}
use Rattle.seg_meaning.specs.Entry.{entry_frame, frame_of}
use Rattle.seg_meaning.specs.Giving.{given, given_by}
use Rattle.seg_meaning.specs.Meaning.{body_of}
use Rattle.seg_meaning.specs.Segment.{segment, task_of}
use Rattle.machine_state.specs.segment_laws.Keeps.{NextAfter, SegmentKeeps}
use Rattle.machine_state.specs.segment_laws.Left.{body_left, left_of}
use Rattle.machine_state.specs.segment_laws.Operations.{AllMayHave, ComesToMake, ComesToWait}
use Rattle.machine_state.specs.segment_laws.Ready.{AllOperationsFit, AwaitsMade, IsReady, MakesDeclared, futures_at, is_future_set, stands_for_one}
use Rattle.machine_state.proofs.segment_laws.EntryFutures.{body_operations_fit}
use Rattle.machine_state.proofs.segment_laws.Following.{gets_follow, given_left, joins_follow, makes_follow}
use Rattle.machine_state.proofs.segment_laws.OperationsFitting.{quietly_fits}
use Rattle.machine_state.proofs.segment_laws.SegmentKept.{segment_keeps}
use Rattle.machine_state.proofs.segment_laws.Waits.{all_waits_more, quietly_waits}

-- there are as many values as arguments
may_count : (args : Arguments) (values : List ℤ) → AllMayHave args values → length values ≡ count_of args
may_count exprs.no_more [] h = refl
may_count exprs.no_more (value ∷ values) h = absurd h
may_count (argument first others) [] h = absurd h
may_count (argument first others) (value ∷ values) h = omega (arith, may_count others values h.1)

set_is : (o : Option (Option ℕ)) → IsTrue (stands_for_one o) → o ≡ Some (Some (task_of o))
set_is None h = absurd (cc)
set_is (Some None) h = absurd (cc)
set_is (Some (Some task)) h = refl

-- a future that is set now, and those that were
set_here : (xs : List (Option ℕ)) (k : ℕ) (v : Option ℕ) → k < length xs → slice_get (slice_set xs k v) k ≡ Some v
set_here [] k v h = absurd (omega (arith, h))
set_here (x ∷ xs) zero v h = refl
set_here (x ∷ xs) (suc k) v h = set_here xs k v (omega (arith, h))

still_set : (xs : List (Option ℕ)) (k j task : ℕ) → IsTrue (is_future_set xs j) → IsTrue (is_future_set (slice_set xs k (Some task)) j)
still_set [] k j task h = h
still_set (x ∷ xs) zero zero task h = refl
still_set (x ∷ xs) zero (suc j) task h = h
still_set (x ∷ xs) (suc k) zero task h = h
still_set (x ∷ xs) (suc k) (suc j) task h = still_set xs k j task h

set_now : (futures : List (Option ℕ)) (future task f : ℕ) → future < length futures → (here : Bool) → nat_eq f future ≡ here → IsTrue (here || is_future_set futures f)
    → IsTrue (is_future_set (slice_set futures future (Some task)) f)
set_now futures future task f below true e h =
    ap (λ (k : ℕ). is_future_set (slice_set futures future (Some task)) k) (eqb-true f future e) ∙ ap stands_for_one (set_here futures future (Some task) below)
set_now futures future task f below false e h = still_set futures future f task h

module _ (p : Program) where
  -- with the same declaration and the same futures
  ready_by : (frame after : Frame) → after.decl ≡ frame.decl → after.futures ≡ frame.futures → IsReady p frame
      → AllWaitsFollow (is_future_set frame.futures) (left_of p after) → AllOperationsFit p (futures_at p frame.decl) (left_of p after) → IsReady p after
  ready_by frame after decl futures ready waits operations = record {
    waits = subst (λ (l : List (Option ℕ)). AllWaitsFollow (is_future_set l) (left_of p after)) (sym futures) waits;
    futures = ap length futures ∙ ready.futures ∙ sym (ap (λ (d : ℕ). length (futures_at p d)) decl);
    operations = subst (λ (d : ℕ). AllOperationsFit p (futures_at p d) (left_of p after)) (sym decl) operations;
  }

  -- with the same left
  ready_same_left : (frame after : Frame) → after.decl ≡ frame.decl → after.futures ≡ frame.futures → left_of p after ≡ left_of p frame → IsReady p frame → IsReady p after
  ready_same_left frame after decl futures left ready =
      ready_by frame after decl futures ready
      (subst (AllWaitsFollow (is_future_set frame.futures)) (sym left) ready.waits)
      (subst (AllOperationsFit p (futures_at p frame.decl)) (sym left) ready.operations)

  -- with nothing left
  ready_none_left : (frame after : Frame) → after.decl ≡ frame.decl → after.futures ≡ frame.futures → after.body ≡ None → IsReady p frame → IsReady p after
  ready_none_left frame after decl futures body ready =
      let left : left_of p after ≡ no_more = ap (body_left p after.decl) body in
      ready_by frame after decl futures ready
      (subst (AllWaitsFollow (is_future_set frame.futures)) (sym left) tt)
      (subst (AllOperationsFit p (futures_at p frame.decl)) (sym left) tt)

  pub ready_same : (frame other : Frame) → other.decl ≡ frame.decl → other.body ≡ frame.body → other.futures ≡ frame.futures → IsReady p frame → IsReady p other
  ready_same frame other decl body futures ready =
      ready_same_left frame other decl futures (ap (λ (d : ℕ). body_left p d other.body) decl ∙ ap (body_left p frame.decl) body) ready

  pub ready_ended : (frame : Frame) → IsReady p frame → IsReady p (record frame { body = None; next = Ended })
  ready_ended frame ready = ready_none_left frame (record frame { body = None; next = Ended }) refl refl refl ready

  given_keeps : (next : Next) (frame : Frame) (value : ℤ) → ((given_by next frame value).decl ≡ frame.decl) × ((given_by next frame value).futures ≡ frame.futures)
  given_keeps Go frame value = (refl, refl)
  given_keeps (Get on into) frame value = (refl, refl)
  given_keeps (Join on into) frame value = (refl, refl)
  given_keeps (Closing on) frame value = (refl, refl)
  given_keeps Ended frame value = (refl, refl)

  pub ready_given : (frame : Frame) (value : ℤ) → IsReady p frame → IsReady p (given frame value)
  ready_given frame value ready =
      let kept = given_keeps frame.next frame value in
      ready_same_left frame (given frame value) kept.0 kept.1 (given_left p frame value) ready

module _ (p : Program) (frame : Frame) (cells : List ℤ) (ready : IsReady p frame) where
  abbrev after : Frame
  after = (segment p frame cells).frame

  kept : SegmentKeeps frame cells (segment p frame cells)
  kept = segment_keeps p frame cells

  -- at a wait
  at_wait : (join : Bool) (on : ℕ) (into : Option ℕ) → ComesToWait p frame after [] join on into → AwaitsMade p frame join on
  at_wait join on into w =
      let stmts = statement (Wait w.point w.future join into w.place) (left_of p after) in
      let waits : AllWaitsFollow (is_future_set frame.futures) stmts = quietly_waits (is_future_set frame.futures) (left_of p frame) stmts w.later w.passes ready.waits in
      let operations : AllOperationsFit p (futures_at p frame.decl) stmts = quietly_fits p (futures_at p frame.decl) (left_of p frame) stmts [] w.later w.passes ready.operations in
      record {
        future = w.future;
        stands = set_is (slice_get frame.futures w.future) waits.0 ∙ ap (λ (t : ℕ). Some (Some t)) (sym w.on_is);
        declared = operations.0;
      }

  after_wait : (join : Bool) (on : ℕ) (into : Option ℕ) → ComesToWait p frame after [] join on into → IsReady p after
  after_wait join on into w =
      let stmts = statement (Wait w.point w.future join into w.place) (left_of p after) in
      let waits : AllWaitsFollow (is_future_set frame.futures) stmts = quietly_waits (is_future_set frame.futures) (left_of p frame) stmts w.later w.passes ready.waits in
      let operations : AllOperationsFit p (futures_at p frame.decl) stmts = quietly_fits p (futures_at p frame.decl) (left_of p frame) stmts [] w.later w.passes ready.operations in
      ready_by p frame after kept.decl kept.futures ready waits.1 operations.1

  pub ready_gets : (on : ℕ) (into : Option ℕ) → after.next ≡ Get on into → AwaitsMade p frame false on
  ready_gets on into e = at_wait false on into (gets_follow p frame cells [] on into e)

  pub ready_joins : (on : ℕ) (into : Option ℕ) → after.next ≡ Join on into → AwaitsMade p frame true on
  ready_joins on into e = at_wait true on into (joins_follow p frame cells [] on into e)

  pub ready_waits : (on : ℕ) → (segment p frame cells).stop ≡ ends.Waits on → AwaitsMade p frame false on
  ready_waits on e =
      let next : NextAfter (ends.Waits on) after = subst (λ (s : Stop). NextAfter s after) e kept.next in
      ready_gets on next.0 next.1

  abbrev NoMake : Stop → Type 0
  NoMake stop = (child : Frame) (args : List ℤ) (effects : Summary) (spawned : Bool) (future : ℕ) (place : Place) → stop ≡ ends.Make child args effects spawned future place → ⊥

  ready_by_stop : (stop : Stop) → NextAfter stop after → NoMake stop → IsReady p after
  ready_by_stop (ends.Make child args effects spawned future place) next none = absurd (none child args effects spawned future place refl)
  ready_by_stop (ends.Waits on) next none = after_wait false on next.0 (gets_follow p frame cells [] on next.0 next.1)
  ready_by_stop (ends.Joins on) next none =
      elim next [
        | inl join ↦ after_wait true on join.0 (joins_follow p frame cells [] on join.0 join.1)
        | inr closing ↦ ready_none_left p frame after kept.decl kept.futures closing.body ready
      ]
  ready_by_stop (ends.Done value) next none = ready_none_left p frame after kept.decl kept.futures next.1 ready
  ready_by_stop (ends.Fault kind place) next none = ready_none_left p frame after kept.decl kept.futures next.1 ready

  pub ready_later : NoMake (segment p frame cells).stop → IsReady p after
  ready_later none = ready_by_stop (segment p frame cells).stop kept.next none

  -- at a make
  module _ (child : Frame) (args : List ℤ) (effects : Summary) (spawned : Bool) (future : ℕ) (place : Place)
      (stop : (segment p frame cells).stop ≡ ends.Make child args effects spawned future place) where
    make : ComesToMake p frame after [] child args effects spawned future place
    make = makes_follow p frame cells [] child args effects spawned future place stop

    abbrev from_make : Statements
    from_make = statement (Make make.point future make.task make.given spawned make.future_place place) (left_of p after)

    make_waits : AllWaitsFollow (is_future_set frame.futures) from_make
    make_waits = quietly_waits (is_future_set frame.futures) (left_of p frame) from_make make.later make.passes ready.waits

    make_fits : AllOperationsFit p (futures_at p frame.decl) from_make
    make_fits = quietly_fits p (futures_at p frame.decl) (left_of p frame) from_make [] make.later make.passes ready.operations

    pub ready_declared : MakesDeclared p frame child args effects spawned future
    ready_declared = record {
      task = make.task;
      child_is = make.child_is;
      effects_are = make.effects_are;
      takes = subst (λ (n : ℕ). TakesArguments (slice_get p.tasks make.task) n) (sym (may_count make.given args make.values)) make_fits.0.1;
      declared = make_fits.0.0;
    }

    pub ready_made : (task : ℕ) (out : Children) → IsReady p (record after { futures = slice_set after.futures future (Some task); out = out })
    ready_made task out =
        let below : future < length (futures_at p frame.decl) = slice_get_within (futures_at p frame.decl) future _ make_fits.0.0 in
        let room : future < length frame.futures = omega (arith, below, ready.futures) in
        let new = slice_set frame.futures future (Some task) in
        let waits : AllWaitsFollow (is_future_set new) (left_of p after)
        = all_waits_more (made_after (is_future_set frame.futures) (Make make.point future make.task make.given spawned make.future_place place)) (is_future_set new)
        (λ f h. set_now frame.futures future task f room (nat_eq f future) refl h) (left_of p after) make_waits.1 in
        let set : slice_set after.futures future (Some task) ≡ new = ap (λ (l : List (Option ℕ)). slice_set l future (Some task)) kept.futures in
        record {
          waits = subst (λ (l : List (Option ℕ)). AllWaitsFollow (is_future_set l) (left_of p after)) (sym set) waits;
          futures = ap length set ∙ length-set frame.futures future (Some task) ∙ ready.futures ∙ sym (ap (λ (d : ℕ). length (futures_at p d)) kept.decl);
          operations = subst (λ (d : ℕ). AllOperationsFit p (futures_at p d) (left_of p after)) (sym kept.decl) make_fits.1;
        }

-- before the first segment
fits_at : (p : Program) (tasks : List Decl) (task : ℕ) (decl : Decl) → AllByRecursion (DeclFits p) tasks → slice_get tasks task ≡ Some decl → DeclFits p decl
fits_at p [] task decl fits found = absurd (cc)
fits_at p (first ∷ tasks) zero decl fits found = let same : first ≡ decl = cc in subst (DeclFits p) same fits.0
fits_at p (first ∷ tasks) (suc task) decl fits found = fits_at p tasks task decl fits.1 found

entry_ready_by : (p : Program) (wf : IsWellFormed p) (task : ℕ) (args : List ℤ) (o : Option Decl) → slice_get p.tasks task ≡ o → IsReady p (frame_of o task args)
entry_ready_by p wf task args None found =
    let body : body_of (slice_get p.tasks task) ≡ no_more = ap body_of found in
    record {
      waits = subst (AllWaitsFollow (is_future_set [])) (sym body) tt;
      futures = sym (ap (λ (b : Statements). length (futures_of_all b)) body);
      operations = subst (AllOperationsFit p (futures_at p task)) (sym body) tt;
    }
entry_ready_by p wf task args (Some decl) found =
    let block = decl.body.block in
    let body : body_of (slice_get p.tasks task) ≡ block = ap body_of found in
    let fits : DeclFits p decl = fits_at p p.tasks task decl wf.tasks found in
    let none : List (Option ℕ) = replicate decl.body.futures None in
    record {
      waits = subst (AllWaitsFollow (is_future_set none)) (sym body) (all_waits_more (λ f. false) (is_future_set none) (λ f h. absurd (cc)) block fits.waits);
      futures = length-replicate decl.body.futures None ∙ fits.numbered.future_count ∙ sym (ap (λ (b : Statements). length (futures_of_all b)) body);
      operations = subst (λ (b : Statements). AllOperationsFit p (futures_of_all b) b) (sym body)
          (body_operations_fit p (scope_of p decl) block refl refl fits.numbered.futures fits.body);
    }

pub entry_ready : (p : Program) → IsWellFormed p → (task : ℕ) (args : List ℤ) → IsReady p (entry_frame p task args)
entry_ready p wf task args = entry_ready_by p wf task args (slice_get p.tasks task) refl
