-- A run of the evaluator that begins with what remains in a frame is the segment of that frame.
use Rattle.std.proofs.Common.{◌≡◌, ℕ, ◌+◌, ℤ, pos, List, [], ◌++◌, Some, refl, sym, ap, ◌∙◌, subst, arith, Option, None}
use Rattle.std.specs.Prelude.{slice_get}
use Rattle.twe_program.specs.Program.{Program}
use Rattle.seg_meaning.specs.declared.frame.OpenBody.{OpenBody}
use Rattle.seg_meaning.specs.declared.frame.Frame.{Frame}
use Rattle.seg_meaning.specs.declared.frame.Next.{Next}
use Rattle.seg_meaning.specs.declared.operation.Operation.{Operation}
use Rattle.seg_meaning.specs.declared.operation.Operation.TheVariants as operations
use Rattle.seg_exec.specs.declared.steps.machine.Machine.{Machine}
use Rattle.seg_meaning.specs.declared.stop.Stop.{Stop}
use Rattle.seg_exec.specs.declared.steps.request.Ending.{Ending}
use Rattle.seg_exec.specs.declared.steps.request.Ending.TheVariants.{Returned, Faulted, Suspended}
use Rattle.seg_exec.specs.inner.steps.Endings.{suspended_at}
use Rattle.seg_meaning.specs.Access.{MayAll, Ways, after, printed}
use Rattle.seg_meaning.specs.Meaning.{body_of, done_within}
use Rattle.seg_meaning.specs.Remaining.{resumed}
use Rattle.seg_meaning.specs.Segment.{Stopped, stopped_by, store_at, flow_of, operation_next, operation_out, operation_stop, CarriesOut, MayCarryOut}
use Rattle.seg_meaning.specs.Store.{Store, Flow, goes, returns, fails, stops}
use Rattle.seg_exec.specs.inner.Finished.{finished}
use Rattle.seg_exec.specs.inner.steps.Reached.{Finishes, MayGoOn, over, standing}
use Rattle.seg_exec.specs.inner.steps.Runs.{Moment, Over, moment, run, store_of}
use Rattle.seg_exec.specs.inner.steps.Continuations.{Config}
use Rattle.seg_exec.specs.inner.steps.Unfolded.{config_at, unfolded}
use Rattle.seg_exec.specs.inner.steps.Views.{config_of}
use Rattle.seg_exec.proofs.steps.Simulation.{within_meets}
use Rattle.seg_exec.proofs.steps.Whole.{IsOver, ends_so, once, outcome_of, resumed_meets}

module _ (p : Program) where
  pub is_over : (f : Flow) → IsOver p (outcome_of p f)
  is_over (goes s) = tt
  is_over (returns value s) = tt
  is_over (fails cause place s) = tt
  is_over (stops operation positions s) = tt

  -- a frame with what was printed, and what is left of its fuel
  abbrev pub ran : Frame → List ℤ → ℕ → Frame
  ran frame prints fuel = record frame { prints = prints; fuel = fuel }

  -- what a run that ends so leaves
  abbrev left : Frame → Ending → Store → Stopped
  left frame ending s =
      let done = finished p (ran frame (frame.prints ++ printed s.accesses) s.fuel) s.vars ending in
      record { frame = done.0; cells = s.cells; accesses = s.accesses; stop = done.1 }

  stopped_so : (frame : Frame) (f : Flow) (ending : Ending) (s : Store) → outcome_of p f ≡ Over ending s → stopped_by p frame f ≡ left frame ending s
  stopped_so frame (goes s0) ending s e =
      let a : Returned (pos 0) ≡ ending = cc in let b : s0 ≡ s = cc in
      ap (λ (x : Store). left frame (Returned (pos 0)) x) b ∙ ap (λ (x : Ending). left frame x s) a
  stopped_so frame (returns value s0) ending s e =
      let a : Returned value ≡ ending = cc in let b : s0 ≡ s = cc in
      ap (λ (x : Store). left frame (Returned value) x) b ∙ ap (λ (x : Ending). left frame x s) a
  stopped_so frame (fails cause place s0) ending s e =
      let a : Faulted cause place ≡ ending = cc in let b : s0 ≡ s = cc in
      ap (λ (x : Store). left frame (Faulted cause place) x) b ∙ ap (λ (x : Ending). left frame x s) a
  stopped_so frame (stops operation positions s0) ending s e =
      let a : suspended_at operation positions ≡ ending = cc in let b : s0 ≡ s = cc in
      ap (λ (x : Store). left frame (suspended_at operation positions) x) b ∙ ap (λ (x : Ending). left frame x s) a

  -- over a list of cells
  pub flow_so : (frame : Frame) (opened : Option OpenBody) (start : Config) (cells : List ℤ) → config_at p frame opened ≡ Some start
      → (n : ℕ) × (run p n (over start cells []) ≡ outcome_of p (flow_of p frame opened cells))
  flow_so frame None start cells is = absurd (cc)
  flow_so frame (Some opened) start cells is =
      let n = frame.fuel + 1 in
      let body = body_of (slice_get p.tasks frame.decl) in
      let store = store_at frame opened.vars cells in
      let begun : Config = (moment (unfolded body opened.open_blocks []) [] store).config in
      let same : begun ≡ start = cc in
      let flow = resumed (done_within p n) p body opened.open_blocks store in
      let meets = resumed_meets p n (done_within p n) (within_meets p n) opened.open_blocks body frame.fuel (omega arith) store (omega arith) [] [] in
      subst (λ (c : Config). (k : ℕ) × (run p k (over c cells []) ≡ outcome_of p flow)) same (ends_so p frame.fuel (over begun cells []) flow meets)

  segment_so : (frame : Frame) (opened : Option OpenBody) (start : Config) (cells : List ℤ) (ending : Ending) (s : Store) → config_at p frame opened ≡ Some start
      → (n : ℕ) × (run p n (over start cells []) ≡ Over ending s) → stopped_by p frame (flow_of p frame opened cells) ≡ left frame ending s
  segment_so frame opened start cells ending s is ends =
      let flow = flow_of p frame opened cells in
      let other = flow_so frame opened start cells is in
      stopped_so frame flow ending s (once p other.0 ends.0 (over start cells []) (outcome_of p flow) (Over ending s) (is_over flow) tt other.1 ends.1)

  -- the end of a run sets the body anew, and so it does in a frame whose body was taken
  next_so : (frame : Frame) (operation : Operation) → operation_next (record frame { body = None }) operation ≡ operation_next frame operation
  next_so frame (operations.Make future task args spawned place) = refl
  next_so frame (operations.Wait future join into) = refl

  stop_so : (frame : Frame) (operation : Operation) → operation_stop p (record frame { body = None }) operation ≡ operation_stop p frame operation
  stop_so frame (operations.Make future task args spawned place) = refl
  stop_so frame (operations.Wait future join into) = refl

  finished_so : (frame : Frame) (vars : List ℤ) (ending : Ending) → finished p (record frame { body = None }) vars ending ≡ finished p frame vars ending
  finished_so frame vars (Returned value) = refl
  finished_so frame vars (Faulted cause place) = refl
  finished_so frame vars (Suspended held) =
      let kept : Next → Frame = λ next. record frame { body = Some (record { vars = vars; open_blocks = held.positions }); next = next; out = operation_out held.operation frame.out } in
      ap (λ (next : Next). (kept next, operation_stop p (record frame { body = None }) held.operation)) (next_so frame held.operation)
      ∙ ap (λ (stop : Stop). (kept (operation_next frame held.operation), stop)) (stop_so frame held.operation)

  module _ {C : Type 0} (ways : Ways C) where
    carries_out : (frame : Frame) (from to : Machine) (old_cells new_cells : C) (prints : List ℤ) (ending : Ending) (new_frame : Frame) (stop : Stop)
        → config_at p frame frame.body ≡ Some (config_of from)
        → Finishes p ways (standing from old_cells frame.prints) ending (standing to new_cells prints)
        → (new_frame, stop) ≡ finished p (ran frame prints to.fuel) to.vars.active ending
        → CarriesOut p ways.rule frame old_cells stop new_frame new_cells
    carries_out frame from to old_cells new_cells prints ending new_frame stop is f done = record {
      accesses = f.accesses;
      follows = f.follows;
      means = λ cells agrees.
          segment_so frame frame.body (config_of from) cells ending (store_of (over (config_of to) cells f.accesses)) is (f.ends cells agrees)
          ∙ ap (λ (all : List ℤ). let d = finished p (ran frame all to.fuel) to.vars.active ending in record { frame = d.0; cells = after cells f.accesses; accesses = f.accesses; stop = d.1 }) (sym f.prints)
          ∙ ap (λ (d : Frame × Stop). record { frame = d.0; cells = after cells f.accesses; accesses = f.accesses; stop = d.1 }) (sym done);
    }

    -- the same from a frame whose body was taken
    pub carries_taken : (frame taken : Frame) (from to : Machine) (old_cells new_cells : C) (prints : List ℤ) (ending : Ending) (new_frame : Frame) (stop : Stop)
        → taken ≡ record frame { body = None }
        → config_at p frame frame.body ≡ Some (config_of from)
        → Finishes p ways (standing from old_cells taken.prints) ending (standing to new_cells prints)
        → (new_frame, stop) ≡ finished p (ran taken prints to.fuel) to.vars.active ending
        → CarriesOut p ways.rule frame old_cells stop new_frame new_cells
    carries_taken frame taken from to old_cells new_cells prints ending new_frame stop was is f done =
        carries_out frame from to old_cells new_cells prints ending new_frame stop is
        (subst (λ (t : Frame). Finishes p ways (standing from old_cells t.prints) ending (standing to new_cells prints)) was f)
        (done ∙ ap (λ (t : Frame). finished p (ran t prints to.fuel) to.vars.active ending) was
        ∙ finished_so (ran frame prints to.fuel) to.vars.active ending)

    may_end : (frame : Frame) (cells : C) (from : Moment) (f : Flow) → MayAll ways cells (stopped_by p frame f).accesses → (n : ℕ) × (run p n from ≡ outcome_of p f)
        → (n : ℕ) × (ending : Ending) × (end : Store) × (run p n from ≡ Over ending end) × MayAll ways cells end.accesses
    may_end frame cells from (goes s) may x = (x.0, Returned (pos 0), s, x.1, may)
    may_end frame cells from (returns value s) may x = (x.0, Returned value, s, x.1, may)
    may_end frame cells from (fails cause place s) may x = (x.0, Faulted cause place, s, x.1, may)
    may_end frame cells from (stops operation positions s) may x = (x.0, suspended_at operation positions, s, x.1, may)

    pub may_run : (frame : Frame) (from : Machine) (cells : C) (prints : List ℤ) → MayCarryOut p ways frame cells → config_at p frame frame.body ≡ Some (config_of from)
        → MayGoOn p ways (standing from cells prints)
    may_run frame from cells prints may is list =
        may_end frame cells (over (config_of from) list []) (flow_of p frame frame.body list) (may list) (flow_so frame frame.body (config_of from) list is)
