-- A segment accesses only what its task declares, and leaves the arguments as they are.
use Rattle.isolation_laws.proofs.soundness.Declared.{SomeWithin, within_itself}
use Rattle.seg_meaning.specs.declared.stop.Stop.{Stop}
use Rattle.seg_meaning.specs.declared.stop.Stop.TheVariants as ends
use Rattle.effect_sets.specs.Covers.{EffectWithin}
use Rattle.effect_sets.specs.declared.effects.Summary.{Summary}
use Rattle.twe_base.specs.declared.place.Place.{Place}
use Rattle.std.proofs.Math.Seq.{take-append_seam}
use Rattle.std.proofs.Common.{◌≡◌, ℕ, ◌+◌, ℤ, Bool, true, false, List, [], ◌∷◌, length, Option, None, Some, Contains, refl, sym, ap, ◌∙◌, subst, arith, Any}
use Rattle.std.specs.Prelude.{slice_get}
use Rattle.std.specs.List.{AllByRecursion}
use Rattle.std.proofs.lemmas.Bool.{and_from}
use Rattle.region_paths.specs.declared.elements.Elem.{Elem}
use Rattle.region_paths.specs.declared.elements.Elem.TheVariants.{Name, Index, Var, AnyIndex}
use Rattle.region_paths.specs.Filled.{no_var}
use Rattle.effect_sets.specs.declared.effects.Effect.{Effect}
use Rattle.effect_sets.specs.Access.{SomeCoversAccess}
use Rattle.effect_sets.specs.Filled.{all_filled}
use Rattle.effect_sets.proofs.Filling.{map-fill_effect-filled}
use Rattle.twe_program.specs.declared.program.Decl.{Decl}
use Rattle.twe_program.specs.Program.{Program}
use Rattle.twe_program.specs.Fitting.{TakesArguments}
use Rattle.twe_program.specs.WellFormed.{IsWellFormed, IsMain, DeclFits, PathFits, ElementFits}
use Rattle.seg_meaning.specs.declared.frame.OpenBody.{OpenBody}
use Rattle.seg_meaning.specs.declared.frame.Frame.{Frame}
use Rattle.seg_meaning.specs.declared.frame.Next.{Next}
use Rattle.seg_meaning.specs.declared.frame.Next.TheVariants as nexts
use Rattle.seg_meaning.specs.declared.operation.Operation.{Operation}
use Rattle.seg_meaning.specs.declared.operation.Operation.TheVariants as operations
use Rattle.seg_meaning.specs.Access.{Access}
use Rattle.seg_meaning.specs.Entry.{effects_of, effects_at, entry_frame}
use Rattle.seg_meaning.specs.Meaning.{body_of, done_within}
use Rattle.seg_meaning.specs.Segment.{Stopped, closing, waiting, operation_next, stopped_by, store_at, flow_of, segment, task_of, closing_stop, waiting_stop, operation_stop}
use Rattle.seg_meaning.specs.Store.{Store, Flow, goes, returns, fails, stops}
use Rattle.effect_check.proofs.Members.{contains-in, all-in, IsIn, in-contains}
use Rattle.isolation_laws.specs.soundness.DeclaredNow.{DeclaredNow, access_of}
use Rattle.isolation_laws.specs.soundness.KeepsEffects.{KeepsEffects}
use Rattle.isolation_laws.specs.soundness.RunsWith.{RunsWith, BeginWith, IntoFrom, NextFrom}
use Rattle.isolation_laws.proofs.soundness.Sound.{Sound, AllFine, got-in, method_sound, task_sound}
use Rattle.isolation_laws.proofs.soundness.Expressions.{Each, Kept, FlowKeeps, OperationKeeps}
use Rattle.isolation_laws.proofs.soundness.Statements.{within_keeps}
use Rattle.isolation_laws.proofs.soundness.Resumed.{resumed_kept}

-- a task before its first segment runs with its arguments
pub entry_runs : (p : Program) (task : ℕ) (args : List ℤ) → TakesArguments (slice_get p.tasks task) (length args) → RunsWith p args (entry_frame p task args)
entry_runs p task args takes = record { count = takes; params = take-append_seam args _; next = tt }

module _ (p : Program) (args : List ℤ) (es : List Effect) where
  -- a made task runs with its arguments and has the effects of its filled summary; those of a spawned task lie within
  -- these
  abbrev StopKeeps : Stop → Type 0
  StopKeeps (ends.Make child given effects spawned future place) =
      RunsWith p given child × (effects ≡ effects_at p child.decl given) × (spawned ≡ true → (e : Effect) → IsIn e effects.effects → SomeWithin es e)
  StopKeeps (ends.Waits on) = Unit {0}
  StopKeeps (ends.Joins on) = Unit {0}
  StopKeeps (ends.Done value) = Unit {0}
  StopKeeps (ends.Fault kind place) = Unit {0}

  -- what a segment leaves: its accesses are covered, and its frame still runs with the arguments
  record Left (decl : ℕ) (stopped : Stopped) : Type 0 where
    each : Each p es stopped.accesses
    begins : BeginWith args stopped.frame.body
    next : NextFrom (length args) stopped.frame.next
    same : stopped.frame.decl ≡ decl
    stop : StopKeeps stopped.stop

  closing_from : (out : List ℕ) → NextFrom (length args) (closing out)
  closing_from [] = tt
  closing_from (child ∷ others) = tt

  closing_keeps : (out : List ℕ) (value : ℤ) → StopKeeps (closing_stop out value)
  closing_keeps [] value = tt
  closing_keeps (child ∷ others) value = tt

  waiting_from : (join : Bool) (on : ℕ) (into : Option ℕ) → IntoFrom (length args) into → NextFrom (length args) (waiting join on into)
  waiting_from true on into h = h
  waiting_from false on into h = h

  waiting_keeps : (join : Bool) (on : ℕ) → StopKeeps (waiting_stop join on)
  waiting_keeps true on = tt
  waiting_keeps false on = tt

  operation_from : (decl : Decl) (frame : Frame) (operation : Operation) → OperationKeeps p decl es (length args) operation → NextFrom (length args) (operation_next frame operation)
  operation_from decl frame (operations.Make future task given spawned place) h = tt
  operation_from decl frame (operations.Wait future join into) h = waiting_from join (task_of (slice_get frame.futures future)) into h

  operation_keeps : (decl : Decl) → Contains p.tasks decl → (frame : Frame) (operation : Operation) → OperationKeeps p decl es (length args) operation → StopKeeps (operation_stop p frame operation)
  operation_keeps decl is_task frame (operations.Make future task given spawned place) h = (entry_runs p task given h.0, refl, λ is_spawn. h.1 is_task is_spawn)
  operation_keeps decl is_task frame (operations.Wait future join into) h = waiting_keeps join (task_of (slice_get frame.futures future))

  left_by : (decl : Decl) → Contains p.tasks decl → (frame : Frame) (f : Flow) → FlowKeeps p decl es args f → Left frame.decl (stopped_by p frame f)
  left_by decl is_task frame (goes s) h = record { each = h.each; begins = tt; next = closing_from frame.out.items; same = refl; stop = closing_keeps frame.out.items _ }
  left_by decl is_task frame (returns value s) h = record { each = h.each; begins = tt; next = closing_from frame.out.items; same = refl; stop = closing_keeps frame.out.items value }
  left_by decl is_task frame (fails kind place s) h = record { each = h; begins = tt; next = tt; same = refl; stop = tt }
  left_by decl is_task frame (stops operation positions s) h = record {
    each = h.0.each;
    begins = h.0.begins;
    next = operation_from decl frame operation h.1;
    same = refl;
    stop = operation_keeps decl is_task frame operation h.1;
  }

module _ (p : Program) (wf : IsWellFormed p) (effects : KeepsEffects p) where
  -- what a segment leaves of a frame of this declaration
  body_left_of : (args : List ℤ) (frame : Frame) (o : Option Decl) → slice_get p.tasks frame.decl ≡ o → TakesArguments o (length args)
      → (body : Option OpenBody) → BeginWith args body → (cells : List ℤ) → Left p args (effects_of o args).effects frame.decl (stopped_by p frame (flow_of p frame body cells))
  body_left_of args frame None found takes body begins cells = absurd takes
  body_left_of args frame (Some decl) found takes None begins cells =
      let es = (effects_of (Some decl) args).effects in
      record { each = tt; begins = tt; next = closing_from p args es frame.out.items; same = refl; stop = closing_keeps p args es frame.out.items frame.value }
  body_left_of args frame (Some decl) found takes (Some body) begins cells =
      let sound : Sound p decl = task_sound p wf effects frame.decl decl found in
      let is_task = in-contains p.tasks decl (got-in p.tasks frame.decl decl found) in
      let n = frame.fuel + 1 in
      let es = (effects_of (Some decl) args).effects in
      let start : Store = store_at frame body.vars cells in
      let kept : Kept p es args start = record { each = tt; begins = begins } in
      let all : AllFine p decl (body_of (slice_get p.tasks frame.decl)) = subst (λ (x : Option Decl). AllFine p decl (body_of x)) (sym found) sound.body in
      left_by p args es decl is_task frame (flow_of p frame (Some body) cells)
      (resumed_kept p wf (method_sound p wf effects) (done_within p n) (within_keeps p wf (method_sound p wf effects) n)
      decl sound args takes es (within_itself es) (body_of (slice_get p.tasks frame.decl)) all body.open_blocks start kept)

  left : (args : List ℤ) (frame : Frame) → RunsWith p args frame → (cells : List ℤ) → Left p args (effects_at p frame.decl args).effects frame.decl (segment p frame cells)
  left args frame runs cells = body_left_of args frame (slice_get p.tasks frame.decl) refl runs.count frame.body runs.params cells

  pub segment_declared : (args : List ℤ) (frame : Frame) → RunsWith p args frame → (cells : List ℤ)
      → (access : Access) → Contains (segment p frame cells).accesses access → DeclaredNow p frame.decl args access
  segment_declared args frame runs cells access there =
      all-in (λ (a : Access). DeclaredNow p frame.decl args a) _ (left args frame runs cells).each access (contains-in _ access there)

  pub segment_later : (args : List ℤ) (frame : Frame) → RunsWith p args frame → (cells : List ℤ) → RunsWith p args (segment p frame cells).frame
  segment_later args frame runs cells =
      let l = left args frame runs cells in record {
        count = subst (λ (n : ℕ). TakesArguments (slice_get p.tasks n) (length args)) (sym l.same) runs.count;
        params = l.begins;
        next = l.next;
      }

  stop_keeps : (args : List ℤ) (frame : Frame) → RunsWith p args frame → (cells : List ℤ) (child : Frame) (given : List ℤ) (made : Summary) (spawned : Bool) (future : ℕ) (place : Place)
      → (segment p frame cells).stop ≡ ends.Make child given made spawned future place → StopKeeps p args (effects_at p frame.decl args).effects (ends.Make child given made spawned future place)
  stop_keeps args frame runs cells child given made spawned future place is =
      subst (StopKeeps p args (effects_at p frame.decl args).effects) is (left args frame runs cells).stop

  pub segment_makes : (args : List ℤ) (frame : Frame) → RunsWith p args frame → (cells : List ℤ) (child : Frame) (given : List ℤ) (made : Summary) (spawned : Bool) (future : ℕ) (place : Place)
      → (segment p frame cells).stop ≡ ends.Make child given made spawned future place → RunsWith p given child × (made ≡ effects_at p child.decl given)
  segment_makes args frame runs cells child given made spawned future place is =
      let h = stop_keeps args frame runs cells child given made spawned future place is in (h.0, h.1)

  pub segment_spawns : (args : List ℤ) (frame : Frame) → RunsWith p args frame → (cells : List ℤ) (child : Frame) (given : List ℤ) (made : Summary) (future : ℕ) (place : Place)
      → (segment p frame cells).stop ≡ ends.Make child given made true future place
      → (e : Effect) → Contains made.effects e → Any (λ d. EffectWithin d e) (effects_at p frame.decl args).effects
  segment_spawns args frame runs cells child given made future place is e there =
      let h = stop_keeps args frame runs cells child given made true future place is in
      let w = h.2 refl e (contains-in made.effects e there) in
      let c = in-contains (effects_at p frame.decl args).effects w.0 w.1 in
      (c.0, w.0, c.1, c.2, w.2)

  -- `main` has no parameters
  no_params : (o : Option Decl) (main : Decl) → IsMain o → o ≡ Some main → main.params ≡ 0
  no_params None main is found = absurd is
  no_params (Some decl) main is found = let same : decl.params ≡ main.params = cc in sym same ∙ is.0

  main_runs : (main : Decl) → slice_get p.tasks p.main ≡ Some main → (frame : Frame) → frame.decl ≡ p.main → RunsWith p [] frame
  main_runs main found frame same = record {
    count = subst (λ (o : Option Decl). TakesArguments o 0) (sym (ap (slice_get p.tasks) same ∙ found)) (no_params (slice_get p.tasks p.main) main wf.main found);
    params = begin_with_none frame.body;
    next = next_from_none frame.next;
  }
    where
      begin_with_none : (body : Option OpenBody) → BeginWith [] body
      begin_with_none None = tt
      begin_with_none (Some body) = refl

      into_from_none : (into : Option ℕ) → IntoFrom 0 into
      into_from_none None = tt
      into_from_none (Some var) = omega arith

      next_from_none : (next : Next) → NextFrom 0 next
      next_from_none nexts.Go = tt
      next_from_none (nexts.Get on into) = into_from_none into
      next_from_none (nexts.Join on into) = into_from_none into
      next_from_none (nexts.Closing on) = tt
      next_from_none nexts.Ended = tt

  -- filling a summary without parameters changes nothing
  no_var-fits : (regions : ℕ) (elems : List Elem) → AllByRecursion (ElementFits regions 0) elems → no_var elems ≡ true
  no_var-fits regions [] fit = refl
  no_var-fits regions (Name n ∷ elems) fit = no_var-fits regions elems fit.1
  no_var-fits regions (Index i ∷ elems) fit = no_var-fits regions elems fit.1
  no_var-fits regions (Var k ∷ elems) fit = absurd (omega (arith, fit.0))
  no_var-fits regions (AnyIndex ∷ elems) fit = no_var-fits regions elems fit.1

  all_filled-fits : (regions : ℕ) (es : List Effect) → AllByRecursion (λ (e : Effect). PathFits regions 0 e.path) es → all_filled es ≡ true
  all_filled-fits regions [] fits = refl
  all_filled-fits regions (e ∷ es) fits =
      and_from _ _ (and_from _ _ (no_var-fits regions e.path.elems fits.0.elems) (no_var-fits regions e.path.tail fits.0.tail)) (all_filled-fits regions es fits.1)

  pub main_declared : (main : Decl) → slice_get p.tasks p.main ≡ Some main → (frame : Frame) → frame.decl ≡ p.main → (cells : List ℤ)
      → (access : Access) → Contains (segment p frame cells).accesses access → SomeCoversAccess main.summary.effects (access_of p access)
  main_declared main found frame same cells access there =
      let covered = segment_declared [] frame (main_runs main found frame same) cells access there in
      let fits : DeclFits p main = all-in (DeclFits p) p.tasks wf.tasks main (got-in p.tasks p.main main found) in
      let none : main.params ≡ 0 = no_params (slice_get p.tasks p.main) main wf.main found in
      let plain : AllByRecursion (λ (e : Effect). PathFits (length p.regions) 0 e.path) main.summary.effects
      = subst (λ (n : ℕ). AllByRecursion (λ (e : Effect). PathFits (length p.regions) n e.path) main.summary.effects) none fits.summary.effects in
      let whole : (effects_at p frame.decl []).effects ≡ main.summary.effects
      = ap (λ (o : Option Decl). (effects_of o []).effects) (ap (slice_get p.tasks) same ∙ found)
      ∙ map-fill_effect-filled [] main.summary.effects (all_filled-fits (length p.regions) main.summary.effects plain) in
      subst (λ (es : List Effect). SomeCoversAccess es (access_of p access)) whole covered
