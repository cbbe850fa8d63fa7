-- A method call spares the effects of a task if each effect that the method declares for these arguments does.
use Rattle.std.proofs.Common.{◌≡◌, ℕ, zero, suc, ℤ, Bool, true, false, List, [], ◌∷◌, ◌++◌, length, map, Option, None, Some, inl, inr, refl, subst}
use Rattle.std.specs.Prelude.{nat_le, slice_get}
use Rattle.std.specs.List.{AllByRecursion}
use Rattle.std.proofs.Math.Seq.{take-append_seam}
use Rattle.twe_base.specs.declared.place.Place.{Place}
use Rattle.region_paths.specs.declared.elements.Elem.{Elem}
use Rattle.region_paths.specs.Arguments.{ArgumentsStand, literals}
use Rattle.effect_sets.specs.declared.effects.Effect.{Effect}
use Rattle.effect_sets.specs.Access.{PathAccess as PathAccess, CoversAccess, SomeCoversAccess}
use Rattle.effect_sets.specs.Filled.{effect_under, fill_effect, fill_summary}
use Rattle.effect_sets.proofs.Accesses.{within-covers}
use Rattle.effect_sets.proofs.Filling.{fill_effect-within}
use Rattle.twe_base.specs.Language.{max_active_calls}
use Rattle.twe_program.specs.declared.program.Decl.{Decl}
use Rattle.twe_program.specs.Fitting.{TakesArguments}
use Rattle.twe_program.specs.Program.{Program}
use Rattle.twe_program.specs.Statement.{Block}
use Rattle.twe_program.specs.WellFormed.{IsWellFormed}
use Rattle.seg_meaning.specs.declared.active.ActiveCall.{ActiveCall}
use Rattle.seg_meaning.specs.Access.{Access}
use Rattle.seg_meaning.specs.Meaning.{Below, called, entered, given_back, vars_at_start}
use Rattle.seg_meaning.specs.Store.{Store, Given, gives, faults, Flow, goes, returns, fails, stops, then_give, unit_of, unit_taken}
use Rattle.effect_check.specs.Acts.{filled_summary}
use Rattle.effect_check.proofs.Members.{IsIn, all-in, in-cases, in-left, in-right}
use Rattle.isolation_laws.specs.soundness.DeclaredNow.{access_of}
use Rattle.isolation_laws.specs.soundness.KeepsEffects.{KeepsEffects}
use Rattle.isolation_laws.proofs.soundness.Declared.{in-map, map-in, values_now, within_itself}
use Rattle.isolation_laws.proofs.soundness.Expressions.{AnyValue, BelowKeeps, DeclaredIn, Each, FlowKeeps, Kept}
use Rattle.isolation_laws.proofs.soundness.Sound.{Fine, method_sound}
use Rattle.isolation_laws.proofs.effects.ExactEffects.{exact, exact_covers, exact_only}
use Rattle.isolation_laws.proofs.effects.Interference.{any-in, in-any}
use Rattle.isolation_laws.proofs.effects.Sparing.{EffectSpares, Spares, spares_less}

-- what holds for each member holds for all
pub all_from_in : {X : Type 0} (P : X → Type 0) (xs : List X) → ((x : X) → IsIn x xs → P x) → AllByRecursion P xs
all_from_in P [] h = tt
all_from_in P (x ∷ xs) h = (h x (inl refl), all_from_in P xs (λ y i. h y (inr i)))

module _ (p : Program) (es : List Effect) where
  -- each access spares the effects
  abbrev pub EachSpares : List Access → Type 0
  EachSpares accesses = AllByRecursion (λ (a : Access). Spares es (access_of p a)) accesses

  -- an expression is evaluated: its accesses spare the effects, the variables are as they were, and this holds for its
  -- value
  abbrev pub GivenSpares : {A : Type 0} → List ℤ → (A → Type 0) → Given A → Type 0
  GivenSpares vars Q (gives value s) = (s.vars ≡ vars) × EachSpares s.accesses × Q value
  GivenSpares vars Q (faults kind place s) = EachSpares s.accesses

  pub give_spares : {A B : Type 0} (vars : List ℤ) (Q : A → Type 0) (R : B → Type 0) (g : Given A) (next : A → Store → Given B)
      → GivenSpares vars Q g → ((value : A) (s : Store) → s.vars ≡ vars → EachSpares s.accesses → Q value → GivenSpares vars R (next value s))
      → GivenSpares vars R (then_give g next)
  give_spares vars Q R (gives value s) next h k = k value s h.0 h.1 h.2
  give_spares vars Q R (faults kind place s) next h k = h

  unit_of_spares : (vars : List ℤ) (fuel : ℕ) (place : Place) (s : Store) → s.vars ≡ vars → EachSpares s.accesses → GivenSpares vars AnyValue (unit_of fuel place s)
  unit_of_spares vars zero place s same each = each
  unit_of_spares vars (suc left) place s same each = (same, each, refl)

  pub unit_spares : (vars : List ℤ) (place : Place) (s : Store) → s.vars ≡ vars → EachSpares s.accesses → GivenSpares vars AnyValue (unit_taken place s)
  unit_spares vars place s same each = unit_of_spares vars s.fuel place s same each

-- a method, and the accesses before it is entered
module _ (p : Program) (es : List Effect) (callee : Decl) (written : List Elem) (values vars : List ℤ) (stand : ArgumentsStand (values_now vars) written values)
    (spare : (e : Effect) → IsIn e (fill_summary written callee.summary).effects → EffectSpares es e) (before : List Access) (each : EachSpares p es before) where
  -- the effects of the method, and one exact effect for each access made before
  abbrev done_before : List Effect
  done_before = map (λ (a : Access). exact (access_of p a)) before

  abbrev own : List Effect
  own = (fill_summary (literals values) callee.summary).effects

  declared : DeclaredIn p callee values (done_before ++ own)
  declared e here = within_itself (done_before ++ own) e (in-right e done_before own here)

  covered_before : Each p (done_before ++ own) before
  covered_before =
      all_from_in (λ (a : Access). SomeCoversAccess (done_before ++ own) (access_of p a)) before
      (λ a here.
      let x = access_of p a in
      in-any (λ (e : Effect). CoversAccess e x) (done_before ++ own) (exact x)
      (in-left (exact x) done_before own (in-map (λ (b : Access). exact (access_of p b)) before a here)) (exact_covers x))

  access_spares : (x : PathAccess) → SomeCoversAccess (done_before ++ own) x → Spares es x
  access_spares x some =
      let found = any-in (λ (e : Effect). CoversAccess e x) (done_before ++ own) some in
      elim (in-cases found.0 done_before own found.1) [
        | inl earlier ↦
            let a = map-in (λ (b : Access). exact (access_of p b)) before found.0 earlier in
            let y = access_of p a.0 in
            let covers : CoversAccess (exact y) x = subst (λ (e : Effect). CoversAccess e x) a.2 found.2 in
            spares_less es x y covers.0 (exact_only y x covers) (all-in (λ (b : Access). Spares es (access_of p b)) before each a.0 a.1)
        | inr declares ↦
            let plain = map-in (fill_effect (literals values)) callee.summary.effects found.0 declares in
            let written_effect = fill_effect written plain.0 in
            let covers : CoversAccess (fill_effect (literals values) plain.0) x = subst (λ (e : Effect). CoversAccess e x) plain.2 found.2 in
            spare written_effect (in-map (fill_effect written) callee.summary.effects plain.0 plain.1) (values_now vars) x
            (within-covers (effect_under (values_now vars) written_effect) (fill_effect (literals values) plain.0)
            (fill_effect-within (values_now vars) written values plain.0 stand) x covers)
      ]

  all_spare : (accesses : List Access) → Each p (done_before ++ own) accesses → EachSpares p es accesses
  all_spare accesses covered =
      all_from_in (λ (a : Access). Spares es (access_of p a)) accesses
      (λ a here. access_spares (access_of p a) (all-in (λ (b : Access). SomeCoversAccess (done_before ++ own) (access_of p b)) accesses covered a here))

  given_back_spares : (old : List ℤ) (f : Flow) → FlowKeeps p callee (done_before ++ own) values f → GivenSpares p es old AnyValue (given_back old f)
  given_back_spares old (goes s) h = (refl, all_spare s.accesses h.each, refl)
  given_back_spares old (returns value s) h = (refl, all_spare s.accesses h.each, refl)
  given_back_spares old (fails kind place s) h = all_spare s.accesses h
  given_back_spares old (stops operation positions s) h = (refl, all_spare s.accesses h.0.each, refl)

module _ (p : Program) (wf : IsWellFormed p) (effects : KeepsEffects p) (below : Below) (keeps : BelowKeeps p below) (es : List Effect) where
  entered_spares : (method : ℕ) (written : List Elem) (values vars : List ℤ) → ArgumentsStand (values_now vars) written values
      → (full : Bool) (o : Option Decl) → slice_get p.methods method ≡ o → TakesArguments o (length values)
      → ((e : Effect) → IsIn e (filled_summary o written).effects → EffectSpares es e)
      → (call : ActiveCall) (s : Store) → s.vars ≡ vars → EachSpares p es s.accesses → GivenSpares p es vars AnyValue (entered full below o values call s)
  entered_spares method written values vars stand true o found takes spare call s same each = each
  entered_spares method written values vars stand false None found takes spare call s same each = absurd takes
  entered_spares method written values vars stand false (Some callee) found takes spare call s same each =
      let sound = method_sound p wf effects method callee found in
      let start : Store = record s { vars = vars_at_start (Some callee) values; calls = call ∷ s.calls } in
      let all = map (λ (a : Access). exact (access_of p a)) s.accesses ++ (fill_summary (literals values) callee.summary).effects in
      let body : Fine p callee (Block 0 callee.body.block) = record { declares = sound.body.declares; fits = sound.body.fits; assigns = sound.body.assigns } in
      let kept : Kept p all values start = record {
        each = covered_before p es callee written values vars stand spare s.accesses each;
        begins = take-append_seam values _;
      } in
      let flow = keeps callee sound values takes all (declared p es callee written values vars stand spare s.accesses each) (Block 0 callee.body.block) body start kept in
      subst (λ (v : List ℤ). GivenSpares p es v AnyValue (given_back s.vars (below (Block 0 callee.body.block) start))) same
      (given_back_spares p es callee written values vars stand spare s.accesses each s.vars (below (Block 0 callee.body.block) start) flow)

  pub called_spares : (method : ℕ) (written : List Elem) (values vars : List ℤ) → ArgumentsStand (values_now vars) written values
      → TakesArguments (slice_get p.methods method) (length values)
      → ((e : Effect) → IsIn e (filled_summary (slice_get p.methods method) written).effects → EffectSpares es e)
      → (place : Place) (s : Store) → s.vars ≡ vars → EachSpares p es s.accesses → GivenSpares p es vars AnyValue (called below p method values place s)
  called_spares method written values vars stand takes spare place s same each =
      give_spares p es vars AnyValue AnyValue (unit_taken place s) _ (unit_spares p es vars place s same each)
      (λ unit s1 same1 each1 q. entered_spares method written values vars stand (nat_le max_active_calls (length s1.calls)) (slice_get p.methods method) refl takes spare (record { method = method; place = place }) s1 same1 each1)
