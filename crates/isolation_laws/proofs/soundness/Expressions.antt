-- Expressions access only what their declaration declares, and leave its variables as they are.
use Rattle.seg_meaning.specs.Entry.{effects_at}
use Rattle.effect_sets.specs.declared.effects.Summary.{Summary}
use Rattle.std.proofs.Common.{◌≡◌, ℕ, zero, suc, ℤ, Bool, true, false, IsTrue, List, [], ◌∷◌, length, take, Option, None, Some, refl, sym, ap, subst, arith, Contains}
use Rattle.std.specs.Prelude.{nat_le, slice_get}
use Rattle.std.specs.List.{AllByRecursion}
use Rattle.std.proofs.lemmas.Bool.{and_from}
use Rattle.std.proofs.lemmas.Bool.Decides.{Decides-int_eq}
use Rattle.std.proofs.Math.Seq.{take-append_seam}
use Rattle.twe_base.specs.declared.place.Place.{Place}
use Rattle.region_paths.specs.declared.elements.Elem.{Elem}
use Rattle.region_paths.specs.Written.{WrittenPath}
use Rattle.region_paths.specs.Arguments.{ArgumentsStand, GivesValue, literals}
use Rattle.region_paths.specs.Concrete.{ConcretePath, InSet, number, elem_stands}
use Rattle.region_paths.specs.Filled.{Valuation, under, elem_under}
use Rattle.effect_sets.specs.declared.effects.Effect.{Effect}
use Rattle.effect_sets.specs.Access.{SomeCoversAccess}
use Rattle.effect_sets.specs.Covers.{covers}
use Rattle.effect_sets.specs.Filled.{fill_summary, effect_under}
use Rattle.twe_ast.specs.declared.expr.BinOp.{BinOp}
use Rattle.twe_base.specs.Language.{max_active_calls}
use Rattle.twe_program.specs.declared.program.Decl.{Decl}
use Rattle.twe_program.specs.Program.{Program}
use Rattle.twe_program.specs.Expression.{Expression, Literal, Truth, Variable, CellValue, ArrayElement, GridElement, CallValue, Negative, Negation, Binary, Arguments, argument}
use Rattle.twe_program.specs.Expression as exprs
use Rattle.twe_program.specs.Statement.{Statement, Block}
use Rattle.twe_program.specs.Fitting.{TakesArguments, count_of, ExpressionFits, ArgumentsFit}
use Rattle.twe_program.specs.WellFormed.{IsWellFormed, SummaryFits, scope_of}
use Rattle.seg_meaning.specs.declared.operation.Operation.{Operation}
use Rattle.seg_meaning.specs.declared.operation.Operation.TheVariants as operations
use Rattle.seg_meaning.specs.declared.active.ActiveCall.{ActiveCall}
use Rattle.seg_meaning.specs.Access.{Access, value_in}
use Rattle.seg_meaning.specs.Arithmetic.{is_true, operated, decided}
use Rattle.seg_meaning.specs.Cells.{element_number, grid_element_number}
use Rattle.seg_meaning.specs.Store.{Store, Given, gives, faults, Flow, goes, returns, fails, stops, then_give, unit_of, unit_taken}
use Rattle.seg_meaning.specs.declared.fault.FaultCause.{FaultCause}
use Rattle.seg_meaning.specs.declared.fault.FaultCause.TheVariants.{Index, GridIndex}
use Rattle.seg_meaning.specs.Meaning.{Below, element_read, value_or_fault, right_given, vars_at_start, given_back, entered, called, value_of, values_of}
use Rattle.effect_check.specs.Acts.{acts_of, acts_of_all, filled_summary}
use Rattle.effect_check.specs.Standing.{element_of_index, elements_of, path_at}
use Rattle.effect_check.proofs.Members.{IsIn}
use Rattle.isolation_laws.specs.soundness.CellPaths.{path_of_cell}
use Rattle.isolation_laws.specs.soundness.DeclaredNow.{access_of}
use Rattle.isolation_laws.specs.soundness.RunsWith.{IntoFrom}
use Rattle.isolation_laws.proofs.soundness.CellPaths.{AtSome, cell_touched, element_touched, grid_element_touched}
use Rattle.isolation_laws.proofs.soundness.Declared.{SomeWithin, within_more, some_covers, values_now, gives_args, covered_now, filled_now}
use Rattle.isolation_laws.proofs.soundness.Static.{AllDeclared}
use Rattle.isolation_laws.proofs.soundness.Sound.{Sound, Fine, declared_front, declared_back}

-- a value about which nothing more is said
abbrev pub AnyValue : {A : Type 0} → A → Type 0
AnyValue value = true ≡ true

-- the element that the rules have for an expression stands for its value, if the variables have these values
abbrev pub StandsFor : List ℤ → Expression → ℤ → Type 0
StandsFor vars e value = elem_stands (elem_under (values_now vars) (element_of_index e)) (number value) ≡ true

abbrev pub StandFor : List ℤ → Arguments → List ℤ → Type 0
StandFor vars given values = ArgumentsStand (values_now vars) (elements_of given) values × (length values ≡ count_of given)

module _ (p : Program) where
  -- each access is covered by one of the effects
  abbrev pub Each : List Effect → List Access → Type 0
  Each es accesses = AllByRecursion (λ (a : Access). SomeCoversAccess es (access_of p a)) accesses

  -- the accesses are covered, and the variables begin with the arguments
  pub record Kept (es : List Effect) (args : List ℤ) (s : Store) : Type 0 where
    pub each : Each es s.accesses
    pub begins : take (length args) s.vars ≡ args

  -- an expression is evaluated: its accesses are covered, the variables are as they were, and this holds for its value
  abbrev pub GivenKeeps : {A : Type 0} → List Effect → List ℤ → (A → Type 0) → Given A → Type 0
  GivenKeeps es vars Q (gives value s) = (s.vars ≡ vars) × Each es s.accesses × Q value
  GivenKeeps es vars Q (faults kind place s) = Each es s.accesses

  -- a task is made with as many arguments as it has parameters; if a task spawns it, each of its effects lies within
  -- one of these; and an awaited value goes to a local
  abbrev pub OperationKeeps : Decl → List Effect → ℕ → Operation → Type 0
  OperationKeeps decl es params (operations.Make future task args spawned place) =
      TakesArguments (slice_get p.tasks task) (length args)
      × (Contains p.tasks decl → spawned ≡ true → (e : Effect) → IsIn e (effects_at p task args).effects → SomeWithin es e)
  OperationKeeps decl es params (operations.Wait future join into) = IntoFrom params into

  -- a statement is carried out: its accesses are covered, and the variables begin with the arguments
  abbrev pub FlowKeeps : Decl → List Effect → List ℤ → Flow → Type 0
  FlowKeeps decl es args (goes s) = Kept es args s
  FlowKeeps decl es args (returns value s) = Kept es args s
  FlowKeeps decl es args (fails kind place s) = Each es s.accesses
  FlowKeeps decl es args (stops operation positions s) = Kept es args s × OperationKeeps decl es (length args) operation

  -- each effect that a declaration declares for these arguments lies within one of these
  abbrev pub DeclaredIn : Decl → List ℤ → List Effect → Type 0
  DeclaredIn decl args es = (e : Effect) → IsIn e (fill_summary (literals args) decl.summary).effects → SomeWithin es e

  -- each statement of a declaration accesses only what is declared
  abbrev pub BelowKeeps : Below → Type 0
  BelowKeeps below = (decl : Decl) → Sound p decl → (args : List ℤ) → decl.params ≡ length args → (es : List Effect) → DeclaredIn decl args es
      → (stmt : Statement) → Fine p decl stmt → (s : Store) → Kept es args s → FlowKeeps decl es args (below stmt s)

  -- one after the other
  pub give_kept : {A B : Type 0} (es : List Effect) (vars : List ℤ) (Q : A → Type 0) (R : B → Type 0) (g : Given A) (next : A → Store → Given B)
      → GivenKeeps es vars Q g → ((value : A) (s : Store) → s.vars ≡ vars → Each es s.accesses → Q value → GivenKeeps es vars R (next value s))
      → GivenKeeps es vars R (then_give g next)
  give_kept es vars Q R (gives value s) next h k = k value s h.0 h.1 h.2
  give_kept es vars Q R (faults kind place s) next h k = h

  unit_of_kept : (es : List Effect) (vars : List ℤ) (fuel : ℕ) (place : Place) (s : Store) → s.vars ≡ vars → Each es s.accesses → GivenKeeps es vars AnyValue (unit_of fuel place s)
  unit_of_kept es vars zero place s same each = each
  unit_of_kept es vars (suc left) place s same each = (same, each, refl)

  pub unit_kept : (es : List Effect) (vars : List ℤ) (place : Place) (s : Store) → s.vars ≡ vars → Each es s.accesses → GivenKeeps es vars AnyValue (unit_taken place s)
  unit_kept es vars place s same each = unit_of_kept es vars s.fuel place s same each

  fault_kept : (es : List Effect) (vars : List ℤ) (value : Option ℤ) (place : Place) (s : Store) → s.vars ≡ vars → Each es s.accesses → GivenKeeps es vars AnyValue (value_or_fault value place s)
  fault_kept es vars None place s same each = each
  fault_kept es vars (Some value) place s same each = (same, each, refl)

  right_kept : (es : List Effect) (vars : List ℤ) (Q : ℤ → Type 0) (known : Option ℤ) (op : BinOp) (left : ℤ) (place : Place) (right : Given ℤ) (s : Store)
      → s.vars ≡ vars → Each es s.accesses → GivenKeeps es vars Q right → GivenKeeps es vars AnyValue (right_given known op left place right s)
  right_kept es vars Q (Some value) op left place right s same each h = (same, each, refl)
  right_kept es vars Q None op left place right s same each h =
      give_kept es vars Q AnyValue right _ h (λ value s1 same1 each1 q. fault_kept es vars (operated op left value) place s1 same1 each1)

  -- after a call the caller's variables are as they were
  given_back_kept : (decl : Decl) (es : List Effect) (args vars old : List ℤ) (f : Flow) → old ≡ vars → FlowKeeps decl es args f → GivenKeeps es vars AnyValue (given_back old f)
  given_back_kept decl es args vars old (goes s) same h = (same, h.each, refl)
  given_back_kept decl es args vars old (returns value s) same h = (same, h.each, refl)
  given_back_kept decl es args vars old (fails kind place s) same h = h
  given_back_kept decl es args vars old (stops operation positions s) same h = (same, h.0.each, refl)

module _ (p : Program) (wf : IsWellFormed p) (methods : (i : ℕ) (decl : Decl) → slice_get p.methods i ≡ Some decl → Sound p decl)
    (below : Below) (keeps : BelowKeeps p below)
    (decl : Decl) (sound : Sound p decl) (args : List ℤ) (count : decl.params ≡ length args) (es : List Effect) (within : DeclaredIn p decl args es)
    (vars : List ℤ) (begins : take (length args) vars ≡ args) where
  abbrev now : Valuation
  now = values_now vars

  summary_fits : SummaryFits (length p.regions) (length args) decl.summary
  summary_fits = subst (λ (n : ℕ). SummaryFits (length p.regions) n decl.summary) count sound.fits.summary

  gives_now : GivesValue now args
  gives_now k h = gives_args args vars begins k h

  -- an access to a path that the summary covers is covered now
  pub path_covered : (write : Bool) (path : WrittenPath) (c : ConcretePath) → IsTrue (covers decl.summary (record { write = write; path = path }))
      → InSet (under now path) c → SomeCoversAccess es (record { write = write; path = c })
  path_covered write path c covered there =
      let effect : Effect = record { write = write; path = path } in
      let declared = covered_now decl.summary (length p.regions) args summary_fits now gives_now effect covered in
      let inside = within_more es declared.0 (effect_under now effect) (within declared.0 declared.1) declared.2 in
      some_covers es (effect_under now effect) _ inside ((λ w. w), there)

  -- if the summary covers each effect of another summary, filled with the written arguments, then each effect of the
  -- other one, filled with their values, lies within one of these
  pub filled_within : (other : Summary) (written : List Elem) (values : List ℤ) → ArgumentsStand now written values
      → ((e : Effect) → IsIn e (fill_summary written other).effects → IsTrue (covers decl.summary e))
      → (e : Effect) → IsIn e (fill_summary (literals values) other).effects → SomeWithin es e
  filled_within other written values stand covered e here =
      let d = filled_now decl.summary (length p.regions) args summary_fits now gives_now other written values stand covered e here in
      within_more es d.0 e (within d.0 d.1) d.2

  element_kept : (path : WrittenPath) → IsTrue (covers decl.summary (record { write = false; path = path })) → (cell : Option ℕ)
      → AtSome (λ n. InSet (under now path) (path_of_cell p n)) cell → (missing : FaultCause) (place : Place) (s : Store) → s.vars ≡ vars → Each p es s.accesses
      → GivenKeeps p es vars AnyValue (element_read cell missing place s)
  element_kept path covered None there missing place s same each = each
  element_kept path covered (Some cell) there missing place s same each = (same, (path_covered false path _ covered there, each), refl)

  -- a method accesses only what it declares for its arguments, and the caller declares that too
  entered_kept : (method : ℕ) (written : List Elem) (values : List ℤ) → ArgumentsStand now written values
      → (full : Bool) (o : Option Decl) → slice_get p.methods method ≡ o → TakesArguments o (length values)
      → ((e : Effect) → IsIn e (filled_summary o written).effects → IsTrue (covers decl.summary e))
      → (call : ActiveCall) (s : Store) → s.vars ≡ vars → Each p es s.accesses → GivenKeeps p es vars AnyValue (entered full below o values call s)
  entered_kept method written values stand true o found takes covered call s same each = each
  entered_kept method written values stand false None found takes covered call s same each = absurd takes
  entered_kept method written values stand false (Some callee) found takes covered call s same each =
      let callee_sound = methods method callee found in
      let declared : DeclaredIn p callee values es = filled_within callee.summary written values stand covered in
      let start : Store = record s { vars = vars_at_start (Some callee) values; calls = call ∷ s.calls } in
      let body : Fine p callee (Block 0 callee.body.block) = record { declares = callee_sound.body.declares; fits = callee_sound.body.fits; assigns = callee_sound.body.assigns } in
      let kept : Kept p es values start = record { each = each; begins = take-append_seam values _ } in
      given_back_kept p callee es values vars s.vars _ same (keeps callee callee_sound values takes es declared (Block 0 callee.body.block) body start kept)

  pub called_kept : (method : ℕ) (written : List Elem) (values : List ℤ) → ArgumentsStand now written values
      → TakesArguments (slice_get p.methods method) (length values)
      → ((e : Effect) → IsIn e (filled_summary (slice_get p.methods method) written).effects → IsTrue (covers decl.summary e))
      → (place : Place) (s : Store) → s.vars ≡ vars → Each p es s.accesses → GivenKeeps p es vars AnyValue (called below p method values place s)
  called_kept method written values stand takes covered place s same each =
      give_kept p es vars AnyValue AnyValue (unit_taken place s) _ (unit_kept p es vars place s same each)
      (λ unit s1 same1 each1 q. entered_kept method written values stand (nat_le max_active_calls (length s1.calls)) (slice_get p.methods method) refl takes covered (record { method = method; place = place }) s1 same1 each1)

  mutual
    pub value_kept : (point : ℕ) (e : Expression) → AllDeclared p decl (acts_of p point e) → ExpressionFits (scope_of p decl) e
        → (s : Store) → s.vars ≡ vars → Each p es s.accesses → GivenKeeps p es vars (StandsFor vars e) (value_of below p e s)
    value_kept point (Literal value) covered fits s same each = (same, each, (Decides-int_eq value value).1 refl)
    value_kept point (Truth value) covered fits s same each = (same, each, refl)
    value_kept point (Variable var true) covered fits s same each =
        (same, each, (Decides-int_eq _ _).1 (ap (λ (l : List ℤ). value_in (slice_get l var)) (sym same)))
    value_kept point (Variable var false) covered fits s same each = (same, each, refl)
    value_kept point (CellValue cell place) covered fits s same each =
        (same, (path_covered false (path_at p cell []) _ covered.0 (cell_touched p wf now cell (slice_get p.cells cell) refl fits), each), refl)
    value_kept point (ArrayElement array index place) covered fits s same each =
        give_kept p es vars (StandsFor vars index) AnyValue (value_of below p index s) _ (value_kept point index covered.1 fits.1 s same each)
        (λ i s1 same1 each1 stand. element_kept (path_at p array (element_of_index index ∷ [])) covered.0 (element_number p array i)
        (element_touched p wf now array (element_of_index index) i (slice_get p.cells array) refl stand) (Index i) place s1 same1 each1)
    value_kept point (GridElement array row column place) covered fits s same each =
        give_kept p es vars (StandsFor vars row) AnyValue (value_of below p row s) _ (value_kept point row (declared_front p decl (acts_of p point row) (acts_of p point column) covered.1) fits.1 s same each)
        (λ i s1 same1 each1 first.
        give_kept p es vars (StandsFor vars column) AnyValue (value_of below p column s1) _ (value_kept point column (declared_back p decl (acts_of p point row) (acts_of p point column) covered.1) fits.2 s1 same1 each1)
        (λ j s2 same2 each2 second. element_kept (path_at p array (element_of_index row ∷ element_of_index column ∷ [])) covered.0 (grid_element_number p array i j)
        (grid_element_touched p wf now array (element_of_index row) (element_of_index column) i j (slice_get p.cells array) refl first second) (GridIndex i j) place s2 same2 each2))
    value_kept point (CallValue method given place) covered fits s same each =
        give_kept p es vars (StandFor vars given) AnyValue (values_of below p given s) _ (values_kept point given covered.1 fits.2 s same each)
        (λ values s1 same1 each1 stand. called_kept method (elements_of given) values stand.0
        (subst (λ (n : ℕ). TakesArguments (slice_get p.methods method) n) (sym stand.1) fits.0) covered.0 place s1 same1 each1)
    value_kept point (Negative operand) covered fits s same each =
        give_kept p es vars (StandsFor vars operand) AnyValue (value_of below p operand s) _ (value_kept point operand covered fits s same each) (λ value s1 same1 each1 q. (same1, each1, refl))
    value_kept point (Negation operand) covered fits s same each =
        give_kept p es vars (StandsFor vars operand) AnyValue (value_of below p operand s) _ (value_kept point operand covered fits s same each) (λ value s1 same1 each1 q. (same1, each1, refl))
    value_kept point (Binary op left right place) covered fits s same each =
        give_kept p es vars (StandsFor vars left) AnyValue (value_of below p left s) _ (value_kept point left (declared_front p decl (acts_of p point left) (acts_of p point right) covered) fits.0 s same each)
        (λ value s1 same1 each1 q. right_kept p es vars (StandsFor vars right) (decided op (is_true value)) op value place (value_of below p right s1) s1 same1 each1
        (value_kept point right (declared_back p decl (acts_of p point left) (acts_of p point right) covered) fits.1 s1 same1 each1))

    pub values_kept : (point : ℕ) (given : Arguments) → AllDeclared p decl (acts_of_all p point given) → ArgumentsFit (scope_of p decl) given
        → (s : Store) → s.vars ≡ vars → Each p es s.accesses → GivenKeeps p es vars (StandFor vars given) (values_of below p given s)
    values_kept point exprs.no_more covered fits s same each = (same, each, (refl, refl))
    values_kept point (argument first others) covered fits s same each =
        give_kept p es vars (StandsFor vars first) (StandFor vars (argument first others)) (value_of below p first s) _
        (value_kept point first (declared_front p decl (acts_of p point first) (acts_of_all p point others) covered) fits.0 s same each)
        (λ value s1 same1 each1 stand.
        give_kept p es vars (StandFor vars others) (StandFor vars (argument first others)) (values_of below p others s1) _
        (values_kept point others (declared_back p decl (acts_of p point first) (acts_of_all p point others) covered) fits.1 s1 same1 each1)
        (λ values s2 same2 each2 more. (same2, each2, (and_from _ _ stand more.0, omega (arith, more.1)))))
