-- Evaluating an expression spares the effects of a task if all of its acts do.
use Rattle.std.proofs.Common.{◌≡◌, ℕ, ℤ, Bool, true, false, List, [], ◌∷◌, ◌++◌, Option, None, Some, refl, sym, ap, subst, arith}
use Rattle.std.specs.Prelude.{slice_get}
use Rattle.std.proofs.lemmas.Bool.{and_from}
use Rattle.std.proofs.lemmas.Bool.Decides.{Decides-int_eq}
use Rattle.twe_base.specs.declared.place.Place.{Place}
use Rattle.region_paths.specs.Concrete.{ConcretePath, InSet}
use Rattle.region_paths.specs.Filled.{Valuation, under}
use Rattle.region_paths.specs.Written.{WrittenPath}
use Rattle.effect_sets.specs.declared.effects.Effect.{Effect}
use Rattle.twe_ast.specs.declared.expr.BinOp.{BinOp}
use Rattle.twe_program.specs.declared.program.Decl.{Decl}
use Rattle.twe_program.specs.Expression.{Expression, Literal, Truth, Variable, CellValue, ArrayElement, GridElement, CallValue, Negative, Negation, Binary, Arguments, argument}
use Rattle.twe_program.specs.Expression as exprs
use Rattle.twe_program.specs.Fitting.{ArgumentsFit, ExpressionFits, TakesArguments}
use Rattle.twe_program.specs.Program.{Program}
use Rattle.twe_program.specs.WellFormed.{IsWellFormed, scope_of}
use Rattle.seg_meaning.specs.Access.{value_in}
use Rattle.seg_meaning.specs.Arithmetic.{decided, is_true, operated}
use Rattle.seg_meaning.specs.Cells.{element_number, grid_element_number}
use Rattle.seg_meaning.specs.declared.fault.FaultCause.{FaultCause}
use Rattle.seg_meaning.specs.declared.fault.FaultCause.TheVariants.{Index, GridIndex}
use Rattle.seg_meaning.specs.Meaning.{Below, element_read, right_given, value_of, value_or_fault, values_of}
use Rattle.seg_meaning.specs.Store.{Store, Given}
use Rattle.effect_check.specs.declared.act.Act.{Act}
use Rattle.effect_check.specs.Acts.{acts_of, acts_of_all}
use Rattle.effect_check.specs.Standing.{element_of_index, elements_of, path_at}
use Rattle.effect_check.proofs.Members.{all-back, all-front}
use Rattle.isolation_laws.specs.soundness.CellPaths.{path_of_cell}
use Rattle.isolation_laws.specs.soundness.KeepsEffects.{KeepsEffects}
use Rattle.isolation_laws.proofs.soundness.CellPaths.{AtSome, cell_touched, element_touched, grid_element_touched}
use Rattle.isolation_laws.proofs.soundness.Declared.{values_now}
use Rattle.isolation_laws.proofs.soundness.Expressions.{AnyValue, BelowKeeps, StandFor, StandsFor}
use Rattle.isolation_laws.proofs.sparing.Calls.{EachSpares, GivenSpares, called_spares, give_spares}
use Rattle.isolation_laws.proofs.paths.FineRests.{ActSpares, AllSpare}
use Rattle.isolation_laws.proofs.effects.Sparing.{EffectSpares, Spares}

pub spare_front : (es : List Effect) (xs ys : List Act) → AllSpare es (xs ++ ys) → AllSpare es xs
spare_front es xs ys h = all-front (λ (act : Act). ActSpares es act.kind) xs ys h

pub spare_back : (es : List Effect) (xs ys : List Act) → AllSpare es (xs ++ ys) → AllSpare es ys
spare_back es xs ys h = all-back (λ (act : Act). ActSpares es act.kind) xs ys h

-- an access within an effect that spares them spares them
pub path_spares : (es : List Effect) (v : Valuation) (write : Bool) (path : WrittenPath) (c : ConcretePath) → EffectSpares es (record { write = write; path = path })
    → InSet (under v path) c → Spares es (record { write = write; path = c })
path_spares es v write path c spares there = spares v (record { write = write; path = c }) ((λ w. w), there)

module _ (p : Program) (wf : IsWellFormed p) (effects : KeepsEffects p) (below : Below) (keeps : BelowKeeps p below) (es : List Effect) (decl : Decl) (vars : List ℤ) where
  abbrev now : Valuation
  now = values_now vars

  abbrev Keeps : {A : Type 0} → (A → Type 0) → Given A → Type 0
  Keeps Q g = GivenSpares p es vars Q g

  element_spares : (path : WrittenPath) → EffectSpares es (record { write = false; path = path }) → (cell : Option ℕ)
      → AtSome (λ n. InSet (under now path) (path_of_cell p n)) cell → (missing : FaultCause) (place : Place) (s : Store) → s.vars ≡ vars → EachSpares p es s.accesses
      → Keeps AnyValue (element_read cell missing place s)
  element_spares path spares None there missing place s same each = each
  element_spares path spares (Some cell) there missing place s same each = (same, (path_spares es now false path _ spares there, each), refl)

  fault_spares : (value : Option ℤ) (place : Place) (s : Store) → s.vars ≡ vars → EachSpares p es s.accesses → Keeps AnyValue (value_or_fault value place s)
  fault_spares None place s same each = each
  fault_spares (Some value) place s same each = (same, each, refl)

  right_spares : (Q : ℤ → Type 0) (known : Option ℤ) (op : BinOp) (left : ℤ) (place : Place) (right : Given ℤ) (s : Store)
      → s.vars ≡ vars → EachSpares p es s.accesses → Keeps Q right → Keeps AnyValue (right_given known op left place right s)
  right_spares Q (Some value) op left place right s same each h = (same, each, refl)
  right_spares Q None op left place right s same each h =
      give_spares p es vars Q AnyValue right _ h (λ value s1 same1 each1 q. fault_spares (operated op left value) place s1 same1 each1)

  mutual
    pub value_spares : (point : ℕ) (e : Expression) → AllSpare es (acts_of p point e) → ExpressionFits (scope_of p decl) e
        → (s : Store) → s.vars ≡ vars → EachSpares p es s.accesses → GivenSpares p es vars (StandsFor vars e) (value_of below p e s)
    value_spares point (Literal value) spare fits s same each = (same, each, (Decides-int_eq value value).1 refl)
    value_spares point (Truth value) spare fits s same each = (same, each, refl)
    value_spares point (Variable var true) spare fits s same each =
        (same, each, (Decides-int_eq _ _).1 (ap (λ (l : List ℤ). value_in (slice_get l var)) (sym same)))
    value_spares point (Variable var false) spare fits s same each = (same, each, refl)
    value_spares point (CellValue cell place) spare fits s same each =
        (same, (path_spares es now false (path_at p cell []) _ spare.0 (cell_touched p wf now cell (slice_get p.cells cell) refl fits), each), refl)
    value_spares point (ArrayElement array index place) spare fits s same each =
        give_spares p es vars (StandsFor vars index) AnyValue (value_of below p index s) _ (value_spares point index spare.1 fits.1 s same each)
        (λ i s1 same1 each1 stand. element_spares (path_at p array (element_of_index index ∷ [])) spare.0 (element_number p array i)
        (element_touched p wf now array (element_of_index index) i (slice_get p.cells array) refl stand) (Index i) place s1 same1 each1)
    value_spares point (GridElement array row column place) spare fits s same each =
        give_spares p es vars (StandsFor vars row) AnyValue (value_of below p row s) _ (value_spares point row (spare_front es (acts_of p point row) (acts_of p point column) spare.1) fits.1 s same each)
        (λ i s1 same1 each1 first.
        give_spares p es vars (StandsFor vars column) AnyValue (value_of below p column s1) _ (value_spares point column (spare_back es (acts_of p point row) (acts_of p point column) spare.1) fits.2 s1 same1 each1)
        (λ j s2 same2 each2 second. element_spares (path_at p array (element_of_index row ∷ element_of_index column ∷ [])) spare.0 (grid_element_number p array i j)
        (grid_element_touched p wf now array (element_of_index row) (element_of_index column) i j (slice_get p.cells array) refl first second) (GridIndex i j) place s2 same2 each2))
    value_spares point (CallValue method given place) spare fits s same each =
        give_spares p es vars (StandFor vars given) AnyValue (values_of below p given s) _ (values_spare point given spare.1 fits.2 s same each)
        (λ values s1 same1 each1 stand. called_spares p wf effects below keeps es method (elements_of given) values vars stand.0
        (subst (λ (n : ℕ). TakesArguments (slice_get p.methods method) n) (sym stand.1) fits.0) spare.0 place s1 same1 each1)
    value_spares point (Negative operand) spare fits s same each =
        give_spares p es vars (StandsFor vars operand) AnyValue (value_of below p operand s) _ (value_spares point operand spare fits s same each) (λ value s1 same1 each1 q. (same1, each1, refl))
    value_spares point (Negation operand) spare fits s same each =
        give_spares p es vars (StandsFor vars operand) AnyValue (value_of below p operand s) _ (value_spares point operand spare fits s same each) (λ value s1 same1 each1 q. (same1, each1, refl))
    value_spares point (Binary op left right place) spare fits s same each =
        give_spares p es vars (StandsFor vars left) AnyValue (value_of below p left s) _ (value_spares point left (spare_front es (acts_of p point left) (acts_of p point right) spare) fits.0 s same each)
        (λ value s1 same1 each1 q. right_spares (StandsFor vars right) (decided op (is_true value)) op value place (value_of below p right s1) s1 same1 each1
        (value_spares point right (spare_back es (acts_of p point left) (acts_of p point right) spare) fits.1 s1 same1 each1))

    pub values_spare : (point : ℕ) (given : Arguments) → AllSpare es (acts_of_all p point given) → ArgumentsFit (scope_of p decl) given
        → (s : Store) → s.vars ≡ vars → EachSpares p es s.accesses → GivenSpares p es vars (StandFor vars given) (values_of below p given s)
    values_spare point exprs.no_more spare fits s same each = (same, each, (refl, refl))
    values_spare point (argument first others) spare fits s same each =
        give_spares p es vars (StandsFor vars first) (StandFor vars (argument first others)) (value_of below p first s) _
        (value_spares point first (spare_front es (acts_of p point first) (acts_of_all p point others) spare) fits.0 s same each)
        (λ value s1 same1 each1 stand.
        give_spares p es vars (StandFor vars others) (StandFor vars (argument first others)) (values_of below p others s1) _
        (values_spare point others (spare_back es (acts_of p point first) (acts_of_all p point others) spare) fits.1 s1 same1 each1)
        (λ values s2 same2 each2 more. (same2, each2, (and_from _ _ stand more.0, omega (arith, more.1)))))
