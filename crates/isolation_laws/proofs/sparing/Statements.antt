-- Statements spare the effects of a task if they are fine for them.
use Rattle.std.proofs.Common.{◌≡◌, ◌+◌, ℕ, ℤ, Bool, true, false, List, [], ◌∷◌, ◌++◌, Option, None, Some, inl, inr, refl, sym, subst}
use Rattle.std.specs.Prelude.{slice_get}
use Rattle.twe_base.specs.declared.place.Place.{Place}
use Rattle.region_paths.specs.Concrete.{InSet, region}
use Rattle.region_paths.specs.Filled.{under}
use Rattle.region_paths.specs.Written.{WrittenPath}
use Rattle.effect_sets.specs.declared.effects.Effect.{Effect}
use Rattle.twe_program.specs.declared.program.Decl.{Decl}
use Rattle.twe_program.specs.Expression.{Expression, Arguments}
use Rattle.twe_program.specs.Fitting.{ArgumentsFit, ArmsFit, ExpressionFits, TakesArguments}
use Rattle.twe_program.specs.Program.{Program}
use Rattle.twe_program.specs.Statement.{Statement, Block, Let, Set, SetCell, SetArray, SetGrid, If, While, Return, Print, Call, Make, Wait, Statements, no_more, statement, Arms, arm, otherwise, no_else}
use Rattle.twe_program.specs.WellFormed.{IsWellFormed, scope_of}
use Rattle.cover_flow.specs.Steps.{IsBranch, followed_by}
use Rattle.seg_meaning.specs.declared.frame.Position.{Position}
use Rattle.seg_meaning.specs.Arithmetic.{is_true}
use Rattle.seg_meaning.specs.Cells.{element_number, grid_element_number}
use Rattle.seg_meaning.specs.declared.fault.FaultCause.{FaultCause}
use Rattle.seg_meaning.specs.declared.fault.FaultCause.TheVariants.{Index, GridIndex}
use Rattle.seg_meaning.specs.Meaning.{Below, called, chosen, done_all, done_arms, done_by, element_written, stopped_at, turned, value_of, values_of}
use Rattle.seg_meaning.specs.Store.{Store, Given, gives, faults, Flow, goes, returns, fails, stops, then_do, then_go, unit_taken}
use Rattle.effect_check.specs.Acts.{acts_of, acts_of_all}
use Rattle.effect_check.specs.Standing.{console_element, element_of_index, elements_of, path_at}
use Rattle.isolation_laws.specs.soundness.CellPaths.{path_of_cell}
use Rattle.isolation_laws.specs.soundness.KeepsEffects.{KeepsEffects}
use Rattle.isolation_laws.proofs.soundness.CellPaths.{AtSome, cell_touched, element_touched, grid_element_touched}
use Rattle.isolation_laws.proofs.soundness.Declared.{values_now}
use Rattle.isolation_laws.proofs.soundness.Expressions.{AnyValue, BelowKeeps, StandFor, StandsFor}
use Rattle.machine_state.proofs.segment_laws.Leading.{BelowLeads, FlowLeads, left_after, statement_leads}
use Rattle.machine_state.proofs.segment_laws.Quiet.{leads_silently}
use Rattle.isolation_laws.proofs.sparing.Calls.{EachSpares, GivenSpares, called_spares, unit_spares}
use Rattle.isolation_laws.proofs.sparing.Expressions.{path_spares, spare_back, spare_front, value_spares, values_spare}
use Rattle.isolation_laws.proofs.paths.FineRests.{AllSpare, Fine, fine_later, fine_own}
use Rattle.isolation_laws.proofs.paths.OwnActs.{condition_acts}
use Rattle.isolation_laws.proofs.effects.Sparing.{EffectSpares}

module _ (p : Program) (es : List Effect) where
  -- each access of a statement spares the effects
  abbrev pub FlowSpares : Flow → Type 0
  FlowSpares (goes s) = EachSpares p es s.accesses
  FlowSpares (returns value s) = EachSpares p es s.accesses
  FlowSpares (fails kind place s) = EachSpares p es s.accesses
  FlowSpares (stops operation positions s) = EachSpares p es s.accesses

  do_spares : {A : Type 0} (vars : List ℤ) (Q : A → Type 0) (g : Given A) (next : A → Store → Flow)
      → GivenSpares p es vars Q g → ((value : A) (s : Store) → s.vars ≡ vars → EachSpares p es s.accesses → Q value → FlowSpares (next value s)) → FlowSpares (then_do g next)
  do_spares vars Q (gives value s) next h k = k value s h.0 h.1 h.2
  do_spares vars Q (faults kind place s) next h k = h

  pub go_spares : (f : Flow) (next : Store → Flow) → FlowSpares f → ((s : Store) → EachSpares p es s.accesses → FlowSpares (next s)) → FlowSpares (then_go f next)
  go_spares (goes s) next h k = k s h
  go_spares (returns value s) next h k = h
  go_spares (fails kind place s) next h k = h
  go_spares (stops operation positions s) next h k = h

  -- what is left after a quiet path is fine
  module _ (decl : Decl) where
    abbrev pub IsFine : Statements → Type 0
    IsFine from = Fine p (scope_of p decl) es from

    pub go_further : (from between next : Statements) (left : List Position → Statements) (f : Flow) (then : Store → Flow) → FlowLeads from between left f → IsFine from
        → FlowSpares f → ((s : Store) → EachSpares p es s.accesses → IsFine between → FlowSpares (then s)) → FlowSpares (then_go f then)
    go_further from between next left (goes s) then leads fine h k = k s h (fine_later p (scope_of p decl) es from between leads fine)
    go_further from between next left (returns value s) then leads fine h k = h
    go_further from between next left (fails kind place s) then leads fine h k = h
    go_further from between next left (stops operation positions s) then leads fine h k = h

    pub go_stopped : (from between : Statements) (left : List Position → Statements) (block after : ℕ) (f : Flow) (then : Store → Flow) → FlowLeads from between left f → IsFine from
        → FlowSpares f → ((s : Store) → EachSpares p es s.accesses → IsFine between → FlowSpares (then s)) → FlowSpares (then_go (stopped_at block after f) then)
    go_stopped from between left block after (goes s) then leads fine h k = k s h (fine_later p (scope_of p decl) es from between leads fine)
    go_stopped from between left block after (returns value s) then leads fine h k = h
    go_stopped from between left block after (fails kind place s) then leads fine h k = h
    go_stopped from between left block after (stops operation positions s) then leads fine h k = h

  -- each loop spares them if the rest of the body from it on is fine
  abbrev pub BelowSpares : Decl → Below → Type 0
  BelowSpares decl below = (point : ℕ) (condition : Expression) (body : Statements) (place : Place) (others : Statements) → IsFine decl (statement (While point condition body place) others)
      → (s : Store) → EachSpares p es s.accesses → FlowSpares (below (While point condition body place) s)

  chosen_spares : (yes : Bool) (first second : Flow) → FlowSpares first → FlowSpares second → FlowSpares (chosen yes first second)
  chosen_spares true first second h k = h
  chosen_spares false first second h k = k

module _ (p : Program) (wf : IsWellFormed p) (effects : KeepsEffects p) (below : Below) (keeps : BelowKeeps p below) (leads : BelowLeads below) (es : List Effect) (decl : Decl)
    (loops : BelowSpares p es decl below) where
  valued : (vars : List ℤ) (point : ℕ) (e : Expression) → AllSpare es (acts_of p point e) → ExpressionFits (scope_of p decl) e → (s : Store) → s.vars ≡ vars → EachSpares p es s.accesses
      → (next : ℤ → Store → Flow) → ((value : ℤ) (s1 : Store) → s1.vars ≡ vars → EachSpares p es s1.accesses → StandsFor vars e value → FlowSpares p es (next value s1))
      → FlowSpares p es (then_do (value_of below p e s) next)
  valued vars point e spare fits s same each next k =
      do_spares p es vars (StandsFor vars e) (value_of below p e s) next (value_spares p wf effects below keeps es decl vars point e spare fits s same each) k

  all_valued : (vars : List ℤ) (point : ℕ) (given : Arguments) → AllSpare es (acts_of_all p point given) → ArgumentsFit (scope_of p decl) given → (s : Store) → s.vars ≡ vars → EachSpares p es s.accesses
      → (next : List ℤ → Store → Flow) → ((values : List ℤ) (s1 : Store) → s1.vars ≡ vars → EachSpares p es s1.accesses → StandFor vars given values → FlowSpares p es (next values s1))
      → FlowSpares p es (then_do (values_of below p given s) next)
  all_valued vars point given spare fits s same each next k =
      do_spares p es vars (StandFor vars given) (values_of below p given s) next (values_spare p wf effects below keeps es decl vars point given spare fits s same each) k

  taken : (vars : List ℤ) (place : Place) (s : Store) → s.vars ≡ vars → EachSpares p es s.accesses → (next : Unit {0} → Store → Flow)
      → ((unit : Unit {0}) (s1 : Store) → s1.vars ≡ vars → EachSpares p es s1.accesses → FlowSpares p es (next unit s1)) → FlowSpares p es (then_do (unit_taken place s) next)
  taken vars place s same each next k = do_spares p es vars AnyValue (unit_taken place s) next (unit_spares p es vars place s same each) (λ unit s1 same1 each1 q. k unit s1 same1 each1)

  element_set : (vars : List ℤ) (path : WrittenPath) → EffectSpares es (record { write = true; path = path }) → (cell : Option ℕ)
      → AtSome (λ n. InSet (under (values_now vars) path) (path_of_cell p n)) cell → (missing : FaultCause) (value : ℤ) (place : Place) (s : Store) → EachSpares p es s.accesses
      → FlowSpares p es (element_written cell missing value place s)
  element_set vars path spares None there missing value place s each = each
  element_set vars path spares (Some cell) there missing value place s each = (path_spares es (values_now vars) true path (path_of_cell p cell) spares there, each)

  turned_spares : (yes : Bool) (place : Place) (body again : Store → Flow) (s : Store) → EachSpares p es s.accesses
      → ((s1 : Store) → EachSpares p es s1.accesses → FlowSpares p es (body s1)) → ((s1 : Store) → EachSpares p es s1.accesses → FlowSpares p es (again s1))
      → FlowSpares p es (turned yes place body again s)
  turned_spares false place body again s each h k = each
  turned_spares true place body again s each h k =
      taken s.vars place s refl each _ (λ unit s1 same1 each1. go_spares p es (body s1) again (h s1 each1) k)

  mutual
    pub done_spares : (stmt : Statement) (others : Statements) → IsFine p es decl (statement stmt others) → (s : Store) → EachSpares p es s.accesses → FlowSpares p es (done_by below p stmt s)
    done_spares (Block point body) others fine s each =
        let from = statement (Block point body) others in
        all_spare 0 0 body others
        (fine_later p (scope_of p decl) es from (followed_by body others) (leads_silently from (followed_by body others) (λ path. (refl, refl))) fine) s each
    done_spares (Let point var value) others fine s each =
        valued s.vars point value (fine_own p (scope_of p decl) es (Let point var value) others fine) fine.fits.0.1 s refl each _ (λ v s1 same each1 q. each1)
    done_spares (Set point var value) others fine s each =
        valued s.vars point value (fine_own p (scope_of p decl) es (Set point var value) others fine) fine.fits.0.1 s refl each _ (λ v s1 same each1 q. each1)
    done_spares (SetCell point cell value place) others fine s each =
        let own = fine_own p (scope_of p decl) es (SetCell point cell value place) others fine in
        valued s.vars point value own.1 fine.fits.0.1 s refl each _
        (λ v s1 same each1 q.
        (path_spares es (values_now s.vars) true (path_at p cell []) _ own.0 (cell_touched p wf (values_now s.vars) cell (slice_get p.cells cell) refl fine.fits.0.0), each1))
    done_spares (SetArray point array index value place) others fine s each =
        let own = fine_own p (scope_of p decl) es (SetArray point array index value place) others fine in
        valued s.vars point index (spare_front es (acts_of p point index) (acts_of p point value) own.1) fine.fits.0.1 s refl each _
        (λ i s1 same1 each1 stand.
        valued s.vars point value (spare_back es (acts_of p point index) (acts_of p point value) own.1) fine.fits.0.2 s1 same1 each1 _
        (λ v s2 same2 each2 q. element_set s.vars (path_at p array (element_of_index index ∷ [])) own.0 (element_number p array i)
        (element_touched p wf (values_now s.vars) array (element_of_index index) i (slice_get p.cells array) refl stand) (Index i) v place s2 each2))
    done_spares (SetGrid point array row column value place) others fine s each =
        let own = fine_own p (scope_of p decl) es (SetGrid point array row column value place) others fine in
        let rest = spare_back es (acts_of p point row) (acts_of p point column ++ acts_of p point value) own.1 in
        valued s.vars point row (spare_front es (acts_of p point row) (acts_of p point column ++ acts_of p point value) own.1) fine.fits.0.1 s refl each _
        (λ i s1 same1 each1 first.
        valued s.vars point column (spare_front es (acts_of p point column) (acts_of p point value) rest) fine.fits.0.2 s1 same1 each1 _
        (λ j s2 same2 each2 second.
        valued s.vars point value (spare_back es (acts_of p point column) (acts_of p point value) rest) fine.fits.0.3 s2 same2 each2 _
        (λ v s3 same3 each3 q. element_set s.vars (path_at p array (element_of_index row ∷ element_of_index column ∷ [])) own.0 (grid_element_number p array i j)
        (grid_element_touched p wf (values_now s.vars) array (element_of_index row) (element_of_index column) i j (slice_get p.cells array) refl first second) (GridIndex i j) v place s3 each3)))
    done_spares (If point arms) others fine s each =
        arms_spare 0 point arms arms (λ taken is. is) others fine (fine_own p (scope_of p decl) es (If point arms) others fine) fine.fits.0 s each
    done_spares (While point condition body place) others fine s each =
        let loop = While point condition body place in
        let from = statement loop others in
        let inside = fine_later p (scope_of p decl) es from (followed_by body from) (leads_silently from (followed_by body from) (λ path. (inr refl, refl))) fine in
        valued s.vars point condition (fine_own p (scope_of p decl) es loop others fine) fine.fits.0.0 s refl each _
        (λ v s1 same1 each1 q. turned_spares (is_true v) place (done_all below p 0 0 body) (below loop) s1 each1
        (λ s2 each2. all_spare 0 0 body from inside s2 each2)
        (λ s2 each2. loops point condition body place others fine s2 each2))
    done_spares (Return point None) others fine s each = each
    done_spares (Return point (Some value)) others fine s each =
        valued s.vars point value (fine_own p (scope_of p decl) es (Return point (Some value)) others fine) fine.fits.0.1 s refl each _ (λ v s1 same each1 q. each1)
    done_spares (Print point value place) others fine s each =
        let own = fine_own p (scope_of p decl) es (Print point value place) others fine in
        valued s.vars point value own.1 fine.fits.0 s refl each _
        (λ v s1 same1 each1 q. taken s.vars place s1 same1 each1 _
        (λ unit s2 same2 each2. (path_spares es (values_now s.vars) true console_element (region 0 ∷ []) own.0 refl, each2)))
    done_spares (Call point method given place) others fine s each =
        let own = fine_own p (scope_of p decl) es (Call point method given place) others fine in
        all_valued s.vars point given own.1 fine.fits.0.1 s refl each _
        (λ values s1 same1 each1 stand.
        do_spares p es s.vars AnyValue (called below p method values place s1) _
        (called_spares p wf effects below keeps es method (elements_of given) values s.vars stand.0
        (subst (λ (n : ℕ). TakesArguments (slice_get p.methods method) n) (sym stand.1) fine.fits.0.0) own.0 place s1 same1 each1)
        (λ value s2 same2 each2 q. each2))
    done_spares (Make point future task given spawned future_place place) others fine s each =
        let own = fine_own p (scope_of p decl) es (Make point future task given spawned future_place place) others fine in
        all_valued s.vars point given own.1 fine.fits.0.1 s refl each _ (λ values s1 same1 each1 stand. taken s.vars place s1 same1 each1 _ (λ unit s2 same2 each2. each2))
    done_spares (Wait point future join into place) others fine s each = taken s.vars place s refl each _ (λ unit s1 same1 each1. each1)

    pub all_spare : (block at : ℕ) (stmts others : Statements) → IsFine p es decl (followed_by stmts others) → (s : Store) → EachSpares p es s.accesses → FlowSpares p es (done_all below p block at stmts s)
    all_spare block at no_more others fine s each = each
    all_spare block at (statement first more) others fine s each =
        let rest = followed_by more others in
        go_stopped p es decl (statement first rest) rest (left_after (Some first) rest) block (at + 1) (done_by below p first s) _ (statement_leads p below leads first rest s) fine
        (done_spares first rest fine s each)
        (λ s1 each1 fine1. all_spare block (at + 1) more others fine1 s1 each1)

    pub arms_spare : (block point : ℕ) (whole arms : Arms) → ((taken : Statements) → IsBranch arms taken → IsBranch whole taken) → (others : Statements)
        → IsFine p es decl (statement (If point whole) others) → AllSpare es (condition_acts p point arms) → ArmsFit (scope_of p decl) arms
        → (s : Store) → EachSpares p es s.accesses → FlowSpares p es (done_arms below p block arms s)
    arms_spare block point whole (arm condition body more) among others fine spare fits s each =
        let from = statement (If point whole) others in
        let inside = fine_later p (scope_of p decl) es from (followed_by body others) (leads_silently from (followed_by body others) (λ path. (body, among body (inl refl), refl, refl))) fine in
        valued s.vars point condition (spare_front es (acts_of p point condition) (condition_acts p point more) spare) fits.0 s refl each _
        (λ v s1 same1 each1 q.
        chosen_spares p es (is_true v) _ _ (all_spare block 0 body others inside s1 each1)
        (arms_spare (block + 1) point whole more (λ branch is. among branch (inr is)) others fine (spare_back es (acts_of p point condition) (condition_acts p point more) spare) fits.2 s1 each1))
    arms_spare block point whole (otherwise body) among others fine spare fits s each =
        let from = statement (If point whole) others in
        let inside = fine_later p (scope_of p decl) es from (followed_by body others) (leads_silently from (followed_by body others) (λ path. (body, among body refl, refl, refl))) fine in
        all_spare block 0 body others inside s each
    arms_spare block point whole no_else among others fine spare fits s each = each
