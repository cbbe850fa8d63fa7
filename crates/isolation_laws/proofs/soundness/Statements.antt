-- Statements access only what their declaration declares, and leave its parameters as they are.
use Rattle.effect_check.proofs.Members.{IsIn}
use Rattle.seg_meaning.specs.Entry.{effects_of}
use Rattle.region_paths.specs.Arguments.{ArgumentsStand}
use Rattle.region_paths.specs.declared.elements.Elem.{Elem}
use Rattle.std.proofs.Common.{◌≡◌, ℕ, zero, suc, ◌+◌, ◌≤◌, ℤ, Bool, true, false, IsTrue, List, [], ◌∷◌, ◌++◌, length, take, Option, None, Some, refl, sym, ap, ◌∙◌, subst, arith, Contains}
use Rattle.std.specs.Prelude.{slice_get}
use Rattle.std.proofs.lemmas.List.{take-set-le}
use Rattle.twe_base.specs.declared.place.Place.{Place}
use Rattle.region_paths.specs.Written.{WrittenPath}
use Rattle.region_paths.specs.Concrete.{ConcretePath, InSet, region}
use Rattle.region_paths.specs.Filled.{under}
use Rattle.effect_sets.specs.declared.effects.Effect.{Effect}
use Rattle.effect_sets.specs.Access.{SomeCoversAccess}
use Rattle.effect_sets.specs.Covers.{covers}
use Rattle.twe_program.specs.declared.program.Decl.{Decl}
use Rattle.twe_program.specs.Program.{Program}
use Rattle.twe_program.specs.Expression.{Expression, Arguments}
use Rattle.twe_program.specs.Statement.{Statement, Block, Let, Set, SetCell, SetArray, SetGrid, If, While, Return, Print, Call, Make, Wait, Statements, no_more, statement, Arms, arm, otherwise, no_else}
use Rattle.twe_program.specs.Fitting.{TakesArguments, ExpressionFits, ArgumentsFit}
use Rattle.twe_program.specs.WellFormed.{IsWellFormed, scope_of}
use Rattle.seg_meaning.specs.Arithmetic.{is_true}
use Rattle.seg_meaning.specs.Cells.{element_number, grid_element_number}
use Rattle.seg_meaning.specs.Store.{Store, Given, gives, faults, Flow, goes, returns, fails, stops, then_do, then_go, unit_taken, with_var}
use Rattle.seg_meaning.specs.declared.fault.FaultCause.{FaultCause}
use Rattle.seg_meaning.specs.declared.fault.FaultCause.TheVariants.{Index, GridIndex}
use Rattle.seg_meaning.specs.Meaning.{Below, element_written, value_of, values_of, called, turned, chosen, stopped_at, done_by, done_all, done_arms, done_within}
use Rattle.effect_check.specs.Acts.{acts_of, acts_of_all, acts_in, acts_in_all, acts_in_one, filled_summary}
use Rattle.effect_check.specs.Standing.{element_of_index, elements_of, path_at, console_element}
use Rattle.isolation_laws.specs.soundness.CellPaths.{path_of_cell}
use Rattle.isolation_laws.specs.soundness.RunsWith.{IntoFrom}
use Rattle.isolation_laws.proofs.soundness.CellPaths.{AtSome, cell_touched, element_touched, grid_element_touched}
use Rattle.isolation_laws.proofs.soundness.Declared.{values_now, SomeWithin}
use Rattle.isolation_laws.proofs.soundness.Static.{AllDeclared}
use Rattle.isolation_laws.proofs.soundness.Sound.{Sound, Fine, AllFine, ArmsFine, declared_front, declared_back}
use Rattle.isolation_laws.proofs.soundness.Expressions.{AnyValue, Each, Kept, GivenKeeps, FlowKeeps, DeclaredIn, BelowKeeps, unit_kept, StandsFor, StandFor, value_kept, values_kept, called_kept, path_covered, filled_within}

module _ (p : Program) where
  -- one after the other
  pub do_kept : {A : Type 0} (decl : Decl) (es : List Effect) (args vars : List ℤ) (Q : A → Type 0) (g : Given A) (next : A → Store → Flow)
      → GivenKeeps p es vars Q g → ((value : A) (s : Store) → s.vars ≡ vars → Each p es s.accesses → Q value → FlowKeeps p decl es args (next value s))
      → FlowKeeps p decl es args (then_do g next)
  do_kept decl es args vars Q (gives value s) next h k = k value s h.0 h.1 h.2
  do_kept decl es args vars Q (faults kind place s) next h k = h

  pub go_kept : (decl : Decl) (es : List Effect) (args : List ℤ) (f : Flow) (next : Store → Flow)
      → FlowKeeps p decl es args f → ((s : Store) → Kept p es args s → FlowKeeps p decl es args (next s)) → FlowKeeps p decl es args (then_go f next)
  go_kept decl es args (goes s) next h k = k s h
  go_kept decl es args (returns value s) next h k = h
  go_kept decl es args (fails kind place s) next h k = h
  go_kept decl es args (stops operation positions s) next h k = h

  pub stopped_kept : (decl : Decl) (es : List Effect) (args : List ℤ) (block after : ℕ) (f : Flow) → FlowKeeps p decl es args f → FlowKeeps p decl es args (stopped_at block after f)
  stopped_kept decl es args block after (goes s) h = h
  stopped_kept decl es args block after (returns value s) h = h
  stopped_kept decl es args block after (fails kind place s) h = h
  stopped_kept decl es args block after (stops operation positions s) h = h

  chosen_kept : (decl : Decl) (es : List Effect) (args : List ℤ) (first : Bool) (f g : Flow) → FlowKeeps p decl es args f → FlowKeeps p decl es args g → FlowKeeps p decl es args (chosen first f g)
  chosen_kept decl es args true f g h k = h
  chosen_kept decl es args false f g h k = k

  turned_kept : (decl : Decl) (es : List Effect) (args : List ℤ) (yes : Bool) (place : Place) (body again : Store → Flow) (s : Store) → Kept p es args s
      → ((s : Store) → Kept p es args s → FlowKeeps p decl es args (body s)) → ((s : Store) → Kept p es args s → FlowKeeps p decl es args (again s))
      → FlowKeeps p decl es args (turned yes place body again s)
  turned_kept decl es args false place body again s kept h k = kept
  turned_kept decl es args true place body again s kept h k =
      do_kept decl es args s.vars AnyValue (unit_taken place s) _ (unit_kept p es s.vars place s refl kept.each)
      (λ unit s1 same1 each1 q.
      let kept1 : Kept p es args s1 = record { each = each1; begins = ap (take (length args)) same1 ∙ kept.begins } in
      go_kept decl es args (body s1) again (h s1 kept1) k)

  -- an assignment to a local leaves the parameters
  var_kept : (es : List Effect) (args : List ℤ) (params var : ℕ) (value : ℤ) (s : Store) → params ≡ length args → params ≤ var → Kept p es args s → Kept p es args (with_var var value s)
  var_kept es args params var value s count above kept = record {
    each = kept.each;
    begins = take-set-le (length args) s.vars var value (omega (arith, count, above)) ∙ kept.begins;
  }

module _ (p : Program) (wf : IsWellFormed p) (methods : (i : ℕ) (decl : Decl) → slice_get p.methods i ≡ Some decl → Sound p decl)
    (below : Below) (keeps : BelowKeeps p below)
    (decl : Decl) (sound : Sound p decl) (args : List ℤ) (count : decl.params ≡ length args) (es : List Effect) (within : DeclaredIn p decl args es) where
  abbrev Keeps : Flow → Type 0
  Keeps f = FlowKeeps p decl es args f

  -- the variables are those of a store that begins with the arguments
  again : (vars : List ℤ) → take (length args) vars ≡ args → (s : Store) → s.vars ≡ vars → Each p es s.accesses → Kept p es args s
  again vars begins s same each = record { each = each; begins = ap (take (length args)) same ∙ begins }

  -- after an expression, and after the arguments of a call
  valued : (vars : List ℤ) → take (length args) vars ≡ args → (point : ℕ) (e : Expression) → AllDeclared p decl (acts_of p point e) → ExpressionFits (scope_of p decl) e
      → (s : Store) → s.vars ≡ vars → Each p es s.accesses → (next : ℤ → Store → Flow)
      → ((value : ℤ) (s1 : Store) → s1.vars ≡ vars → Each p es s1.accesses → StandsFor vars e value → Keeps (next value s1))
      → Keeps (then_do (value_of below p e s) next)
  valued vars begins point e covered fits s same each next k =
      do_kept p decl es args vars (StandsFor vars e) (value_of below p e s) next
      (value_kept p wf methods below keeps decl sound args count es within vars begins point e covered fits s same each) k

  all_valued : (vars : List ℤ) → take (length args) vars ≡ args → (point : ℕ) (given : Arguments) → AllDeclared p decl (acts_of_all p point given) → ArgumentsFit (scope_of p decl) given
      → (s : Store) → s.vars ≡ vars → Each p es s.accesses → (next : List ℤ → Store → Flow)
      → ((values : List ℤ) (s1 : Store) → s1.vars ≡ vars → Each p es s1.accesses → StandFor vars given values → Keeps (next values s1))
      → Keeps (then_do (values_of below p given s) next)
  all_valued vars begins point given covered fits s same each next k =
      do_kept p decl es args vars (StandFor vars given) (values_of below p given s) next
      (values_kept p wf methods below keeps decl sound args count es within vars begins point given covered fits s same each) k

  taken : (vars : List ℤ) (place : Place) (s : Store) → s.vars ≡ vars → Each p es s.accesses → (next : Unit {0} → Store → Flow)
      → ((unit : Unit {0}) (s1 : Store) → s1.vars ≡ vars → Each p es s1.accesses → Keeps (next unit s1)) → Keeps (then_do (unit_taken place s) next)
  taken vars place s same each next k =
      do_kept p decl es args vars AnyValue (unit_taken place s) next (unit_kept p es vars place s same each) (λ unit s1 same1 each1 q. k unit s1 same1 each1)

  -- a write to a path that the summary covers
  written : (vars : List ℤ) → take (length args) vars ≡ args → (path : WrittenPath) → IsTrue (covers decl.summary (record { write = true; path = path })) → (c : ConcretePath)
      → InSet (under (values_now vars) path) c → SomeCoversAccess es (record { write = true; path = c })
  written vars begins path covered c there = path_covered p wf methods below keeps decl sound args count es within vars begins true path c covered there

  element_set : (vars : List ℤ) → take (length args) vars ≡ args → (path : WrittenPath) → IsTrue (covers decl.summary (record { write = true; path = path }))
      → (cell : Option ℕ) → AtSome (λ n. InSet (under (values_now vars) path) (path_of_cell p n)) cell → (missing : FaultCause) (value : ℤ) (place : Place) (s : Store)
      → s.vars ≡ vars → Each p es s.accesses → Keeps (element_written cell missing value place s)
  element_set vars begins path covered None there missing value place s same each = each
  element_set vars begins path covered (Some cell) there missing value place s same each = record {
    each = (written vars begins path covered (path_of_cell p cell) there, each);
    begins = ap (take (length args)) same ∙ begins;
  }

  -- the effects of a spawned task lie within those that its maker declares
  spawn_kept : (vars : List ℤ) → take (length args) vars ≡ args → (task : ℕ) (written : List Elem) (values : List ℤ) → ArgumentsStand (values_now vars) written values
      → (spawned : Bool) (o : Option Decl) → slice_get p.tasks task ≡ o
      → (Contains p.tasks decl → spawned ≡ true → (e : Effect) → IsIn e (filled_summary o written).effects → IsTrue (covers decl.summary e))
      → Contains p.tasks decl → spawned ≡ true → (e : Effect) → IsIn e (effects_of o values).effects → SomeWithin es e
  spawn_kept vars begins task written values stand spawned None found covered is_task is_spawn e here = absurd here
  spawn_kept vars begins task written values stand spawned (Some child) found covered is_task is_spawn e here =
      filled_within p wf methods below keeps decl sound args count es within vars begins child.summary written values stand (covered is_task is_spawn) e here

  mutual
    pub done_kept : (stmt : Statement) → Fine p decl stmt → (s : Store) → Kept p es args s → Keeps (done_by below p stmt s)
    done_kept (Block point body) fine s kept = all_kept 0 0 body (record { declares = fine.declares; fits = fine.fits; assigns = fine.assigns }) s kept
    done_kept (Let point var value) fine s kept =
        valued s.vars kept.begins point value fine.declares fine.fits.1 s refl kept.each _
        (λ v s1 same each q. var_kept p es args decl.params var v s1 count fine.assigns (again s.vars kept.begins s1 same each))
    done_kept (Set point var value) fine s kept =
        valued s.vars kept.begins point value fine.declares fine.fits.1 s refl kept.each _
        (λ v s1 same each q. var_kept p es args decl.params var v s1 count fine.assigns (again s.vars kept.begins s1 same each))
    done_kept (SetCell point cell value place) fine s kept =
        valued s.vars kept.begins point value fine.declares.1 fine.fits.1 s refl kept.each _
        (λ v s1 same each q. record {
          each = (written s.vars kept.begins (path_at p cell []) fine.declares.0 _ (cell_touched p wf (values_now s.vars) cell (slice_get p.cells cell) refl fine.fits.0), each);
          begins = ap (take (length args)) same ∙ kept.begins;
        })
    done_kept (SetArray point array index value place) fine s kept =
        valued s.vars kept.begins point index (declared_front p decl (acts_of p point index) (acts_of p point value) fine.declares.1) fine.fits.1 s refl kept.each _
        (λ i s1 same1 each1 stand.
        valued s.vars kept.begins point value (declared_back p decl (acts_of p point index) (acts_of p point value) fine.declares.1) fine.fits.2 s1 same1 each1 _
        (λ v s2 same2 each2 q. element_set s.vars kept.begins (path_at p array (element_of_index index ∷ [])) fine.declares.0 (element_number p array i)
        (element_touched p wf (values_now s.vars) array (element_of_index index) i (slice_get p.cells array) refl stand) (Index i) v place s2 same2 each2))
    done_kept (SetGrid point array row column value place) fine s kept =
        let rest = declared_back p decl (acts_of p point row) (acts_of p point column ++ acts_of p point value) fine.declares.1 in
        valued s.vars kept.begins point row (declared_front p decl (acts_of p point row) (acts_of p point column ++ acts_of p point value) fine.declares.1) fine.fits.1 s refl kept.each _
        (λ i s1 same1 each1 first.
        valued s.vars kept.begins point column (declared_front p decl (acts_of p point column) (acts_of p point value) rest) fine.fits.2 s1 same1 each1 _
        (λ j s2 same2 each2 second.
        valued s.vars kept.begins point value (declared_back p decl (acts_of p point column) (acts_of p point value) rest) fine.fits.3 s2 same2 each2 _
        (λ v s3 same3 each3 q. element_set s.vars kept.begins (path_at p array (element_of_index row ∷ element_of_index column ∷ [])) fine.declares.0 (grid_element_number p array i j)
        (grid_element_touched p wf (values_now s.vars) array (element_of_index row) (element_of_index column) i j (slice_get p.cells array) refl first second) (GridIndex i j) v place s3 same3 each3)))
    done_kept (If point arms) fine s kept = arms_kept 0 point arms (record { declares = fine.declares; fits = fine.fits; assigns = fine.assigns }) s kept
    done_kept (While point condition body place) fine s kept =
        let inside : AllFine p decl body = record { declares = declared_back p decl (acts_of p point condition) (acts_in_all p body) fine.declares; fits = fine.fits.1; assigns = fine.assigns } in
        valued s.vars kept.begins point condition (declared_front p decl (acts_of p point condition) (acts_in_all p body) fine.declares) fine.fits.0 s refl kept.each _
        (λ v s1 same1 each1 q. turned_kept p decl es args (is_true v) place (done_all below p 0 0 body) (below (While point condition body place)) s1 (again s.vars kept.begins s1 same1 each1)
        (λ s2 kept2. all_kept 0 0 body inside s2 kept2)
        (λ s2 kept2. keeps decl sound args count es within (While point condition body place) fine s2 kept2))
    done_kept (Return point None) fine s kept = kept
    done_kept (Return point (Some value)) fine s kept =
        valued s.vars kept.begins point value fine.declares fine.fits.1 s refl kept.each _ (λ v s1 same each q. again s.vars kept.begins s1 same each)
    done_kept (Print point value place) fine s kept =
        valued s.vars kept.begins point value fine.declares.1 fine.fits s refl kept.each _
        (λ v s1 same1 each1 q. taken s.vars place s1 same1 each1 _
        (λ unit s2 same2 each2. record {
          each = (written s.vars kept.begins console_element fine.declares.0 (region 0 ∷ []) refl, each2);
          begins = ap (take (length args)) same2 ∙ kept.begins;
        }))
    done_kept (Call point method given place) fine s kept =
        all_valued s.vars kept.begins point given fine.declares.1 fine.fits.1 s refl kept.each _
        (λ values s1 same1 each1 stand.
        do_kept p decl es args s.vars AnyValue (called below p method values place s1) _
        (called_kept p wf methods below keeps decl sound args count es within s.vars kept.begins method (elements_of given) values stand.0
        (subst (λ (n : ℕ). TakesArguments (slice_get p.methods method) n) (sym stand.1) fine.fits.0) fine.declares.0 place s1 same1 each1)
        (λ value s2 same2 each2 q. again s.vars kept.begins s2 same2 each2))
    done_kept (Make point future task given spawned future_place place) fine s kept =
        all_valued s.vars kept.begins point given fine.declares.1 fine.fits.1 s refl kept.each _
        (λ values s1 same1 each1 stand. taken s.vars place s1 same1 each1 _
        (λ unit s2 same2 each2. (
          again s.vars kept.begins s2 same2 each2,
          (
            subst (λ (n : ℕ). TakesArguments (slice_get p.tasks task) n) (sym stand.1) fine.fits.0,
            spawn_kept s.vars kept.begins task (elements_of given) values stand.0 spawned (slice_get p.tasks task) refl fine.declares.0,
          ),
        )))
    done_kept (Wait point future join into place) fine s kept =
        taken s.vars place s refl kept.each _
        (λ unit s1 same1 each1. (again s.vars kept.begins s1 same1 each1, subst (λ (n : ℕ). IntoFrom n into) count fine.assigns))

    pub all_kept : (block at : ℕ) (stmts : Statements) → AllFine p decl stmts → (s : Store) → Kept p es args s → Keeps (done_all below p block at stmts s)
    all_kept block at no_more fine s kept = kept
    all_kept block at (statement first others) fine s kept =
        let here : Fine p decl first = record { declares = declared_front p decl (acts_in p first) (acts_in_all p others) fine.declares; fits = fine.fits.0; assigns = fine.assigns.0 } in
        let rest : AllFine p decl others = record { declares = declared_back p decl (acts_in p first) (acts_in_all p others) fine.declares; fits = fine.fits.1; assigns = fine.assigns.1 } in
        go_kept p decl es args (stopped_at block (at + 1) (done_by below p first s)) _
        (stopped_kept p decl es args block (at + 1) (done_by below p first s) (done_kept first here s kept))
        (λ s1 kept1. all_kept block (at + 1) others rest s1 kept1)

    pub arms_kept : (block point : ℕ) (arms : Arms) → ArmsFine p decl point arms → (s : Store) → Kept p es args s → Keeps (done_arms below p block arms s)
    arms_kept block point (arm condition body others) fine s kept =
        let after = declared_back p decl (acts_of p point condition) (acts_in_all p body ++ acts_in_one p point others) fine.declares in
        let inside : AllFine p decl body = record { declares = declared_front p decl (acts_in_all p body) (acts_in_one p point others) after; fits = fine.fits.1; assigns = fine.assigns.0 } in
        let rest : ArmsFine p decl point others = record { declares = declared_back p decl (acts_in_all p body) (acts_in_one p point others) after; fits = fine.fits.2; assigns = fine.assigns.1 } in
        valued s.vars kept.begins point condition (declared_front p decl (acts_of p point condition) (acts_in_all p body ++ acts_in_one p point others) fine.declares) fine.fits.0 s refl kept.each _
        (λ v s1 same1 each1 q.
        let kept1 = again s.vars kept.begins s1 same1 each1 in
        chosen_kept p decl es args (is_true v) _ _ (all_kept block 0 body inside s1 kept1) (arms_kept (block + 1) point others rest s1 kept1))
    arms_kept block point (otherwise body) fine s kept = all_kept block 0 body (record { declares = fine.declares; fits = fine.fits; assigns = fine.assigns }) s kept
    arms_kept block point no_else fine s kept = kept

-- each statement accesses only what its declaration declares, whatever the bound
pub within_keeps : (p : Program) → IsWellFormed p → ((i : ℕ) (decl : Decl) → slice_get p.methods i ≡ Some decl → Sound p decl) → (n : ℕ) → BelowKeeps p (done_within p n)
within_keeps p wf methods zero decl sound args count es within stmt fine s kept = kept
within_keeps p wf methods (suc n) decl sound args count es within stmt fine s kept =
    done_kept p wf methods (done_within p n) (within_keeps p wf methods n) decl sound args count es within stmt fine s kept
