-- What a statement means fits, where what it asks for is there.
use Rattle.std.proofs.Common.{◌≡◌, ◌<◌, ◌≤◌, ℕ, Bool, true, false, List, [], ◌∷◌, ◌++◌, Option, None, Some, slice_get, refl, sym, ap, ◌∙◌, subst, arith}
use Rattle.std.proofs.lemmas.Bool.{true≢false}
use Rattle.twe_base.specs.declared.place.Place.{Place}
use Rattle.twe_ast.specs.declared.item.ReturnType.{ReturnType}
use Rattle.twe_ast.specs.declared.item.ReturnType.TheVariants as return_types
use Rattle.twe_ast.specs.declared.stmt.LocalType.{LocalType}
use Rattle.twe_ast.specs.declared.stmt.LocalType.TheVariants as types
use Rattle.twe_ast.specs.Expression as ast
use Rattle.twe_ast.specs.Statement.{Statement, Block, Let, Set, SetArray, SetGrid, If, While, Return, Print, Call, Make, Wait, LetWait, Statements, end_of_block, statement, Arms, arm, otherwise, no_else}
use Rattle.twe_program.specs.Program.{Program}
use Rattle.twe_program.specs.Expression.{Expression}
use Rattle.twe_program.specs.Numbering.{Declared, futures_of, futures_of_all, futures_of_arms}
use Rattle.twe_program.specs.Fitting.{Scope, TakesIndexes, TakesArguments, ReturnsValue, ExpressionFits, ReturnFits, IntoFits, WaitFits, StatementFits, StatementsFit, ArmsFit}
use Rattle.name_check.specs.declared.binding.NameUse.TheVariants as name_use
use Rattle.name_check.specs.declared.binding.Global.TheVariants as global_kinds
use Rattle.name_check.specs.declared.binding.Local.TheVariants as local_kinds
use Rattle.name_check.specs.declared.binding.Binding.{Binding}
use Rattle.name_check.specs.declared.binding.Binding.TheVariants as bindings
use Rattle.name_check.specs.declared.names.GlobalName.{GlobalName}
use Rattle.name_check.specs.declared.scope.LocalName.{LocalName}
use Rattle.name_check.specs.declared.scope.BodyScope.{BodyScope}
use Rattle.name_check.specs.Names.{binding_of}
use Rattle.name_check.specs.BodyScope.{counted_binding, is_void, after, after_all, after_arms, after_block}
use Rattle.name_check.specs.Types as names
use Rattle.name_check.specs.Asks.{asks_of, place_of}
use Rattle.name_check.specs.Asks as asks
use Rattle.name_check.specs.Sites.{sites_at, sites_in, sites_in_all, sites_in_arms, target_type, asks_of_return}
use Rattle.twe_names.specs.BodyMeaning.{task_number, future_number, expression_of, value_if, set_of, statement_of, statements_of, arms_of}
use Rattle.twe_names.specs.Meaning.{returns_value}
use Rattle.twe_names.proofs.Lists.{all-append, all-front, all-back}
use Rattle.twe_names.proofs.Numbered.{numbered, numbered_all, numbered_arms}
use Rattle.twe_names.proofs.Clean.{UseClean, AskClean, AsksClean, SiteClean, AllClean, asks-clean}
use Rattle.twe_names.proofs.There.{FutureThere, LocalThere, SeenThere, GlobalsThere, AllLocalsThere, binding_of-there}
use Rattle.twe_names.proofs.ExpressionsFit.{scope_with, arguments-there, value-there, indexes-fit, call-taken, expression-fits, arguments-fit, arguments-counted}
use Rattle.twe_names.proofs.Rooms.{Room, room-front, room-back, room-future}

module _ (p : Program) (vars : ℕ) (futures : List Declared) (int : Bool) where
  abbrev scope : Scope
  scope = scope_with p vars futures int

  set-fits : (point : ℕ) (o : Option Binding) (value : Expression) (place : Place) → UseClean name_use.Target o → SeenThere p vars futures o
      → ExpressionFits scope value → StatementFits scope (set_of point o value place)
  set-fits point None value place h k fits = absurd h
  set-fits point (Some (bindings.Local (local_kinds.Variable number type constant))) value place h k fits = (k, fits)
  set-fits point (Some (bindings.Local (local_kinds.Future number spawned void))) value place h k fits = absurd h
  set-fits point (Some (bindings.Global (global_kinds.Region number))) value place h k fits = absurd h
  set-fits point (Some (bindings.Global (global_kinds.Cells number indexes))) value place h k fits = (subst (TakesIndexes (slice_get p.cells number)) h k, fits)
  set-fits point (Some (bindings.Global (global_kinds.Method number params returns))) value place h k fits = absurd h
  set-fits point (Some (bindings.Global (global_kinds.Task number params returns))) value place h k fits = absurd h

  -- the task of a future takes so many arguments, and returns a value unless the future has none
  make-fits : (args : ℕ) (o : Option Binding) → UseClean (name_use.Task args) o → SeenThere p vars futures o
      → TakesArguments (slice_get p.tasks (task_number o)) args × (is_void o ≡ false → ReturnsValue (slice_get p.tasks (task_number o)))
  make-fits args None h k = absurd h
  make-fits args (Some (bindings.Local (local_kinds.Variable number type constant))) h k = absurd h
  make-fits args (Some (bindings.Local (local_kinds.Future number spawned void))) h k = absurd h
  make-fits args (Some (bindings.Global (global_kinds.Region number))) h k = absurd h
  make-fits args (Some (bindings.Global (global_kinds.Cells number indexes))) h k = absurd h
  make-fits args (Some (bindings.Global (global_kinds.Method number params returns))) h k = absurd h
  make-fits args (Some (bindings.Global (global_kinds.Task number params return_types.Int))) h k = (
    arguments-there (slice_get p.tasks number) params args return_types.Int k h,
    λ e. value-there (slice_get p.tasks number) params return_types.Int k refl,
  )
  make-fits args (Some (bindings.Global (global_kinds.Task number params return_types.Void))) h k =
      (arguments-there (slice_get p.tasks number) params args return_types.Void k h, λ e. absurd (true≢false e))

  future-there : (spawned void : Bool) (number task : ℕ) (o : Option Declared) → o ≡ Some (record { future = number; task = task; spawned = spawned })
      → (void ≡ false → ReturnsValue (slice_get p.tasks task)) → FutureThere p o spawned void
  future-there spawned void number task o e h = subst (λ (o : Option Declared). FutureThere p o spawned void) (sym e) (refl, h)

  found-fits : (o : Option Declared) (spawned void join : Bool) (into : Option ℕ) → FutureThere p o spawned void → spawned ≡ join
      → ((task : ℕ) → (void ≡ false → ReturnsValue (slice_get p.tasks task)) → IntoFits scope task into) → WaitFits scope o join into
  found-fits None spawned void join into h e k = absurd h
  found-fits (Some future) spawned void join into h e k = (h.0 ∙ e, k future.task h.1)

  wait-fits : (join : Bool) (o : Option Binding) → UseClean (name_use.Future join false) o → SeenThere p vars futures o
      → WaitFits scope (slice_get futures (future_number o)) join None
  wait-fits join None h k = absurd h
  wait-fits join (Some (bindings.Local (local_kinds.Variable number type constant))) h k = absurd h
  wait-fits join (Some (bindings.Local (local_kinds.Future number spawned void))) h k =
      found-fits (slice_get futures number) spawned void join None k h.0 (λ task into. tt)
  wait-fits join (Some (bindings.Global global)) h k = absurd h

  wait-into-fits : (join : Bool) (var : ℕ) → var < vars → (o : Option Binding) → UseClean (name_use.Future join true) o → SeenThere p vars futures o
      → WaitFits scope (slice_get futures (future_number o)) join (Some var)
  wait-into-fits join var below None h k = absurd h
  wait-into-fits join var below (Some (bindings.Local (local_kinds.Variable number type constant))) h k = absurd h
  wait-into-fits join var below (Some (bindings.Local (local_kinds.Future number spawned void))) h k =
      found-fits (slice_get futures number) spawned void join (Some var) k h.0 (λ task into. (below, into (h.1 refl)))
  wait-into-fits join var below (Some (bindings.Global global)) h k = absurd h

  module _ (globals : List GlobalName) (globals_there : GlobalsThere p globals) (returns : ReturnType) (int_is : int ≡ returns_value returns) where
    abbrev LocalsThere : BodyScope → Type 0
    LocalsThere here = AllLocalsThere p vars futures here.locals

    there : (here : BodyScope) → LocalsThere here → (text : List ℕ) → SeenThere p vars futures (binding_of globals here.locals text)
    there here locals_there text = binding_of-there p vars futures globals here.locals globals_there locals_there text

    value-fits : (here : BodyScope) → LocalsThere here → (e : ast.Expression) (type : Option LocalType)
        → AsksClean globals here.locals returns (asks_of globals here.locals type e) → ExpressionFits scope (expression_of globals here.locals e)
    value-fits here locals_there e type h = expression-fits p vars futures int globals globals_there here.locals locals_there returns e type h

    return-fits : (here : BodyScope) → LocalsThere here → (place : Place) (value : Option ast.Expression)
        → AsksClean globals here.locals returns (asks_of_return globals here.locals value (asks.returns_nothing place))
        → ReturnFits scope (value_if globals here.locals value)
    return-fits here locals_there place None h = int_is ∙ ap returns_value h.0
    return-fits here locals_there place (Some value) h = (int_is ∙ ap returns_value h.0, value-fits here locals_there value (Some types.Int) h.1)

    with-local : (here : BodyScope) (name : LocalName) → LocalsThere here → LocalThere p vars futures name.local
        → AllLocalsThere p vars futures (here.locals ++ name ∷ [])
    with-local here name locals_there one =
        all-append (λ (l : LocalName). LocalThere p vars futures l.local) here.locals (name ∷ []) locals_there (one, tt)

    -- arms leave what is seen as it was
    arms-there : (here : BodyScope) (s : Arms) → LocalsThere here → LocalsThere (after_arms globals here s)
    arms-there here (arm condition body others) h = arms-there (after_block globals here body) others h
    arms-there here (otherwise body) h = h
    arms-there here no_else h = h

    asked-at : (here : BodyScope) (a : List asks.Ask) → AllClean globals (sites_at here.locals returns a) → AsksClean globals here.locals returns a
    asked-at here a h = asks-clean globals here.locals returns a h

    mutual
      pub statement-fits : (here : BodyScope) (s : Statement) → LocalsThere here
          → Room vars futures here.futures (after globals here s).vars (futures_of (statement_of globals here s))
          → AllClean globals (sites_in globals returns here s)
          → StatementFits scope (statement_of globals here s) × LocalsThere (after globals here s)
      statement-fits here (Block body) seen_there room clean = (statements-fit (counted_binding here) body seen_there room clean, seen_there)
      statement-fits here (Let is_final local_type name value) seen_there room clean =
          let h = asked-at here (asks.declares name ∷ asks_of globals here.locals (Some local_type) value) clean in
          let below : here.vars < vars = omega (arith, room.vars_fit) in
          ((below, value-fits here seen_there value (Some local_type) h.1), with-local here _ seen_there below)
      statement-fits here (Set name value) seen_there room clean =
          let o = binding_of globals here.locals name.text in
          let type = target_type o in
          let h = asked-at here (asks.uses name name_use.Target ∷ asks_of globals here.locals (Some type) value) clean in (
            set-fits here.points o (expression_of globals here.locals value) name.place h.0 (there here seen_there name.text)
                (value-fits here seen_there value (Some type) h.1),
            seen_there,
          )
      statement-fits here (SetArray array index value) seen_there room clean =
          let a = asks_of globals here.locals (Some types.Int) index in
          let b = asks_of globals here.locals (Some types.Int) value in
          let h = asked-at here (asks.uses array (name_use.Array 1) ∷ (a ++ b)) clean in
          let P = AskClean globals here.locals returns in (
            (
              indexes-fit p vars futures int 1 (binding_of globals here.locals array.text) h.0 (there here seen_there array.text),
              value-fits here seen_there index (Some types.Int) (all-front P a b h.1),
              value-fits here seen_there value (Some types.Int) (all-back P a b h.1),
            ),
            seen_there,
          )
      statement-fits here (SetGrid array row column value) seen_there room clean =
          let a = asks_of globals here.locals (Some types.Int) row in
          let b = asks_of globals here.locals (Some types.Int) column in
          let c = asks_of globals here.locals (Some types.Int) value in
          let h = asked-at here (asks.uses array (name_use.Array 2) ∷ (a ++ (b ++ c))) clean in
          let P = AskClean globals here.locals returns in
          let later = all-back P a (b ++ c) h.1 in (
            (
              indexes-fit p vars futures int 2 (binding_of globals here.locals array.text) h.0 (there here seen_there array.text),
              value-fits here seen_there row (Some types.Int) (all-front P a (b ++ c) h.1),
              value-fits here seen_there column (Some types.Int) (all-front P b c later),
              value-fits here seen_there value (Some types.Int) (all-back P b c later),
            ),
            seen_there,
          )
      statement-fits here (If arms) seen_there room clean = (arms-fit (counted_binding here) arms seen_there room clean, arms-there (counted_binding here) arms seen_there)
      statement-fits here (While place condition body) seen_there room clean =
          let a = asks_of globals here.locals (Some types.Boolean) condition in
          let own = sites_at here.locals returns a in
          let inner = sites_in_all globals returns (counted_binding here) body in (
            (
              value-fits here seen_there condition (Some types.Boolean) (asked-at here a (all-front (SiteClean globals) own inner clean)),
              statements-fit (counted_binding here) body seen_there room (all-back (SiteClean globals) own inner clean),
            ),
            seen_there,
          )
      statement-fits here (Return place value) seen_there room clean =
          let h = asked-at here (asks_of_return globals here.locals value (asks.returns_nothing place)) clean in
          (return-fits here seen_there place value h, seen_there)
      statement-fits here (Print place value) seen_there room clean =
          (value-fits here seen_there value (Some types.Int) (asked-at here (asks_of globals here.locals (Some types.Int) value) clean), seen_there)
      statement-fits here (Call method args) seen_there room clean =
          let h = asked-at here (asks.uses method (name_use.Method (names.argument_count args) false) ∷ asks.asks_of_all globals here.locals args) clean in
          let taken = call-taken p vars futures int globals globals_there here.locals seen_there returns method.text args false h.0 in
          ((taken.0, arguments-fit p vars futures int globals globals_there here.locals seen_there returns args h.1), seen_there)
      statement-fits here (Make future task spawned args) seen_there room clean =
          let h = asked-at here (asks.declares future ∷ asks.uses task (name_use.Task (names.argument_count args)) ∷ asks.asks_of_all globals here.locals args) clean in
          let o = binding_of globals here.locals task.text in
          let fits = make-fits (names.argument_count args) o h.1.0 (there here seen_there task.text) in
          let one : Declared = record { future = here.futures; task = task_number o; spawned = spawned } in
          let found = room-future vars futures here.futures (after globals here (Make future task spawned args)).vars one room in (
            (
              subst (TakesArguments (slice_get p.tasks (task_number o))) (sym (arguments-counted p vars futures int globals globals_there here.locals seen_there returns args)) fits.0,
              arguments-fit p vars futures int globals globals_there here.locals seen_there returns args h.1.1,
            ),
            with-local here _ seen_there (future-there spawned (is_void o) here.futures (task_number o) (slice_get futures here.futures) found fits.1),
          )
      statement-fits here (Wait wait) seen_there room clean =
          let h = asked-at here (asks.uses wait.future (name_use.Future wait.join false) ∷ []) clean in
          (wait-fits wait.join (binding_of globals here.locals wait.future.text) h.0 (there here seen_there wait.future.text), seen_there)
      statement-fits here (LetWait is_final name wait) seen_there room clean =
          let h = asked-at here (asks.declares name ∷ asks.uses wait.future (name_use.Future wait.join true) ∷ []) clean in
          let below : here.vars < vars = omega (arith, room.vars_fit) in (
            wait-into-fits wait.join here.vars below (binding_of globals here.locals wait.future.text) h.1.0 (there here seen_there wait.future.text),
            with-local here _ seen_there below,
          )

      pub statements-fit : (here : BodyScope) (s : Statements) → LocalsThere here
          → Room vars futures here.futures (after_all globals here s).vars (futures_of_all (statements_of globals here s))
          → AllClean globals (sites_in_all globals returns here s) → StatementsFit scope (statements_of globals here s)
      statements-fit here (end_of_block close) seen_there room clean = tt
      statements-fit here (statement first others) seen_there room clean =
          let next = after globals here first in
          let to = after_all globals next others in
          let fs = futures_of (statement_of globals here first) in
          let gs = futures_of_all (statements_of globals next others) in
          let grows : next.vars ≤ to.vars = omega (arith, (numbered_all globals next others).locals_end) in
          let own = sites_in globals returns here first in
          let more = sites_in_all globals returns next others in
          let one = statement-fits here first seen_there (room-front vars futures here.futures next.vars to.vars fs gs room grows) (all-front (SiteClean globals) own more clean) in (
            one.0,
            statements-fit next others one.1 (room-back vars futures here.futures next.futures to.vars fs gs room (numbered globals here first).futures_end)
                (all-back (SiteClean globals) own more clean),
          )

      pub arms-fit : (here : BodyScope) (s : Arms) → LocalsThere here
          → Room vars futures here.futures (after_arms globals here s).vars (futures_of_arms (arms_of globals here s))
          → AllClean globals (sites_in_arms globals returns here s) → ArmsFit scope (arms_of globals here s)
      arms-fit here no_else seen_there room clean = tt
      arms-fit here (otherwise body) seen_there room clean = statements-fit here body seen_there room clean
      arms-fit here (arm condition body others) seen_there room clean =
          let next = after_block globals here body in
          let to = after_arms globals next others in
          let fs = futures_of_all (statements_of globals here body) in
          let gs = futures_of_arms (arms_of globals next others) in
          let grows : next.vars ≤ to.vars = omega (arith, (numbered_arms globals next others).locals_end) in
          let a = asks_of globals here.locals (Some types.Boolean) condition in
          let own = sites_at here.locals returns a in
          let inner = sites_in_all globals returns here body in
          let more = sites_in_arms globals returns next others in
          let later = all-back (SiteClean globals) own (inner ++ more) clean in (
            value-fits here seen_there condition (Some types.Boolean) (asked-at here a (all-front (SiteClean globals) own (inner ++ more) clean)),
            statements-fit here body seen_there (room-front vars futures here.futures next.vars to.vars fs gs room grows) (all-front (SiteClean globals) inner more later),
            arms-fit next others seen_there (room-back vars futures here.futures next.futures to.vars fs gs room (numbered_all globals here body).futures_end)
                (all-back (SiteClean globals) inner more later),
          )
