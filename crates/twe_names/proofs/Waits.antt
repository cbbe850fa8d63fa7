-- A body waits only for tasks that it has made: a future is seen after the statement that makes its task, to the end of
-- the block.
use Rattle.std.proofs.Common.{◌||◌, ℕ, ◌+◌, Bool, true, false, nat_eq, IsTrue, List, [], ◌∷◌, ◌++◌, Option, None, Some, refl}
use Rattle.std.proofs.lemmas.Bool.{eq-eqb, or_left, or_right}
use Rattle.twe_base.specs.declared.place.Place.{Place}
use Rattle.twe_ast.specs.declared.item.ReturnType.{ReturnType}
use Rattle.twe_ast.specs.declared.name.Name.{Name}
use Rattle.twe_ast.specs.declared.stmt.LocalType.TheVariants as types
use Rattle.twe_ast.specs.Statement.{Statement, Block, Let, Set, SetArray, SetGrid, If, While, Return, Print, Call, Make, Wait, LetWait, Statements, end_of_block, statement, Arms, arm, otherwise, no_else}
use Rattle.twe_program.specs.Expression.{Expression}
use Rattle.twe_program.specs.Futures.{made_after, WaitsFollow, AllWaitsFollow, ArmsWaitFollow}
use Rattle.name_check.specs.declared.binding.NameUse.TheVariants as name_use
use Rattle.name_check.specs.declared.binding.Local.{Local}
use Rattle.name_check.specs.declared.binding.Local.TheVariants as local_kinds
use Rattle.name_check.specs.declared.binding.Binding.{Binding}
use Rattle.name_check.specs.declared.binding.Binding.TheVariants as bindings
use Rattle.name_check.specs.declared.names.GlobalName.{GlobalName}
use Rattle.name_check.specs.declared.scope.LocalName.{LocalName}
use Rattle.name_check.specs.declared.scope.BodyScope.{BodyScope}
use Rattle.name_check.specs.Names.{binding_of}
use Rattle.name_check.specs.BodyScope.{counted_binding, after, after_block, params_from}
use Rattle.name_check.specs.Asks.{asks_of}
use Rattle.name_check.specs.Sites.{sites_at, sites_in, sites_in_all, sites_in_arms}
use Rattle.twe_names.specs.BodyMeaning.{future_number, expression_of, set_of, statement_of, statements_of, arms_of}
use Rattle.twe_names.proofs.Lists.{all-front, all-back}
use Rattle.twe_names.proofs.Clean.{UseClean, SiteClean, AllClean}
use Rattle.twe_names.proofs.BoundLocals.{AllLocals, HoldsOfSeen, binding_of-holds, with-one, each-later, arms-hold}

-- a future is one of those for which a task was made
abbrev pub IsMade : (ℕ → Bool) → Local → Type 0
IsMade made (local_kinds.Variable number type constant) = Unit {0}
IsMade made (local_kinds.Future number spawned void) = IsTrue (made number)

-- a parameter is no future
pub params-made : (made : ℕ → Bool) (number : ℕ) (names : List Name) → AllLocals (IsMade made) (params_from number names)
params-made made number [] = tt
params-made made number (name ∷ names) = (tt, params-made made (number + 1) names)

made-more : (made : ℕ → Bool) (future : ℕ) (l : Local) → IsMade made l → IsMade (λ f. nat_eq f future || made f) l
made-more made future (local_kinds.Variable number type constant) h = tt
made-more made future (local_kinds.Future number spawned void) h = or_right (nat_eq number future) (made number) h

-- an assignment makes no task, and waits for none
set-made : (made : ℕ → Bool) (point : ℕ) (o : Option Binding) (value : Expression) (place : Place) (locals : List LocalName)
    → AllLocals (IsMade made) locals → AllLocals (IsMade (made_after made (set_of point o value place))) locals
set-made made point None value place locals h = h
set-made made point (Some (bindings.Global global)) value place locals h = h
set-made made point (Some (bindings.Local (local_kinds.Variable number type constant))) value place locals h = h
set-made made point (Some (bindings.Local (local_kinds.Future number spawned void))) value place locals h = h

set-follows : (made : ℕ → Bool) (point : ℕ) (o : Option Binding) (value : Expression) (place : Place) → WaitsFollow made (set_of point o value place)
set-follows made point None value place = tt
set-follows made point (Some (bindings.Global global)) value place = tt
set-follows made point (Some (bindings.Local (local_kinds.Variable number type constant))) value place = tt
set-follows made point (Some (bindings.Local (local_kinds.Future number spawned void))) value place = tt

wait-follows : (made : ℕ → Bool) (join valued : Bool) (o : Option Binding) → UseClean (name_use.Future join valued) o → HoldsOfSeen (IsMade made) o → IsTrue (made (future_number o))
wait-follows made join valued None h k = absurd h
wait-follows made join valued (Some (bindings.Global global)) h k = absurd h
wait-follows made join valued (Some (bindings.Local (local_kinds.Variable number type constant))) h k = absurd h
wait-follows made join valued (Some (bindings.Local (local_kinds.Future number spawned void))) h k = k

module _ (globals : List GlobalName) (returns : ReturnType) where
  -- the task of each future that is seen was made
  abbrev Made : (ℕ → Bool) → BodyScope → Type 0
  Made made here = AllLocals (IsMade made) here.locals

  after-made : (made : ℕ → Bool) (here : BodyScope) (s : Statement) → Made made here → Made (made_after made (statement_of globals here s)) (after globals here s)
  after-made made here (Block body) known = known
  after-made made here (Let is_final local_type name value) known = with-one (IsMade made) here.locals _ known tt
  after-made made here (Set name value) known =
      set-made made here.points (binding_of globals here.locals name.text) (expression_of globals here.locals value) name.place here.locals known
  after-made made here (SetArray array index value) known = known
  after-made made here (SetGrid array row column value) known = known
  after-made made here (If arms) known = arms-hold (IsMade made) globals (counted_binding here) arms known
  after-made made here (While place condition body) known = known
  after-made made here (Return place value) known = known
  after-made made here (Print place value) known = known
  after-made made here (Call method args) known = known
  after-made made here (Make future task spawned args) known =
      let later = λ (f : ℕ). nat_eq f here.futures || made f in
      with-one (IsMade later) here.locals _ (each-later (IsMade made) (IsMade later) here.locals (made-more made here.futures) known)
      (or_left (nat_eq here.futures here.futures) (made here.futures) (eq-eqb here.futures here.futures refl))
  after-made made here (Wait wait) known = known
  after-made made here (LetWait is_final name wait) known = with-one (IsMade made) here.locals _ known tt

  mutual
    follows : (made : ℕ → Bool) (here : BodyScope) (s : Statement) → Made made here → AllClean globals (sites_in globals returns here s)
        → WaitsFollow made (statement_of globals here s)
    follows made here (Block body) known clean = all-follow made (counted_binding here) body known clean
    follows made here (Let is_final local_type name value) known clean = tt
    follows made here (Set name value) known clean =
        set-follows made here.points (binding_of globals here.locals name.text) (expression_of globals here.locals value) name.place
    follows made here (SetArray array index value) known clean = tt
    follows made here (SetGrid array row column value) known clean = tt
    follows made here (If arms) known clean = arms-follow made (counted_binding here) arms known clean
    follows made here (While place condition body) known clean =
        all-follow made (counted_binding here) body known
        (all-back (SiteClean globals) (sites_at here.locals returns (asks_of globals here.locals (Some types.Boolean) condition)) (sites_in_all globals returns (counted_binding here) body) clean)
    follows made here (Return place value) known clean = tt
    follows made here (Print place value) known clean = tt
    follows made here (Call method args) known clean = tt
    follows made here (Make future task spawned args) known clean = tt
    follows made here (Wait wait) known clean =
        wait-follows made wait.join false (binding_of globals here.locals wait.future.text) clean.0 (binding_of-holds (IsMade made) globals here.locals wait.future.text known)
    follows made here (LetWait is_final name wait) known clean =
        wait-follows made wait.join true (binding_of globals here.locals wait.future.text) clean.1.0 (binding_of-holds (IsMade made) globals here.locals wait.future.text known)

    pub all-follow : (made : ℕ → Bool) (here : BodyScope) (s : Statements) → Made made here → AllClean globals (sites_in_all globals returns here s)
        → AllWaitsFollow made (statements_of globals here s)
    all-follow made here (end_of_block close) known clean = tt
    all-follow made here (statement first others) known clean =
        let next = after globals here first in
        let own = sites_in globals returns here first in
        let more = sites_in_all globals returns next others in (
          follows made here first known (all-front (SiteClean globals) own more clean),
          all-follow (made_after made (statement_of globals here first)) next others (after-made made here first known) (all-back (SiteClean globals) own more clean),
        )

    arms-follow : (made : ℕ → Bool) (here : BodyScope) (s : Arms) → Made made here → AllClean globals (sites_in_arms globals returns here s)
        → ArmsWaitFollow made (arms_of globals here s)
    arms-follow made here (arm condition body others) known clean =
        let next = after_block globals here body in
        let own = sites_at here.locals returns (asks_of globals here.locals (Some types.Boolean) condition) in
        let inner = sites_in_all globals returns here body in
        let more = sites_in_arms globals returns next others in
        let rest = all-back (SiteClean globals) own (inner ++ more) clean in (
          all-follow made here body known (all-front (SiteClean globals) inner more rest),
          arms-follow made next others known (all-back (SiteClean globals) inner more rest),
        )
    arms-follow made here (otherwise body) known clean = all-follow made here body known clean
    arms-follow made here no_else known clean = tt
