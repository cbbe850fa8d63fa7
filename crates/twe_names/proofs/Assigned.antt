-- What a body assigns comes after the parameters.
use Rattle.std.proofs.Common.{◌≡◌, ◌≤◌, ℕ, ◌+◌, false, List, [], ◌∷◌, ◌++◌, Option, None, Some, arith}
use Rattle.std.proofs.lemmas.Bool.{true≢false}
use Rattle.twe_base.specs.declared.place.Place.{Place}
use Rattle.twe_ast.specs.declared.item.ReturnType.{ReturnType}
use Rattle.twe_ast.specs.declared.name.Name.{Name}
use Rattle.twe_ast.specs.declared.stmt.LocalType.TheVariants as types
use Rattle.twe_ast.specs.Statement.{Statement, Block, Let, Set, SetArray, SetGrid, If, While, Return, Print, Call, Make, Wait, LetWait, Statements, end_of_block, statement, Arms, arm, otherwise, no_else}
use Rattle.twe_program.specs.Expression.{Expression}
use Rattle.twe_program.specs.Params.{SetsFrom, AllSetFrom, ArmsSetFrom}
use Rattle.name_check.specs.declared.binding.NameUse.TheVariants as name_use
use Rattle.name_check.specs.declared.binding.Local.{Local}
use Rattle.name_check.specs.declared.binding.Local.TheVariants as local_kinds
use Rattle.name_check.specs.declared.binding.Binding.{Binding}
use Rattle.name_check.specs.declared.binding.Binding.TheVariants as bindings
use Rattle.name_check.specs.declared.names.GlobalName.{GlobalName}
use Rattle.name_check.specs.declared.scope.BodyScope.{BodyScope}
use Rattle.name_check.specs.Names.{binding_of}
use Rattle.name_check.specs.BodyScope.{counted_binding, after, after_block, params_from}
use Rattle.name_check.specs.Asks.{asks_of}
use Rattle.name_check.specs.Sites.{sites_at, sites_in, sites_in_all, sites_in_arms}
use Rattle.twe_names.specs.BodyMeaning.{expression_of, set_of, statement_of, statements_of, arms_of}
use Rattle.twe_names.proofs.Lists.{all-front, all-back}
use Rattle.twe_names.proofs.Numbered.{numbered, numbered_all}
use Rattle.twe_names.proofs.Clean.{UseClean, SiteClean, AllClean}
use Rattle.twe_names.proofs.BoundLocals.{AllLocals, HoldsOfSeen, binding_of-holds, with-one, arms-hold}

-- a local that may be assigned has this number or a higher one
abbrev pub FreeFrom : ℕ → Local → Type 0
FreeFrom n (local_kinds.Variable number type constant) = constant ≡ false → n ≤ number
FreeFrom n (local_kinds.Future number spawned void) = Unit {0}

-- no parameter may be assigned
pub params-free : (n number : ℕ) (names : List Name) → AllLocals (FreeFrom n) (params_from number names)
params-free n number [] = tt
params-free n number (name ∷ names) = (λ e. absurd (true≢false e), params-free n (number + 1) names)

set-from : (n point : ℕ) (o : Option Binding) (value : Expression) (place : Place) → UseClean name_use.Target o → HoldsOfSeen (FreeFrom n) o → SetsFrom n (set_of point o value place)
set-from n point None value place may free = absurd may
set-from n point (Some (bindings.Global global)) value place may free = tt
set-from n point (Some (bindings.Local (local_kinds.Variable number type constant))) value place may free = free may
set-from n point (Some (bindings.Local (local_kinds.Future number spawned void))) value place may free = absurd may

module _ (globals : List GlobalName) (returns : ReturnType) (n : ℕ) where
  abbrev Free : BodyScope → Type 0
  Free here = AllLocals (FreeFrom n) here.locals

  after-free : (here : BodyScope) (s : Statement) → Free here → n ≤ here.vars → Free (after globals here s)
  after-free here (Block body) free below = free
  after-free here (Let is_final local_type name value) free below = with-one (FreeFrom n) here.locals _ free (λ e. below)
  after-free here (Set name value) free below = free
  after-free here (SetArray array index value) free below = free
  after-free here (SetGrid array row column value) free below = free
  after-free here (If arms) free below = arms-hold (FreeFrom n) globals (counted_binding here) arms free
  after-free here (While place condition body) free below = free
  after-free here (Return place value) free below = free
  after-free here (Print place value) free below = free
  after-free here (Call method args) free below = free
  after-free here (Make future task spawned args) free below = with-one (FreeFrom n) here.locals _ free tt
  after-free here (Wait wait) free below = free
  after-free here (LetWait is_final name wait) free below = with-one (FreeFrom n) here.locals _ free (λ e. below)

  mutual
    sets : (here : BodyScope) (s : Statement) → Free here → n ≤ here.vars → AllClean globals (sites_in globals returns here s) → SetsFrom n (statement_of globals here s)
    sets here (Block body) free below clean = all-set (counted_binding here) body free below clean
    sets here (Let is_final local_type name value) free below clean = tt
    sets here (Set name value) free below clean =
        set-from n here.points (binding_of globals here.locals name.text) (expression_of globals here.locals value) name.place clean.0 (binding_of-holds (FreeFrom n) globals here.locals name.text free)
    sets here (SetArray array index value) free below clean = tt
    sets here (SetGrid array row column value) free below clean = tt
    sets here (If arms) free below clean = arms-set (counted_binding here) arms free below clean
    sets here (While place condition body) free below clean =
        all-set (counted_binding here) body free below
        (all-back (SiteClean globals) (sites_at here.locals returns (asks_of globals here.locals (Some types.Boolean) condition)) (sites_in_all globals returns (counted_binding here) body) clean)
    sets here (Return place value) free below clean = tt
    sets here (Print place value) free below clean = tt
    sets here (Call method args) free below clean = tt
    sets here (Make future task spawned args) free below clean = tt
    sets here (Wait wait) free below clean = tt
    sets here (LetWait is_final name wait) free below clean = tt

    pub all-set : (here : BodyScope) (s : Statements) → Free here → n ≤ here.vars → AllClean globals (sites_in_all globals returns here s) → AllSetFrom n (statements_of globals here s)
    all-set here (end_of_block close) free below clean = tt
    all-set here (statement first others) free below clean =
        let next = after globals here first in
        let own = sites_in globals returns here first in
        let more = sites_in_all globals returns next others in
        let later : n ≤ next.vars = omega (arith, below, (numbered globals here first).locals_end) in (
          sets here first free below (all-front (SiteClean globals) own more clean),
          all-set next others (after-free here first free below) later (all-back (SiteClean globals) own more clean),
        )

    arms-set : (here : BodyScope) (s : Arms) → Free here → n ≤ here.vars → AllClean globals (sites_in_arms globals returns here s) → ArmsSetFrom n (arms_of globals here s)
    arms-set here (arm condition body others) free below clean =
        let next = after_block globals here body in
        let own = sites_at here.locals returns (asks_of globals here.locals (Some types.Boolean) condition) in
        let inner = sites_in_all globals returns here body in
        let more = sites_in_arms globals returns next others in
        let rest = all-back (SiteClean globals) own (inner ++ more) clean in
        let later : n ≤ next.vars = omega (arith, below, (numbered_all globals here body).locals_end) in (
          all-set here body free below (all-front (SiteClean globals) inner more rest),
          arms-set next others free later (all-back (SiteClean globals) inner more rest),
        )
    arms-set here (otherwise body) free below clean = all-set here body free below clean
    arms-set here no_else free below clean = tt
