-- The steps of a walk over a body.
use Rattle.std.proofs.Common.{◌≡◌, List, ◌++◌, Some, sym, ap, ◌∙◌}
use Rattle.twe_ast.specs.declared.item.ReturnType.{ReturnType}
use Rattle.twe_ast.specs.declared.stmt.LocalType.TheVariants.{Boolean}
use Rattle.twe_ast.specs.Expression.{Expression}
use Rattle.twe_ast.specs.Statement.{Statement, Statements, statement, Arms, arm}
use Rattle.name_check.specs.declared.names.GlobalName.{GlobalName}
use Rattle.name_check.specs.declared.scope.BodyScope.{BodyScope}
use Rattle.name_check.specs.BodyScope.{after, after_block}
use Rattle.name_check.specs.Asks.{asks_of}
use Rattle.name_check.specs.Sites.{Site, sites_at, sites_in, sites_in_all, sites_in_arms}
use Rattle.name_check.proofs.Bodies.{close_is}
use Rattle.name_check.proofs.Rooms.{seen_outside}
use Rattle.name_causes.specs.declared.need.PlacedNeed.{PlacedNeed}
use Rattle.name_causes.specs.Needs.{needs_at_sites}
use Rattle.name_causes.proofs.Listing.{needs_at-here, needs_at_sites-then}

pub ruleset body_steps = (needs_at-here, needs_at_sites-then, seen_outside, close_is)

module _ (globals : List GlobalName) (returns : ReturnType) (here new : BodyScope) (before now : List PlacedNeed) where
  -- one statement of a block on
  pub block_listed : (block rest : Statements) (stmt : Statement) → block ≡ statement stmt rest → new ≡ after globals here stmt
      → now ≡ before ++ needs_at_sites globals (sites_in globals returns here stmt) → (all : List PlacedNeed)
      → before ++ needs_at_sites globals (sites_in_all globals returns here block) ≡ all
      → now ++ needs_at_sites globals (sites_in_all globals returns new rest) ≡ all
  block_listed block rest stmt is passed listed all h =
      ap (λ zs. zs ++ needs_at_sites globals (sites_in_all globals returns new rest)) listed
      ∙ (ap (λ x. (before ++ needs_at_sites globals (sites_in globals returns here stmt)) ++ needs_at_sites globals (sites_in_all globals returns x rest)) passed
      ∙ (sym (needs_at_sites-then globals before (sites_in globals returns here stmt) (sites_in_all globals returns (after globals here stmt) rest))
      ∙ (ap (λ b. before ++ needs_at_sites globals (sites_in_all globals returns here b)) (sym is) ∙ h)))

module _ (globals : List GlobalName) (returns : ReturnType) (here new : BodyScope) (before between now : List PlacedNeed) where
  -- one arm of an `if` on
  pub arms_listed : (arms rest : Arms) (condition : Expression) (body : Statements) → arms ≡ arm condition body rest → new ≡ after_block globals here body
      → between ≡ before ++ needs_at_sites globals (sites_at here.locals returns (asks_of globals here.locals (Some Boolean) condition))
      → now ≡ between ++ needs_at_sites globals (sites_in_all globals returns here body) → (all : List PlacedNeed)
      → before ++ needs_at_sites globals (sites_in_arms globals returns here arms) ≡ all
      → now ++ needs_at_sites globals (sites_in_arms globals returns new rest) ≡ all
  arms_listed arms rest condition body is passed first listed all h =
      let asked : List Site = sites_at here.locals returns (asks_of globals here.locals (Some Boolean) condition) in
      let inside : List Site = sites_in_all globals returns here body in
      let others : List Site = sites_in_arms globals returns (after_block globals here body) rest in
      ap (λ zs. zs ++ needs_at_sites globals (sites_in_arms globals returns new rest)) (listed ∙ ap (λ zs. zs ++ needs_at_sites globals inside) first)
      ∙ (ap (λ x. ((before ++ needs_at_sites globals asked) ++ needs_at_sites globals inside) ++ needs_at_sites globals (sites_in_arms globals returns x rest)) passed
      ∙ (sym (needs_at_sites-then globals (before ++ needs_at_sites globals asked) inside others)
      ∙ (sym (needs_at_sites-then globals before asked (inside ++ others))
      ∙ (ap (λ b. before ++ needs_at_sites globals (sites_in_arms globals returns here b)) (sym is) ∙ h))))
