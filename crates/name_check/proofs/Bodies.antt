-- The steps of a walk over a body.
use Rattle.std.proofs.Common.{◌≡◌, ℕ, ◌+◌, ◌<◌, ◌≤◌, List, [], ◌∷◌, ◌++◌, Option, length, get_or, drop, Some, arith, refl, sym, ap, ◌∙◌, subst}
use Rattle.std.proofs.lemmas.List.{drop_more, drop_all}
use Rattle.twe_base.specs.declared.place.Place.{Place}
use Rattle.twe_ast.specs.declared.item.ReturnType.{ReturnType}
use Rattle.twe_ast.specs.declared.stmt.Arm.{Arm}
use Rattle.twe_ast.specs.declared.stmt.LocalType.TheVariants.{Boolean}
use Rattle.twe_ast.specs.Expression.{Expression}
use Rattle.twe_ast.specs.Statement.{Statement, Statements, end_of_block, statement, Arms, arm}
use Rattle.twe_ast.specs.inner.StatementView.{statements_of, arms_of, last_of}
use Rattle.twe_ast.specs.inner.StatementSize.{depth_of_all, depth_of_arms}
use Rattle.name_check.specs.Ends.{close_of}
use Rattle.name_check.specs.declared.names.GlobalName.{GlobalName}
use Rattle.name_check.specs.declared.scope.BodyScope.{BodyScope}
use Rattle.name_check.specs.FailsName.{NameFailure}
use Rattle.name_check.specs.BodyScope.{after, after_all, after_arms, after_block}
use Rattle.name_check.specs.Size.{statements_in_all, statements_in_arms}
use Rattle.name_check.specs.Asks.{asks_of}
use Rattle.name_check.specs.Sites.{Site, sites_at, sites_in, sites_in_all, sites_in_arms}
use Rattle.name_check.specs.inner.Failures.{first_of_asks, first_of_sites}
use Rattle.name_check.specs.inner.Room.{HasRoom}
use Rattle.name_check.proofs.FirstSites.{first_of_expression, first_of_sites-append}
use Rattle.name_check.proofs.Rooms.{room_after, room_after_block, seen_outside}

pub close_is : (items : List Statement) (close : Place) → close_of (statements_of items close) ≡ close
close_is [] close = refl
close_is (first ∷ others) close = close_is others close

pub ruleset body_steps = (first_of_expression, first_of_sites-append, seen_outside, close_is)

-- what is left of a block at a place, and behind its end
pub next_statement : (items : List Statement) (close : Place) (i : ℕ) (item : Statement) → i < length items → get_or items i item ≡ item
    → statements_of (drop i items) close ≡ statement item (statements_of (drop (i + 1) items) close)
next_statement items close i item below is = ap (λ xs. statements_of xs close) (drop_more items i item below ∙ ap (λ x. x ∷ drop (i + 1) items) is)

pub no_statement : (items : List Statement) (close : Place) (i : ℕ) → length items ≤ i → statements_of (drop i items) close ≡ end_of_block close
no_statement items close i past = ap (λ xs. statements_of xs close) (drop_all i items past)

-- the same of the arms of an `if`
pub next_arm : (items : List Arm) (last : Option Statements) (i : ℕ) (item : Arm) → i < length items → get_or items i item ≡ item
    → arms_of (drop i items) last ≡ arm item.condition item.body (arms_of (drop (i + 1) items) last)
next_arm items last i item below is = ap (λ xs. arms_of xs last) (drop_more items i item below ∙ ap (λ x. x ∷ drop (i + 1) items) is)

pub no_arm : (items : List Arm) (last : Option Statements) (i : ℕ) → length items ≤ i → arms_of (drop i items) last ≡ last_of last
no_arm items last i past = ap (λ xs. arms_of xs last) (drop_all i items past)

module _ (globals : List GlobalName) (returns : ReturnType) (here new : BodyScope) (first now : Option NameFailure) where
  -- one statement of a block on
  module _ (block rest : Statements) (stmt : Statement) (is : block ≡ statement stmt rest) (passed : new ≡ after globals here stmt) where
    pub block_passed : (all : BodyScope) → after_all globals here block ≡ all → after_all globals new rest ≡ all
    block_passed all h = ap (λ x. after_all globals x rest) passed ∙ (ap (after_all globals here) (sym is) ∙ h)

    pub block_reported : now ≡ first_of_sites globals first (sites_in globals returns here stmt) → (all : Option NameFailure)
        → first_of_sites globals first (sites_in_all globals returns here block) ≡ all → first_of_sites globals now (sites_in_all globals returns new rest) ≡ all
    block_reported reported all h =
        ap (λ f. first_of_sites globals f (sites_in_all globals returns new rest)) reported
        ∙ (ap (λ x. first_of_sites globals (first_of_sites globals first (sites_in globals returns here stmt)) (sites_in_all globals returns x rest)) passed
        ∙ (sym (first_of_sites-append globals first (sites_in globals returns here stmt) (sites_in_all globals returns (after globals here stmt) rest))
        ∙ (ap (λ b. first_of_sites globals first (sites_in_all globals returns here b)) (sym is) ∙ h)))

    pub block_room : HasRoom here (statements_in_all block) → HasRoom new (statements_in_all rest)
    block_room room =
        subst (λ x. HasRoom x (statements_in_all rest)) (sym passed)
        (room_after globals here stmt (statements_in_all rest) (subst (λ b. HasRoom here (statements_in_all b)) is room))

-- the block of the last `else` is less deep than its `if`
pub last_arm : (items : List Arm) (body : Statements) → depth_of_all body + 1 ≤ depth_of_arms (arms_of items (Some body))
last_arm [] body = omega arith
last_arm (first ∷ others) body = omega (arith, last_arm others body)

module _ (globals : List GlobalName) (returns : ReturnType) (here new : BodyScope) (first between now : Option NameFailure) where
  -- one arm of an `if` on
  module _ (arms rest : Arms) (condition : Expression) (body : Statements) (is : arms ≡ arm condition body rest) (passed : new ≡ after_block globals here body) where
    pub arms_passed : (all : BodyScope) → after_arms globals here arms ≡ all → after_arms globals new rest ≡ all
    arms_passed all h = ap (λ x. after_arms globals x rest) passed ∙ (ap (after_arms globals here) (sym is) ∙ h)

    pub arms_reported : between ≡ first_of_asks globals here.locals first (asks_of globals here.locals (Some Boolean) condition)
        → now ≡ first_of_sites globals between (sites_in_all globals returns here body) → (all : Option NameFailure)
        → first_of_sites globals first (sites_in_arms globals returns here arms) ≡ all → first_of_sites globals now (sites_in_arms globals returns new rest) ≡ all
    arms_reported before reported all h =
        let asked : List Site = sites_at here.locals returns (asks_of globals here.locals (Some Boolean) condition) in
        let inside : List Site = sites_in_all globals returns here body in
        let others : List Site = sites_in_arms globals returns (after_block globals here body) rest in
        let e1 : between ≡ first_of_sites globals first asked = before ∙ sym (first_of_expression globals here.locals returns first (Some Boolean) condition) in
        let e2 : now ≡ first_of_sites globals (first_of_sites globals first asked) inside = reported ∙ ap (λ f. first_of_sites globals f inside) e1 in
        ap (λ f. first_of_sites globals f (sites_in_arms globals returns new rest)) e2
        ∙ (ap (λ x. first_of_sites globals (first_of_sites globals (first_of_sites globals first asked) inside) (sites_in_arms globals returns x rest)) passed
        ∙ (sym (first_of_sites-append globals (first_of_sites globals first asked) inside others)
        ∙ (sym (first_of_sites-append globals first asked (inside ++ others))
        ∙ (ap (λ b. first_of_sites globals first (sites_in_arms globals returns here b)) (sym is) ∙ h))))

    pub arms_room : HasRoom here (statements_in_arms arms) → HasRoom new (statements_in_arms rest)
    arms_room room =
        subst (λ x. HasRoom x (statements_in_arms rest)) (sym passed)
        (room_after_block globals here body (statements_in_arms rest) (subst (λ b. HasRoom here (statements_in_arms b)) is room))
