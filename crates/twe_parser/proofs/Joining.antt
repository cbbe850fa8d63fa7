-- Lists put in front of the statements of a block and of the arms of an `if`.
use Rattle.std.proofs.Common.{◌≡◌, List, [], ◌∷◌, ◌++◌, None, Some, refl, ap}
use Rattle.twe_base.specs.declared.place.Place.{Place}
use Rattle.twe_ast.specs.declared.stmt.Arm.{Arm}
use Rattle.twe_ast.specs.Expression.{Expression}
use Rattle.twe_ast.specs.Statement.{Statement, Statements, end_of_block, statement, Arms, arm, otherwise, no_else}
use Rattle.twe_ast.specs.inner.StatementView.{statements_of, arms_of}

abbrev pub joined : List Statement → Statements → Statements
joined [] body = body
joined (first ∷ others) body = statement first (joined others body)

pub joined_end : (done : List Statement) (close : Place) → statements_of done close ≡ joined done (end_of_block close)
joined_end [] close = refl
joined_end (first ∷ others) close = ap (statement first) (joined_end others close)

pub joined_more : (done : List Statement) (s : Statement) (body : Statements) → joined (done ++ s ∷ []) body ≡ joined done (statement s body)
joined_more [] s body = refl
joined_more (first ∷ others) s body = ap (statement first) (joined_more others s body)

abbrev pub joined_arms : List Arm → Arms → Arms
joined_arms [] arms = arms
joined_arms (first ∷ others) arms = arm first.condition first.body (joined_arms others arms)

pub joined_none : (done : List Arm) → arms_of done None ≡ joined_arms done no_else
joined_none [] = refl
joined_none (first ∷ others) = ap (arm first.condition first.body) (joined_none others)

pub joined_last : (done : List Arm) (body : Statements) → arms_of done (Some body) ≡ joined_arms done (otherwise body)
joined_last [] body = refl
joined_last (first ∷ others) body = ap (arm first.condition first.body) (joined_last others body)

pub joined_arm : (done : List Arm) (condition : Expression) (body : Statements) (arms : Arms) → joined_arms (done ++ (record { condition = condition; body = body }) ∷ []) arms ≡ joined_arms done (arm condition body arms)
joined_arm [] condition body arms = refl
joined_arm (first ∷ others) condition body arms = ap (arm first.condition first.body) (joined_arm others condition body arms)
