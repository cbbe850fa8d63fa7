-- Each block of an `if` has a smaller depth than its arms together.
use Rattle.std.specs.Prelude.{◌+◌, ◌≤◌, List, [], ◌∷◌, Option, None, Some}
use Rattle.std.proofs.Common.{arith}
use Rattle.twe_ast.specs.Statement.{Statements}
use Rattle.twe_ast.specs.declared.stmt.Arm.{Arm}
use Rattle.twe_ast.specs.declared.stmt.Arms.TheInside.{Inside}
use Rattle.twe_ast.specs.declared.stmt.Arms.TheDeep.{deep-Arm, deep-Arms}
use Rattle.twe_ast.specs.inner.StatementSize.{depth_of_all, depth_of_arms}
use Rattle.twe_ast.specs.inner.StatementView.{arms_of}
use denote.Param.Weighed.{most}

-- the arms with a condition are at most as deep as all arms together
first_arms : (items : List Arm) (last : Option Statements) → most deep-Arm items ≤ depth_of_arms (arms_of items last)
first_arms [] last = omega arith
first_arms (first ∷ others) last = omega (arith, first_arms others last)

-- the block of the last `else` is less deep than all arms together
last_arm : (items : List Arm) (body : Statements) → depth_of_all body + 1 ≤ depth_of_arms (arms_of items (Some body))
last_arm [] body = omega arith
last_arm (first ∷ others) body = omega (arith, last_arm others body)

-- the arms as they lie in memory, with the last `else`, are at most as deep as the arms that contracts see
pub less_deep : (a : Inside) → deep-Arms a ≤ depth_of_arms (arms_of a.arms.items a.last)
less_deep a =
    elim a.last as (λ (last : Option Statements).
    deep-Arms (record { arms = a.arms; last = last }) ≤ depth_of_arms (arms_of a.arms.items last)) [
      | None ↦ omega (arith, first_arms a.arms.items None)
      | Some body ↦ omega (arith, first_arms a.arms.items (Some body), last_arm a.arms.items body)
    ]
