-- Each statement has a smaller depth than the block that contains it.
use Rattle.std.specs.Prelude.{◌+◌, ◌≤◌, List, [], ◌∷◌}
use Rattle.std.proofs.Common.{arith}
use Rattle.twe_base.specs.declared.place.Place.{Place}
use Rattle.twe_ast.specs.Statement.{Statement}
use Rattle.twe_ast.specs.inner.StatementSize.{depth, depth_of_all}
use Rattle.twe_ast.specs.inner.StatementView.{statements_of}
use denote.Param.Weighed.{most}

-- the depth of each statement of a list is less than that of the block of the list
pub most_deep : (items : List Statement) (close : Place)
    → most (λ s. depth s + 1) items ≤ depth_of_all (statements_of items close)
most_deep [] close = omega arith
most_deep (first ∷ others) close = omega (arith, most_deep others close)
