-- Each statement is less deep than its block.
use Rattle.std.specs.Prelude.{◌+◌, ◌≤◌, List, [], ◌∷◌}
use Rattle.std.proofs.Common.{arith}
use Rattle.twe_program.specs.Statement.{Statement, statements_of}
use Rattle.twe_program.specs.inner.StatementSize.{depth, depth_of_all}
use denote.Param.Weighed.{most}

-- the depth of each statement of a list is less than that of the block of the list
pub most_deep : (items : List Statement) → most (λ s. depth s + 1) items ≤ depth_of_all (statements_of items)
most_deep [] = omega arith
most_deep (first ∷ others) = omega (arith, most_deep others)
