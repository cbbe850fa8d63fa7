use Rattle.std.proofs.Common.{drop}
use Rattle.twe_ast.specs.inner.StatementView as written
use Rattle.twe_names.proofs.Bodies.{Made, MadeArms}
use Rattle.twe_names.proofs.statements.+body.Given as goal

-- the statements so far are made, and those from the index on are left
abbrev pub invariant-statements-loop-stmt : goal.invariant-statements-loop-stmt
invariant-statements-loop-stmt l =
    Made l.globals l.fn.scope l.written l.scope l.stmts.items (written.statements_of (drop l.stmt-index l.stmt-items) l.written-inside.close)

-- the same of the arms
abbrev pub invariant-arms-loop-arm : goal.invariant-arms-loop-arm
invariant-arms-loop-arm l =
    MadeArms l.globals l.fn.scope l.written l.scope l.arms.items (written.arms_of (drop l.arm-index l.arm-items) l.written-inside.last)
