-- One statement, and one arm, more is made in each turn.
use Rattle.std.proofs.Common.{ap, ◌∙◌}
use Rattle.twe_ast.specs.inner.StatementView as written
use Rattle.twe_names.proofs.Bodies.{made-none, made-next, made-meant, made-walked, made_arms-none, made_arms-next, made_arms-meant, made_arms-walked, made_arms_last-meant, made_arms_last-walked}
use Rattle.twe_names.proofs.statements.+body.Goals as goal

pub statements-loop-stmt-init : goal.statements-loop-stmt-init
statements-loop-stmt-init t c =
    made-none c.args.globals.now c.args.scope.now c.args.written.now (written.statements_of c.as_slice-stmt-items.result.now c.written.inside.close) c.in_ok-stmts.stmts.items
    (ap (λ xs. written.statements_of xs c.written.inside.close) c.as_slice-stmt-items.ensures.value ∙ c.written.view_is) c.in_ok-stmts.ensures.items c.requires

pub statements-loop-stmt-preserved : goal.statements-loop-stmt-preserved
statements-loop-stmt-preserved t c =
    made-next c.args.globals.now c.args.scope.now c.args.written.now c.loop-stmt.scope c.loop-stmt.stmts.items c.as_slice-stmt-items.result.now c.loop-stmt.stmt-index
    c.written.inside.close c.loop-stmt.invariant c.stmt-item.result c.loop-stmt-test.true c.stmt-item.is
    c.in_ok-statement.field-0 c.statement.new.scope c.push.new.self.items c.in_ok-statement.ensures.meant c.in_ok-statement.ensures.walked c.in_ok-push.ensures.items

pub statements-returns-clause-meant : goal.statements-returns-clause-meant
statements-returns-clause-meant t c =
    made-meant c.args.globals.now c.args.scope.now c.args.written.now c.loop-stmt.scope c.loop-stmt.stmts.items c.as_slice-stmt-items.result.now c.loop-stmt.stmt-index
    c.written.inside.close c.loop-stmt.invariant c.loop-stmt-test.false

pub statements-returns-clause-walked : goal.statements-returns-clause-walked
statements-returns-clause-walked t c =
    made-walked c.args.globals.now c.args.scope.now c.args.written.now c.loop-stmt.scope c.loop-stmt.stmts.items c.as_slice-stmt-items.result.now c.loop-stmt.stmt-index
    c.written.inside.close c.loop-stmt.invariant c.loop-stmt-test.false

pub arms-loop-arm-init : goal.arms-loop-arm-init
arms-loop-arm-init t c =
    made_arms-none c.args.globals.now c.args.scope.now c.args.written.now (written.arms_of c.as_slice-arm-items.result.now c.written.inside.last) c.in_ok-arms.arms.items
    (ap (λ xs. written.arms_of xs c.written.inside.last) c.as_slice-arm-items.ensures.value ∙ c.written.view_is) c.in_ok-arms.ensures.items c.requires

pub arms-loop-arm-preserved : goal.arms-loop-arm-preserved
arms-loop-arm-preserved t c =
    made_arms-next c.args.globals.now c.args.scope.now c.args.written.now c.loop-arm.scope c.loop-arm.arms.items c.as_slice-arm-items.result.now c.loop-arm.arm-index
    c.written.inside.last c.loop-arm.invariant c.arm-item.result c.loop-arm-test.true c.arm-item.is
    (record { condition = c.in_ok-condition.condition; body = c.in_ok-body.body }) c.block.new.scope c.push.new.self.items
    c.in_ok-condition.ensures c.in_ok-body.ensures.meant c.in_ok-body.ensures.walked c.in_ok-push.ensures.items

pub arms-returns-in-None-clause-meant : goal.arms-returns-in-None-clause-meant
arms-returns-in-None-clause-meant t c =
    made_arms-meant c.args.globals.now c.args.scope.now c.args.written.now c.loop-arm.scope c.loop-arm.arms.items c.as_slice-arm-items.result.now c.loop-arm.arm-index
    c.written.inside.last c.loop-arm.invariant c.loop-arm-test.false c.in-None.is

pub arms-returns-in-None-clause-walked : goal.arms-returns-in-None-clause-walked
arms-returns-in-None-clause-walked t c =
    made_arms-walked c.args.globals.now c.args.scope.now c.args.written.now c.loop-arm.scope c.loop-arm.arms.items c.as_slice-arm-items.result.now c.loop-arm.arm-index
    c.written.inside.last c.loop-arm.invariant c.loop-arm-test.false c.in-None.is

pub arms-returns-in_ok-block-in-Some-clause-meant : goal.arms-returns-in_ok-block-in-Some-clause-meant
arms-returns-in_ok-block-in-Some-clause-meant t c =
    made_arms_last-meant c.args.globals.now c.args.scope.now c.args.written.now c.loop-arm.scope c.loop-arm.arms.items c.as_slice-arm-items.result.now c.loop-arm.arm-index
    c.written.inside.last c.loop-arm.invariant c.loop-arm-test.false c.in-Some.body c.in-Some.is c.in_ok-block-in-Some.field-0 c.in_ok-block-in-Some.ensures.meant

pub arms-returns-in_ok-block-in-Some-clause-walked : goal.arms-returns-in_ok-block-in-Some-clause-walked
arms-returns-in_ok-block-in-Some-clause-walked t c =
    made_arms_last-walked c.args.globals.now c.args.scope.now c.args.written.now c.loop-arm.scope c.loop-arm.arms.items c.as_slice-arm-items.result.now c.loop-arm.arm-index
    c.written.inside.last c.loop-arm.invariant c.loop-arm-test.false c.in-Some.body c.in-Some.is c.block-in-Some.new.scope c.in_ok-block-in-Some.ensures.walked
