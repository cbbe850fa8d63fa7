use Rattle.std.proofs.Common.{◌≡◌, ◌+◌, ◌≤◌, List, None, take, drop, arith, sym, ap, ◌∙◌, subst}
use Rattle.twe_base.specs.declared.place.Place.{Place}
use Rattle.twe_ast.specs.Statement.{Statement, Statements, Arms}
use Rattle.twe_ast.specs.declared.stmt.Arm.{Arm}
use Rattle.twe_ast.specs.inner.StatementView.{statements_of, arms_of, last_of}
use Rattle.twe_ast.specs.inner.StatementSize.{depth_of_all, depth_of_arms}
use Rattle.name_check.specs.declared.scope.BodyScope.{BodyScope}
use Rattle.name_check.specs.Ends.{close_of}
use Rattle.name_check.specs.BodyScope.{after_all}
use Rattle.name_check.specs.Size.{statements_in_arms}
use Rattle.name_check.specs.inner.Room.{HasRoom}
use Rattle.name_check.proofs.Bodies.{next_statement, no_statement, next_arm, no_arm, block_passed, block_room, arms_passed, arms_room, last_arm}
use Rattle.name_check.proofs.Rooms.{seen_outside}
use Rattle.name_causes.proofs.Walking.{block_listed, arms_listed}
use Rattle.name_causes.proofs.bodies.+body.Goals as goal

-- one statement more
pub add_block-loop-stmt-preserved : goal.add_block-loop-stmt-preserved
add_block-loop-stmt-preserved t c =
    let globals = c.args.globals.now in
    let items : List Statement = c.as_slice-stmt-items.result.now in
    let i = c.loop-stmt.stmt-index in
    let close : Place = close_of c.args.block.now in
    let stmt : Statement = c.stmt-item.result in
    let rest : Statements = statements_of (drop (i + 1) items) close in
    let next = next_statement items close i stmt c.loop-stmt-test.true (sym c.stmt-item.is) in
    let passed = c.in_ok-add_statement.ensures.passed in
    record {
      passed = block_passed globals c.args.returns c.loop-stmt.scope c.add_statement.new.scope None None _ rest stmt next passed _ c.loop-stmt.invariant.passed;
      listed = block_listed globals c.args.returns c.loop-stmt.scope c.add_statement.new.scope c.loop-stmt.needs c.add_statement.new.needs _ rest stmt next passed
          c.in_ok-add_statement.ensures.listed _ c.loop-stmt.invariant.listed;
      room = block_room globals c.args.returns c.loop-stmt.scope c.add_statement.new.scope None None _ rest stmt next passed c.loop-stmt.invariant.room;
    }

-- what the block declared is out of scope
pub add_block-returns-clause-passed : goal.add_block-returns-clause-passed
add_block-returns-clause-passed t c =
    let globals = c.args.globals.now in
    let items : List Statement = c.as_slice-stmt-items.result.now in
    let close : Place = close_of c.args.block.now in
    let all : BodyScope = after_all globals c.args.scope.now c.args.block.now in
    let none = no_statement items close c.loop-stmt.stmt-index c.loop-stmt-test.false in
    let done : c.loop-stmt.scope ≡ all = subst (λ b. after_all globals c.loop-stmt.scope b ≡ all) none c.loop-stmt.invariant.passed in
    let outside = seen_outside globals c.args.scope.now c.args.block.now in
    c.leave.ensures
    ∙ (ap (λ (h : BodyScope). record h { locals = take c.mark-mark.result h.locals }) done
    ∙ (ap (λ n. record all { locals = take n all.locals }) c.mark-mark.ensures ∙ ap (λ xs. record all { locals = xs }) outside))

-- one arm more
pub add_arms-loop-arm-preserved : goal.add_arms-loop-arm-preserved
add_arms-loop-arm-preserved t c =
    let globals = c.args.globals.now in
    let items : List Arm = c.as_slice-arm-items.result.now in
    let i = c.loop-arm.arm-index in
    let last = c.arms.inside.last in
    let this : Arm = c.arm-item.result in
    let rest : Arms = arms_of (drop (i + 1) items) last in
    let next = next_arm items last i this c.loop-arm-test.true (sym c.arm-item.is) in
    let passed = c.in_ok-add_block.ensures.passed in
    record {
      passed = arms_passed globals c.args.returns c.loop-arm.scope c.add_block.new.scope None None None _ rest this.condition this.body next passed _ c.loop-arm.invariant.passed;
      listed = arms_listed globals c.args.returns c.loop-arm.scope c.add_block.new.scope c.loop-arm.needs c.add_condition.new.needs c.add_block.new.needs
          _ rest this.condition this.body next passed c.in_ok-add_condition.ensures c.in_ok-add_block.ensures.listed _ c.loop-arm.invariant.listed;
      room = arms_room globals c.args.returns c.loop-arm.scope c.add_block.new.scope None None None _ rest this.condition this.body next passed c.loop-arm.invariant.room;
    }

-- the last `else`
pub add_arms-add_block-requires-in-Some : goal.add_arms-add_block-requires-in-Some
add_arms-add_block-requires-in-Some t c =
    let none = no_arm c.as_slice-arm-items.result.now c.arms.inside.last c.loop-arm.arm-index c.loop-arm-test.false in
    let room = subst (λ b. HasRoom c.loop-arm.scope (statements_in_arms b)) none c.loop-arm.invariant.room in
    let deep : depth_of_all c.in-Some.body + 1 ≤ depth_of_arms c.args.arms.now
    = subst (λ b. depth_of_all c.in-Some.body + 1 ≤ depth_of_arms b) c.arms.view_is
    (subst (λ o. depth_of_all c.in-Some.body + 1 ≤ depth_of_arms (arms_of c.arms.inside.arms.items o)) (sym c.in-Some.is) (last_arm c.arms.inside.arms.items c.in-Some.body)) in
    (omega (arith, deep), subst (λ o. HasRoom c.loop-arm.scope (statements_in_arms (last_of o))) c.in-Some.is room)
