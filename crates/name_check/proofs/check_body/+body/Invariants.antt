use Rattle.std.proofs.Common.{◌≡◌, drop}
use Rattle.twe_ast.specs.inner.StatementView.{statements_of, arms_of}
use Rattle.name_check.specs.Ends.{close_of}
use Rattle.name_check.specs.BodyScope.{after_all, after_arms}
use Rattle.name_check.specs.Size.{statements_in_all, statements_in_arms}
use Rattle.name_check.specs.Sites.{sites_in_all, sites_in_arms}
use Rattle.name_check.specs.inner.Failures.{first_of_sites}
use Rattle.name_check.specs.inner.Room.{HasRoom}
use Rattle.name_check.proofs.check_body.+body.Given as goal

-- the statements so far and those that are left are all of them
abbrev pub invariant-check_block-loop-stmt : goal.invariant-check_block-loop-stmt
invariant-check_block-loop-stmt l = record {
  passed : after_all l.globals l.scope (statements_of (drop l.stmt-index l.stmt-items) (close_of l.block)) ≡ after_all l.globals l.fn.scope l.block;
  reported : first_of_sites l.globals l.first (sites_in_all l.globals l.returns l.scope (statements_of (drop l.stmt-index l.stmt-items) (close_of l.block)))
      ≡ first_of_sites l.globals l.fn.first (sites_in_all l.globals l.returns l.fn.scope l.block);
  room : HasRoom l.scope (statements_in_all (statements_of (drop l.stmt-index l.stmt-items) (close_of l.block)));
}

-- the same of the arms
abbrev pub invariant-check_arms-loop-arm : goal.invariant-check_arms-loop-arm
invariant-check_arms-loop-arm l = record {
  passed : after_arms l.globals l.scope (arms_of (drop l.arm-index l.arm-items) l.arms-inside.last) ≡ after_arms l.globals l.fn.scope l.arms;
  reported : first_of_sites l.globals l.first (sites_in_arms l.globals l.returns l.scope (arms_of (drop l.arm-index l.arm-items) l.arms-inside.last))
      ≡ first_of_sites l.globals l.fn.first (sites_in_arms l.globals l.returns l.fn.scope l.arms);
  room : HasRoom l.scope (statements_in_arms (arms_of (drop l.arm-index l.arm-items) l.arms-inside.last));
}
