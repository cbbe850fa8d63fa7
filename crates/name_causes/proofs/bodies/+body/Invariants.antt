use Rattle.std.proofs.Common.{◌≡◌, ◌++◌, drop}
use Rattle.twe_ast.specs.inner.StatementView.{statements_of, arms_of}
use Rattle.name_check.specs.Ends.{close_of}
use Rattle.name_check.specs.BodyScope.{after_all, after_arms}
use Rattle.name_check.specs.Size.{statements_in_all, statements_in_arms}
use Rattle.name_check.specs.Sites.{sites_in_all, sites_in_arms}
use Rattle.name_check.specs.inner.Room.{HasRoom}
use Rattle.name_causes.specs.Needs.{needs_at_sites}
use Rattle.name_causes.proofs.bodies.+body.Given as goal

-- the statements so far and those that are left are all of them
abbrev pub invariant-add_block-loop-stmt : goal.invariant-add_block-loop-stmt
invariant-add_block-loop-stmt l = record {
  passed : after_all l.globals l.scope (statements_of (drop l.stmt-index l.stmt-items) (close_of l.block)) ≡ after_all l.globals l.fn.scope l.block;
  listed : l.needs ++ needs_at_sites l.globals (sites_in_all l.globals l.returns l.scope (statements_of (drop l.stmt-index l.stmt-items) (close_of l.block)))
      ≡ l.fn.needs ++ needs_at_sites l.globals (sites_in_all l.globals l.returns l.fn.scope l.block);
  room : HasRoom l.scope (statements_in_all (statements_of (drop l.stmt-index l.stmt-items) (close_of l.block)));
}

-- the same of the arms
abbrev pub invariant-add_arms-loop-arm : goal.invariant-add_arms-loop-arm
invariant-add_arms-loop-arm l = record {
  passed : after_arms l.globals l.scope (arms_of (drop l.arm-index l.arm-items) l.arms-inside.last) ≡ after_arms l.globals l.fn.scope l.arms;
  listed : l.needs ++ needs_at_sites l.globals (sites_in_arms l.globals l.returns l.scope (arms_of (drop l.arm-index l.arm-items) l.arms-inside.last))
      ≡ l.fn.needs ++ needs_at_sites l.globals (sites_in_arms l.globals l.returns l.fn.scope l.arms);
  room : HasRoom l.scope (statements_in_arms (arms_of (drop l.arm-index l.arm-items) l.arms-inside.last));
}
