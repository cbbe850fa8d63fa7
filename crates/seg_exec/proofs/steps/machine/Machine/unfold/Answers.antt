use Rattle.std.proofs.Common.{sym, ◌∙◌}
use Rattle.std.specs.Prelude.{option_copied}
use Rattle.twe_program.specs.Statement.{statements_of}
use Rattle.seg_exec.specs.inner.steps.Views.{config_of}
use Rattle.seg_exec.proofs.steps.Unfolding.{none_left, unfold_end, unfold_step}
use Rattle.seg_exec.proofs.steps.machine.Machine.unfold.Goals as goal

pub positions-preserved : goal.positions-preserved
positions-preserved c =
    unfold_step c.positions.block.now c.block_in-block.result.now c.positions.rest.now c.after_first-inner.result.now c.in-Some.position (option_copied c.last_of_first-stmt.result) c.block_at.result
    (config_of c.positions.self) (config_of c.push.new.self) (config_of c.again.new.self)
    (sym c.first_of.ensures ∙ c.in-Some.is) c.after_first-inner.ensures c.in_ok-push.ensures c.last_of_first-stmt.ensures c.in_ok-again.ensures c.block_at.ensures c.block_in-block.ensures
    ∙ c.positions.invariant

pub returns-in_default : goal.returns-in_default
returns-in_default c = sym (unfold_end (statements_of c.positions.block.now) c.positions.rest.now (config_of c.positions.self) (sym c.first_of.ensures ∙ none_left c.first_of.result c.in_default.not-Some)) ∙ c.positions.invariant
