use Rattle.std.proofs.Common.{◌≡◌, ◌≤◌, ◌+◌, ◌*◌, List, ap, ◌∙◌, subst, arith}
use Rattle.effect_check.specs.declared.act.Act.{Act}
use Rattle.effect_check.specs.Acts.{acts_in_all}
use Rattle.effect_check.specs.inner.Failures.{spawns_among, first_from, declared_failures, JudgesFirst}
use Rattle.effect_check.proofs.Groups.{declared-first, group-more, all-groups}
use Rattle.effect_check.proofs.judge.judge_task.Goals as goal

pub loop-group-init : goal.loop-group-init
loop-group-init c =
    let p = c.args.p.now in
    let task = c.args.task.now in
    let is_acts : c.as_slice-acts.result.now ≡ acts_in_all p task.body.block = c.as_slice-acts.ensures ∙ c.in_ok-done.ensures in
    declared-first p task c.args.first.now c.judge_all_declared.new.first
    (c.judge_all_declared.ensures ∙ ap (λ (xs : List Act). first_from c.args.first.now (declared_failures task xs)) is_acts)

pub loop-group-preserved : goal.loop-group-preserved
loop-group-preserved c =
    let p = c.args.p.now in
    let task = c.args.task.now in
    let is_acts : c.as_slice-acts.result.now ≡ acts_in_all p task.body.block = c.as_slice-acts.ensures ∙ c.in_ok-done.ensures in
    let is_spawns : c.as_slice-spawns.result.now ≡ spawns_among c.as_slice-acts.result.now = c.as_slice-spawns.ensures ∙ c.in_ok-made.ensures in
    let count : c.loop-group.group * 128 + 128 ≡ (c.loop-group.group + 1) * 128 = omega arith in
    subst (λ n. JudgesFirst p task n c.args.first.now c.judge_group.new.first) count
    (group-more p task (c.loop-group.group * 128) c.args.first.now c.loop-group.first c.judge_group.new.first c.as_slice-acts.result.now c.as_slice-spawns.result.now is_acts is_spawns
    c.loop-group.invariant c.in_ok-judge_group.ensures)

pub returns : goal.returns
returns c =
    let p = c.args.p.now in
    let task = c.args.task.now in
    let enough : task.body.futures ≤ c.loop-group.group * 128 = omega arith in
    all-groups p task (c.loop-group.group * 128) c.args.first.now c.loop-group.first enough c.loop-group.invariant
