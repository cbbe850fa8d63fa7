use Rattle.std.proofs.Common.{◌≡◌, List, None, Some, sym, ◌∙◌, ap}
use Rattle.std.specs.Prelude.{option_copied, slice_get}
use Rattle.twe_program.specs.declared.stmt.Arm.{Arm}
use Rattle.seg_meaning.specs.Remaining.{branch_of}
use Rattle.seg_meaning.proofs.Remains.{branch_is, branch_past, no_branch}
use Rattle.seg_exec.proofs.steps.unfold.branch.Goals as goal

pub returns-in-Some : goal.returns-in-Some
returns-in-Some c =
    let found : slice_get c.arms.inside.arms.items c.args.block ≡ Some c.in-Some.arm.now =
    sym (c.arm_at.ensures ∙ ap (λ (l : List Arm). slice_get l c.args.block) c.as_slice.ensures.value) ∙ ap option_copied c.in-Some.is in
    c.statements_in.ensures ∙ sym (branch_is c.args.block c.arms.inside.arms.items c.arms.inside.last c.in-Some.arm.now found) ∙ ap (branch_of c.args.block) c.arms.view_is

pub returns-in-Some-last : goal.returns-in-Some-last
returns-in-Some-last c =
    let past : slice_get c.arms.inside.arms.items c.args.block ≡ None =
    sym (c.arm_at.ensures ∙ ap (λ (l : List Arm). slice_get l c.args.block) c.as_slice.ensures.value) ∙ ap option_copied c.in-None.is in
    c.statements_in-in-Some-last.ensures ∙ sym (branch_past c.args.block c.arms.inside.arms.items c.arms.inside.last c.in-Some-last.body past c.in-Some-last.is) ∙ ap (branch_of c.args.block) c.arms.view_is

pub returns-in-None-last : goal.returns-in-None-last
returns-in-None-last c =
    let past : slice_get c.arms.inside.arms.items c.args.block ≡ None =
    sym (c.arm_at.ensures ∙ ap (λ (l : List Arm). slice_get l c.args.block) c.as_slice.ensures.value) ∙ ap option_copied c.in-None.is in
    sym (no_branch c.args.block c.arms.inside.arms.items c.arms.inside.last past c.in-None-last.is) ∙ ap (branch_of c.args.block) c.arms.view_is
