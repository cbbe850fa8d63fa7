use Rattle.std.proofs.Common.{◌≡◌, ℤ, List, [], ◌∷◌, ◌++◌, SFits, w32, ap, sym, subst, ◌∙◌, rules}
use Rattle.std.proofs.lemmas.Int.{to_z-of_z}
use Rattle.twe_program.specs.Expression.{arguments_of}
use Rattle.seg_meaning.specs.Access.{ways_of}
use Rattle.seg_exec.specs.inner.steps.Bodies.{with_active}
use Rattle.seg_exec.specs.inner.steps.Continuations.{Gather, Take, to_do, top}
use Rattle.seg_exec.specs.inner.steps.Reached.{standing}
use Rattle.seg_exec.specs.inner.steps.Views.{config_of}
use Rattle.seg_exec.specs.inner.strides.Moving.{Moves, course}
use Rattle.seg_exec.specs.inner.strides.Strides.{MayGo}
use Rattle.seg_exec.proofs.strides.Gathering.{all_pushed, took}
use Rattle.seg_exec.proofs.strides.Moving.{moves_silent}
use Rattle.seg_exec.proofs.strides.Performing.{may_silent}
use Rattle.seg_meaning.proofs.Results.{if_ok_map}
use Rattle.seg_exec.proofs.strides.gather.take.Goals as goal

pub gather-requires-clause-may : goal.gather-requires-clause-may
gather-requires-clause-may g c =
    let old = config_of c.args.machine.now in
    let mid = config_of c.pop_operand-value.new.self in
    let machine = c.pop_operand-value.new.self in
    let value = c.pop_operand-value.result in
    let taken = c.args.gathering.taken in
    let all = taken ++ value ∷ [] in
    let args = arguments_of c.args.gathering.args.now in
    let is : all ≡ taken ++ top old.operands ∷ [] = ap (λ (v : ℤ). taken ++ v ∷ []) c.pop_operand-value.ensures.value in
    let fits : SFits w32 value = search rules in
    let pushed : c.push_all_and.new.self ≡ with_active (machine.vars.active ++ all) machine.vars =
    c.in_ok-push_all_and.ensures
    ∙ ap (λ (v : ℤ). with_active (machine.vars.active ++ (c.as_slice.result.now ++ v ∷ [])) machine.vars) (to_z-of_z w32 value fits)
    ∙ ap (λ (values : List ℤ). with_active (machine.vars.active ++ (values ++ value ∷ [])) machine.vars) c.as_slice.ensures in
    let begun = all_pushed machine c.args.gathering.goal c.args.cells.now c.args.prints.now c.len-count.result args c.push_all_and.new.self all c.len-count.ensures pushed in
    subst (MayGo c.args.p.now (ways_of g.C.Cells.known g.C.Cells.may_read g.C.Cells.may_write g.C.Cells.rule)) (sym begun)
    (may_silent c.args.p.now (ways_of g.C.Cells.known g.C.Cells.may_read g.C.Cells.may_write g.C.Cells.rule) (Take taken args c.args.gathering.goal) old
    (to_do (Gather all args c.args.gathering.goal) mid) c.args.cells.now c.args.prints.now
    (took c.args.p.now taken all args c.args.gathering.goal old mid is c.pop_operand-value.ensures.config) c.requires)

pub returns : goal.returns
returns g c =
    let old = config_of c.args.machine.now in
    let mid = config_of c.pop_operand-value.new.self in
    let machine = c.pop_operand-value.new.self in
    let value = c.pop_operand-value.result in
    let taken = c.args.gathering.taken in
    let all = taken ++ value ∷ [] in
    let args = arguments_of c.args.gathering.args.now in
    let is : all ≡ taken ++ top old.operands ∷ [] = ap (λ (v : ℤ). taken ++ v ∷ []) c.pop_operand-value.ensures.value in
    let fits : SFits w32 value = search rules in
    let pushed : c.push_all_and.new.self ≡ with_active (machine.vars.active ++ all) machine.vars =
    c.in_ok-push_all_and.ensures
    ∙ ap (λ (v : ℤ). with_active (machine.vars.active ++ (c.as_slice.result.now ++ v ∷ [])) machine.vars) (to_z-of_z w32 value fits)
    ∙ ap (λ (values : List ℤ). with_active (machine.vars.active ++ (values ++ value ∷ [])) machine.vars) c.as_slice.ensures in
    let begun = all_pushed machine c.args.gathering.goal c.args.cells.now c.args.prints.now c.len-count.result args c.push_all_and.new.self all c.len-count.ensures pushed in
    let after = standing c.gather.new.machine c.gather.new.cells c.gather.new.prints in
    if_ok_map c.gather.result (λ onward rest. moves_silent c.args.p.now (ways_of g.C.Cells.known g.C.Cells.may_read g.C.Cells.may_write g.C.Cells.rule) (Take taken args c.args.gathering.goal) old
    (to_do (Gather all args c.args.gathering.goal) mid) c.args.cells.now c.args.prints.now (course onward c.gather.new.machine) after
    (took c.args.p.now taken all args c.args.gathering.goal old mid is c.pop_operand-value.ensures.config)
    (subst (λ from. Moves c.args.p.now (ways_of g.C.Cells.known g.C.Cells.may_read g.C.Cells.may_write g.C.Cells.rule) from (course onward c.gather.new.machine) after) begun rest)) c.gather.ensures
