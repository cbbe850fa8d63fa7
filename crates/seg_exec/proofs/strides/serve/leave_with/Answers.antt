use Rattle.std.proofs.Common.{◌≡◌, ℤ, SFits, w32, ap, ◌∙◌, rules}
use Rattle.std.proofs.lemmas.Int.{to_z-of_z}
use Rattle.seg_meaning.specs.Access.{ways_of}
use Rattle.seg_exec.specs.inner.steps.Reached.{standing}
use Rattle.seg_exec.specs.inner.steps.Steps.{returned}
use Rattle.seg_exec.specs.inner.steps.Views.{config_of}
use Rattle.seg_exec.specs.inner.steps.Continuations.{Unwind, with_operand}
use Rattle.seg_exec.specs.inner.strides.Strides.{doing, holding}
use Rattle.seg_exec.specs.inner.strides.Moving.{course}
use Rattle.seg_exec.proofs.strides.Moving.{moves_carried}
use Rattle.seg_exec.proofs.strides.Returning.{carries_return, may_return}
use Rattle.seg_meaning.proofs.Results.{if_ok_map}
use Rattle.seg_exec.proofs.strides.serve.leave_with.Goals as goal

pub serve-requires : goal.serve-requires
serve-requires g c =
    let old = config_of c.args.machine.now in
    let fits : SFits w32 c.args.value = search rules in
    let is : (c.in_ok-request.request, config_of c.give_back.new.self) ≡ returned old.work (with_operand c.args.value old) =
    c.in_ok-request.ensures ∙ ap (λ (value : ℤ). returned old.work (with_operand value old)) (to_z-of_z w32 c.args.value fits)
    in
    may_return c.args.p.now (ways_of g.C.Cells.known g.C.Cells.may_read g.C.Cells.may_write g.C.Cells.rule) (config_of c.args.machine.now).work (with_operand c.args.value (config_of c.args.machine.now)) (config_of c.give_back.new.self) c.args.cells.now
    c.in_ok-request.request is

pub returns : goal.returns
returns g c =
    let old = config_of c.args.machine.now in
    let fits : SFits w32 c.args.value = search rules in
    let is : (c.in_ok-request.request, config_of c.give_back.new.self) ≡ returned old.work (with_operand c.args.value old) =
    c.in_ok-request.ensures ∙ ap (λ (value : ℤ). returned old.work (with_operand value old)) (to_z-of_z w32 c.args.value fits)
    in
    let ways = ways_of g.C.Cells.known g.C.Cells.may_read g.C.Cells.may_write g.C.Cells.rule in
    let before = doing Unwind (holding c.args.value (standing c.args.machine.now c.args.cells.now c.args.prints.now)) in
    let after = standing c.serve.new.machine c.serve.new.cells c.serve.new.prints in
    if_ok_map c.serve.result (λ onward served. moves_carried c.args.p.now ways before after (course onward c.serve.new.machine) served.1
    (carries_return c.args.p.now ways (config_of c.args.machine.now).work (with_operand c.args.value (config_of c.args.machine.now)) (config_of c.give_back.new.self) c.args.cells.now c.args.prints.now
    c.in_ok-request.request (course onward c.serve.new.machine).ending after is served.0)) c.serve.ensures
