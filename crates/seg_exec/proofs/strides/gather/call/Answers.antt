use Rattle.std.proofs.Common.{◌≡◌, Option, drop, ap, rules, sym, subst, ◌∙◌}
use Rattle.std.specs.Prelude.{option_copied, slice_get}
use Rattle.twe_program.specs.declared.program.Decl.{Decl}
use Rattle.twe_program.specs.Program.{Program}
use Rattle.twe_program.specs.Expression.{Arguments, argument, arguments_of, no_more}
use Rattle.seg_exec.specs.declared.steps.continuation.Goal.TheVariants.{Enter}
use Rattle.seg_exec.specs.declared.steps.request.Ending.{Ending}
use Rattle.seg_exec.specs.declared.strides.arguments.Evaluated.{Evaluated}
use Rattle.seg_meaning.specs.Access.{ways_of}
use Rattle.seg_exec.specs.inner.steps.Reached.{standing}
use Rattle.seg_exec.specs.inner.steps.Steps.{entering}
use Rattle.seg_exec.specs.inner.steps.Views.{config_before, config_of}
use Rattle.seg_exec.specs.inner.strides.Moving.{Moves, course, gathering_from}
use Rattle.seg_exec.specs.inner.strides.Strides.{Ends, MayGo}
use Rattle.seg_exec.specs.inner.strides.Taking.{Takes}
use Rattle.seg_meaning.proofs.Results.{if_ok_map}
use Rattle.seg_exec.proofs.strides.Gathering.{none_pushed}
use Rattle.seg_exec.proofs.strides.Moving.{moves_step, near_moves}
use Rattle.seg_exec.proofs.strides.Strides.{may_near}
use Rattle.seg_exec.proofs.strides.gather.call.Goals as goal

pub evaluate_plain-requires-clause-may : goal.evaluate_plain-requires-clause-may
evaluate_plain-requires-clause-may g c =
    let ways = ways_of g.C.Cells.known g.C.Cells.may_read g.C.Cells.may_write g.C.Cells.rule in
    let enter = Enter c.args.method c.args.place in
    let same : arguments_of c.as_slice.result.now ≡ c.args.args.now = search rules in
    let from = gathering_from c.len-count.result (arguments_of c.as_slice.result.now) enter c.args.machine.now c.args.cells.now c.args.prints.now in
    let begun = ap (λ (args : Arguments). gathering_from c.len-count.result args (Enter c.args.method c.args.place) c.args.machine.now c.args.cells.now c.args.prints.now) same
    ∙ none_pushed c.args.machine.now enter c.args.cells.now c.args.prints.now c.len-count.result c.args.args.now c.len-count.ensures in
    record { goal = enter; prints = c.args.prints.now; may = subst (MayGo c.args.p.now (ways_of g.C.Cells.known g.C.Cells.may_read g.C.Cells.may_write g.C.Cells.rule)) (sym begun) c.requires }

pub begin_argument-requires-clause-may : goal.begin_argument-requires-clause-may
begin_argument-requires-clause-may g c =
    let ways = ways_of g.C.Cells.known g.C.Cells.may_read g.C.Cells.may_write g.C.Cells.rule in
    let enter = Enter c.args.method c.args.place in
    let same : arguments_of c.as_slice.result.now ≡ c.args.args.now = search rules in
    let from = gathering_from c.len-count.result (arguments_of c.as_slice.result.now) enter c.args.machine.now c.args.cells.now c.args.prints.now in
    let begun = ap (λ (args : Arguments). gathering_from c.len-count.result args (Enter c.args.method c.args.place) c.args.machine.now c.args.cells.now c.args.prints.now) same
    ∙ none_pushed c.args.machine.now enter c.args.cells.now c.args.prints.now c.len-count.result c.args.args.now c.len-count.ensures in
    let now = gathering_from c.len-count.result (argument c.in-Left.first.now (arguments_of c.in-Left.others.now)) enter c.evaluate_plain.new.machine c.evaluate_plain.new.cells c.args.prints.now in
    let took = subst (λ (evaluated : Evaluated). Takes c.args.p.now (ways_of g.C.Cells.known g.C.Cells.may_read g.C.Cells.may_write g.C.Cells.rule) c.len-count.result c.as_slice.result.now c.args.machine.now c.args.cells.now evaluated c.evaluate_plain.new.machine c.evaluate_plain.new.cells) c.in-Left.is c.in_ok-evaluated.ensures in
    may_near c.args.p.now ways from now (subst (MayGo c.args.p.now (ways_of g.C.Cells.known g.C.Cells.may_read g.C.Cells.may_write g.C.Cells.rule)) (sym begun) c.requires) (took.1 enter c.args.prints.now)

pub returns-in-All : goal.returns-in-All
returns-in-All g c =
    let ways = ways_of g.C.Cells.known g.C.Cells.may_read g.C.Cells.may_write g.C.Cells.rule in
    let enter = Enter c.args.method c.args.place in
    let same : arguments_of c.as_slice.result.now ≡ c.args.args.now = search rules in
    let from = gathering_from c.len-count.result (arguments_of c.as_slice.result.now) enter c.args.machine.now c.args.cells.now c.args.prints.now in
    let begun = ap (λ (args : Arguments). gathering_from c.len-count.result args (Enter c.args.method c.args.place) c.args.machine.now c.args.cells.now c.args.prints.now) same
    ∙ none_pushed c.args.machine.now enter c.args.cells.now c.args.prints.now c.len-count.result c.args.args.now c.len-count.ensures in
    let now = gathering_from c.len-count.result no_more enter c.evaluate_plain.new.machine c.evaluate_plain.new.cells c.args.prints.now in
    let after = standing c.enter.new.machine c.evaluate_plain.new.cells c.args.prints.now in
    let old = config_before c.len-count.result c.evaluate_plain.new.machine in
    let values = drop c.len-count.result c.evaluate_plain.new.machine.vars.active in
    let took = subst (λ (evaluated : Evaluated). Takes c.args.p.now (ways_of g.C.Cells.known g.C.Cells.may_read g.C.Cells.may_write g.C.Cells.rule) c.len-count.result c.as_slice.result.now c.args.machine.now c.args.cells.now evaluated c.evaluate_plain.new.machine c.evaluate_plain.new.cells) c.in-All.is c.in_ok-evaluated.ensures in
    let found : option_copied c.get.result ≡ slice_get c.args.p.now.methods c.args.method =
    c.get.ensures ∙ ap (λ (p : Program). slice_get p.methods c.args.method) c.p.view_is in
    if_ok_map c.enter.result (λ onward is. subst (λ start. Moves c.args.p.now (ways_of g.C.Cells.known g.C.Cells.may_read g.C.Cells.may_write g.C.Cells.rule) start (course onward c.enter.new.machine) after) begun
    (near_moves c.args.p.now ways from now after (course onward c.enter.new.machine) (took.1 enter c.args.prints.now)
    (moves_step c.args.p.now ways now (course onward c.enter.new.machine) (config_of c.enter.new.machine)
    (ap (λ (decl : Option Decl). entering decl values (record { method = c.args.method; place = c.args.place }) old) (sym found) ∙ sym is)))) c.enter.ensures

pub returns-in-Left : goal.returns-in-Left
returns-in-Left g c =
    let ways = ways_of g.C.Cells.known g.C.Cells.may_read g.C.Cells.may_write g.C.Cells.rule in
    let enter = Enter c.args.method c.args.place in
    let same : arguments_of c.as_slice.result.now ≡ c.args.args.now = search rules in
    let from = gathering_from c.len-count.result (arguments_of c.as_slice.result.now) enter c.args.machine.now c.args.cells.now c.args.prints.now in
    let begun = ap (λ (args : Arguments). gathering_from c.len-count.result args (Enter c.args.method c.args.place) c.args.machine.now c.args.cells.now c.args.prints.now) same
    ∙ none_pushed c.args.machine.now enter c.args.cells.now c.args.prints.now c.len-count.result c.args.args.now c.len-count.ensures in
    let now = gathering_from c.len-count.result (argument c.in-Left.first.now (arguments_of c.in-Left.others.now)) enter c.evaluate_plain.new.machine c.evaluate_plain.new.cells c.args.prints.now in
    let after = standing c.begin_argument.new.machine c.begin_argument.new.cells c.begin_argument.new.prints in
    let took = subst (λ (evaluated : Evaluated). Takes c.args.p.now (ways_of g.C.Cells.known g.C.Cells.may_read g.C.Cells.may_write g.C.Cells.rule) c.len-count.result c.as_slice.result.now c.args.machine.now c.args.cells.now evaluated c.evaluate_plain.new.machine c.evaluate_plain.new.cells) c.in-Left.is c.in_ok-evaluated.ensures in
    if_ok_map c.begin_argument.result (λ onward rest. subst (λ start. Moves c.args.p.now (ways_of g.C.Cells.known g.C.Cells.may_read g.C.Cells.may_write g.C.Cells.rule) start (course onward c.begin_argument.new.machine) after) begun
    (near_moves c.args.p.now ways from now after (course onward c.begin_argument.new.machine) (took.1 enter c.args.prints.now) rest)) c.begin_argument.ensures

pub returns-in-Faulted : goal.returns-in-Faulted
returns-in-Faulted g c =
    let ways = ways_of g.C.Cells.known g.C.Cells.may_read g.C.Cells.may_write g.C.Cells.rule in
    let enter = Enter c.args.method c.args.place in
    let same : arguments_of c.as_slice.result.now ≡ c.args.args.now = search rules in
    let from = gathering_from c.len-count.result (arguments_of c.as_slice.result.now) enter c.args.machine.now c.args.cells.now c.args.prints.now in
    let begun = ap (λ (args : Arguments). gathering_from c.len-count.result args (Enter c.args.method c.args.place) c.args.machine.now c.args.cells.now c.args.prints.now) same
    ∙ none_pushed c.args.machine.now enter c.args.cells.now c.args.prints.now c.len-count.result c.args.args.now c.len-count.ensures in
    let after = standing c.evaluate_plain.new.machine c.evaluate_plain.new.cells c.args.prints.now in
    let took = subst (λ (evaluated : Evaluated). Takes c.args.p.now (ways_of g.C.Cells.known g.C.Cells.may_read g.C.Cells.may_write g.C.Cells.rule) c.len-count.result c.as_slice.result.now c.args.machine.now c.args.cells.now evaluated c.evaluate_plain.new.machine c.evaluate_plain.new.cells) c.in-Faulted.is c.in_ok-evaluated.ensures in
    subst (λ start. Ends c.args.p.now (ways_of g.C.Cells.known g.C.Cells.may_read g.C.Cells.may_write g.C.Cells.rule) start c.ending.result after) begun
    (subst (λ (e : Ending). Ends c.args.p.now (ways_of g.C.Cells.known g.C.Cells.may_read g.C.Cells.may_write g.C.Cells.rule) from e after) (sym c.ending.ensures) (took enter c.args.prints.now))
