use Rattle.std.proofs.Common.{◌≡◌, ◌⊎◌, ◌<◌, ◌≤◌, List, length, get_or, sym, ap, ◌∙◌, subst}
use Rattle.std.proofs.lemmas.List.{take_all}
use Rattle.twe_program.specs.declared.program.Decl.{Decl}
use Rattle.twe_program.specs.Program.{Program}
use Rattle.effect_check.specs.inner.First.{IsFirstOf, OneFails, FailsInTask}
use Rattle.effect_check.proofs.Bodies.{tasks-first, method-more, MethodFailure}
use Rattle.effect_check.proofs.whole.first_failure.Goals as goal

pub loop-method-init : goal.loop-method-init
loop-method-init c = tasks-first c.args.p.now _ c.in_ok-first.ensures

pub loop-method-preserved : goal.loop-method-preserved
loop-method-preserved c =
    let p : Program = c.args.p.now in
    let method : Decl = c.method-item.result in
    let items : c.as_slice-method-items.result.now ≡ p.methods = c.as_slice-method-items.ensures ∙ ap (λ (q : Program). q.methods) c.p.view_is in
    let there : c.loop-method.method-index < length p.methods = subst (λ (xs : List Decl). c.loop-method.method-index < length xs) items c.loop-method-test.true in
    let is : get_or p.methods c.loop-method.method-index method ≡ method =
    subst (λ (xs : List Decl). get_or xs c.loop-method.method-index method ≡ method) items (sym c.method-item.is) in
    method-more p c.loop-method.method-index there method is c.loop-method.first c.judge_method.new.first c.loop-method.invariant c.in_ok-judge_method.ensures

pub returns : goal.returns
returns c =
    let p : Program = c.args.p.now in
    let items : c.as_slice-method-items.result.now ≡ p.methods = c.as_slice-method-items.ensures ∙ ap (λ (q : Program). q.methods) c.p.view_is in
    let past : length p.methods ≤ c.loop-method.method-index = subst (λ (xs : List Decl). length xs ≤ c.loop-method.method-index) items c.loop-method-test.false in
    subst (λ (xs : List Decl). IsFirstOf (λ f. FailsInTask p f ⊎ OneFails (MethodFailure p) xs f) c.loop-method.first)
    (take_all c.loop-method.method-index p.methods past) c.loop-method.invariant
