use Rattle.std.proofs.Common.{List, length, ap, ◌∙◌}
use Rattle.std.proofs.lemmas.Result.{IfOk-weaker}
use Rattle.twe_program.specs.declared.program.Decl.{Decl}
use Rattle.twe_program.specs.Program.{Program}
use Rattle.effect_infer.specs.Gathered.{starts_in, calls_in}
use Rattle.effect_infer.specs.Covered.{HasFoundAll}
use Rattle.effect_infer.proofs.Finding.{found-all, has-spread-of, gives-same}
use Rattle.effect_infer.proofs.least.find.Goals as goal

-- from the needs that bodies have of their own, by all calls
pub returns : goal.returns
returns c =
    let methods = c.as_slice-methods.ensures ∙ ap (λ (q : Program). q.methods) c.p.view_is in
    let cells = c.as_slice.ensures ∙ ap (λ (q : Program). q.cells) c.p.view_is in
    IfOk-weaker c.spread.result _ (HasFoundAll c.args.p.now)
    (λ all s. found-all c.args.p.now all
    (has-spread-of _ _ _ _ _ _ all (ap (λ (ds : List Decl). length ds) methods) (c.in_ok-gathered.ensures.calls ∙ gives-same calls_in _ _ _ _ cells methods)
    (c.as_slice-starts.ensures ∙ c.in_ok-gathered.ensures.starts ∙ gives-same starts_in _ _ _ _ cells methods) s))
    c.spread.ensures
