use Rattle.std.proofs.Common.{◌≡◌, ◌∷◌, [], ◌++◌, List, get_or, take, sym, ap, ◌∙◌, subst}
use Rattle.std.proofs.lemmas.List.{take_more}
use Rattle.twe_program.specs.declared.program.Decl.{Decl}
use Rattle.summary_comparing.specs.Comparisons.{AreComparisons}
use Rattle.summary_comparing.proofs.Compared.{one-compared-more}
use Rattle.summary_comparing.proofs.comparing.compare_all.Goals as goal

-- one declaration more
pub loop-decl-preserved : goal.loop-decl-preserved
loop-decl-preserved c =
    let p = c.args.p.now in
    let summaries = c.args.summaries.now in
    let decls = c.args.decls.now in
    let i = c.loop-decl.decl-index in
    let decl = c.decl-item.result in
    let front = take i decls in
    let is : decl ≡ get_or decls i decl = c.decl-item.is in
    let more = take_more decls i decl c.loop-decl-test.true ∙ ap (λ (d : Decl). front ++ d ∷ []) (sym is) in
    subst (λ (ds : List Decl). AreComparisons p summaries ds c.push.new.self) (sym more)
    (subst (AreComparisons p summaries (front ++ decl ∷ [])) (sym c.in_ok-push.ensures.ok)
    (one-compared-more p summaries front c.loop-decl.comparisons decl c.in_ok-compare.field-0 c.loop-decl.invariant c.in_ok-compare.ensures))
