use Rattle.std.proofs.Common.{◌≡◌, ℕ, List, sym, ap, ◌∙◌, subst}
use Rattle.effect_sets.specs.declared.effects.Effect.{Effect}
use Rattle.summary_comparing.specs.Comparisons.{comparison_of}
use Rattle.summary_comparing.specs.Needed.{body_needs, child_needs}
use Rattle.summary_comparing.specs.EffectOrder.{in_effect_order}
use Rattle.summary_comparing.specs.ChainTexts.{AreExplained, explained_text, its_comparison}
use Rattle.summary_comparing.specs.declared.comparison.Comparison.{Comparison}
use Rattle.summary_comparing.proofs.Numbered.{comparison-same}
use Rattle.summary_comparing.proofs.explaining.few_lines.Goals as goal

-- the text on it
pub returns : goal.returns
returns c =
    let p = c.args.p.now in
    let summaries = c.args.summaries.now in
    let its = c.args.its.now in
    let decl = c.args.decl.now in
    let needed = c.args.needed.now in
    let spawned = c.args.spawned.now in
    let children = c.args.children.now in
    let declared = c.as_slice-declared.result.now in
    let widest = c.in_ok-widest.widest in
    let others = c.in_ok-others.others in
    let is : c.in_ok-comparison.comparison ≡ its_comparison p summaries decl needed spawned =
    c.in_ok-comparison.ensures
    ∙ (comparison-same c.args.body.now (body_needs p summaries decl) c.requires.body children declared widest others
    ∙ (ap (λ (es : List Effect). comparison_of (body_needs p summaries decl) es declared widest others) c.requires.children
    ∙ (ap (λ (es : List Effect). comparison_of (body_needs p summaries decl) (child_needs p decl) es widest others) c.as_slice-declared.ensures
    ∙ (ap (λ (es : List Effect). comparison_of (body_needs p summaries decl) (child_needs p decl) decl.summary.effects es others) c.in_ok-widest.ensures
    ∙ ap (λ (es : List Effect). comparison_of (body_needs p summaries decl) (child_needs p decl) decl.summary.effects needed es) c.in_ok-others.ensures)))) in
    let some = c.in_ok-wider.ensures in
    let text : c.in_ok-wider.wider
    ≡ explained_text p.regions its (its_comparison p summaries decl needed spawned) (in_effect_order needed) some.0 (in_effect_order spawned) some.1 =
    some.3 ∙ ap (λ (k : Comparison). explained_text p.regions its k (in_effect_order needed) some.0 (in_effect_order spawned) some.1) is in
    subst (λ (bytes : List ℕ). AreExplained p its decl (record { wider = bytes; many = c.new.result })) (sym text)
    (subst (λ (bytes : List ℕ). AreExplained p its decl (record {
      wider = explained_text p.regions its (its_comparison p summaries decl needed spawned) (in_effect_order needed) some.0 (in_effect_order spawned) some.1;
      many = bytes;
    })) (sym c.new.ensures)
    (AreExplained.few summaries needed spawned some.0 some.1 c.requires.counted some.2))
