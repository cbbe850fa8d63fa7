use Rattle.std.proofs.Common.{◌≡◌, ◌++◌, ℕ, List, ap, ◌∙◌}
use Rattle.twe_ast.specs.declared.name.Name as written
use Rattle.summary_comparing.specs.CompareTexts.{wider_text}
use Rattle.summary_comparing.specs.ChainTexts.{explained_text, need_lines, spawn_lines}
use Rattle.summary_comparing.proofs.Compared.{appended}
use Rattle.summary_comparing.proofs.explaining.explained_text.Goals as goal

-- one part after the other
pub returns : goal.returns
unfolding explained_text
returns c =
    let regions = c.args.regions.now in
    let its = c.args.its.now in
    let effects = c.args.needed.now in
    let chains = c.args.chains.now in
    let others = c.args.spawned.now in
    let places = c.args.places.now in
    let wider = wider_text regions its c.args.comparison.now in
    let needs = need_lines regions its.params effects chains in
    let spawns = spawn_lines regions its.params others places in
    let first = c.push_wider_text.new.text in
    let second = c.push_need_lines.new.text in
    let third = c.push_spawn_lines.new.text in
    let one : first ≡ wider = c.in_ok-push_wider_text.ensures ∙ ap (λ (text : List ℕ). text ++ wider) c.new-text.ensures in
    let two : second ≡ first ++ needs = c.in_ok-push_need_lines.ensures
    ∙ ap (λ (params : List written.Name). first ++ need_lines regions params effects chains) c.as_slice-params.ensures in
    let three : third ≡ second ++ spawns = c.in_ok-push_spawn_lines.ensures
    ∙ ap (λ (params : List written.Name). second ++ spawn_lines regions params others places) c.as_slice-params.ensures in
    appended first second third needs spawns two three ∙ ap (λ (text : List ℕ). text ++ (needs ++ spawns)) one
