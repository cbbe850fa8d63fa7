use Rattle.std.proofs.Common.{◌≡◌, drop, ◌∙◌, ap}
use Rattle.twe_frontend.specs.Lines.{after_lines}
use Rattle.refusal_causes.specs.text_rules.Behind.{from_place}
use Rattle.refusal_causes.proofs.text_rules.Lines.{stands_behind}
use Rattle.refusal_causes.proofs.text_rules.behind.from_place.Goals as goal

-- it stands behind the place
pub returns-clause-behind : goal.returns-clause-behind
returns-clause-behind c before rest text place =
    let lines : c.after_bytes.result.now ≡ from_place c.args.text.now c.args.place =
    c.after_bytes.ensures ∙ ap (drop c.saturating_sub-2.result) c.after_lines-line.ensures
    ∙ (λ i. drop (c.saturating_sub-2.ensures i) (after_lines (c.saturating_sub.ensures i) c.args.text.now)) in
    lines ∙ stands_behind c.args.text.now c.args.place before rest text place
