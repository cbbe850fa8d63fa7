use Rattle.std.proofs.Common.{◌∙◌, ◌++◌, List, ℕ, ap}
use Rattle.twe_report.specs.Texts.{place_text}
use Rattle.explain_pages.proofs.Appended.{then_two}
use Rattle.refusal_notes.proofs.mends.said_at.Goals as goal

-- three pieces after the first byte
pub returns : goal.returns
returns c =
    then_two c.in_ok-text.text c.args.effect.now c.args.words.now (place_text c.args.place) c.push_all.new.self c.push_all-2.new.self c.push_place.new.text
    c.in_ok-push_all.ensures.ok c.in_ok-push_all-2.ensures.ok c.in_ok-push_place.ensures
    ∙ ap (λ (first : List ℕ). first ++ (c.args.effect.now ++ (c.args.words.now ++ place_text c.args.place))) c.in_ok-text.ensures
