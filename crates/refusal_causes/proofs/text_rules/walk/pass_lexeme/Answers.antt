use Rattle.std.proofs.Common.{ℕ, List as Codes, ◌++◌, refl, ap, ◌∙◌}
use Rattle.twe_lexer.specs.Places.{place_after}
use Rattle.refusal_causes.proofs.text_rules.Walks.{passed}
use Rattle.refusal_causes.proofs.text_rules.walk.pass_lexeme.Goals as goal

-- the walk is behind the lexeme
pub returns : goal.returns
returns c text lexemes walked =
    passed text c.args.rest.now lexemes c.args.walk.now walked c.args.lexeme.now c.requires.front
    (record { place = c.place_past-walk.result; places = c.take_if.new.places })
    (λ before is. c.place_past-walk.ensures before is ∙ ap (λ (bytes : Codes ℕ). place_after (before ++ bytes)) c.split_at.ensures.front)
    c.args.lexeme.now.token refl c.in_ok-take_if.ensures
