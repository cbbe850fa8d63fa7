use Rattle.std.proofs.Common.{Bool, sym, ◌∙◌, subst}
use Rattle.twe_parser.specs.declared.fail.SRule.TheVariants.{S4}
use Rattle.refusal_causes.specs.text_rules.Causes.{IsTextCause}
use Rattle.refusal_causes.specs.text_rules.inner.Standing.{number_cause}
use Rattle.refusal_causes.proofs.text_rules.Causing.{number_is, number_stands}
use Rattle.refusal_causes.proofs.text_rules.finding.number_cause.Goals as goal

-- a token stands there
pub kind_at-requires : goal.kind_at-requires
kind_at-requires c = number_stands c.args.text.now c.args.place c.requires

-- it is the number after the largest one
pub returns-then-is_next : goal.returns-then-is_next
returns-then-is_next c =
    subst (λ (next : Bool). IsTextCause c.args.text.now S4 c.args.place (number_cause next)) (sym c.is_next.ensures ∙ c.if-is_next.true)
    (number_is c.args.text.now c.args.place c.in_ok-kind.kind c.requires c.in_ok-kind.ensures)

-- it is a larger one
pub returns : goal.returns
returns c =
    subst (λ (next : Bool). IsTextCause c.args.text.now S4 c.args.place (number_cause next)) (sym c.is_next.ensures ∙ c.if-is_next.false)
    (number_is c.args.text.now c.args.place c.in_ok-kind.kind c.requires c.in_ok-kind.ensures)
