use Rattle.std.proofs.Common.{Bool, sym, ◌∙◌, subst}
use Rattle.twe_parser.specs.declared.fail.SRule.TheVariants.{S5}
use Rattle.refusal_causes.specs.text_rules.Causes.{IsTextCause}
use Rattle.refusal_causes.specs.text_rules.inner.Standing.{depth_cause}
use Rattle.refusal_causes.proofs.text_rules.Causing.{depth_is, depth_stands}
use Rattle.refusal_causes.proofs.text_rules.finding.depth_cause.Goals as goal

-- a token stands there
pub kind_at-requires : goal.kind_at-requires
kind_at-requires c = depth_stands c.args.text.now c.args.place c.requires

-- it is an opening bracket
pub returns-then-opens : goal.returns-then-opens
returns-then-opens c =
    subst (λ (opening : Bool). IsTextCause c.args.text.now S5 c.args.place (depth_cause opening)) (sym c.opens.ensures ∙ c.if-opens.true)
    (depth_is c.args.text.now c.args.place c.in_ok-kind.kind c.requires c.in_ok-kind.ensures)

-- it is an operator
pub returns : goal.returns
returns c =
    subst (λ (opening : Bool). IsTextCause c.args.text.now S5 c.args.place (depth_cause opening)) (sym c.opens.ensures ∙ c.if-opens.false)
    (depth_is c.args.text.now c.args.place c.in_ok-kind.kind c.requires c.in_ok-kind.ensures)
