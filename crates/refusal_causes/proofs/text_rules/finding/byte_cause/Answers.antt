use Rattle.std.proofs.Common.{◌<◌, ℕ, List, length, get_or, sym, ap, ◌∙◌, subst}
use Rattle.twe_parser.specs.declared.fail.SRule.TheVariants.{S1}
use Rattle.refusal_causes.specs.declared.text_rules.cause.TextCause.TheVariants.{Byte}
use Rattle.refusal_causes.specs.text_rules.Causes.{IsTextCause}
use Rattle.refusal_causes.proofs.text_rules.Causing.{byte_is, some_byte}
use Rattle.refusal_causes.proofs.text_rules.finding.byte_cause.Goals as goal

-- a byte stands there
pub first_byte-requires : goal.first_byte-requires
first_byte-requires c =
    subst (λ (t : List ℕ). 0 < length t) (sym c.from_place.ensures.lines) (some_byte c.args.text.now c.args.place c.requires)

-- it is the one that is not allowed
pub returns : goal.returns
returns c =
    let same = c.first_byte.ensures ∙ ap (λ (t : List ℕ). get_or t 0 0) c.from_place.ensures.lines in
    subst (λ (code : ℕ). IsTextCause c.args.text.now S1 c.args.place (Byte code)) (sym same)
    (byte_is c.args.text.now c.args.place c.requires)
