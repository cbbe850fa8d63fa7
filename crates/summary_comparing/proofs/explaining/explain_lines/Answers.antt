use Rattle.std.proofs.Common.{inl, inr, sym, ap, ◌∙◌}
use Rattle.summary_comparing.specs.ChainTexts.{AreNamedLines, written_as}
use Rattle.summary_comparing.proofs.explaining.explain_lines.Goals as goal

-- the text has no such name
pub returns-in_default : goal.returns-in_default
returns-in_default c =
    AreNamedLines.unknown (inl (ap (written_as c.args.name.now) (sym c.as_slice.ensures) ∙ sym c.in_default.ensures))

-- the program has none
pub returns-in_default-declaration_of : goal.returns-in_default-declaration_of
returns-in_default-declaration_of c = AreNamedLines.unknown (inr (sym c.in_default-declaration_of.ensures))

-- the lines on the declaration
pub returns : goal.returns
returns c =
    AreNamedLines.explained c.in-Some.its.now c.in-Some-declaration_of.decl.now c.in_ok-explain.field-0
    (ap (written_as c.args.name.now) (sym c.as_slice.ensures) ∙ sym c.in-Some.ensures) (sym c.in-Some-declaration_of.ensures)
    c.in_ok-explain.ensures
