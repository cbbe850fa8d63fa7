use Rattle.std.proofs.Common.{sym, subst}
use Rattle.std.proofs.lemmas.Result.{IfOk-weaker}
use Rattle.refusal_notes.specs.Mends.{AreMends}
use Rattle.refusal_notes.proofs.mends.mends_of.Goals as goal

-- the text is too long
pub returns-then-text-gt-MAX_TEXT_BYTES : goal.returns-then-text-gt-MAX_TEXT_BYTES
returns-then-text-gt-MAX_TEXT_BYTES c =
    subst (AreMends c.args.text.now c.args.place c.args.cause.now c.args.regions.now c.args.variables.now) (sym c.new.ensures)
    (AreMends.none c.if-text-gt-MAX_TEXT_BYTES.true)

-- those at its tokens
pub returns : goal.returns
returns c =
    let place = c.args.place in
    let cause = c.args.cause.now in
    let regions = c.args.regions.now in
    let variables = c.args.variables.now in
    IfOk-weaker c.mends_for.result _ (AreMends c.args.text.now place cause regions variables)
    (λ mends is. subst (AreMends c.args.text.now place cause regions variables) (sym is) (AreMends.these c.in_ok-cut.cut c.in_ok-cut.ensures))
    c.mends_for.ensures
