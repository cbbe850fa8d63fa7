use Rattle.std.proofs.Common.{◌<◌, ◌≤◌, length, sym, ap, ◌∙◌, subst, arith}
use Rattle.std.specs.Prelude.{IfOk, Result, Ok, Err}
use Rattle.twe_io.specs.declared.status.Status.TheVariants.{TooLong}
use Rattle.twe_io.specs.Answers.{on_err}
use Rattle.twe_format.specs.Answers.{FormatDue, check_answer}
use Rattle.twe_format.proofs.answering.answer_tree.Goals as goal

if_ok : {T E : Type 0} {P Q : T → Type 0} (r : Result T E) → ((x : T) → P x → Q x) → IfOk r P → IfOk r Q
if_ok (Ok x) so holds = so x holds
if_ok (Err fail) so holds = tt

-- the layout is too long
pub returns-then-len-gt-MAX_TEXT_BYTES : goal.returns-then-len-gt-MAX_TEXT_BYTES
returns-then-len-gt-MAX_TEXT_BYTES c =
    let laid = c.in_ok-laid.laid in
    let long : 1048576 < length laid = omega (arith, c.len.ensures, c.if-len-gt-MAX_TEXT_BYTES.true) in
    subst (FormatDue c.args.request c.args.text.now) (sym (c.on_err.ensures ∙ ap (on_err TooLong) c.in_ok-line.ensures))
    (FormatDue.too_long c.args.tree.now laid c.in_ok-laid.ensures long)

-- the layout is written
pub returns-in-Write : goal.returns-in-Write
returns-in-Write c =
    let laid = c.in_ok-laid.laid in
    let short : length laid ≤ 1048576 = omega (arith, c.len.ensures, c.if-len-gt-MAX_TEXT_BYTES.false) in
    subst (FormatDue c.args.request c.args.text.now) (sym c.on_out.ensures) (FormatDue.written c.args.tree.now laid c.in-Write.is c.in_ok-laid.ensures short)

-- the lines are compared
pub returns-in-Check : goal.returns-in-Check
returns-in-Check c =
    let text = c.args.text.now in
    let laid = c.in_ok-laid.laid in
    let short : length laid ≤ 1048576 = omega (arith, c.len.ensures, c.if-len-gt-MAX_TEXT_BYTES.false) in
    if_ok c.check_answer.result (λ answer is. subst (FormatDue c.args.request text) (sym (is ∙ ap (check_answer text) c.as_slice.ensures))
    (FormatDue.checked c.args.tree.now laid c.in-Check.is c.in_ok-laid.ensures short)) c.check_answer.ensures
