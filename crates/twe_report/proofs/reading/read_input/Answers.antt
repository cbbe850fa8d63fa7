use Rattle.std.proofs.Common.{Err, sym, ap, ◌∙◌, subst}
use Rattle.twe_io.specs.declared.status.Status.TheVariants as statuses
use Rattle.twe_io.specs.declared.whole.ReadFail.{ReadFail}
use Rattle.twe_io.specs.Answers.{on_err}
use Rattle.twe_io.specs.Ends.{WasRead, source}
use Rattle.twe_report.specs.Reading.{FailedRead}
use Rattle.twe_report.proofs.reading.read_input.Goals as goal

-- a read failed
pub returns-in_ok-line-in-Err-ReadFault : goal.returns-in_ok-line-in-Err-ReadFault
returns-in_ok-line-in-Err-ReadFault g c =
    let src = source g.S.Source.left g.S.Source.faults g.S.Source.read_gives in
    let was = subst (λ (fail : ReadFail). WasRead src c.args.src.now (Err fail) c.read_text.new.src) c.in-Err-ReadFault.field-0-is c.in-Err-ReadFault.ensures in
    subst (FailedRead src c.args.src.now c.read_text.new.src)
    (sym (c.on_err.ensures ∙ ap (on_err statuses.ReadFault) c.in_ok-line-in-Err-ReadFault.ensures)) (FailedRead.read_fault was)

-- there are too many bytes
pub returns-in_ok-line-in-Err-TooLong : goal.returns-in_ok-line-in-Err-TooLong
returns-in_ok-line-in-Err-TooLong g c =
    let src = source g.S.Source.left g.S.Source.faults g.S.Source.read_gives in
    let was = subst (λ (fail : ReadFail). WasRead src c.args.src.now (Err fail) c.read_text.new.src) c.in-Err-TooLong.field-0-is c.in-Err-TooLong.ensures in
    subst (FailedRead src c.args.src.now c.read_text.new.src)
    (sym (c.on_err-in-Err-TooLong.ensures ∙ ap (on_err statuses.TooLong) c.in_ok-line-in-Err-TooLong.ensures)) (FailedRead.too_long was)
